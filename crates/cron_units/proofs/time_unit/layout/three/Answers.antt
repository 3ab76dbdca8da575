use Rattle.std.proofs.Common.{◌+◌, ◌∙◌, sym, ap, List, ℕ}
use Rattle.cron_bits.specs.Words.{bit_of_three}
use Rattle.cron_units.specs.Units.{contains}
use Rattle.cron_units.proofs.Cuts.{same_set, same_three}
use Rattle.cron_units.proofs.PlaceLemmas.{placed_at}
use Rattle.cron_units.proofs.time_unit.layout.three.Goals as goal

pub returns-clause-bits : goal.returns-clause-bits
returns-clause-bits g c = λ k.
    let u = g.U.UnitTable.unit in
    let w = c.set.inside.words in
    same_three c.word.result c.word-2.result c.word-3.result w.low w.rest.low w.rest.rest c.word.ensures c.word-2.ensures c.word-3.ensures k
    ∙ (sym (placed_at u (bit_of_three w.low w.rest.low w.rest.rest) k g.met.U.UnitTable.is_unit.ordered c.set.invariant.none_past)
    ∙ ap (λ (xs : List ℕ). contains xs (u.least + k)) c.set.view_is)

pub returns-clause-set : goal.returns-clause-set
returns-clause-set g c =
    let w = c.set.inside.words in
    same_set g.U.UnitTable.unit (bit_of_three w.low w.rest.low w.rest.rest) (bit_of_three c.word.result c.word-2.result c.word-3.result) c.args.set.now
    c.set.view_is
    (same_three c.word.result c.word-2.result c.word-3.result w.low w.rest.low w.rest.rest c.word.ensures c.word-2.ensures c.word-3.ensures)
