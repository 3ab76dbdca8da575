use Rattle.std.proofs.Common.{◌≡◌, ◌+◌, ◌<◌, ◌∙◌, sym, ap, List, ℕ, arith, inl, inr}
use Rattle.std.proofs.lemmas.Bool.{cases_lt}
use Rattle.cron_units.specs.Units.{contains}
use Rattle.cron_bits.specs.Words.{has_bit}
use Rattle.cron_bits.proofs.WordLemmas.{bit_past}
use Rattle.cron_units.proofs.PlaceLemmas.{placed_at}
use Rattle.cron_units.proofs.Cuts.{same_set}
use Rattle.cron_units.proofs.time_unit.layout.bits.Goals as goal

-- the word that is lent has the bits of the set's
same : (word lent : ℕ) → ((k : ℕ) → k < 64 → has_bit lent k ≡ has_bit word (0 + k)) → (k : ℕ) → has_bit lent k ≡ has_bit word k
same word lent bits k = elim (cases_lt k 64) [
  | inl l ↦
      let first : 0 + k ≡ k = omega arith in bits k l ∙ ap (has_bit word) first
  | inr h ↦ bit_past lent k h ∙ sym (bit_past word k h)
]

pub returns-clause-bits : goal.returns-clause-bits
returns-clause-bits g c = λ k.
    let u = g.U.UnitTable.unit in
    same c.set.inside.words c.word.result c.word.ensures k
    ∙ (sym (placed_at u (has_bit c.set.inside.words) k g.met.U.UnitTable.is_unit.ordered c.set.invariant.none_past)
    ∙ ap (λ (xs : List ℕ). contains xs (u.least + k)) c.set.view_is)

pub returns-clause-set : goal.returns-clause-set
returns-clause-set g c =
    same_set g.U.UnitTable.unit (has_bit c.set.inside.words) (has_bit c.word.result) c.args.set.now c.set.view_is
    (same c.set.inside.words c.word.result c.word.ensures)
