use Rattle.std.proofs.Common.{◌-◌, ℕ, ◌∙◌, arith}
use Rattle.std.proofs.lemmas.List.{drop-set-lt}
use Rattle.cron_agenda.proofs.LeastLemmas.{first_out}
use Rattle.cron_agenda.proofs.TreeLemmas.{set_right}
use Rattle.cron_agenda.proofs.earliest.set_all_right.Goals as goal

pub loop-at-preserved : goal.loop-at-preserved
loop-at-preserved c =
    let at : ℕ = c.loop-at.at - 1 in
    let same = c.loop-at.auto.words in
    let up_to = c.loop-at.auto.at in
    let some = c.loop-at-test.true in
    let within = c.requires.inner in
    let least = first_out c.loop-at.words at c.least_below.result c.least_below.ensures in
    record {
      right = λ i low h.
          set_right c.loop-at.words at c.least_below.result (omega arith) least i (λ under. let before = under.0 in omega arith)
          (λ other. c.loop-at.invariant.right i (omega arith) h);
      places = drop-set-lt c.args.inner c.loop-at.words at c.least_below.result (omega arith) ∙ c.loop-at.invariant.places;
    }
