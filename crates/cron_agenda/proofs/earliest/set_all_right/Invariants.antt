use Rattle.std.proofs.Common.{◌≡◌, ℕ, ◌<◌, ◌≤◌, drop}
use Rattle.cron_agenda.specs.Inner.Tree.{IsRightAt}
use Rattle.cron_agenda.proofs.earliest.set_all_right.Given as goal

abbrev pub invariant-loop-at : goal.invariant-loop-at
invariant-loop-at l = record {
  right : (i : ℕ) → l.at ≤ i → i < l.inner → IsRightAt l.words i;
  places : drop l.inner l.words ≡ drop l.inner l.fn.words;
}
