use Rattle.std.proofs.Common.{◌≡◌, ◌⊎◌, ℕ, ◌*◌, ◌≤◌, drop, set}
use Rattle.cron_agenda.specs.Inner.Tree.{IsBelow, IsRightAt}
use Rattle.cron_agenda.specs.Inner.Words.{none_word}
use Rattle.cron_agenda.proofs.earliest.write.Given as goal

-- with the word that is to be written next
abbrev pub invariant-loop-at : goal.invariant-loop-at
invariant-loop-at l = record {
  from : l.at ≤ l.fn.from;
  fits : l.least ≤ none_word;
  right : (i : ℕ) → IsRightAt (set l.fn.words l.fn.from l.fn.word) i ⊎ IsBelow l.fn.from i → (IsBelow l.at i → ⊥) → IsRightAt (set l.words l.at l.least) i;
  rest : (n : ℕ) → l.fn.from ≤ 8 * n → drop n (set l.words l.at l.least) ≡ drop n (set l.fn.words l.fn.from l.fn.word);
}

abbrev pub decreases-loop-at : goal.decreases-loop-at
decreases-loop-at l = l.at
