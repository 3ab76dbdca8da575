use Rattle.std.proofs.Common.{◌≡◌, ℕ, ◌+◌, ◌<◌, ◌≤◌, get_or, true}
use Rattle.std.specs.List.{slice_range}
use Rattle.cron_units.specs.Keys.{IsKey}
use Rattle.cron_text.specs.Tokens.{is_letter}
use Rattle.cron_text.proofs.plain.word_from.Given as goal

-- letters stand before the index, and this is their key
abbrev pub invariant-loop-end : goal.invariant-loop-end
invariant-loop-end l = record {
  before : (k : ℕ) → l.fn.at + 1 ≤ k → k < l.end → is_letter (get_or l.fn.text k 0) ≡ true;
  keyed : IsKey (slice_range l.fn.text l.fn.at l.end) l.key;
}
