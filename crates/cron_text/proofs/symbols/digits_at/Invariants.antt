use Rattle.std.proofs.Common.{◌≡◌, ℕ, ◌+◌, ◌<◌, ◌≤◌, get_or, true}
use Rattle.std.specs.List.{slice_range}
use Rattle.std.specs.Str.Parse.{digits_value}
use Rattle.cron_text.specs.Tokens.{is_digit}
use Rattle.cron_text.specs.Inner.Numbers.{IsCapped}
use Rattle.cron_text.proofs.symbols.digits_at.Given as goal

-- digits stand before the index, and spell the value
abbrev pub invariant-loop-end : goal.invariant-loop-end
invariant-loop-end l =
    ((k : ℕ) → l.fn.at + 1 ≤ k → k < l.end → is_digit (get_or l.fn.text k 0) ≡ true)
    × IsCapped (digits_value 10 (slice_range l.fn.text l.fn.at l.end)) l.value
