use Rattle.std.proofs.Common.{◌≡◌, ◌+◌, ◌*◌, ◌≤◌, ◌<◌, ℕ, Some}
use Rattle.std.specs.Prelude.{slice_get}
use Rattle.cron_c.specs.Savings.{first_flag}
use Rattle.cron_c.proofs.savings.types_tell_saving.Given as goal

-- each of the types so far says 0 or 1
abbrev pub invariant-loop-at : goal.invariant-loop-at
invariant-loop-at l = (i flag : ℕ) → i < l.at → slice_get l.bytes (first_flag l.time_size l.bytes + i * 6) ≡ Some flag → flag ≤ 1
