use Rattle.std.proofs.Common.{ℕ, ◌<◌, ◌≤◌}
use Rattle.cron_agenda.specs.Inner.Tree.{IsLeastIn, without}
use Rattle.cron_agenda.proofs.earliest.least_in.Given as goal

abbrev pub invariant-loop-at : goal.invariant-loop-at
invariant-loop-at l = IsLeastIn (without l.words l.left_out) l.first l.at l.least × ((j : ℕ) → l.first ≤ j → j < l.at → j < l.end)
