use Rattle.std.proofs.Common.{◌≡◌, ◌≤◌, ◌+◌, ◌++◌, ℕ, List, [], drop, take}
use Rattle.cron_ics.specs.Calendars.{IsBody, total}
use Rattle.cron_ics.proofs.calendar.push_body.Given as goal

-- the events of the entries before a place were pushed, and those of the others come behind
abbrev pub invariant-loop-place : goal.invariant-loop-place
invariant-loop-place l =
    (pushed : List ℕ) × (l.page.items ≡ l.fn.page.items ++ pushed)
    × ((rest : List ℕ) → IsBody l.wanted (take l.place l.entries) (drop l.place l.entries) rest → IsBody l.wanted [] l.entries (pushed ++ rest))
    × (total l.wanted l.entries ≡ l.count + total l.wanted (drop l.place l.entries)) × (l.count ≤ l.wanted.most)
