use Rattle.std.proofs.Common.{◌≡◌, map, take}
use Rattle.cron_calendar.proofs.pages.entries_of.Given as goal

abbrev pub invariant-loop-place : goal.invariant-loop-place
invariant-loop-place l =
    (map (λ entry. entry.name.now) l.entries.items ≡ map (λ plan. plan.name.now) (take l.place l.plans))
    × (map (λ entry. entry.counts.now) l.entries.items ≡ map (λ counts. counts.items) (take l.place l.each))
