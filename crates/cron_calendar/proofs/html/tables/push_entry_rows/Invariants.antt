use Rattle.std.proofs.Common.{◌≡◌, ◌++◌, ℕ, List, take}
use Rattle.cron_calendar.specs.Pages.{AreRows}
use Rattle.cron_calendar.proofs.html.tables.push_entry_rows.Given as goal

abbrev pub invariant-loop-place : goal.invariant-loop-place
invariant-loop-place l = (rows : List ℕ) × AreRows 0 (take l.place l.entries) rows × (l.page.items ≡ l.fn.page.items ++ rows)
