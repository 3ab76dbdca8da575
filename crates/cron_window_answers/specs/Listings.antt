-- The list of the windows between two instants.
use Rattle.std.specs.Prelude.{ℕ, ℤ, Bool, List, Option}
use Rattle.jiff_tz.specs.declared.timezone.TimeZone.{TimeZone}
use Rattle.cron_stretches.specs.Fires.{whole_second}
use Rattle.cron_stretches.specs.declared.stretch.Stretch.{Stretch}
use Rattle.cron_windows.specs.Windows.{WindowFires, is_open, windows_between}
use Rattle.cron_replies.specs.Statuses.{Ends}
use Rattle.cron_replies.specs.declared.form.Form.{Form}
use Rattle.cron_replies.specs.declared.status.Status.{Status}
use Rattle.cron_replies.specs.declared.status.Status.TheVariants.{Done}
use Rattle.cron_window_answers.specs.Rows.{rows}

-- the windows from one instant on and before another, cut at the first whole seconds there
abbrev pub windows_in : WindowFires → ℤ → ℤ → List (Stretch Bool)
windows_in w from to = windows_between (is_open w) (whole_second from) (whole_second to)

-- The rows of the windows from one instant on and before another were written.
abbrev pub ListsBetween : Form → TimeZone → WindowFires → ℤ → ℤ → Option (List ℕ) → Option (List ℕ) → Status → Type 0
ListsBetween form z w from to = Ends Done (rows form z (windows_in w from to))
