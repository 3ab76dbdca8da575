-- The messages about entries that are left out.
use Rattle.std.specs.Prelude.{ℕ, List, codes}
use Rattle.cron_systemd.specs.Errors.{error_text}
use Rattle.cron_tab_systemd.specs.declared.made.Unsaid.{Unsaid}
use Rattle.cron_tab_systemd.specs.declared.made.Unsaid.TheVariants.{Never, Reboot, Service, Timer, Zone}

abbrev pub unsaid_text : Unsaid → List ℕ
unsaid_text Reboot = codes "OnCalendar has no line for @reboot"
unsaid_text Never = codes "it never fires, and OnCalendar has no line for that"
unsaid_text Zone = codes "OnCalendar takes no such zone: it is UTC, or a name without a dot"
unsaid_text (Timer why) = error_text why
unsaid_text (Service why) = error_text why
