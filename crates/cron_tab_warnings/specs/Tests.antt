-- Whether the numbers of an item pass a test: its first number, its last one and its step.
use Rattle.std.specs.Prelude.{Bool, true}
use Rattle.cron_units.specs.Steps.{Progression, in_steps}
use Rattle.cron_crontab.specs.declared.field.Field.{Field}
use Rattle.cron_tab_warnings.specs.Written.{is_backward, is_past_end, is_uneven}
use Rattle.cron_tab_warnings.specs.declared.items.Test.{Test}
use Rattle.cron_tab_warnings.specs.declared.items.Test.TheVariants.{Backward, PastEnd, Uneven, Has, Any}

abbrev pub test_of : Test → Field → Progression → Bool
test_of Backward f p = is_backward p
test_of PastEnd f p = is_past_end p
test_of Uneven f p = is_uneven f p
test_of (Has number) f p = in_steps p number
test_of Any f p = true
