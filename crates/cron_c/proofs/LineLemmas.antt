-- What is said of the line of a crontab that is written.
use Rattle.std.proofs.Common.{ℕ, List, refl}
use Rattle.cron_tab_lines.specs.Lines.{IsLine, IsRefused, Meaning, blank, comment, setting, zone, entry}
use Rattle.cron_tab_lines.specs.declared.kinds.Crontab.{Crontab}
use Rattle.cron_tab_lines.specs.Refusals.{Refusal, refusal_text}
use Rattle.cron_c.specs.Buffers.{TellsRefusal}
use Rattle.cron_c.specs.CrontabLines.{ParsesLine, WritesLine}
use Rattle.cron_c.specs.declared.schedule.CronSchedule.{CronSchedule}
use Rattle.cron_c.specs.declared.status.Status.{Status}
use Rattle.cron_c.specs.declared.status.Status.TheVariants.{Refused, Untold}

never_refused : (m : Meaning) (old new : List CronSchedule) (count : ℕ) → WritesLine m old new count Refused → ⊥
never_refused blank old new count w = w
never_refused comment old new count w = w
never_refused (setting name value) old new count w = w
never_refused (zone value) old new count w = w
never_refused (entry e) old new count w = w

never_untold : (m : Meaning) (old new : List CronSchedule) (count : ℕ) → WritesLine m old new count Untold → ⊥
never_untold blank old new count w = w
never_untold comment old new count w = w
never_untold (setting name value) old new count w = w
never_untold (zone value) old new count w = w
never_untold (entry e) old new count w = w

pub line_says : (kind : Crontab) (line : List ℕ) (m : Meaning) (old new : List CronSchedule) (count : ℕ) (before : List ℕ) (status : Status)
    → IsLine kind line m → WritesLine m old new count status → ParsesLine kind line old new count before before 0 status
line_says kind line m old new count before Refused is w = absurd (never_refused m old new count w)
line_says kind line m old new count before Untold is w = absurd (never_untold m old new count w)
line_says kind line m old new count before status is w = (m, is, w, refl, refl)

pub refusal_says : (kind : Crontab) (line : List ℕ) (r : Refusal) (old : List CronSchedule) (before after : List ℕ) (size : ℕ) (status : Status)
    → IsRefused kind line r → TellsRefusal (refusal_text r) before after size status → ParsesLine kind line old old 0 before after size status
refusal_says kind line r old before after size Refused is told = (r, is, refl, refl, told.0, told.1)
refusal_says kind line r old before after size Untold is told = (r, is, refl, refl, told)
refusal_says kind line r old before after size status is told = absurd told
