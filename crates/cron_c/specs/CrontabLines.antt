-- Lines of a crontab, as schedules.
use Rattle.std.specs.Prelude.{◌≡◌, ◌==◌, ℕ, List, length, if◌then◌else◌}
use Rattle.cron_tab_lines.specs.Lines.{IsLine, IsRefused, Meaning, entry}
use Rattle.cron_tab_lines.specs.Refusals.{Refusal, refusal_text}
use Rattle.cron_tab_lines.specs.declared.kinds.Crontab.{Crontab}
use Rattle.cron_tab_lines.specs.declared.kinds.Crontab.TheVariants.{User, System}
use Rattle.cron_c.specs.Buffers.{laid_over}
use Rattle.cron_c.specs.Crontabs.{WritesSchedules, schedules_meant}
use Rattle.cron_c.specs.declared.schedule.CronSchedule.{CronSchedule}
use Rattle.cron_c.specs.declared.status.Status.{Status}
use Rattle.cron_c.specs.declared.status.Status.TheVariants.{NoItem, Refused, Untold}

-- the kind of crontab that a number means: a user's own for 0, and else a system crontab
abbrev pub kind_of : ℕ → Crontab
kind_of n = if n == 0 then User else System

-- The schedules of an entry are written, or the array is too short for them. A line that is no
-- entry has none.
abbrev pub WritesLine : Meaning → List CronSchedule → List CronSchedule → ℕ → Status → Type 0
WritesLine (entry e) old new count status = WritesSchedules (schedules_meant e.meaning) old new count status
WritesLine _ old new count NoItem = (new ≡ old) × (count ≡ 0)
WritesLine _ old new count _ = ⊥

-- What each status of `cron_c_crontab_line_parse` means. The line is read, and its schedules are
-- written. Or it is refused: the message is laid over a buffer, and `size` is its whole length.
abbrev pub ParsesLine : Crontab → List ℕ → List CronSchedule → List CronSchedule → ℕ → List ℕ → List ℕ → ℕ → Status → Type 0
ParsesLine kind line old new count before after size Refused =
    (refusal : Refusal) × IsRefused kind line refusal
    × (new ≡ old) × (count ≡ 0) × (after ≡ laid_over 0 (refusal_text refusal) before) × (size ≡ length (refusal_text refusal))
ParsesLine kind line old new count before after size Untold =
    (refusal : Refusal) × IsRefused kind line refusal × (new ≡ old) × (count ≡ 0) × (size ≡ 0)
ParsesLine kind line old new count before after size status =
    (meaning : Meaning) × IsLine kind line meaning × WritesLine meaning old new count status × (after ≡ before) × (size ≡ 0)
