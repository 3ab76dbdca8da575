-- Expressions of crontabs and of Quartz, as schedules.
use Rattle.std.specs.Prelude.{◌≡◌, ◌<◌, ℕ, List, [], length}
use Rattle.std.specs.Str.{IsUtf8}
use Rattle.cron_units.specs.Sets.{Sets}
use Rattle.cron_crontab.specs.Crontab.{Meaning, Means, Refuses, schedules, reboot}
use Rattle.cron_crontab.specs.Refusals.{fault_text}
use Rattle.cron_quartz.specs.Quartz as quartz
use Rattle.cron_quartz.specs.Refusals as quartz_refusals
use Rattle.cron_c.specs.Arrays.{IsWhole}
use Rattle.cron_c.specs.Buffers.{laid_over}
use Rattle.cron_c.specs.Structs.{IsStructOf, sets_of}
use Rattle.cron_c.specs.declared.schedule.CronSchedule.{CronSchedule}
use Rattle.cron_c.specs.declared.status.Status.{Status}
use Rattle.cron_c.specs.declared.status.Status.TheVariants.{Done, Refused, NotUtf8, Untold, More}

-- the schedules of an expression, which fires when one of them matches; `@reboot` has none
abbrev pub schedules_meant : Meaning → List Sets
schedules_meant (schedules ss) = ss
schedules_meant reboot = []

-- the struct is the one that is written for these sets: it means them, and has no other bit
abbrev pub IsScheduleOf : Sets → CronSchedule → Type 0
IsScheduleOf s c = (sets_of c ≡ s) × IsStructOf s c

-- The structs of the sets `ss` are at the front of the array; or the array is too short for them.
-- In both cases `count` says how many they are.
abbrev pub WritesSchedules : List Sets → List CronSchedule → List CronSchedule → ℕ → Status → Type 0
WritesSchedules ss old new count Done = IsWhole IsScheduleOf ss old new count
WritesSchedules ss old new count More = (length old < length ss) × (new ≡ old) × (count ≡ length ss)
WritesSchedules ss old new count _ = ⊥

-- What each status of a call that reads an expression means. The expression's schedules are
-- written, or the array is too short for them. Or the expression is refused: the message is written
-- over a buffer as far as it fits, and `size` is its whole length.
abbrev pub ParsesAs : {Meant Fault : Type 0} → (List ℕ → Meant → Type 0) → (Meant → List Sets) → (List ℕ → Fault → Type 0) → (Fault → List ℕ)
    → List ℕ → List CronSchedule → List CronSchedule → ℕ → List ℕ → List ℕ → ℕ → Status → Type 0
ParsesAs {Meant} {Fault} IsMeant schedules_of IsRefused text_of text old new count before after size Refused =
    IsUtf8 text × (fault : Fault) × IsRefused text fault
    × (new ≡ old) × (count ≡ 0) × (after ≡ laid_over 0 (text_of fault) before) × (size ≡ length (text_of fault))
ParsesAs IsMeant schedules_of IsRefused text_of text old new count before after size NotUtf8 =
    (IsUtf8 text → ⊥) × (new ≡ old) × (count ≡ 0) × (after ≡ before) × (size ≡ 0)
ParsesAs {Meant} {Fault} IsMeant schedules_of IsRefused text_of text old new count before after size Untold =
    IsUtf8 text × (fault : Fault) × IsRefused text fault × (new ≡ old) × (count ≡ 0) × (size ≡ 0)
ParsesAs {Meant} {Fault} IsMeant schedules_of IsRefused text_of text old new count before after size status =
    IsUtf8 text × (meaning : Meant) × IsMeant text meaning
    × WritesSchedules (schedules_of meaning) old new count status × (after ≡ before) × (size ≡ 0)

-- what each status of `cron_c_crontab_parse` means
abbrev pub ParsesCrontab : List ℕ → List CronSchedule → List CronSchedule → ℕ → List ℕ → List ℕ → ℕ → Status → Type 0
ParsesCrontab = ParsesAs Means schedules_meant Refuses fault_text

-- what each status of `cron_c_quartz_parse` means
abbrev pub ParsesQuartz : List ℕ → List CronSchedule → List CronSchedule → ℕ → List ℕ → List ℕ → ℕ → Status → Type 0
ParsesQuartz = ParsesAs quartz.Means (λ (ss : List Sets). ss) quartz.Refuses quartz_refusals.fault_text
