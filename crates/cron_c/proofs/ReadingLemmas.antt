-- What is said of a text that is read, or refused.
use Rattle.std.proofs.Common.{ℕ, List, refl}
use Rattle.std.specs.Str.{IsUtf8}
use Rattle.cron_units.specs.Sets.{Sets}
use Rattle.cron_text.specs.Fault.{IsRefusal}
use Rattle.cron_c.specs.Buffers.{TellsRefusal}
use Rattle.cron_c.specs.Calls.{Parses}
use Rattle.cron_c.specs.Crontabs.{ParsesAs, WritesSchedules}
use Rattle.cron_c.specs.declared.schedule.CronSchedule.{CronSchedule}
use Rattle.cron_c.specs.declared.status.Status.{Status}
use Rattle.cron_c.specs.declared.status.Status.TheVariants.{Done, Refused, Untold, More}

pub refused_says : (text told : List ℕ) (old : CronSchedule) (before after : List ℕ) (size : ℕ) (status : Status) → IsUtf8 text → IsRefusal text told
    → TellsRefusal told before after size status → Parses text old old before after size status
refused_says text told old before after size Refused utf8 refusal h = (utf8, told, refusal, refl, h.0, h.1)
refused_says text told old before after size Untold utf8 refusal h = (utf8, told, refusal, refl, h)
refused_says text told old before after size status utf8 refusal h = absurd h

module _ {Meant Fault : Type 0} (IsMeant : List ℕ → Meant → Type 0) (schedules_of : Meant → List Sets) (IsRefused : List ℕ → Fault → Type 0)
    (text_of : Fault → List ℕ) where
  pub written_says : (text : List ℕ) (m : Meant) (old new : List CronSchedule) (count : ℕ) (before : List ℕ) (status : Status)
      → IsUtf8 text → IsMeant text m → WritesSchedules (schedules_of m) old new count status
      → ParsesAs IsMeant schedules_of IsRefused text_of text old new count before before 0 status
  written_says text m old new count before Done utf8 means w = (utf8, m, means, w, refl, refl)
  written_says text m old new count before More utf8 means w = (utf8, m, means, w, refl, refl)
  written_says text m old new count before status utf8 means w = absurd w

  pub fault_says : (text : List ℕ) (fault : Fault) (old : List CronSchedule) (before after : List ℕ) (size : ℕ) (status : Status)
      → IsUtf8 text → IsRefused text fault → TellsRefusal (text_of fault) before after size status
      → ParsesAs IsMeant schedules_of IsRefused text_of text old old 0 before after size status
  fault_says text fault old before after size Refused utf8 refused h = (utf8, fault, refused, refl, refl, h.0, h.1)
  fault_says text fault old before after size Untold utf8 refused h = (utf8, fault, refused, refl, refl, h)
  fault_says text fault old before after size status utf8 refused h = absurd h
