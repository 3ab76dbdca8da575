-- What the subcommands `windows` and `inside` answer to their words, which are the arguments.
use Rattle.std.specs.Prelude.{◌≡◌, ◌⊎◌, ℕ, ℤ, List, Option, Some, None}
use Rattle.jiff_tz.specs.declared.timezone.TimeZone.{TimeZone}
use Rattle.cron_zones.specs.Zones.{IsTimeZone}
use Rattle.cron_replies.specs.Statuses.{Ending, Reporting}
use Rattle.cron_replies.specs.declared.status.Status.{Status}
use Rattle.cron_answers.specs.Answers.{Given}
use Rattle.cron_answers.specs.Instants.{IsInstant}
use Rattle.cron_answers.specs.Spans.{IsNoSpan, IsSpan}
use Rattle.cron_answers.specs.Troubles.{IsTold}
use Rattle.cron_answers.specs.declared.trouble.Trouble.{Trouble}
use Rattle.cron_answers.specs.declared.trouble.Trouble.TheVariants as trouble
use Rattle.cron_windows.specs.Windows.{WindowFires}
use Rattle.cron_window_answers.specs.Listings.{ListsBetween}
use Rattle.cron_window_answers.specs.States.{SaysState}
use Rattle.cron_window_answers.specs.Windows.{AreNotSought, AreSought, windows_of}
use Rattle.cron_window_answers.specs.declared.words.Sought.{Sought}
use Rattle.cron_window_answers.specs.declared.words.Words.{Words}
use Rattle.cron_window_answers.specs.declared.windows.Request.{Request as Listing}
use Rattle.cron_window_answers.specs.declared.inside.Request.{Request as Asking}

-- The words name windows, which are w, in the zone z.
pub record AreNamed {F : Type 0} (g : Given F) (words : Words) (old : F) (w : WindowFires) (z : TimeZone) (new : F) : Type 0 where
  pub named : Sought
  pub sought : AreSought g.reads g.places words old named new
  pub is_time_zone : IsTimeZone named.subject.zone z
  pub are : w ≡ windows_of words.changes named.subject.expression named.closing z

-- Why words can't be answered: they name no windows, or, in their zone, there is another trouble.
abbrev pub IsTrouble : {F : Type 0} → Given F → Words → F → (TimeZone → Trouble → Type 0) → Trouble → F → Type 0
IsTrouble g words old other t new =
    AreNotSought g.reads g.places words old t new ⊎ ((w : WindowFires) × (z : TimeZone) × AreNamed g words old w z new × other z t)

-- What `told` says was written, and nothing was complained of; or a complaint was written, and nothing else.
abbrev pub AnswersBy :
    {F W C : Type 0} → (F → F → Ending) → (F → Trouble → F → Type 0) → Reporting W → Reporting C → F × W × C → Status → F × W × C → Type 0
AnswersBy told is_trouble out complaints old status new =
    (out (told old.0 new.0) old.1 status new.1 × (new.2 ≡ old.2))
    ⊎ ((t : Trouble) × is_trouble old.0 t new.0 × complaints (IsTold t) old.2 status new.2 × (new.1 ≡ old.1))

-- The windows of a span were listed.
pub record ListsWindows {F : Type 0} (g : Given F) (r : Listing) (old new : F) (was is : Option (List ℕ)) (status : Status) : Type 0 where
  pub windows : WindowFires
  pub zone : TimeZone
  pub named : AreNamed g r.words old windows zone new
  pub from : ℤ
  pub to : ℤ
  pub spans : IsSpan r.span zone g.now from to
  pub lists : ListsBetween r.form zone windows from to was is status

abbrev pub AnswersWindows : {F W C : Type 0} → Given F → Listing → Reporting W → Reporting C → F × W × C → Status → F × W × C → Type 0
AnswersWindows g r =
    AnswersBy (ListsWindows g r) (λ old. IsTrouble g r.words old (λ z. IsNoSpan r.span z g.now))

-- It was said whether a window is open at an instant.
pub record SaysInside {F : Type 0} (g : Given F) (r : Asking) (old new : F) (was is : Option (List ℕ)) (status : Status) : Type 0 where
  pub windows : WindowFires
  pub zone : TimeZone
  pub named : AreNamed g r.words old windows zone new
  pub at : ℤ
  pub is_at : IsInstant r.at.now zone g.now (Some at)
  pub says : SaysState r.form zone windows at was is status

-- the text is no instant
abbrev pub IsNoInstant : List ℕ → ℤ → TimeZone → Trouble → Type 0
IsNoInstant text now z (trouble.Instant word) = (word.now ≡ text) × IsInstant text z now None
IsNoInstant text now z _ = ⊥

abbrev pub AnswersInside : {F W C : Type 0} → Given F → Asking → Reporting W → Reporting C → F × W × C → Status → F × W × C → Type 0
AnswersInside g r = AnswersBy (SaysInside g r) (λ old. IsTrouble g r.words old (IsNoInstant r.at.now g.now))
