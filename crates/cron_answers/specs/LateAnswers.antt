-- What the subcommand `late` answers to its words, which are its arguments.
use Rattle.std.specs.Prelude.{◌≡◌, ◌⊎◌, ℕ, ℤ, List, Option, Some, None}
use Rattle.jiff_tz.specs.declared.timezone.TimeZone.{TimeZone}
use Rattle.cron_answers.specs.Answers.{Given}
use Rattle.cron_answers.specs.Expressions.{changes_by, matches_of}
use Rattle.cron_answers.specs.Instants.{IsInstant}
use Rattle.cron_answers.specs.Lateness.{SaysWhetherBy}
use Rattle.cron_replies.specs.Statuses.{Reporting}
use Rattle.cron_answers.specs.Subjects.{IsBegun, IsNoSubject}
use Rattle.cron_answers.specs.Troubles.{IsTold}
use Rattle.cron_answers.specs.declared.expression.Expression.{Expression}
use Rattle.cron_answers.specs.declared.late.Request.{Request}
use Rattle.cron_replies.specs.declared.status.Status.{Status}
use Rattle.cron_answers.specs.declared.trouble.Trouble.{Trouble}
use Rattle.cron_answers.specs.declared.trouble.Trouble.TheVariants as trouble

-- A sentence says whether a fire was missed since the last run, whose instant a word names.
pub record SaysWhen {F : Type 0} (g : Given F) (r : Request) (old new : F) (was is : Option (List ℕ)) (status : Status) : Type 0 where
  pub expression : Expression
  pub zone : TimeZone
  pub begun : IsBegun g r.quartz r.expression.now r.zone.now old expression zone new
  pub last : ℤ
  pub is_last : IsInstant r.last.now zone g.now (Some last)
  pub says : SaysWhetherBy (changes_by r.changes expression) r.form (matches_of r.plan expression) zone last r.grace g.now was is status

-- Why nothing can be said about missed fires: the expression, the zone or the last run's instant is
-- wrong, by the first that is.
abbrev pub IsLateTrouble : {F : Type 0} → Given F → Request → F → F → Trouble → Type 0
IsLateTrouble g r old new (trouble.Instant word) =
    (word.now ≡ r.last.now) × ((e : Expression) × (z : TimeZone) × IsBegun g r.quartz r.expression.now r.zone.now old e z new × IsInstant r.last.now z g.now None)
IsLateTrouble g r old new other = IsNoSubject g.reads g.places r.quartz r.expression.now r.zone.now old other new

-- The sentence was written, and nothing was complained of; or a complaint was written, and nothing
-- else.
abbrev pub AnswersLate : {F W C : Type 0} → Given F → Request → Reporting W → Reporting C → F × W × C → Status → F × W × C → Type 0
AnswersLate g r out complaints old status new =
    (out (SaysWhen g r old.0 new.0) old.1 status new.1 × (new.2 ≡ old.2))
    ⊎ ((t : Trouble) × IsLateTrouble g r old.0 new.0 t × complaints (IsTold t) old.2 status new.2 × (new.1 ≡ old.1))
