-- What the subcommand `rota` answers to its words, which are its arguments.
use Rattle.std.specs.Prelude.{◌≡◌, ◌⊎◌, ℕ, ℤ, List, Option, length}
use Rattle.jiff_tz.specs.declared.timezone.TimeZone.{TimeZone}
use Rattle.cron_answers.specs.Answers.{Given}
use Rattle.cron_answers.specs.Expressions.{changes_by, schedules_of}
use Rattle.cron_answers.specs.Subjects.{IsBegun, IsNoSubject}
use Rattle.cron_answers.specs.declared.expression.Expression.{Expression}
use Rattle.cron_answers.specs.declared.trouble.Trouble.TheVariants.{NoMemory}
use Rattle.cron_replies.specs.Statuses.{Ends, Reporting}
use Rattle.cron_replies.specs.declared.status.Status.{Status}
use Rattle.cron_rotas.specs.declared.swap.Swap.{Swap}
use Rattle.cron_rota_answers.specs.Plans.{IsNoPlan, IsPlan}
use Rattle.cron_rota_answers.specs.Reports.{IsReport, duty_of, handovers_by}
use Rattle.cron_rota_answers.specs.Troubles.{IsTold}
use Rattle.cron_rota_answers.specs.declared.report.Asked.{Asked}
use Rattle.cron_rota_answers.specs.declared.request.Request.{Request}
use Rattle.cron_rota_answers.specs.declared.trouble.RotaTrouble.{RotaTrouble}
use Rattle.cron_rota_answers.specs.declared.trouble.RotaTrouble.TheVariants.{Words}

-- the expression was read, and the zone was opened as z
abbrev pub Begins : {F : Type 0} → Given F → Request → F → Expression → TimeZone → F → Type 0
Begins g r old e z new = IsBegun g r.quartz r.handover.now r.zone.now old e z new

-- What the words ask of the rota that they mean was told. Its handovers are the fires of the
-- expression, by the rule that was chosen or by its own. The writer held `was` before and `is`
-- after.
pub record TellsDuty {F : Type 0} (g : Given F) (r : Request) (old new : F) (was is : Option (List ℕ)) (status : Status) : Type 0 where
  pub expression : Expression
  pub zone : TimeZone
  pub begun : Begins g r old expression zone new
  pub start : ℤ
  pub what : Asked
  pub names : List (List ℕ)
  pub swaps : List Swap
  pub planned : IsPlan r zone g.now start what names swaps
  pub text : List ℕ
  pub done : Status
  pub report : IsReport r.form zone names what
      (duty_of (length names) start (handovers_by (changes_by r.changes expression) (schedules_of expression) zone) swaps) text done
  pub written : Ends done text was is status

-- the expression is none, or the zone can't be opened
abbrev pub IsNoBeginning : {F : Type 0} → Given F → Request → F → RotaTrouble → F → Type 0
IsNoBeginning g r old (Words t) new = IsNoSubject g.reads g.places r.quartz r.handover.now r.zone.now old t new
IsNoBeginning g r old _ new = ⊥

-- Why nothing can be told: the first that is wrong of the expression, the zone and the other words;
-- or memory ran out.
abbrev pub IsRotaTrouble : {F : Type 0} → Given F → Request → F → F → RotaTrouble → Type 0
IsRotaTrouble g r old new t =
    IsNoBeginning g r old t new
    ⊎ ((e : Expression) × (z : TimeZone) × Begins g r old e z new × (IsNoPlan r z g.now t ⊎ (t ≡ Words NoMemory)))

-- What is asked was told, and nothing was complained of. Or a complaint was written, and nothing
-- else.
abbrev pub AnswersRota : {F W C : Type 0} → Given F → Request → Reporting W → Reporting C → F × W × C → Status → F × W × C → Type 0
AnswersRota g r out complaints old status new =
    (out (TellsDuty g r old.0 new.0) old.1 status new.1 × (new.2 ≡ old.2))
    ⊎ ((t : RotaTrouble) × IsRotaTrouble g r old.0 new.0 t × complaints (IsTold t) old.2 status new.2 × (new.1 ≡ old.1))
