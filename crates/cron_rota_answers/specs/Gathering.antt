-- The shifts that words ask for, as a list.
use Rattle.std.specs.Prelude.{◌≡◌, ℕ, ℤ, List, [], length}
use Rattle.jiff_tz.specs.declared.timezone.TimeZone.{TimeZone}
use Rattle.cron_answers.specs.Answers.{Given}
use Rattle.cron_answers.specs.Expressions.{changes_by, schedules_of}
use Rattle.cron_answers.specs.declared.expression.Expression.{Expression}
use Rattle.cron_rotas.specs.Rotas.{Duty, shifts_between}
use Rattle.cron_rotas.specs.declared.swap.Swap.{Swap}
use Rattle.cron_stretches.specs.Fires.{second_of}
use Rattle.cron_stretches.specs.declared.stretch.Stretch.{Stretch}
use Rattle.cron_rota_answers.specs.Plans.{IsPlan}
use Rattle.cron_rota_answers.specs.Reports.{duty_of, handovers_by}
use Rattle.cron_rota_answers.specs.RotaAnswers.{Begins}
use Rattle.cron_rota_answers.specs.declared.report.Asked.{Asked}
use Rattle.cron_rota_answers.specs.declared.report.Asked.TheVariants.{Between, At}
use Rattle.cron_rota_answers.specs.declared.request.Request.{Request}

-- the shifts of a rota that are asked for; none where an instant is asked about
abbrev pub shifts_asked : Asked → Duty → List (Stretch ℕ)
shifts_asked (Between from to) d = shifts_between d (second_of from.nanosecond) (second_of to.nanosecond)
shifts_asked (At t) d = []

-- The words ask for these shifts of people with these names. Handovers are the fires of the
-- expression, by the rule that was chosen or by its own.
pub record HasShifts {F : Type 0} (g : Given F) (r : Request) (old : F) (names : List (List ℕ)) (shifts : List (Stretch ℕ)) (new : F) : Type 0 where
  pub expression : Expression
  pub zone : TimeZone
  pub begun : Begins g r old expression zone new
  pub start : ℤ
  pub what : Asked
  pub swaps : List Swap
  pub planned : IsPlan r zone g.now start what names swaps
  pub are : shifts ≡ shifts_asked what (duty_of (length names) start (handovers_by (changes_by r.changes expression) (schedules_of expression) zone) swaps)
