-- What is told of a rota.
use Rattle.std.specs.Prelude.{◌≡◌, ℕ, ℤ, List, option_map}
use Rattle.jiff_tz.specs.declared.timezone.TimeZone.{TimeZone}
use Rattle.cron_dues.specs.Due as dues
use Rattle.cron_dues.specs.Dues.{dues as due_fires}
use Rattle.cron_fires.specs.declared.changes.ClockChanges.{ClockChanges}
use Rattle.cron_fires.specs.declared.changes.ClockChanges.TheVariants.{AsShown, Once}
use Rattle.cron_instants.specs.Fires.{fires}
use Rattle.cron_moments.specs.Readings as moments
use Rattle.cron_replies.specs.declared.form.Form.{Form}
use Rattle.cron_replies.specs.declared.status.Status.{Status}
use Rattle.cron_replies.specs.declared.status.Status.TheVariants.{Done}
use Rattle.cron_rotas.specs.Rotas.{Duty, on_duty, shifts_between}
use Rattle.cron_rotas.specs.declared.swap.Swap.{Swap}
use Rattle.cron_stretches.specs.Fires.{instants, second_of}
use Rattle.cron_unions.specs.Unions.{any_of}
use Rattle.cron_units.specs.Sets.{Sets}
use Rattle.cron_rota_answers.specs.Rows.{AreRows, IsWhoRow, name_of, who_status}
use Rattle.cron_rota_answers.specs.declared.report.Asked.{Asked}
use Rattle.cron_rota_answers.specs.declared.report.Asked.TheVariants.{Between, At}

-- the instants at which some schedules fire in a zone, by a rule at clock changes
abbrev pub handovers_by : ClockChanges → List Sets → TimeZone → List ℤ
handovers_by AsShown ss z = instants moments.instant (fires (any_of ss) z)
handovers_by Once ss z = instants dues.instant (due_fires (any_of ss) z)

-- the rota of so many people from an instant on, in nanoseconds since 1970
abbrev pub duty_of : ℕ → ℤ → List ℤ → List Swap → Duty
duty_of people start handovers swaps = record { people = people; start = second_of start; handovers = handovers; swaps = swaps }

-- The text and the status are the answer of a rota: its shifts between two instants, or who is on
-- duty at one.
abbrev pub IsReport : Form → TimeZone → List (List ℕ) → Asked → Duty → List ℕ → Status → Type 0
IsReport form z names (Between from to) d text status =
    AreRows form z names (shifts_between d (second_of from.nanosecond) (second_of to.nanosecond)) text × (status ≡ Done)
IsReport form z names (At t) d text status =
    let who = option_map (name_of names) (on_duty d (second_of t.nanosecond)) in
    IsWhoRow form z (second_of t.nanosecond) who text × (status ≡ who_status who)
