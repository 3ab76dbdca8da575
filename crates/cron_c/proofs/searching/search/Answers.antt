use Rattle.std.proofs.Common.{◌≡◌, ◌*ℤ◌, ℤ, pos, Some, rules, sym, ap, ◌∙◌}
use Rattle.jiff.specs.Words.{plain_zone}
use Rattle.cron_time.specs.Walk.Cursor.{Start, step}
use Rattle.cron_c.specs.Calls.{IsInstant, start_at}
use Rattle.cron_c.specs.Structs.{sets_of}
use Rattle.cron_c.proofs.searching.search.Goals as goal

pub returns : goal.returns
returns c =
    let zone = plain_zone c.in-Some.zone in
    let nanos : c.in-Ok.start.nanosecond ≡ c.args.second *ℤ pos 1_000_000_000 = search rules in
    let within : IsInstant c.args.second = search rules in
    let from = λ (t : ℤ). (step c.args.way (record { sets = sets_of c.args.schedule.now; zone = zone; cursor = Start t })).answer in
    let answer : (step c.args.way (start_at (sets_of c.args.schedule.now) zone c.args.second)).answer ≡ Some c.in-Some-first.found = sym (ap from nanos)
    ∙ (sym c.first.ensures ∙ c.in-Some-first.is) in
    (zone, c.in-Some-first.found, c.in-Some.ensures, within, answer, c.item_of.ensures)

pub returns-in_default : goal.returns-in_default
returns-in_default c = search rules

pub returns-in_default-from_second : goal.returns-in_default-from_second
returns-in_default-from_second c = search rules

pub returns-in_default-first : goal.returns-in_default-first
returns-in_default-first c = search rules
