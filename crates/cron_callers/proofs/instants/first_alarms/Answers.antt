use Rattle.std.proofs.Common.{◌≡◌, ℤ, pos, ◌∙◌, subst, ap, rules}
use Rattle.jiff_core.specs.declared.Offset.{Offset}
use Rattle.jiff_tz.specs.declared.timezone.TimeZone.{TimeZone}
use Rattle.jiff.proofs.ZoneFacts.{offset_at-fixed_zone}
use Rattle.jiff.specs.Words.{plain_zone, fixed_zone, IsFixed}
use Rattle.cron.specs.Words.{IsLeastIfAny, IsNextIfAny, offset_of}
use Rattle.cron_callers.proofs.AlarmLemmas.{alarm_after, second_alarm}
use Rattle.cron_callers.proofs.instants.first_alarms.Goals as goal

-- a zone that is made of an offset has that one
offset_of-fixed_zone : (z : TimeZone) (o : Offset) → z ≡ fixed_zone o → offset_of z ≡ o.seconds
offset_of-fixed_zone z o e = ap offset_of e ∙ offset_at-fixed_zone o (pos 0)

pub first_instants-first-requires : goal.first_instants-first-requires
first_instants-first-requires c =
    let fixed : IsFixed (plain_zone c.fixed-zone.result) = search rules in
    c.one_offset.ensures.zones (plain_zone c.fixed-zone.result) fixed

pub returns-clause-first : goal.returns-clause-first
returns-clause-first c =
    let least = subst (λ (o : ℤ). IsLeastIfAny c.args.schedule.now.sets o c.args.now.nanosecond c.first_instants-first.result.0)
    (offset_of-fixed_zone _ _ c.fixed-zone.ensures) c.first_instants-first.ensures.first in
    alarm_after _ _ _ c.first_instants-first.result.0 c.instant_of.result c.instant_of.ensures least

pub returns-clause-second : goal.returns-clause-second
returns-clause-second c =
    let next = subst (λ (o : ℤ). IsNextIfAny c.args.schedule.now.sets o c.first_instants-first.result.0 c.first_instants-first.result.1)
    (offset_of-fixed_zone _ _ c.fixed-zone.ensures) c.first_instants-first.ensures.next in
    second_alarm _ _ c.first_instants-first.result.0 c.first_instants-first.result.1 c.instant_of.result c.instant_of-2.result c.instant_of.ensures
    c.instant_of-2.ensures next
