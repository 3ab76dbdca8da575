use Rattle.std.proofs.Common.{rules, ◌≡◌, Option, refl, sym, ap, subst, ◌∙◌, arith, FitsSigned, w32, to_z-of_z}
use Rattle.jiff_core.specs.Timestamp.{IsOffsetSeconds}
use Rattle.jiff_core.specs.declared.offset.Offset.{Offset}
use Rattle.jiff_tz.specs.declared.posix.Dst.{Dst}
use Rattle.jiff_tz.specs.declared.timezone.TimeZone.TheVariants.{UTC, Unknown, Fixed, Posix, Tzif}
use Rattle.cron_c.specs.Zones.{IsSavingIn, IsSomeZone}
use Rattle.cron_c.specs.declared.zone.CronZone.{CronZone}
use Rattle.cron_c.proofs.era.is_fixed.Goals as goal

-- a zone with one offset is no further from UTC than offsets are
in_range : (c : CronZone) → c.kind ≡ 1 → IsSomeZone c → IsOffsetSeconds c.offset
in_range c one (UTC, zero) = absurd (omega (arith, one, zero))
in_range c one (Unknown, says) = absurd says
in_range c one (Fixed o, says) = absurd says
in_range c one (Posix rule, says) = subst IsOffsetSeconds (sym says.0) rule.std_offset.in_range
in_range c one (Tzif t, says) = absurd says

pub returns-in-Ok : goal.returns-in-Ok
returns-in-Ok c =
    let fits : FitsSigned w32 c.args.zone.now.offset = search rules in
    let value = rw (to_z-of_z fits) at c.in-Ok.ensures.value in
    let rule = ap (λ (o : Offset). o.seconds) (c.fixed_rule-rule.ensures.offset ∙ c.to_plain.ensures) in
    let saving = subst (λ (dst : Option Dst). IsSavingIn c.args.zone.now dst) (sym c.fixed_rule-rule.ensures.saving) c.requires in
    (λ is. (Posix c.fixed_rule-rule.result, (sym (rule ∙ value), saving)), λ some. refl)

pub returns-in-Err : goal.returns-in-Err
returns-in-Err c =
    let fits : FitsSigned w32 c.args.zone.now.offset = search rules in
    let succeeds = rw (to_z-of_z fits) at c.in-Err.ensures.succeeds in
    (λ is. absurd (cc), λ some. succeeds.1 (in_range c.args.zone.now c.requires some))
