use Rattle.std.proofs.Common.{◌≡◌, ◌⊎◌, inl, inr, sym, subst}
use Rattle.jiff_core.specs.declared.Offset.{Offset}
use Rattle.jiff_tz.specs.declared.timezone.TimeZone.{TimeZone}
use Rattle.jiff_tz.specs.declared.timezone.TimeZone.TheVariants.{UTC, Unknown, Fixed}
use Rattle.jiff_tz.specs.Zone.{IsFixed}
use Rattle.cron_clocks.proofs.FixedZones.{fixed_agree}
use Rattle.cron_clocks.proofs.agreement.lookups_agree.Goals as goal

fixed_kind : (z : TimeZone) → (z ≡ UTC) ⊎ ((z ≡ Unknown) ⊎ ((o : Offset) × (z ≡ Fixed o))) → IsFixed z
fixed_kind z (inl e) = subst IsFixed (sym e) tt
fixed_kind z (inr (inl e)) = subst IsFixed (sym e) tt
fixed_kind z (inr (inr (o, e))) = subst IsFixed (sym e) tt

pub returns-in-UTC-clause-agree : goal.returns-in-UTC-clause-agree
returns-in-UTC-clause-agree c = λ _. rw (← c.to_plain.ensures) (fixed_agree c.to_plain.result (fixed_kind c.to_plain.result c.in-UTC.is))
