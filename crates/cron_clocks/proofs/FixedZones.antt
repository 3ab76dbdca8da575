-- In a zone with one offset the look-ups agree.
use Rattle.std.proofs.Common.{ℕ, ◌<◌, refl, sym}
use Rattle.jiff_tz.specs.declared.timezone.TimeZone.{TimeZone}
use Rattle.jiff_tz.specs.declared.timezone.TimeZone.TheVariants.{UTC, Unknown, Fixed, Posix, Tzif}
use Rattle.jiff_tz.specs.Zone.{IsFixed, offset_at, ambiguous_at}
use Rattle.cron_moments.specs.Civil.{civil, seconds_in_range}
use Rattle.cron_clocks.specs.Clocks.{FixedZonesAgree}
use Rattle.cron_clocks.proofs.ToldLemmas.{IsTold, Holds, agree_where_told}

fixed_told : (z : TimeZone) → IsFixed z → (c : ℕ) → c < seconds_in_range → IsTold (Holds z c) (ambiguous_at z (civil c))
unfolding offset_at ambiguous_at
fixed_told UTC h c k = (refl, λ x p. sym p)
fixed_told Unknown h c k = (refl, λ x p. sym p)
fixed_told (Fixed o) h c k = (refl, λ x p. sym p)
fixed_told (Posix rule) h c k = absurd h
fixed_told (Tzif table) h c k = absurd h

pub fixed_agree : FixedZonesAgree
fixed_agree z h = agree_where_told z (fixed_told z h)
