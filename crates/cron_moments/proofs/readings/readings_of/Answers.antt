use Rattle.std.proofs.Common.{◌≡◌, sym, ◌∙◌, inl, inr}
use Rattle.jiff.specs.Words.{plain_zone}
use Rattle.jiff_tz.specs.Zone.{ambiguous_at, utc_offset}
use Rattle.jiff_tz.specs.declared.ambiguous.AmbiguousOffset.TheVariants.{Unambiguous}
use Rattle.cron_moments.specs.Civil.{civil}
use Rattle.cron_moments.proofs.ReadingLemmas.{readings-by, utc_once, fixed_once}
use Rattle.cron_moments.proofs.readings.readings_of.Goals as goal

pub returns-in-UTC : goal.returns-in-UTC
returns-in-UTC c =
    let at : ambiguous_at (plain_zone c.args.zone.now) (civil c.args.second) ≡ Unambiguous utc_offset = elim c.in-UTC.is [
      | inl e ↦ utc_once _ _ (civil c.args.second) c.to_plain.ensures (inl e)
      | inr e ↦ utc_once _ _ (civil c.args.second) c.to_plain.ensures (inr e)
    ] in
    c.single.ensures ∙ sym (readings-by _ _ _ at)

pub returns-in-Fixed : goal.returns-in-Fixed
returns-in-Fixed c =
    let at : ambiguous_at (plain_zone c.args.zone.now) (civil c.args.second)
    ≡ Unambiguous c.in-Fixed.offset = fixed_once _ _ c.in-Fixed.offset (civil c.args.second) c.to_plain.ensures c.in-Fixed.is in
    rw c.from_plain.ensures at (c.single-in-Fixed.ensures) ∙ sym (readings-by _ _ _ at)
