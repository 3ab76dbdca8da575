-- What the readings of a civil second say of what was found.
use Rattle.std.proofs.Common.{◌≡◌, ℕ, Bool, true, false, cond, List, [], ◌∷◌, Option, Some, None, is_some, refl, ap, ◌∙◌}
use Rattle.std.specs.Ordering.{int_eq}
use Rattle.jiff_core.specs.declared.Offset.{Offset}
use Rattle.jiff_tz.specs.Zone.{ambiguous_at}
use Rattle.jiff_tz.specs.declared.timezone.TimeZone.{TimeZone}
use Rattle.jiff_tz.specs.declared.ambiguous.AmbiguousOffset.{AmbiguousOffset}
use Rattle.jiff_tz.specs.declared.ambiguous.AmbiguousOffset.TheVariants.{Unambiguous, Gap, Fold}
use Rattle.cron_moments.specs.Civil.{civil}
use Rattle.cron_moments.specs.Found.{found_items}
use Rattle.cron_moments.specs.Readings.{Reading, reading, readings, readings_by}
use Rattle.cron_moments.specs.declared.readings.Found.{Found}

first_second : List Reading → ℕ → ℕ
first_second [] c = c
first_second (r ∷ rs) c = r.second

fold_second : (same : Bool) (c : ℕ) (b a : Offset) → first_second (cond same (reading c b ∷ []) (reading c b ∷ reading c a ∷ [])) c ≡ c
unfolding first_second
fold_second true c b a = refl
fold_second false c b a = refl

by_second : (c : ℕ) (a : AmbiguousOffset) → first_second (readings_by c a) c ≡ c
unfolding first_second
by_second c (Unambiguous o) = refl
by_second c (Gap b a) = refl
by_second c (Fold b a) = fold_second (int_eq b.seconds a.seconds) c b a

-- the first reading found is one of the civil second
pub second_is : (z : TimeZone) (c : ℕ) (f : Found) → found_items f ≡ readings z c → f.first.second ≡ c
unfolding first_second readings
second_is z c f e = ap (λ rs. first_second rs c) e ∙ by_second c (ambiguous_at z (civil c))

pub none_found : (o : Option Found) → is_some o ≡ false → o ≡ None
none_found None h = refl
none_found (Some f) h = cc
