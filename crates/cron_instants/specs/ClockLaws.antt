-- What follows for a timeline where the two look-ups of its zone, of instants and of civil seconds,
-- agree.
use Rattle.std.specs.Prelude.{◌≡◌, ℕ, ℤ, ◌↔◌, ◌<◌, ◌+ℤ◌, pos, true, Some, slice_get}
use Rattle.jiff_tz.specs.declared.timezone.TimeZone.{TimeZone}
use Rattle.cron_time.specs.Seconds.{Seconds, timeline}
use Rattle.cron_moments.specs.Civil.{seconds_in_range}
use Rattle.cron_moments.specs.Readings.{Reading, instant}
use Rattle.cron_clocks.specs.Clocks.{LookupsAgree, HasInstant, shown_offset}

-- n whole seconds after 1970-01-01T00:00:00Z a clock with this offset shows a civil second of the
-- range that the set has
pub record Shows (s : Seconds) (offset n : ℤ) : Type 0 where
  pub second : ℕ
  pub is : n +ℤ offset ≡ pos second
  pub in_range : second < seconds_in_range
  pub matching : s second ≡ true

-- where the look-ups agree, no two items of a timeline share an instant
abbrev pub InstantsAreApart : Type 0
InstantsAreApart =
    (s : Seconds) (z : TimeZone) (i j : ℕ) (r q : Reading)
    → LookupsAgree z
    → slice_get (timeline s z) i ≡ Some r
    → slice_get (timeline s z) j ≡ Some q
    → instant r ≡ instant q
    → i ≡ j

-- where the look-ups agree, an instant shows a matching civil second of the range exactly if an
-- item has that instant
abbrev pub ItemsAreTheMatches : Type 0
ItemsAreTheMatches =
    (s : Seconds) (z : TimeZone) (n : ℤ)
    → LookupsAgree z
    → (Shows s (shown_offset z n) n ↔ HasInstant (timeline s z) n)
