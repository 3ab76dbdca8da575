-- Times of day, in seconds after midnight, of which schedules have some.
use Rattle.std.specs.Prelude.{◌≡◌, ℕ, ◌<◌, ◌+◌, ◌*◌, ◌/◌, ◌%◌, Bool, ◌&&◌, nat_le, nat_lt, List, length}
use Rattle.std.specs.List.{list_any}
use Rattle.jiff_tz.specs.declared.timezone.TimeZone.{TimeZone}
use Rattle.cron_bits.specs.Words.{has_bit}
use Rattle.cron_units.specs.Sets.{Sets}
use Rattle.cron_units.specs.Units.{contains}
use Rattle.cron_moments.specs.Civil.{civil}
use Rattle.cron_moments.specs.Readings.{readings}
use Rattle.cron_unions.specs.Unions.{matches_any}
use Rattle.cron_counting.specs.declared.times.Times.{Times}
use Rattle.cron_counting.specs.declared.span.Span.{Span}
use Rattle.cron_counting.specs.Inner.Totals.{only_if}

-- the sets have this hour and this second
abbrev pub has_second : ℕ → ℕ → Times → Bool
has_second h s x = has_bit x.hours h && has_bit x.seconds s

-- the sets have this hour, this minute and this second
abbrev pub has_minute : ℕ → ℕ → ℕ → Times → Bool
has_minute h m s x = has_second h s x && has_bit x.minutes m

-- the sets have the minute and the second of a time that is u seconds after its hour begins
abbrev pub has_rest : Times → ℕ → Bool
has_rest x u = has_bit x.minutes (u / 60) && has_bit x.seconds (u % 60)

-- one of the times, each with its sets, has this time of day
unfoldable pub fits_any : List Times → ℕ → Bool
fits_any xs t = list_any (has_minute (t / 3600) (t % 3600 / 60) (t % 60)) xs

-- a schedule has this time of day
abbrev pub has_time : Sets → ℕ → Bool
has_time s t = (contains s.hours (t / 3600) && contains s.seconds (t % 60)) && contains s.minutes (t % 3600 / 60)

-- the time of day lies in the span
abbrev pub is_within : Span → ℕ → Bool
is_within span t = nat_le span.first t && nat_lt t span.end

-- the time of day lies in the span, and one of the times has it
abbrev pub fits_in : List Times → Span → ℕ → Bool
fits_in xs span t = is_within span t && fits_any xs t

-- how many readings a time of a day has, if one of the times has it in the span, and else 0
abbrev pub readings_in : List Times → TimeZone → ℕ → Span → ℕ → ℕ
readings_in xs z day span t = only_if (fits_in xs span t) (length (readings z (day * 86_400 + t)))

-- one of the times has a time of the day exactly if one of the schedules matches that civil second
abbrev pub IsGathered : List Sets → ℕ → List Times → Type 0
IsGathered ss day xs = (t : ℕ) → t < 86_400 → fits_any xs t ≡ matches_any ss (civil (day * 86_400 + t))

-- the span of an hour
abbrev pub hour_span : ℕ → Span
hour_span hour = record { first = hour * 3600; end = hour * 3600 + 3600 }
