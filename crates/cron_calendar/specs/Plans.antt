-- When plans fire, how many fires they have on each day, and in each hour, and by what a year is
-- shaded. Days are numbered from 1970-01-01.
use Rattle.std.specs.Prelude.{ℕ, ◌+◌, ◌*◌, ◌==◌, ◌&&◌, Bool, true, false, List, [], ◌∷◌, filter, fold, length, map, min, nat_lt, replicate, slice_index}
use Rattle.std.specs.List.{list_any, range_with_len}
use Rattle.jiff_tz.specs.declared.timezone.TimeZone.{TimeZone}
use Rattle.jiff_tz.specs.declared.timezone.TimeZone.TheVariants.{UTC}
use Rattle.cron_time.specs.Seconds.{Seconds}
use Rattle.cron_unions.specs.Unions.{any_of}
use Rattle.cron_plans.specs.Plans.{planned_by}
use Rattle.cron_counting.specs.Counts.{counts_by_day, counts_by_hour}
use Rattle.cron_calendar.specs.declared.plans.Plan.{Plan}

-- the civil seconds that match: what is left of the plan's schedules
abbrev pub matches_of : Plan → Seconds
matches_of plan = planned_by plan.plan (any_of plan.schedules.now)

-- The zone by which fires are counted. If each match fires once, it counts for the day of its civil
-- second, and UTC reads each civil second once.
abbrev pub zone_by : Bool → TimeZone → TimeZone
zone_by true z = UTC
zone_by false z = z

abbrev pub counts_of : TimeZone → ℕ → ℕ → Plan → List ℕ
counts_of z first days plan = counts_by_day (matches_of plan) (zone_by plan.once z) first days

-- how many fires a plan has in each hour of `days` days from day `first` on
abbrev pub hour_counts_of : TimeZone → ℕ → ℕ → Plan → List ℕ
hour_counts_of z first days plan = counts_by_hour (matches_of plan) (zone_by plan.once z) (first * 24) (days * 24)

-- the sums of two lists of numbers, place by place, each at most 4,294,967,295
abbrev pub sums_with : List ℕ → List ℕ → List ℕ
sums_with xs ys = map (λ i. min (slice_index xs i + slice_index ys i) 4_294_967_295) (range_with_len 0 (length xs))

-- the sums of what all plans have, in each of `days` days or hours; `counts` gives the numbers of
-- one plan
abbrev pub totals : (Plan → List ℕ) → ℕ → List Plan → List ℕ
totals counts days plans = fold (λ sums plan. sums_with sums (counts plan)) (replicate days 0) plans

-- ---- the shade of a year

-- among numbers of fires by day there is a day without any
abbrev pub has_free_day : List ℕ → Bool
has_free_day counts = list_any (λ n. n == 0) counts

-- a plan with these numbers of fires by day fires on the day at this place, but not on each day
abbrev pub shades_day : ℕ → List ℕ → Bool
shades_day place counts = nat_lt 0 (slice_index counts place) && has_free_day counts

-- how many of some plans, by their numbers of fires, fire on the day at this place but not on each
-- day, at most 4,294,967,295
abbrev pub shade_at : List (List ℕ) → ℕ → ℕ
shade_at each place = min (length (filter (shades_day place) each)) 4_294_967_295

-- The numbers that shade the days of a year, by the numbers of fires of each plan: of one plan its
-- fires, else how many plans fire on the day but not on each day.
abbrev pub shades_of : ℕ → List (List ℕ) → List ℕ
shades_of days (counts ∷ []) = counts
shades_of days each = map (shade_at each) (range_with_len 0 days)
