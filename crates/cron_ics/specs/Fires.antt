-- The fires of an entry, and what a calendar holds of each.
use Rattle.std.specs.Prelude.{◌≡◌, ℕ, ℤ, Bool, true, false, List, [], ◌∷◌, map, Option, Some, None}
use Rattle.jiff.specs.Words.{plain_zone}
use Rattle.jiff_core.specs.DateTime.{civil_nanos}
use Rattle.jiff_core.specs.Timestamp.{nanos_of_seconds}
use Rattle.jiff_tz.specs.declared.timezone.TimeZone.{TimeZone}
use Rattle.cron_time.specs.Seconds.{Seconds}
use Rattle.cron_moments.specs.Readings as moments
use Rattle.cron_dues.specs.Due as dues
use Rattle.cron_dues.specs.Dues.{dues_between}
use Rattle.cron_unions.specs.Unions.{any_of}
use Rattle.cron_plans.specs.Plans.{planned_by}
use Rattle.cron_instants.specs.Fires.{fires_between}
use Rattle.cron_ics.specs.declared.entry.Entry.{Entry}
use Rattle.cron_ics.specs.declared.fires.Fire.{Fire}

-- a fire: its instant, in seconds since 1970-01-01T00:00:00Z, and the civil second that matches
pub record Told : Type 0 where
  pub instant : ℤ
  pub second : ℕ

abbrev pub told_moment : moments.Reading → Told
told_moment m = record { instant = moments.instant m; second = m.second }

abbrev pub told_due : dues.Due → Told
told_due d = record { instant = dues.instant d; second = d.second }

-- The fires of a set after the instant `start`, up to and including `end`. If the flag is true each
-- match fires once, and else each time that the clock shows it.
abbrev pub fires_by : Bool → Seconds → TimeZone → ℤ → ℤ → List Told
fires_by true s z start end = map told_due (dues_between s z start end)
fires_by false s z start end = map told_moment (fires_between s z start end)

-- the civil seconds that match: what the entry's plan leaves of its schedules
abbrev pub matches_of : Entry → Seconds
matches_of e = planned_by e.plan (any_of e.schedules.now)

-- the fires of an entry after `start`, up to and including `end`; both are in nanoseconds since
-- 1970
abbrev pub fires_of : ℤ → ℤ → Entry → List Told
fires_of start end e = fires_by e.once (matches_of e) (plain_zone e.zone.now) start end

-- the program's fire f holds the fire t: its instant, its civil second, and the time of UTC then
abbrev pub Tells : Told → Fire → Type 0
Tells t f = (f.second ≡ t.instant) × (f.civil ≡ t.second) × (civil_nanos f.utc ≡ nanos_of_seconds t.instant)

abbrev pub AreTold : List Told → List Fire → Type 0
AreTold [] [] = Unit {0}
AreTold [] (f ∷ fs) = ⊥
AreTold (t ∷ ts) [] = ⊥
AreTold (t ∷ ts) (f ∷ fs) = Tells t f × AreTold ts fs

-- the first of the fires `old` is taken, and `new` are left; or no fire was left
abbrev pub TakesFirst : List Told → Option Fire → List Told → Type 0
TakesFirst old None new = old ≡ []
TakesFirst old (Some f) new = (t : Told) × (old ≡ t ∷ new) × Tells t f
