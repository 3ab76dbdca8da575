-- What a schedule matches and another one doesn't, unit by unit.
use Rattle.std.proofs.Common.{◌≡◌, ℕ, Bool, true, false, ◌&&◌, ◌||◌, not, [], ◌∷◌, refl, ap, ◌∙◌}
use Rattle.jiff_core.specs.declared.civil.datetime.DateTime.{DateTime}
use Rattle.jiff_core.specs.Calendar.{days_in_month}
use Rattle.cron_moments.specs.Calendar.{weekday_number}
use Rattle.cron_moments.specs.Civil.{civil}
use Rattle.cron_units.specs.Sets.{Sets}
use Rattle.cron_units.specs.Units.{FieldSet, contains}
use Rattle.cron_time.specs.Matches.{contains_year, has_day, matches}
use Rattle.cron_time.specs.Timeline.{seconds_of}
use Rattle.cron_unions.specs.Unions.{any_of}
use Rattle.cron_unions.specs.Units.{has_unit}
use Rattle.cron_unions.specs.declared.units.Unit.{Unit}
use Rattle.cron_unions.specs.declared.units.Unit.TheVariants.{Year, Month, Day, Weekday, Hour, Minute, Second}
use Rattle.cron_days.specs.Sets.{except}

by_number_alone : (days : FieldSet) (length day : ℕ) → days.last_day ≡ false → has_day days length day ≡ contains days.ordinals day
by_number_alone days length day unmarked = rw unmarked (or_nothing (contains days.ordinals day))
  where
    or_nothing : (b : Bool) → (b || false) ≡ b
    or_nothing true = refl
    or_nothing false = refl

seven : (y m d w h n s : Bool) → (y && (m && (d && (w && (h && (n && (s && true))))))) ≡ ((((y && m) && d) && w) && ((h && n) && s))
seven false m d w h n s = refl
seven true false d w h n s = refl
seven true true false w h n s = refl
seven true true true false h n s = refl
seven true true true true false n s = refl
seven true true true true true false s = refl
seven true true true true true true true = refl
seven true true true true true true false = refl

all_units : (t : Sets) (dt : DateTime) → t.days_of_month.last_day ≡ false
    → (has_unit t dt Year && (has_unit t dt Month && (has_unit t dt Day && (has_unit t dt Weekday && (has_unit t dt Hour && (has_unit t dt Minute && (has_unit t dt Second && true)))))))
    ≡ matches t dt
unfolding matches
all_units t dt unmarked =
    rw (by_number_alone t.days_of_month (days_in_month dt.date.year dt.date.month) dt.date.day unmarked)
    (seven (contains_year t.years dt.date.year) (contains t.months dt.date.month) (contains t.days_of_month.ordinals dt.date.day)
    (contains t.days_of_week (weekday_number dt.date)) (contains t.hours dt.time.hour) (contains t.minutes dt.time.minute)
    (contains t.seconds dt.time.second))

-- a part, and what is left of the part that is shared
peel : (s u r p n tail : Bool) → p ≡ (s && not u) → n ≡ (s && u) → tail ≡ (n && not r) → (p || tail) ≡ (s && not (u && r))
peel true true r p n tail out inner rest = rw (out, rest, inner) refl
peel true false r p n tail out inner rest = rw out refl
peel false u r p n tail out inner rest = rw (out, rest, inner) refl

nothing : (b : Bool) → false ≡ (b && not true)
nothing true = refl
nothing false = refl

-- a schedule that is another one inside the set of a unit, or outside it
abbrev pub IsInside : Sets → Sets → Unit → Sets → Type 0
IsInside s t unit part = (dt : DateTime) → matches part dt ≡ (matches s dt && has_unit t dt unit)

abbrev pub IsOutside : Sets → Sets → Unit → Sets → Type 0
IsOutside s t unit part = (dt : DateTime) → matches part dt ≡ (matches s dt && not (has_unit t dt unit))

module _ (s t s1 s2 s3 s4 s5 s6 p0 p1 p2 p3 p4 p5 p6 : Sets) (unmarked : t.days_of_month.last_day ≡ false)
    (i0 : IsInside s t Year s1) (i1 : IsInside s1 t Month s2) (i2 : IsInside s2 t Day s3) (i3 : IsInside s3 t Weekday s4) (i4 : IsInside s4 t Hour s5) (i5 : IsInside s5 t Minute s6)
    (o0 : IsOutside s t Year p0) (o1 : IsOutside s1 t Month p1) (o2 : IsOutside s2 t Day p2) (o3 : IsOutside s3 t Weekday p3) (o4 : IsOutside s4 t Hour p4) (o5 : IsOutside s5 t Minute p5)
    (o6 : IsOutside s6 t Second p6) where
  parts_at : (dt : DateTime)
      → (matches p0 dt || (matches p1 dt || (matches p2 dt || (matches p3 dt || (matches p4 dt || (matches p5 dt || (matches p6 dt || false)))))))
      ≡ (matches s dt && not (matches t dt))
  parts_at dt =
      let u = has_unit t dt in
      let m = λ (x : Sets). matches x dt in
      let e6 = peel (m s6) (u Second) true (m p6) (m s6 && u Second) false (o6 dt) refl (nothing (m s6 && u Second)) in
      let e5 = peel (m s5) (u Minute) (u Second && true) (m p5) (m s6) (m p6 || false) (o5 dt) (i5 dt) e6 in
      let e4 = peel (m s4) (u Hour) (u Minute && (u Second && true)) (m p4) (m s5) _ (o4 dt) (i4 dt) e5 in
      let e3 = peel (m s3) (u Weekday) (u Hour && (u Minute && (u Second && true))) (m p3) (m s4) _ (o3 dt) (i3 dt) e4 in
      let e2 = peel (m s2) (u Day) (u Weekday && (u Hour && (u Minute && (u Second && true)))) (m p2) (m s3) _ (o2 dt) (i2 dt) e3 in
      let e1 = peel (m s1) (u Month) (u Day && (u Weekday && (u Hour && (u Minute && (u Second && true))))) (m p1) (m s2) _ (o1 dt) (i1 dt) e2 in
      let e0 = peel (m s) (u Year) (u Month && (u Day && (u Weekday && (u Hour && (u Minute && (u Second && true)))))) (m p0) (m s1) _ (o0 dt) (i0 dt) e1 in
      e0 ∙ ap (λ b. matches s dt && not b) (all_units t dt unmarked)

  pub rest_is : (c : ℕ) → any_of (p0 ∷ p1 ∷ p2 ∷ p3 ∷ p4 ∷ p5 ∷ p6 ∷ []) c ≡ except (seconds_of s) (seconds_of t) c
  rest_is c = parts_at (civil c)
