-- What schedules match whose sets are made of those of others.
use Rattle.std.proofs.Common.{◌≡◌, ℕ, ◌≤◌, ℤ, pos, negsuc, Bool, true, false, ◌&&◌, ◌||◌, List, refl, sym, ap, ◌∙◌, arith, inl, inr, eqb-true}
use Rattle.std.specs.Prelude.{nat_eq}
use Rattle.std.proofs.Math.Bool.{and-true}
use Rattle.std.proofs.lemmas.Bool.{and_right, both_ways, cases_lt}
use Rattle.jiff_core.specs.declared.civil.datetime.DateTime.{DateTime}
use Rattle.jiff_core.specs.Calendar.{days_in_month}
use Rattle.cron_moments.specs.Calendar.{weekday_number}
use Rattle.cron_units.specs.Sets.{Sets}
use Rattle.cron_units.specs.Units.{FieldSet, IsSet, contains, years}
use Rattle.cron_units.proofs.SetLemmas.{contains_after, contains_before}
use Rattle.cron_time.specs.Matches.{contains_year, has_day, is_candidate, matches, matches_date, matches_day_of_month, matches_time}
use Rattle.cron_time.proofs.Searches.DayLemmas.{by_number_alone}
use Rattle.cron_comparing.specs.Inner.Lengths.{can_have, suits_year}
use Rattle.cron_comparing.proofs.LengthLemmas.{has_length}

pairs : (a b c d : Bool) → ((a && b) && (c && d)) ≡ ((a && c) && (b && d))
pairs true b true d = refl
pairs true b false d = and_right b false refl
pairs false b c d = refl

both : (x y a b c d : Bool) → x ≡ (a && b) → y ≡ (c && d) → (x && y) ≡ ((a && c) && (b && d))
both x y a b c d e f = rw (e, f) (pairs a b c d)

-- ---- the sets that two schedules have in common

abbrev AreCommon : List ℕ → List ℕ → List ℕ → Type 0
AreCommon xs ys zs = (x : ℕ) → contains zs x ≡ (contains xs x && contains ys x)

years_common : (xs ys zs : List ℕ) (z : ℤ) → AreCommon xs ys zs → contains_year zs z ≡ (contains_year xs z && contains_year ys z)
years_common xs ys zs (pos y) common = common y
years_common xs ys zs (negsuc y) common = refl

days_common : (a b s : FieldSet) (length day : ℕ) → a.last_day ≡ false → b.last_day ≡ false → s.last_day ≡ false → AreCommon a.ordinals b.ordinals s.ordinals
    → has_day s length day ≡ (has_day a length day && has_day b length day)
days_common a b s length day first second third common =
    rw (by_number_alone a length day first, by_number_alone b length day second, by_number_alone s length day third) (common day)

common_matches : (a b s : Sets) → a.days_of_month.last_day ≡ false → b.days_of_month.last_day ≡ false → s.days_of_month.last_day ≡ false
    → AreCommon a.seconds b.seconds s.seconds → AreCommon a.minutes b.minutes s.minutes → AreCommon a.hours b.hours s.hours
    → AreCommon a.days_of_month.ordinals b.days_of_month.ordinals s.days_of_month.ordinals → AreCommon a.months b.months s.months
    → AreCommon a.days_of_week b.days_of_week s.days_of_week → AreCommon a.years b.years s.years → (dt : DateTime)
    → matches s dt ≡ (matches a dt && matches b dt)
unfolding matches
common_matches a b s first second third seconds minutes hours days months weekdays years dt =
    let day = days_common a.days_of_month b.days_of_month s.days_of_month (days_in_month dt.date.year dt.date.month) dt.date.day first second third days in
    let year = years_common a.years b.years s.years dt.date.year years in
    let ay = contains_year a.years dt.date.year in
    let by = contains_year b.years dt.date.year in
    let am = contains a.months dt.date.month in
    let bm = contains b.months dt.date.month in
    let ad = matches_day_of_month a dt.date in
    let bd = matches_day_of_month b dt.date in
    let ah = contains a.hours dt.time.hour in
    let bh = contains b.hours dt.time.hour in
    let an = contains a.minutes dt.time.minute in
    let bn = contains b.minutes dt.time.minute in
    let month = both _ _ ay by am bm year (months dt.date.month) in
    let candidate = both _ _ (ay && am) (by && bm) ad bd month day in
    let date =
    both _ _ (is_candidate a dt.date) (is_candidate b dt.date) (contains a.days_of_week (weekday_number dt.date))
    (contains b.days_of_week (weekday_number dt.date)) candidate (weekdays (weekday_number dt.date)) in
    let minute = both _ _ ah bh an bn (hours dt.time.hour) (minutes dt.time.minute) in
    let time = both _ _ (ah && an) (bh && bn) (contains a.seconds dt.time.second) (contains b.seconds dt.time.second) minute (seconds dt.time.second) in
    both _ _ (matches_date a dt.date) (matches_date b dt.date) (matches_time a dt.time) (matches_time b dt.time) date time

pub common_of_views : (a b v w s : Sets) → v ≡ a → w ≡ b → a.days_of_month.last_day ≡ false → b.days_of_month.last_day ≡ false
    → s.days_of_month.last_day ≡ false → AreCommon v.seconds w.seconds s.seconds → AreCommon v.minutes w.minutes s.minutes
    → AreCommon v.hours w.hours s.hours → AreCommon v.days_of_month.ordinals w.days_of_month.ordinals s.days_of_month.ordinals
    → AreCommon v.months w.months s.months → AreCommon v.days_of_week w.days_of_week s.days_of_week → AreCommon v.years w.years s.years
    → (dt : DateTime) → matches s dt ≡ (matches a dt && matches b dt)
common_of_views a b v w s e f first second third seconds minutes hours days months weekdays years dt =
    common_matches v w s (ap (λ (t : Sets). t.days_of_month.last_day) e ∙ first) (ap (λ (t : Sets). t.days_of_month.last_day) f ∙ second) third
    seconds minutes hours days months weekdays years dt
    ∙ (ap (λ (t : Sets). matches t dt && matches w dt) e ∙ ap (λ (t : Sets). matches a dt && matches t dt) f)

-- ---- the months of one length

year_in : (xs : List ℕ) (y : ℕ) → IsSet years xs → contains xs y ≡ true → (1970 ≤ y) × (y ≤ 2100)
year_in xs y set h = elim (cases_lt y 1970) [
  | inl l ↦ absurd (both_ways (contains xs y) (ap (λ (ys : List ℕ). contains ys y) set ∙ contains_before years (contains xs) y l) h)
  | inr g ↦ elim (cases_lt 2100 y) [
    | inl l ↦ absurd (both_ways (contains xs y) (ap (λ (ys : List ℕ). contains ys y) set ∙ contains_after years (contains xs) y (omega arith) l) h)
    | inr k ↦ (g, k)
  ]
]

narrowed : (year month suits can has day weekday time fits : Bool) → (year ≡ true → (suits && can) ≡ fits) → (fits ≡ true → day ≡ has)
    → (((((year && suits) && (month && can)) && day) && weekday) && time) ≡ (((((year && month) && has) && weekday) && time) && fits)
narrowed false month suits can has day weekday time fits e f = refl
narrowed true false true can has day weekday time fits e f = refl
narrowed true false false can has day weekday time fits e f = refl
narrowed true true true true has day weekday time true e f = rw (f refl) (sym (and-true ((has && weekday) && time)))
narrowed true true true true has day weekday time false e f = let h : true ≡ false = e refl in cc
narrowed true true true false has day weekday time true e f = let h : false ≡ true = e refl in cc
narrowed true true true false has day weekday time false e f = sym (and_right ((has && weekday) && time) false refl)
narrowed true true false can has day weekday time true e f = let h : false ≡ true = e refl in cc
narrowed true true false can has day weekday time false e f = sym (and_right ((has && weekday) && time) false refl)

suited : (xs ks ms : List ℕ) (length m : ℕ) (z : ℤ) → IsSet years xs → 28 ≤ length → length ≤ 31
    → ((n : ℕ) → 1 ≤ n → n ≤ 12 → contains ms n ≡ can_have length n) → ((y : ℕ) → 1970 ≤ y → y ≤ 2100 → contains ks y ≡ suits_year length y)
    → 1 ≤ m → m ≤ 12 → contains_year xs z ≡ true → (contains_year ks z && contains ms m) ≡ nat_eq (days_in_month z m) length
suited xs ks ms length m (pos y) set low high can suits l g h =
    let inside = year_in xs y set h in
    rw (suits y inside.0 inside.1, can m l g) (has_length length y m low high)
suited xs ks ms length m (negsuc y) set low high can suits l g h = absurd (both_ways false refl h)

numbered : (days made : FieldSet) (length last day : ℕ)
    → ((d : ℕ) → contains made.ordinals d ≡ (contains days.ordinals d || (days.last_day && nat_eq d length))) → made.last_day ≡ false
    → nat_eq last length ≡ true → has_day made last day ≡ has_day days last day
numbered days made length last day numbers unmarked same =
    rw (eqb-true last length same) (by_number_alone made length day unmarked ∙ numbers day)

pub narrowed_matches : (a v s : Sets) (ks ms : List ℕ) (length : ℕ) → v ≡ a → IsSet years v.years → 28 ≤ length → length ≤ 31
    → ((n : ℕ) → 1 ≤ n → n ≤ 12 → contains ms n ≡ can_have length n) → ((y : ℕ) → 1970 ≤ y → y ≤ 2100 → contains ks y ≡ suits_year length y)
    → s.seconds ≡ v.seconds → s.minutes ≡ v.minutes → s.hours ≡ v.hours → s.days_of_week ≡ v.days_of_week
    → ((d : ℕ) → contains s.days_of_month.ordinals d ≡ (contains v.days_of_month.ordinals d || (v.days_of_month.last_day && nat_eq d length)))
    → s.days_of_month.last_day ≡ false → AreCommon v.months ms s.months → AreCommon v.years ks s.years → (dt : DateTime)
    → matches s dt ≡ (matches a dt && nat_eq (days_in_month dt.date.year dt.date.month) length)
unfolding matches
narrowed_matches a v s ks ms length e set low high can suits seconds minutes hours weekdays days unmarked months years dt =
    rw (← e, seconds, minutes, hours, weekdays, years_common v.years ks s.years dt.date.year years, months dt.date.month)
    (narrowed (contains_year v.years dt.date.year) (contains v.months dt.date.month) (contains_year ks dt.date.year) (contains ms dt.date.month)
    (matches_day_of_month v dt.date) (matches_day_of_month s dt.date) (contains v.days_of_week (weekday_number dt.date)) (matches_time v dt.time) _
    (suited v.years ks ms length dt.date.month dt.date.year set low high can suits dt.date.month_in.0 dt.date.month_in.1)
    (numbered v.days_of_month s.days_of_month length (days_in_month dt.date.year dt.date.month) dt.date.day days unmarked))
