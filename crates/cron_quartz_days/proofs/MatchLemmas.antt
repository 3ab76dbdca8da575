-- What one schedule matches, and what several do.
use Rattle.std.proofs.Common.{◌≡◌, ◌≤◌, ◌++◌, ◌&&◌, ◌||◌, ℕ, Bool, true, false, List, [], ◌∷◌, ◌⊎◌, inl, inr, refl, sym, ap, ◌∙◌, arith, nat_eq, nat_le}
use Rattle.std.proofs.lemmas.Bool.{and_parts, eq-eqb, eqb-true, le-leb, leb-true}
use Rattle.std.proofs.lemmas.List.Folds.{list_any-append}
use Rattle.jiff_core.specs.declared.civil.date.Date.{Date}
use Rattle.jiff_core.specs.declared.civil.datetime.DateTime.{DateTime}
use Rattle.jiff_core.specs.Calendar.{days_in_month}
use Rattle.cron_units.specs.Sets.{Sets}
use Rattle.cron_units.specs.Units.{FieldSet, TimeUnit, contains, set_of, whole}
use Rattle.cron_units.specs.Units as units
use Rattle.cron_units.proofs.SetLemmas.{contains_set, whole_is_all}
use Rattle.cron_moments.specs.Calendar.{weekday_number}
use Rattle.cron_moments.proofs.DateLemmas.{day_low}
use Rattle.cron_time.specs.Matches.{contains_year, has_day, matches, matches_date, matches_time}
use Rattle.cron_time.proofs.Searches.MonthDayLemmas.{longest_31}
use Rattle.cron_tabs.specs.DayRule.{matches_one}
use Rattle.cron_quartz.specs.Days.{from_to, on_days}
use Rattle.cron_quartz_days.specs.Runs.{matches_but_days}

-- ---- tests

pub lone : (b : Bool) → (b || false) ≡ b
lone true = refl
lone false = refl

pub or_cases : (a b : Bool) → (a || b) ≡ true → (a ≡ true) ⊎ (b ≡ true)
or_cases true b h = inl refl
or_cases false b h = inr h

pub or_first : (a b : Bool) → a ≡ true → (a || b) ≡ true
or_first true b h = refl
or_first false b h = absurd (cc)

pub or_second : (a b : Bool) → b ≡ true → (a || b) ≡ true
or_second true b h = refl
or_second false b h = h

split : (y m d w t : Bool) → (((y && m && d) && w) && t) ≡ true → ((y && m && t) ≡ true) × (d ≡ true) × (w ≡ true)
split true true true true true h = (refl, refl, refl)
split true true true true false h = absurd (cc)
split true true true false t h = absurd (cc)
split true true false w t h = absurd (cc)
split true false d w t h = absurd (cc)
split false m d w t h = absurd (cc)

join : (y m d w t : Bool) → (y && m && t) ≡ true → d ≡ true → w ≡ true → (((y && m && d) && w) && t) ≡ true
join true true d w t h e f = rw (e, f) h
join true false d w t h e f = absurd (cc)
join false m d w t h e f = absurd (cc)

-- ---- one schedule

matches_parts : (s : Sets) (dt : DateTime) → matches s dt ≡ (matches_date s dt.date && matches_time s dt.time)
unfolding matches
matches_parts s dt = refl

pub record Matched (days : FieldSet) (week : List ℕ) (s : Sets) (dt : DateTime) : Type 0 where
  pub rest : matches_but_days s dt ≡ true
  pub day : has_day days (days_in_month dt.date.year dt.date.month) dt.date.day ≡ true
  pub weekday : contains week (weekday_number dt.date) ≡ true

pub on_days_matched : (days : FieldSet) (week : List ℕ) (s : Sets) (dt : DateTime) → matches_one (on_days days week s) dt ≡ true → Matched days week s dt
on_days_matched days week s dt h =
    let r : Sets = record s { days_of_month = days; days_of_week = week } in
    let parts = split (contains_year s.years dt.date.year) (contains s.months dt.date.month) (has_day days (days_in_month dt.date.year dt.date.month) dt.date.day)
    (contains week (weekday_number dt.date)) (matches_time s dt.time) (sym (matches_parts r dt) ∙ sym (lone (matches r dt)) ∙ h) in
    record { rest = parts.0; day = parts.1; weekday = parts.2 }

pub matched_on_days : (days : FieldSet) (week : List ℕ) (s : Sets) (dt : DateTime) → Matched days week s dt → matches_one (on_days days week s) dt ≡ true
matched_on_days days week s dt m =
    let r : Sets = record s { days_of_month = days; days_of_week = week } in
    lone (matches r dt) ∙ matches_parts r dt
    ∙ join (contains_year s.years dt.date.year) (contains s.months dt.date.month) (has_day days (days_in_month dt.date.year dt.date.month) dt.date.day)
    (contains week (weekday_number dt.date)) (matches_time s dt.time) m.rest m.day m.weekday

-- ---- days

pub day_high : (d : Date) → d.day ≤ 31
day_high d = let short = longest_31 d.month in let high = day_low d in let low = d.day_in in omega (arith, short)

pub weekday_low : (d : Date) → 1 ≤ weekday_number d
weekday_low d = omega arith

pub weekday_high : (d : Date) → weekday_number d ≤ 7
weekday_high d = omega arith

from_to_is : (first last : ℕ) (d : Date) → has_day (from_to first last) (days_in_month d.year d.month) d.day ≡ (nat_le first d.day && nat_le d.day last)
from_to_is first last d =
    let low = d.day_in in
    lone (contains (from_to first last).ordinals d.day) ∙ contains_set units.days_of_month (λ x. nat_le first x && nat_le x last) d.day (low.0) (day_high d)

pub day_from_to : (first last : ℕ) (d : Date) → has_day (from_to first last) (days_in_month d.year d.month) d.day ≡ true → (first ≤ d.day) × (d.day ≤ last)
day_from_to first last d h =
    let both = and_parts (nat_le first d.day) (nat_le d.day last) (sym (from_to_is first last d) ∙ h) in
    (leb-true first d.day both.0, leb-true d.day last both.1)

pub from_to_day : (first last : ℕ) (d : Date) → first ≤ d.day → d.day ≤ last → has_day (from_to first last) (days_in_month d.year d.month) d.day ≡ true
from_to_day first last d low high = from_to_is first last d ∙ rw (le-leb first d.day low, le-leb d.day last high) refl

pub in_whole : (u : TimeUnit) (x : ℕ) → u.least ≤ x → x ≤ u.greatest → contains (whole u) x ≡ true
in_whole u x low high = ap (λ xs. contains xs x) (sym (whole_is_all u)) ∙ contains_set u (λ n. true) x low high

pub any_weekday : (week : List ℕ) (d : Date) → week ≡ whole units.days_of_week → contains week (weekday_number d) ≡ true
any_weekday week d is = ap (λ xs. contains xs (weekday_number d)) is ∙ in_whole units.days_of_week (weekday_number d) (weekday_low d) (weekday_high d)

pub any_day : (d : Date) → contains (whole units.days_of_month) d.day ≡ true
any_day d = let low = d.day_in in in_whole units.days_of_month d.day (low.0) (day_high d)

pub one_in : (d a : ℕ) → contains (a ∷ []) d ≡ true → d ≡ a
one_in d a h = eqb-true d a (sym (lone (nat_eq d a)) ∙ h)

pub in_one : (d a : ℕ) → d ≡ a → contains (a ∷ []) d ≡ true
in_one d a e = or_first (nat_eq d a) false (eq-eqb d a e)

-- ---- several

pub any_cases : (ss ts : List Sets) (dt : DateTime) → matches_one (ss ++ ts) dt ≡ true → (matches_one ss dt ≡ true) ⊎ (matches_one ts dt ≡ true)
any_cases ss ts dt h = or_cases (matches_one ss dt) (matches_one ts dt) (sym (list_any-append (λ s. matches s dt) ss ts) ∙ h)

pub any_first : (ss ts : List Sets) (dt : DateTime) → matches_one ss dt ≡ true → matches_one (ss ++ ts) dt ≡ true
any_first ss ts dt h = list_any-append (λ s. matches s dt) ss ts ∙ or_first (matches_one ss dt) (matches_one ts dt) h

pub any_second : (ss ts : List Sets) (dt : DateTime) → matches_one ts dt ≡ true → matches_one (ss ++ ts) dt ≡ true
any_second ss ts dt h = list_any-append (λ s. matches s dt) ss ts ∙ or_second (matches_one ss dt) (matches_one ts dt) h
