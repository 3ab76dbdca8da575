-- The forms that name no workday.
use Rattle.std.proofs.Common.{◌≡◌, ◌≤◌, ◌<◌, ◌+◌, ◌-◌, ◌*◌, ◌%◌, ℕ, Bool, true, false, cond, List, [], ◌∷◌, inl, inr, refl, sym, ◌∙◌, subst, arith, nat_eq, nat_lt}
use Rattle.std.specs.Prelude.{◌↔◌}
use Rattle.std.proofs.lemmas.Bool.{eq-eqb, eqb-true, lt-ltb, ltb-true, cases_lt}
use Rattle.jiff_core.specs.declared.civil.date.Date.{Date}
use Rattle.jiff_core.specs.declared.civil.datetime.DateTime.{DateTime}
use Rattle.jiff_core.specs.Calendar.{days_from_civil, days_in_month}
use Rattle.jiff_core.proofs.CalendarLemmas.{weekday_number_bound}
use Rattle.jiff_core.proofs.DateLemmas.{weekday_number-day}
use Rattle.cron_units.specs.Sets.{Sets}
use Rattle.cron_units.specs.Units.{contains, whole, with_mark}
use Rattle.cron_units.specs.Units as units
use Rattle.cron_moments.specs.Calendar.{weekday_number}
use Rattle.cron_tabs.specs.DayRule.{matches_one}
use Rattle.cron_quartz.specs.Days.{before_end, by_length, from_to, in_last_week, in_length, on_days}
use Rattle.cron_quartz_days.specs.Runs.{BeforeLastRuns, DatesRun, HasAllDays, IsLastWeekday, LastWeekdayRuns, NthWeekdayRuns, WeekdaysRun, matches_but_days, weekday_in}
use Rattle.cron_quartz_days.proofs.LengthLemmas.{From, To, by_length_from, by_length_to}
use Rattle.cron_quartz_days.proofs.MatchLemmas.{any_day, any_weekday, day_from_to, from_to_day, in_one, lone, matched_on_days, on_days_matched, one_in}
use Rattle.cron_quartz_days.proofs.WeekLemmas.{place_is}

-- ---- items

pub dates_run : DatesRun
dates_run days s dt all = (
  λ h. let m = on_days_matched days s.days_of_week s dt h in (m.rest, m.day),
  λ h. matched_on_days days s.days_of_week s dt (record { rest = h.0; day = h.1; weekday = any_weekday s.days_of_week dt.date all.days_of_week }),
)

pub weekdays_run : WeekdaysRun
weekdays_run week s dt all = (
  λ h. let m = on_days_matched s.days_of_month week s dt h in (m.rest, m.weekday),
  λ h. matched_on_days s.days_of_month week s dt (record {
    rest = h.0;
    day = rw all.days_of_month (lone (contains (whole units.days_of_month) dt.date.day) ∙ any_day dt.date);
    weekday = h.1;
  }),
)

-- ---- days before the last

module _ (k : ℕ) (s : Sets) (dt : DateTime) (all : HasAllDays s) where
  abbrev day : ℕ
  day = dt.date.day

  abbrev Before : ℕ → Type 0
  Before n = day + k ≡ n

  before_by : (n : ℕ) (b : Bool) → nat_lt k n ≡ b
      → matches_one (cond b (on_days (from_to (n - k) (n - k)) s.days_of_week (in_length n s)) []) dt ≡ true
      → (matches_but_days (in_length n s) dt ≡ true) × Before n
  before_by n true is h =
      let m = on_days_matched (from_to (n - k) (n - k)) s.days_of_week (in_length n s) dt h in
      let at = day_from_to (n - k) (n - k) dt.date m.day in
      let less = ltb-true k n is in
      (m.rest, omega arith)
  before_by n false is h = absurd (cc)

  to_before : (n : ℕ) → To s dt (before_end k) Before n
  to_before n h = before_by n (nat_lt k n) refl h

  from_before : (n : ℕ) → From s dt (before_end k) Before n
  from_before n same rest so =
      let low = dt.date.day_in in
      let less : nat_lt k n ≡ true = lt-ltb k n (omega arith) in
      rw less (matched_on_days (from_to (n - k) (n - k)) s.days_of_week (in_length n s) dt (record {
        rest = rest;
        day = from_to_day (n - k) (n - k) dt.date (omega arith) (omega arith);
        weekday = any_weekday s.days_of_week dt.date all.days_of_week;
      }))

-- ---- the last such day of the week

module _ (w : ℕ) (s : Sets) (dt : DateTime) where
  abbrev weekday : ℕ
  weekday = weekday_number dt.date

  -- it is in the last seven days
  record InLastWeek (n : ℕ) : Type 0 where
    is : weekday ≡ w
    low : n - 6 ≤ dt.date.day
    high : dt.date.day ≤ n

  to_last_week : (n : ℕ) → To s dt (in_last_week w) InLastWeek n
  to_last_week n h =
      let m = on_days_matched (from_to (n - 6) n) (w ∷ []) (in_length n s) dt h in
      let at = day_from_to (n - 6) n dt.date m.day in
      (m.rest, record { is = one_in weekday w m.weekday; low = at.0; high = at.1 })

  from_last_week : (n : ℕ) → From s dt (in_last_week w) InLastWeek n
  from_last_week n same rest so =
      matched_on_days (from_to (n - 6) n) (w ∷ []) (in_length n s) dt
      (record { rest = rest; day = from_to_day (n - 6) n dt.date so.low so.high; weekday = in_one weekday w so.is })

-- a later day of the month has the day of the week that so many days further on has
later_weekday : (d : Date) (j : ℕ) → d.day ≤ j → weekday_in d.year d.month j ≡ ((weekday_number d - 1) + (j - d.day)) % 7 + 1
later_weekday d j le =
    let low = d.day_in in
    let moved = weekday_number-day d.year d.month d.day j (low.0) le in
    let small = weekday_number_bound (days_from_civil d.year d.month d.day) in
    omega arith

last_week_last : (w : ℕ) (s : Sets) (dt : DateTime) → InLastWeek w s dt (days_in_month dt.date.year dt.date.month) → IsLastWeekday w dt.date
last_week_last w s dt so = record {
  weekday = so.is;
  last = λ j past high e.
      let later = later_weekday dt.date j (omega arith) in
      let is = so.is in
      let low = so.low in
      let few : j - dt.date.day < 7 = omega arith in
      let some : 0 < j - dt.date.day = omega arith in
      omega arith;
}

last_last_week : (w : ℕ) (s : Sets) (dt : DateTime) → IsLastWeekday w dt.date → InLastWeek w s dt (days_in_month dt.date.year dt.date.month)
last_last_week w s dt last =
    let len = days_in_month dt.date.year dt.date.month in
    let within = dt.date.day_in in
    record {
      is = last.weekday;
      low = elim (cases_lt len (dt.date.day + 7)) [
        | inl less ↦ omega arith
        | inr more ↦
            let later = later_weekday dt.date (dt.date.day + 7) (omega arith) in
            let seven : dt.date.day + 7 - dt.date.day ≡ 7 = omega arith in
            let is = last.weekday in
            absurd (last.last (dt.date.day + 7) (omega arith) more (omega arith))
      ];
      high = within.1;
    }

pub last_weekday_runs : LastWeekdayRuns
last_weekday_runs w s dt all = (
  λ h.
      let found = by_length_to s dt (in_last_week w) (InLastWeek w s dt) (to_last_week w s dt 28) (to_last_week w s dt 29) (to_last_week w s dt 30) (to_last_week w s dt 31) h in
      (found.0, last_week_last w s dt found.1),
  λ h. by_length_from s dt (in_last_week w) (InLastWeek w s dt) (from_last_week w s dt 28) (from_last_week w s dt 29) (from_last_week w s dt 30) (from_last_week w s dt 31) h.0
      (last_last_week w s dt h.1),
)

-- ---- the n-th such day of the week

pub nth_weekday_runs : NthWeekdayRuns
nth_weekday_runs w n s dt all =
    let days = from_to (7 * n - 6) (7 * n) in
    let low = dt.date.day_in in (
      λ h.
          let m = on_days_matched days (w ∷ []) s dt h in
          let at = day_from_to (7 * n - 6) (7 * n) dt.date m.day in
          (m.rest, record { weekday = one_in (weekday_number dt.date) w m.weekday; place = let is = place_is dt.date in let some = low.0 in omega arith }),
      λ h.
          let place = h.1.place in
          let is = place_is dt.date in
          let some = low.0 in
          matched_on_days days (w ∷ []) s dt (record {
            rest = h.0;
            day = from_to_day (7 * n - 6) (7 * n) dt.date (omega arith) (omega arith);
            weekday = in_one (weekday_number dt.date) w h.1.weekday;
          }),
    )

-- ---- the last day

abbrev Runs : ℕ → List Sets → Sets → DateTime → Type 0
Runs k list s dt = (matches_one list dt ≡ true) ↔ ((matches_but_days s dt ≡ true) × (dt.date.day + k ≡ days_in_month dt.date.year dt.date.month))

last_day : (s : Sets) (dt : DateTime) → HasAllDays s → Runs 0 (on_days (with_mark [] true) s.days_of_week s) s dt
last_day s dt all = (
  λ h. let m = on_days_matched (with_mark [] true) s.days_of_week s dt h in
      let is = eqb-true dt.date.day (days_in_month dt.date.year dt.date.month) m.day in
      (m.rest, omega arith),
  λ h. matched_on_days (with_mark [] true) s.days_of_week s dt (record {
    rest = h.0;
    day = eq-eqb dt.date.day (days_in_month dt.date.year dt.date.month) (let is = h.1 in omega arith);
    weekday = any_weekday s.days_of_week dt.date all.days_of_week;
  }),
)

days_before : (k : ℕ) (s : Sets) (dt : DateTime) → HasAllDays s → Runs k (by_length (before_end k) s) s dt
days_before k s dt all = (
  λ h. by_length_to s dt (before_end k) (Before k s dt all) (to_before k s dt all 28) (to_before k s dt all 29) (to_before k s dt all 30) (to_before k s dt all 31) h,
  λ h. by_length_from s dt (before_end k) (Before k s dt all) (from_before k s dt all 28) (from_before k s dt all 29) (from_before k s dt all 30) (from_before k s dt all 31)
      h.0 h.1,
)

runs_by : (k : ℕ) (s : Sets) (dt : DateTime) → HasAllDays s → (b : Bool) → nat_eq k 0 ≡ b
    → Runs k (cond b (on_days (with_mark [] true) s.days_of_week s) (by_length (before_end k) s)) s dt
runs_by k s dt all true is = let zero_days : 0 ≡ k = sym (eqb-true k 0 is) in
    subst (λ j. Runs j (on_days (with_mark [] true) s.days_of_week s) s dt) zero_days (last_day s dt all)
runs_by k s dt all false is = days_before k s dt all

pub before_last_runs : BeforeLastRuns
before_last_runs k s dt all = runs_by k s dt all (nat_eq k 0) refl
