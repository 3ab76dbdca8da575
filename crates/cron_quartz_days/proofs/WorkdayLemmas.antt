-- The workday that is nearest to a day of the month.
use Rattle.std.proofs.Common.{◌≡◌, ◌≤◌, ◌+◌, ◌-◌, ◌&&◌, ◌++◌, ℕ, Bool, true, false, cond, List, [], ◌∷◌, ◌⊎◌, inl, inr, refl, sym, ◌∙◌, subst, arith, nat_eq, nat_lt, nat_le}
use Rattle.std.specs.Prelude.{◌↔◌}
use Rattle.std.proofs.lemmas.Bool.{cases_eq, cases_lt, and_parts, eq-eqb, eqb-true, ne_eqb, le-leb, leb-true, lt-ltb, ltb-true}
use Rattle.jiff_core.specs.declared.civil.date.Date.{Date}
use Rattle.jiff_core.specs.declared.civil.datetime.DateTime.{DateTime}
use Rattle.jiff_core.specs.Calendar.{days_in_month}
use Rattle.cron_units.specs.Sets.{Sets}
use Rattle.cron_units.specs.Units.{contains}
use Rattle.cron_units.specs.Units as units
use Rattle.cron_units.proofs.SetLemmas.{contains_set}
use Rattle.cron_moments.specs.Calendar.{weekday_number}
use Rattle.cron_tabs.specs.DayRule.{matches_one}
use Rattle.cron_quartz.specs.Days.{by_length, from_to, in_length, near_day, on_day, on_days, on_friday, on_monday, workdays}
use Rattle.cron_quartz_days.specs.Runs.{matches_but_days}
use Rattle.cron_quartz_days.specs.Workdays.{IsLastWorkday, IsNearestWorkday, LastWorkdayRuns, NearLastRuns, NearestWorkdayRuns}
use Rattle.cron_quartz_days.proofs.LengthLemmas.{From, To, by_length_from, by_length_to, long}
use Rattle.cron_quartz_days.proofs.MatchLemmas.{any_cases, any_first, any_second, day_from_to, from_to_day, in_one, matched_on_days, on_days_matched, one_in, weekday_high, weekday_low}
use Rattle.cron_quartz_days.proofs.NearestLemmas.{Kind, itself, monday, friday, kind_nearest, nearest_kind, small, week_is, work, worked}

-- ---- the schedules of a length

is_workdays : (d : Date) → contains workdays (weekday_number d) ≡ (nat_le 2 (weekday_number d) && nat_le (weekday_number d) 6)
is_workdays d = contains_set units.days_of_week (λ v. nat_le 2 v && nat_le v 6) (weekday_number d) (weekday_low d) (weekday_high d)

module _ (n len : ℕ) (r : Sets) (dt : DateTime) (some : 1 ≤ n) where
  abbrev day : ℕ
  day = dt.date.day

  abbrev rest : Type 0
  rest = matches_but_days r dt ≡ true

  abbrev kind : Type 0
  kind = Kind dt.date.year dt.date.month n len day

  by_day : matches_one (on_day n r) dt ≡ true → rest × kind
  by_day h =
      let m = on_days_matched (from_to n n) workdays r dt h in
      let at = day_from_to n n dt.date m.day in
      let both = and_parts (nat_le 2 (weekday_number dt.date)) (nat_le (weekday_number dt.date) 6) (sym (is_workdays dt.date) ∙ m.weekday) in
      let low = leb-true 2 (weekday_number dt.date) both.0 in
      let top = leb-true (weekday_number dt.date) 6 both.1 in
      let is = week_is dt.date in
      let bound = small dt.date.year dt.date.month day in
      (m.rest, itself (omega arith) (omega arith))

  monday_of : (b : Bool) → nat_eq n 1 ≡ b → n + 1 ≤ day → day ≤ cond b 3 (n + 1) → ((n ≡ 1) × ((day ≡ 2) ⊎ (day ≡ 3))) ⊎ ((n ≡ 1 → ⊥) × (day ≡ n + 1))
  monday_of true is low top =
      let one = eqb-true n 1 is in
      inl (one, elim (cases_eq day 2) [ inl e ↦ inl e | inr apart ↦ inr (omega (arith, apart)) ])
  monday_of false is low top = inr (λ e. let yes = eq-eqb n 1 e in cc, omega arith)

  by_monday : (b : Bool) → nat_eq n len ≡ b → matches_one (cond b [] (on_days (from_to (n + 1) (cond (nat_eq n 1) 3 (n + 1))) (2 ∷ []) r)) dt ≡ true → rest × kind
  by_monday true is h = absurd (cc)
  by_monday false is h =
      let days = from_to (n + 1) (cond (nat_eq n 1) 3 (n + 1)) in
      let m = on_days_matched days (2 ∷ []) r dt h in
      let at = day_from_to (n + 1) (cond (nat_eq n 1) 3 (n + 1)) dt.date m.day in
      let week = one_in (weekday_number dt.date) 2 m.weekday in
      let is = week_is dt.date in
      let bound = small dt.date.year dt.date.month day in
      (m.rest, monday (omega arith) (monday_of (nat_eq n 1) refl at.0 at.1))

  friday_of : (b : Bool) → nat_eq n len ≡ b → cond b (n - 2) (n - 1) ≤ day → day ≤ n - 1
      → ((len ≡ n) × ((day ≡ n - 2) ⊎ (day ≡ n - 1))) ⊎ ((len ≡ n → ⊥) × (day ≡ n - 1))
  friday_of true is low top =
      let last = eqb-true n len is in
      inl (sym last, elim (cases_eq day (n - 1)) [ inl e ↦ inr e | inr apart ↦ inl (omega (arith, apart)) ])
  friday_of false is low top = inr (λ e. let yes = eq-eqb n len (sym e) in cc, omega arith)

  by_friday : n ≤ len → (b : Bool) → nat_eq n 1 ≡ b → matches_one (cond b [] (on_days (from_to (cond (nat_eq n len) (n - 2) (n - 1)) (n - 1)) (6 ∷ []) r)) dt ≡ true
      → rest × kind
  by_friday among true is h = absurd (cc)
  by_friday among false is h =
      let days = from_to (cond (nat_eq n len) (n - 2) (n - 1)) (n - 1) in
      let m = on_days_matched days (6 ∷ []) r dt h in
      let at = day_from_to (cond (nat_eq n len) (n - 2) (n - 1)) (n - 1) dt.date m.day in
      let week = one_in (weekday_number dt.date) 6 m.weekday in
      let is = week_is dt.date in
      let bound = small dt.date.year dt.date.month day in
      (m.rest, friday (omega arith) among (friday_of (nat_eq n len) refl at.0 at.1))

  matched_kind : n ≤ len → matches_one (on_day n r ++ (on_monday n len r ++ on_friday n len r)) dt ≡ true → rest × kind
  matched_kind among h = elim (any_cases (on_day n r) (on_monday n len r ++ on_friday n len r) dt h) [
    | inl a ↦ by_day a
    | inr more ↦ elim (any_cases (on_monday n len r) (on_friday n len r) dt more) [
      | inl b ↦ by_monday (nat_eq n len) refl b
      | inr c ↦ by_friday among (nat_eq n 1) refl c
    ]
  ]

  at_monday : (b : Bool) → nat_eq n 1 ≡ b → ((n ≡ 1) × ((day ≡ 2) ⊎ (day ≡ 3))) ⊎ ((n ≡ 1 → ⊥) × (day ≡ n + 1)) → (n + 1 ≤ day) × (day ≤ cond b 3 (n + 1))
  at_monday true is (inl (one, inl e)) = (omega arith, omega arith)
  at_monday true is (inl (one, inr e)) = (omega arith, omega arith)
  at_monday true is (inr (more, e)) = absurd (more (eqb-true n 1 is))
  at_monday false is (inl (one, e)) = absurd (let yes = eq-eqb n 1 one in cc)
  at_monday false is (inr (more, e)) = (omega arith, omega arith)

  at_friday : (b : Bool) → nat_eq n len ≡ b → ((len ≡ n) × ((day ≡ n - 2) ⊎ (day ≡ n - 1))) ⊎ ((len ≡ n → ⊥) × (day ≡ n - 1))
      → (cond b (n - 2) (n - 1) ≤ day) × (day ≤ n - 1)
  at_friday true is (inl (last, inl e)) = (omega arith, omega arith)
  at_friday true is (inl (last, inr e)) = (omega arith, omega arith)
  at_friday true is (inr (more, e)) = absurd (more (sym (eqb-true n len is)))
  at_friday false is (inl (last, e)) = absurd (let yes = eq-eqb n len (sym last) in cc)
  at_friday false is (inr (more, e)) = (omega arith, omega arith)

  kind_matched : day ≤ len → rest → kind → matches_one (on_day n r ++ (on_monday n len r ++ on_friday n len r)) dt ≡ true
  kind_matched high all (itself e on) =
      let is = week_is dt.date in
      any_first (on_day n r) (on_monday n len r ++ on_friday n len r) dt (matched_on_days (from_to n n) workdays r dt (record {
        rest = all;
        day = from_to_day n n dt.date (omega arith) (omega arith);
        weekday = is_workdays dt.date ∙ rw (le-leb 2 (weekday_number dt.date) (omega arith), le-leb (weekday_number dt.date) 6 (omega arith)) refl;
      }))
  kind_matched high all (monday on which) =
      let is = week_is dt.date in
      let at = at_monday (nat_eq n 1) refl which in
      let apart : nat_eq n len ≡ false = ne_eqb n len (let low = at.0 in λ e. omega arith) in
      any_second (on_day n r) (on_monday n len r ++ on_friday n len r) dt (any_first (on_monday n len r) (on_friday n len r) dt (rw apart (matched_on_days
      (from_to (n + 1) (cond (nat_eq n 1) 3 (n + 1))) (2 ∷ []) r dt (record {
        rest = all;
        day = from_to_day (n + 1) (cond (nat_eq n 1) 3 (n + 1)) dt.date at.0 at.1;
        weekday = in_one (weekday_number dt.date) 2 (omega arith);
      }))))
  kind_matched high all (friday on among which) =
      let is = week_is dt.date in
      let at = at_friday (nat_eq n len) refl which in
      let low = dt.date.day_in in
      let apart : nat_eq n 1 ≡ false = ne_eqb n 1 (let top = at.1 in let first = low.0 in λ e. omega arith) in
      any_second (on_day n r) (on_monday n len r ++ on_friday n len r) dt (any_second (on_monday n len r) (on_friday n len r) dt (rw apart (matched_on_days
      (from_to (cond (nat_eq n len) (n - 2) (n - 1)) (n - 1)) (6 ∷ []) r dt (record {
        rest = all;
        day = from_to_day (cond (nat_eq n len) (n - 2) (n - 1)) (n - 1) dt.date at.0 at.1;
        weekday = in_one (weekday_number dt.date) 6 (omega arith);
      }))))

-- ---- the months of each length

-- the day to which the workday is nearest, by the length of the month
module _ (near : ℕ → ℕ) (s : Sets) (dt : DateTime) where
  record IsAt (len : ℕ) : Type 0 where
    some : 1 ≤ near len
    among : near len ≤ len
    kind : Kind dt.date.year dt.date.month (near len) len dt.date.day

  abbrev form : ℕ → Sets → List Sets
  form len = near_day (near len) len

  near_by : (len : ℕ) (b : Bool) → (nat_lt 0 (near len) && nat_le (near len) len) ≡ b
      → matches_one (cond b (on_day (near len) (in_length len s) ++ (on_monday (near len) len (in_length len s) ++ on_friday (near len) len (in_length len s))) []) dt ≡ true
      → (matches_but_days (in_length len s) dt ≡ true) × IsAt len
  near_by len false is h = absurd (cc)
  near_by len true is h =
      let both = and_parts (nat_lt 0 (near len)) (nat_le (near len) len) is in
      let some : 1 ≤ near len = let less = ltb-true 0 (near len) both.0 in omega arith in
      let among = leb-true (near len) len both.1 in
      let found = matched_kind (near len) len (in_length len s) dt some among h in
      (found.0, record { some = some; among = among; kind = found.1 })

  near_to : (len : ℕ) → To s dt form IsAt len
  near_to len h = near_by len (nat_lt 0 (near len) && nat_le (near len) len) refl h

  near_from : (len : ℕ) → From s dt form IsAt len
  near_from len same rest at =
      let low = dt.date.day_in in
      let some : nat_lt 0 (near len) ≡ true = let least = at.some in lt-ltb 0 (near len) (omega arith) in
      let among : nat_le (near len) len ≡ true = le-leb (near len) len at.among in
      rw (some, among) (kind_matched (near len) len (in_length len s) dt at.some (let high = low.1 in omega arith) rest at.kind)

  abbrev last : ℕ
  last = days_in_month dt.date.year dt.date.month

  at_nearest : IsAt last → IsNearestWorkday (near last) dt.date
  at_nearest at =
      let low = dt.date.day_in in
      let found = kind_nearest dt.date.year dt.date.month (near last) last dt.date.day at.some ((long s dt).0) (low.0) (low.1) at.kind in
      record {
        some = at.some;
        among = at.among;
        workday = work dt.date.year dt.date.month dt.date.day found.workday;
        nearest = λ j first end on. found.nearest j first end (worked dt.date.year dt.date.month j on);
      }

  nearest_at : IsNearestWorkday (near last) dt.date → IsAt last
  nearest_at is =
      let low = dt.date.day_in in
      record {
        some = is.some;
        among = is.among;
        kind = nearest_kind dt.date.year dt.date.month (near last) last dt.date.day is.some ((long s dt).0) (low.0) (low.1) (record {
          among = is.among;
          workday = worked dt.date.year dt.date.month dt.date.day is.workday;
          nearest = λ j first end on. is.nearest j first end (work dt.date.year dt.date.month j on);
        });
      }

  near_runs : (matches_one (by_length form s) dt ≡ true) ↔ ((matches_but_days s dt ≡ true) × IsNearestWorkday (near last) dt.date)
  near_runs = (
    λ h. let found = by_length_to s dt form IsAt (near_to 28) (near_to 29) (near_to 30) (near_to 31) h in (found.0, at_nearest found.1),
    λ h. by_length_from s dt form IsAt (near_from 28) (near_from 29) (near_from 30) (near_from 31) h.0 (nearest_at h.1),
  )

pub nearest_workday_runs : NearestWorkdayRuns
nearest_workday_runs n s dt all = near_runs (λ len. n) s dt

pub near_last_runs : NearLastRuns
near_last_runs k s dt all = near_runs (λ len. len - k) s dt

-- ---- the last workday

nearest_last : (d : Date) → IsNearestWorkday (days_in_month d.year d.month) d → IsLastWorkday d
nearest_last d near = record {
  workday = near.workday;
  last = λ j past end on.
      let low = d.day_in in
      let first = low.0 in
      let nearer = near.nearest j (omega arith) end on in
      omega arith;
}

last_nearest : (d : Date) → IsLastWorkday d → IsNearestWorkday (days_in_month d.year d.month) d
last_nearest d last =
    let within = d.day_in in
    let low = within.0 in
    let high = within.1 in
    record {
      some = omega arith;
      among = omega arith;
      workday = last.workday;
      nearest = λ j first end on. elim (cases_lt d.day j) [ inl past ↦ absurd (last.last j past end on) | inr no_later ↦ omega arith ];
    }

pub last_workday_runs : LastWorkdayRuns
last_workday_runs s dt all =
    let runs = near_last_runs 0 s dt all in
    let same : days_in_month dt.date.year dt.date.month - 0 ≡ days_in_month dt.date.year dt.date.month = omega arith in (
      λ h. let found = (runs.0) h in (found.0, nearest_last dt.date (subst (λ n. IsNearestWorkday n dt.date) same (found.1))),
      λ h. (runs.1) (h.0, subst (λ n. IsNearestWorkday n dt.date) (sym same) (last_nearest dt.date h.1)),
    )
