-- Lines that were written, as they are read.
use Rattle.std.proofs.Common.{◌≡◌, ◌+◌, ◌-◌, ◌≤◌, ◌<◌, ℕ, Bool, true, false, ◌||◌, ◌&&◌, nat_eq, nat_le, Some, List, [], ◌∷◌, ◌++◌, refl, sym, ap, ◌∙◌, append_assoc, append-nil, codes, arith}
use Rattle.std.proofs.Math.Bool.{and_comm, or-false}
use Rattle.std.proofs.lemmas.Bool.{lt-ltb}
use Rattle.std.proofs.lemmas.Bool.Decides.{nat_tests}
use Rattle.jiff_core.specs.Calendar.{days_in_month}
use Rattle.jiff_core.specs.Date.{epoch_day}
use Rattle.jiff_core.specs.declared.civil.date.Date.{Date}
use Rattle.jiff_core.proofs.CalendarLemmas.{days_in_month_bounds, weekday_number_bound}
use Rattle.cron_moments.specs.Civil.{civil}
use Rattle.cron_units.specs.Sets.{Sets}
use Rattle.cron_units.specs.Units.{contains, whole}
use Rattle.cron_units.specs.Units as units
use Rattle.cron_time.specs.Matches.{contains_year}
use Rattle.cron_oncalendar.specs.Calendars.{Component, Calendar, ranges, admits, admits_year, calendar_of, calendar_matches, counted_weekday, parts}
use Rattle.cron_oncalendar.specs.Inner.Pieces.{level, is_under, matches_by, IsComponent, IsInYears, AreDates, AreLines, AreTimes, AreWeekdays}
use Rattle.cron_oncalendar.proofs.PartLemmas.{first_part, one_part, under_append, under_more}
use Rattle.cron_oncalendar.proofs.YearLemmas.{civil_in_years}

-- ---- dates and times of day

year_is : (k : Component) (xs : List ℕ) (d : Date) → IsInYears d → ((x : ℕ) → 1970 ≤ x → x ≤ 2100 → admits k x ≡ contains xs x)
    → admits_year k d.year ≡ contains_year xs d.year
year_is k xs d h same = rw h.is (same h.number h.low h.high)

three_and : (a b c x y z : Bool) → a ≡ x → b ≡ y → c ≡ z → ((a && b) && c) ≡ ((x && y) && z)
three_and a b c x y z e f g = rw (e, f, g) refl

-- three components under 3 with a byte between each two
three_under : (k c : ℕ) (p q r : List ℕ) → 3 ≤ k → level c < k → is_under 3 p ≡ true → is_under 3 q ≡ true → is_under 3 r ≡ true
    → is_under k (p ++ c ∷ (q ++ c ∷ r)) ≡ true
three_under k c p q r l m a b d =
    under_append k p (c ∷ (q ++ c ∷ r)) (under_more 3 k p l a)
    (behind (q ++ c ∷ r) (under_append k q (c ∷ r) (under_more 3 k q l b) (behind r (under_more 3 k r l d)))) where
      behind : (t : List ℕ) → is_under k t ≡ true → is_under k (c ∷ t) ≡ true
      behind t e = rw (lt-ltb (level c) k m) e

three_parts : (c : ℕ) (p q r : List ℕ) → 3 ≤ level c → is_under 3 p ≡ true → is_under 3 q ≡ true → is_under 3 r ≡ true
    → parts c (p ++ c ∷ (q ++ c ∷ r)) ≡ p ∷ q ∷ r ∷ []
three_parts c p q r l a b d =
    first_part c 3 p (q ++ c ∷ r) l a
    ∙ ap (λ (ts : List (List ℕ)). p ∷ ts) (first_part c 3 q r l b ∙ ap (λ (ts : List (List ℕ)). q ∷ ts) (one_part c 3 r l d))

pub numbered_dates : (s : Sets) (ys ms ds : List ℕ) → IsComponent units.years s.years ys → IsComponent units.months s.months ms
    → IsComponent units.days_of_month s.days_of_month.ordinals ds → AreDates s false (ys ++ 45 ∷ (ms ++ 45 ∷ ds))
unfolding level
numbered_dates s ys ms ds y m d =
    record {
      says = record { years = y.says; months = m.says; from_end = false; days = d.says };
      under = three_under 5 45 ys ms ds (omega arith) (omega arith) y.under m.under d.under;
      read = rw (three_parts 45 ys ms ds (omega arith) y.under m.under d.under, y.read 2199 (omega arith), m.read 12 (omega arith), d.read 31 (omega arith)) refl;
      same = λ date h. three_and _ _ _ _ _ _ (year_is y.says s.years date h y.same) (m.same date.month date.month_in.0 date.month_in.1)
          (d.same date.day date.day_in.0 (omega (arith, date.day_in, days_in_month_bounds date.year date.month)));
    }

first_from_end : (length day : ℕ) → 1 ≤ day → day ≤ length → ((nat_le 1 (length + 1 - day) && nat_le (length + 1 - day) 1) || false) ≡ nat_eq day length
first_from_end length day l g = grind (arith, nat_tests)

pub last_dates : (s : Sets) (ys ms : List ℕ) → IsComponent units.years s.years ys → IsComponent units.months s.months ms
    → AreDates s true (ys ++ 45 ∷ (ms ++ codes "~01"))
unfolding level
last_dates s ys ms y m =
    let last = ms ++ codes "~01" in
    let under : is_under 4 last ≡ true = under_append 4 ms (codes "~01") (under_more 3 4 ms (omega arith) m.under) refl in
    let outer : parts 45 (ys ++ 45 ∷ last) ≡ ys ∷ last ∷ [] =
    first_part 45 3 ys last (omega arith) y.under ∙ ap (λ (ts : List (List ℕ)). ys ∷ ts) (one_part 45 4 last (omega arith) under) in
    let inner : parts 126 last ≡ ms ∷ codes "01" ∷ [] = first_part 126 3 ms (codes "01") (omega arith) m.under in
    record {
      says = record { years = y.says; months = m.says; from_end = true; days = ranges ((1, 1) ∷ []) };
      under = under_append 5 ys (45 ∷ last) (under_more 3 5 ys (omega arith) y.under) (under_more 4 5 last (omega arith) under);
      read = rw (outer, inner, y.read 2199 (omega arith), m.read 12 (omega arith)) refl;
      same = λ date h. three_and _ _ _ _ _ _ (year_is y.says s.years date h y.same) (m.same date.month date.month_in.0 date.month_in.1)
          (first_from_end (days_in_month date.year date.month) date.day date.day_in.0 date.day_in.1);
    }

pub day_times : (s : Sets) (hs ms ss : List ℕ) → IsComponent units.hours s.hours hs → IsComponent units.minutes s.minutes ms
    → IsComponent units.seconds s.seconds ss → AreTimes s (hs ++ 58 ∷ (ms ++ 58 ∷ ss))
unfolding level
day_times s hs ms ss h m d =
    record {
      says = record { hours = h.says; minutes = m.says; seconds = d.says };
      under = three_under 4 58 hs ms ss (omega arith) (omega arith) h.under m.under d.under;
      read = rw (three_parts 58 hs ms ss (omega arith) h.under m.under d.under, h.read 23 (omega arith), m.read 59 (omega arith), d.read 59 (omega arith)) refl;
      same = λ t. three_and _ _ _ _ _ _ (h.same t.hour (omega arith) (omega (arith, t.hour_in))) (m.same t.minute (omega arith) (omega (arith, t.minute_in)))
          (d.same t.second (omega arith) (omega (arith, t.second_in)));
    }

-- ---- a line

turned : (w d t x y z : Bool) → w ≡ x → d ≡ y → t ≡ z → ((w && d) && t) ≡ ((y && x) && z)
turned w d t x y z e f g = rw (e, f, g) (ap (λ (b : Bool). b && z) (and_comm x y))

pub one_line : (s : Sets) (last_day : Bool) (after ws ds ts : List ℕ) → AreWeekdays s.days_of_week ws → AreDates s last_day ds → AreTimes s ts
    → AreLines after 1 (matches_by s last_day) (ws ++ (ds ++ 32 ∷ (ts ++ (after ++ 10 ∷ []))))
unfolding level calendar_of
one_line s last_day after ws ds ts w d t =
    let rest = ds ++ 32 ∷ ts in
    let end = after ++ 10 ∷ [] in
    let line = ws ++ rest in
    let cut : parts 32 rest ≡ ds ∷ ts ∷ [] =
    first_part 32 5 ds ts (omega arith) d.under ∙ ap (λ (ps : List (List ℕ)). ds ∷ ps) (one_part 32 4 ts (omega arith) t.under) in
    let under : is_under 6 line ≡ true = under_append 6 ws rest w.under
    (under_append 6 ds (32 ∷ ts) (under_more 5 6 ds (omega arith) d.under) (under_more 4 6 ts (omega arith) t.under)) in
    let says : Calendar = record { weekdays = w.says; dates = d.says; times = t.says } in
    let read : calendar_of line ≡ Some says = w.read rest ds ts cut ∙ rw (d.read, t.read) refl in
    record {
      lines = line ∷ [];
      counted = refl;
      ended = sym (append-nil (line ++ end) ∙ (append_assoc ws rest end ∙ ap (λ (p : List ℕ). ws ++ p) (append_assoc ds (32 ∷ ts) end)));
      each = (record { under = under; read = rw read refl }, tt);
      same = λ c less.
          let dt = civil c in
          let week = weekday_number_bound (epoch_day dt.date) in
          rw read (or-false (calendar_matches says dt)
          ∙ turned _ _ _ _ _ _ (w.same (counted_weekday dt.date) (omega arith) (omega (arith, week))) (d.same dt.date (civil_in_years c less)) (t.same dt.time));
    }
