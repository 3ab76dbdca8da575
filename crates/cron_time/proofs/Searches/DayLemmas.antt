-- Days by their ranks, a hundred for each month, and by their numbers.
use Rattle.std.proofs.Common.{◌≡◌, ℕ, ◌+◌, ◌/◌, ◌%◌, ◌<◌, ◌≤◌, ◌==◌, ◌&&◌, ◌||◌, true, false, nat_lt, nat_le, nat_eq, Bool, cond, ℤ, pos, ◌≤ℤ◌, unsigned_abs, Option, Some, None, option_map, IfSome, refl, sym, ap, subst, ◌∙◌, inl, inr, arith}
use Rattle.std.proofs.Math.Bool.{or-false}
use Rattle.std.proofs.lemmas.Bool.{both_ways, cases_Bool, and_parts, and_from, and_left, and_right, cases_lt, lt-ltb, le-ltb, leb-true, le-leb}
use Rattle.jiff_core.specs.declared.civil.date.Date.{Date}
use Rattle.jiff_core.specs.Calendar.{days_in_month, is_leap_year}
use Rattle.jiff_core.proofs.SignedLemmas.{signed_arith}
use Rattle.cron_moments.specs.Civil.{days_in_range}
use Rattle.cron_units.specs.declared.way.Way.{Way}
use Rattle.cron_units.specs.declared.way.Way.TheVariants.{Ahead, Back}
use Rattle.cron_units.specs.Nearest.{LiesFrom, Precedes, IsNearest, IsNearestAt}
use Rattle.cron_units.specs.Sets.{Sets}
use Rattle.cron_units.specs.Units.{FieldSet, contains}
use Rattle.cron_moments.specs.Calendar.{rank_of_date, year_of, month_of, length_of, weekday_number}
use Rattle.cron_moments.specs.CivilDates.{date_numbered}
use Rattle.cron_moments.proofs.DateLemmas.{low_at, rank_lt, year_is, day_low}
use Rattle.cron_moments.proofs.NumberLemmas.{IsNumber, number_is}
use Rattle.cron_time.specs.Search.Inner.Blocks.{IsSplit}
use Rattle.cron_time.specs.Search.Inner.DaySearch.{candidate_day}
use Rattle.cron_time.specs.Search.Inner.Days.{day_rank, number_of, IsInRange, longest}
use Rattle.cron_time.specs.Search.Inner.Numbers.{beyond, matches_day, matches_month, matches_rank}
use Rattle.cron_time.specs.Matches.{has_day, is_candidate, matches_date}
use Rattle.cron_time.specs.declared.search.days.Day.{Day}
use Rattle.cron_time.proofs.Searches.BlockLemmas.{both_split, first_or_later}
use Rattle.cron_time.proofs.Searches.WayLemmas.{lies_self, lies_not_before, lies_or_before, lies_after, beyond_after, after_beyond}

pub split_rank : (s : Sets) → IsSplit 100 (matches_month s) (matches_day s) (matches_rank s)
split_rank s = both_split 100 (matches_month s) (matches_day s) (matches_rank s) (λ n. refl)

-- the ranks go with the numbers
precedes_rank : (way : Way) (i j : ℕ) → i < days_in_range → j < days_in_range → Precedes way i j
    → Precedes way (rank_of_date (date_numbered i).0) (rank_of_date (date_numbered j).0)
precedes_rank Ahead i j hi hj h = rank_lt i j h hj
precedes_rank Back i j hi hj h = rank_lt j i h hi

pub lies_rank : (way : Way) (i j : ℕ) → i < days_in_range → j < days_in_range → LiesFrom way (pos i) j
    → LiesFrom way (pos (rank_of_date (date_numbered i).0)) (rank_of_date (date_numbered j).0)
lies_rank way i j hi hj h =
    elim (first_or_later way i j h) [
      | inl e ↦ rw e (lies_self way (rank_of_date (date_numbered i).0))
      | inr later ↦ lies_after way _ _ (precedes_rank way i j hi hj later)
    ]

pub rank_lies : (way : Way) (i j : ℕ) → i < days_in_range → j < days_in_range → LiesFrom way (pos (rank_of_date (date_numbered i).0)) (rank_of_date (date_numbered j).0)
    → LiesFrom way (pos i) j
rank_lies way i j hi hj h =
    elim (lies_or_before way i j) [
      | inl lies ↦ lies
      | inr early ↦ lies_not_before way _ _ h (precedes_rank way j i hj hi early)
    ]

pub past_rank : (way : Way) (i j : ℕ) → i < days_in_range → j < days_in_range → LiesFrom way (beyond way i) j
    → LiesFrom way (beyond way (rank_of_date (date_numbered i).0)) (rank_of_date (date_numbered j).0)
past_rank way i j hi hj h =
    beyond_after way _ _ (precedes_rank way i j hi hj (after_beyond way i j h))

pub rank_past : (way : Way) (i j : ℕ) → i < days_in_range → j < days_in_range
    → LiesFrom way (beyond way (rank_of_date (date_numbered i).0)) (rank_of_date (date_numbered j).0) → LiesFrom way (beyond way i) j
rank_past way i j hi hj h =
    let later = after_beyond way _ _ h in
    elim (lies_or_before way j i) [
      | inl lies ↦ lies_not_before way _ _ (lies_rank way j i hj hi lies) later
      | inr early ↦ beyond_after way i j early
    ]

and_same : (a b : Bool) → b ≡ true → (a && b) ≡ a
and_same true b h = h
and_same false b h = refl

matches_parts : (s : Sets) (p y m k : ℕ) → p / 100 / 12 ≡ y → p / 100 % 12 + 1 ≡ m → p % 100 ≡ k → k ≤ days_in_month (pos y) m
    → matches_rank s p ≡ (contains s.years y && contains s.months m && has_day s.days_of_month (days_in_month (pos y) m) k)
matches_parts s p y m k ey em ek fits =
    rw (ey, em, ek) (rw (and_same (has_day s.days_of_month (days_in_month (pos y) m) k) _ (le-leb k (days_in_month (pos y) m) fits)) refl)

-- a date is a candidate exactly if its rank is one's
pub rank_candidate : (s : Sets) (d : Date) → pos 1970 ≤ℤ d.year → matches_rank s (rank_of_date d) ≡ is_candidate s d
rank_candidate s d low =
    let e = year_is d.year low in
    let P : ℤ → Type 0 = λ y. d.day ≤ days_in_month y d.month in
    let fits : d.day ≤ days_in_month (pos (unsigned_abs d.year)) d.month = subst P e d.day_in.1 in
    let short = day_low d in
    let m = d.month_in in
    let parts = matches_parts s (rank_of_date d) (unsigned_abs d.year) d.month d.day (omega arith) (omega arith) (omega arith) fits in
    rw parts (rw e refl)

-- a day is a candidate exactly if its rank is
pub candidate_rank : (s : Sets) (j : ℕ) → j < days_in_range → matches_rank s (rank_of_date (date_numbered j).0) ≡ is_candidate s (date_numbered j).0
candidate_rank s j h = rank_candidate s (date_numbered j).0 (low_at j h)

pub candidate_fails : (s : Sets) (j : ℕ) → (j < days_in_range → matches_rank s (rank_of_date (date_numbered j).0) ≡ false) → candidate_day s j ≡ false
candidate_fails s j h =
    elim (cases_lt j days_in_range) [
      | inl lt ↦ and_right (nat_lt j days_in_range) (is_candidate s (date_numbered j).0) (sym (candidate_rank s j lt) ∙ h lt)
      | inr ge ↦ and_left (nat_lt j days_in_range) (is_candidate s (date_numbered j).0) (le-ltb j days_in_range ge)
    ]

same_day : (s : Sets) (m d a b : ℕ) → m ≡ a → d ≡ b → matches_day s m d ≡ true → matches_day s a b ≡ true
same_day s m d a b e f h =
    let P : ℕ → Type 0 = λ x. matches_day s x d ≡ true in
    let Q : ℕ → Type 0 = λ y. matches_day s a y ≡ true in
    subst Q f (subst P e h)

pub day_fits : (s : Sets) (d : Day) → IsInRange d → matches_rank s (day_rank d) ≡ true → d.day ≤ length_of d.month
day_fits s d range h =
    let parts = and_parts (matches_month s (day_rank d / 100)) (matches_day s (day_rank d / 100) (day_rank d % 100)) h in
    let e : day_rank d / 100 ≡ d.month = omega (arith, range) in
    let f : day_rank d % 100 ≡ d.day = omega (arith, range) in
    leb-true d.day (length_of d.month) (and_parts (has_day s.days_of_month (length_of d.month) d.day) (nat_le d.day (length_of d.month))
    (same_day s _ _ _ _ e f parts.1)).1

-- the month of a day whose rank passes lies in its sets
pub month_passes : (s : Sets) (d : Day) → IsInRange d → matches_rank s (day_rank d) ≡ true → matches_month s d.month ≡ true
month_passes s d range h =
    let parts = and_parts (matches_month s (day_rank d / 100)) (matches_day s (day_rank d / 100) (day_rank d % 100)) h in
    let e : day_rank d / 100 ≡ d.month = omega (arith, range) in
    let P : ℕ → Type 0 = λ m. matches_month s m ≡ true in
    subst P e parts.0

-- so does that of a day whose date matches
pub own_month : (s : Sets) (day : ℕ) (d : Day) → day < days_in_range → IsInRange d → day_rank d ≡ rank_of_date (date_numbered day).0
    → matches_date s (date_numbered day).0 ≡ true → matches_month s d.month ≡ true
own_month s day d small range e h =
    let candidate = (and_parts (is_candidate s (date_numbered day).0) (contains s.days_of_week (weekday_number (date_numbered day).0)) h).0 in
    let P : ℕ → Type 0 = λ p. matches_rank s p ≡ true in
    month_passes s d range (subst P (sym e) (candidate_rank s day small ∙ candidate))

-- the number of a day whose rank passes
pub number_of_rank : (s : Sets) (d : Day) → IsInRange d → matches_rank s (day_rank d) ≡ true → IsNumber d.month d.day (number_of d)
number_of_rank s d range h = number_is d.month d.day range.0 range.1 range.2 (day_fits s d range h)

-- a month is no longer than in a leap year
longer : (two leap : Bool) (n : ℕ) → cond two (cond leap 29 28) n ≤ cond two 29 n
longer true true n = omega arith
longer true false n = omega arith
longer false leap n = omega arith

length_longest : (y : ℤ) (m : ℕ) → days_in_month y m ≤ days_in_month (pos 2000) m
length_longest y m = longer (nat_eq m 2) (is_leap_year y) _

-- without the mark, a day lies in the set by its number
pub by_number_alone : (days : FieldSet) (length day : ℕ) → days.last_day ≡ false → has_day days length day ≡ contains days.ordinals day
by_number_alone days length day e = ap (λ (b : Bool). contains days.ordinals day || (b && day == length)) e ∙ or-false (contains days.ordinals day)

-- where the least day of the set is past the end of every month, no rank passes
pub no_month_has : (s : Sets) (least : ℕ) → s.days_of_month.last_day ≡ false → IsNearestAt Ahead (contains s.days_of_month.ordinals) (pos 0) least
    → ((m : ℕ) → contains s.months m ≡ true → longest m < least) → (p : ℕ) → matches_rank s p ≡ false
no_month_has s least unmarked days short p =
    elim (cases_Bool (matches_rank s p)) [
      | inr out ↦ out
      | inl inside ↦
          let both = and_parts (matches_month s (p / 100)) (matches_day s (p / 100) (p % 100)) inside in
          let month = (and_parts (contains s.years (year_of (p / 100))) (contains s.months (month_of (p / 100))) both.0).1 in
          let day = and_parts (has_day s.days_of_month (length_of (p / 100)) (p % 100)) (nat_le (p % 100) (length_of (p / 100))) both.1 in
          let has = sym (by_number_alone s.days_of_month (length_of (p / 100)) (p % 100) unmarked) ∙ day.0 in
          let fits = leb-true (p % 100) (length_of (p / 100)) day.1 in
          let long = length_longest (pos (year_of (p / 100))) (month_of (p / 100)) in
          let below = short (month_of (p / 100)) month in
          absurd (both_ways (contains s.days_of_month.ordinals (p % 100))
          (days.nearest (p % 100) (omega (arith, signed_arith)) (omega (arith, fits, long, below))) has)
    ]

pub no_day : (s : Sets) → ((p : ℕ) → matches_rank s p ≡ false) → (day : ℕ) → candidate_day s day ≡ false
no_day s none day = candidate_fails s day (λ lt. none _)

-- a day whose rank passes is a candidate
pub is_candidate_rank : (s : Sets) (d : Day) → IsInRange d → matches_rank s (day_rank d) ≡ true → is_candidate s (date_numbered (number_of d)).0 ≡ true
is_candidate_rank s d range h =
    let n = number_of_rank s d range h in
    sym (candidate_rank s (number_of d) n.in_range) ∙ ap (matches_rank s) n.at ∙ h

-- what fails by its rank, and what is out of range, fails by its number
number_fails : (ranked numbered : ℕ → Bool) (j : ℕ)
    → ((i : ℕ) → i < days_in_range → ranked (rank_of_date (date_numbered i).0) ≡ numbered i)
    → (j < days_in_range → ranked (rank_of_date (date_numbered j).0) ≡ false) → (nat_lt j days_in_range && numbered j) ≡ false
number_fails ranked numbered j same h =
    elim (cases_lt j days_in_range) [
      | inl lt ↦ and_right (nat_lt j days_in_range) (numbered j) (sym (same j lt) ∙ h lt)
      | inr ge ↦ and_left (nat_lt j days_in_range) (numbered j) (le-ltb j days_in_range ge)
    ]

-- the nearest day by ranks is the nearest by numbers
pub by_numbers : (way : Way) (ranked numbered : ℕ → Bool) (places numbers : ℤ) (found : Option Day)
    → ((j : ℕ) → j < days_in_range → ranked (rank_of_date (date_numbered j).0) ≡ numbered j)
    → ((d : Day) → IsInRange d → ranked (day_rank d) ≡ true → d.day ≤ length_of d.month)
    → ((j : ℕ) → j < days_in_range → LiesFrom way numbers j → LiesFrom way places (rank_of_date (date_numbered j).0))
    → ((j : ℕ) → j < days_in_range → LiesFrom way places (rank_of_date (date_numbered j).0) → LiesFrom way numbers j) → IfSome found IsInRange
    → IsNearest way ranked places (option_map day_rank found) → IsNearest way (λ n. nat_lt n days_in_range && numbered n) numbers (option_map number_of found)
by_numbers way ranked numbered places numbers None same fits to back range h = λ k lies. number_fails ranked numbered k same (λ lt. h _ (to k lt lies))
by_numbers way ranked numbered places numbers (Some d) same fits to back range h =
    let n = number_is d.month d.day range.0 range.1 range.2 (fits d range h.passes) in
    let P : ℕ → Type 0 = λ p. LiesFrom way places p in
    record {
      passes = and_from (nat_lt (number_of d) days_in_range) (numbered (number_of d)) (lt-ltb (number_of d) days_in_range n.in_range)
          (sym (same (number_of d) n.in_range) ∙ ap ranked n.at ∙ h.passes);
      lies = back (number_of d) n.in_range (subst P (sym n.at) h.lies);
      nearest = λ k lies early. number_fails ranked numbered k same (λ lt.
          let Q : ℕ → Type 0 = λ p. Precedes way (rank_of_date (date_numbered k).0) p in
          h.nearest _ (to k lt lies) (subst Q n.at (precedes_rank way k (number_of d) lt n.in_range early)));
    }

pub by_number : (way : Way) (s : Sets) (places numbers : ℤ) (found : Option Day)
    → ((j : ℕ) → j < days_in_range → LiesFrom way numbers j → LiesFrom way places (rank_of_date (date_numbered j).0))
    → ((j : ℕ) → j < days_in_range → LiesFrom way places (rank_of_date (date_numbered j).0) → LiesFrom way numbers j) → IfSome found IsInRange
    → IsNearest way (matches_rank s) places (option_map day_rank found) → IsNearest way (candidate_day s) numbers (option_map number_of found)
by_number way s places numbers found to back range h =
    by_numbers way (matches_rank s) (λ n. is_candidate s (date_numbered n).0) places numbers found (candidate_rank s) (day_fits s) to back range h
