-- The days of a month whose dates match: by the bits of a word, by their ranks and by their numbers.
use Rattle.std.proofs.Common.{◌≡◌, ℕ, zero, suc, ◌+◌, ◌-◌, ◌*◌, ◌/◌, ◌%◌, ◌^◌, ◌<◌, ◌≤◌, ◌&&◌, ◌||◌, true, false, nat_lt, nat_le, nat_eq, Bool, ℤ, pos, Option, option_map, IfSome, refl, sym, ap, subst, ◌∙◌, inl, inr, arith, bit_and}
use Rattle.std.proofs.lemmas.Bool.{both_ways, cases_Bool, cases_eq, and_parts, cases_lt, lt-ltb, le-ltb, leb-true, le-leb, lt-leb, eq-eqb, ne_eqb}
use Rattle.jiff_core.proofs.SignedLemmas.{signed_arith}
use Rattle.jiff_core.proofs.CalendarLemmas.{days_in_month_bounds}
use Rattle.cron_moments.specs.Civil.{days_in_range}
use Rattle.cron_bits.specs.Words.{has_bit}
use Rattle.cron_bits.proofs.Doubling.{shifted}
use Rattle.cron_bits.proofs.WordLemmas.{bit_and_test, bit_none, bit_past}
use Rattle.cron_units.specs.declared.way.Way.{Way}
use Rattle.cron_units.specs.declared.way.Way.TheVariants.{Ahead, Back}
use Rattle.cron_units.specs.Nearest.{LiesFrom, Precedes, IsNearest, IsNearestAt}
use Rattle.cron_units.specs.Sets.{Sets}
use Rattle.cron_units.specs.Units.{contains}
use Rattle.cron_moments.specs.Calendar.{rank, rank_of_date, day_number, first_month, months_end, year_of, month_of, length_of, weekday_number}
use Rattle.cron_moments.specs.CivilDates.{date_numbered}
use Rattle.cron_moments.proofs.DateLemmas.{epoch_at}
use Rattle.cron_moments.proofs.MarchLemmas.{IsMade, lacking_at, made_from, number_on}
use Rattle.cron_moments.proofs.NumberLemmas.{number_is, weekday_by_number}
use Rattle.cron_time.specs.Search.Inner.Blocks.{IsSplit, Reaches, AllFail}
use Rattle.cron_time.specs.Search.Inner.Days.{day_rank, has_number, number_of, IsInRange}
use Rattle.cron_time.specs.Search.Inner.Questions.{outermost}
use Rattle.cron_time.specs.Search.Inner.MonthDays.{AreDaysOf, KnowsDays, has_matching, matches_ranked, matches_weekday, matching_day}
use Rattle.cron_time.specs.Search.Inner.Numbers.{beyond, beyond_block, matches_day, matches_month, matches_rank}
use Rattle.cron_time.specs.Matches.{has_day, matches_date}
use Rattle.cron_time.specs.declared.search.days.Day.{Day}
use Rattle.cron_time.specs.declared.search.month_days.MonthDays.{MonthDays}
use Rattle.cron_time.proofs.Searches.BlockLemmas.{both_split, BlockFails, precedes_split}
use Rattle.cron_time.proofs.Searches.DayLemmas.{by_number_alone, by_numbers, candidate_rank, lies_rank, own_month, past_rank, rank_lies, rank_past}
use Rattle.cron_time.proofs.Searches.LastDayLemmas.{marked_day}
use Rattle.cron_time.proofs.Searches.WayLemmas.{lies_self}

-- ---- the days that lie in their set, by bits

place_before : (k last : ℕ) → nat_lt k last ≡ nat_le (k + 1) last
place_before k last = elim (cases_lt k last) [
  | inl l ↦ rw (lt-ltb k last l, le-leb (k + 1) last (omega arith)) refl
  | inr g ↦ rw (le-ltb k last g, lt-leb (k + 1) last (omega arith)) refl
]

last_place : (k last : ℕ) → 1 ≤ last → nat_eq k (last - 1) ≡ nat_eq (k + 1) last
last_place k last some = elim (cases_eq (k + 1) last) [
  | inl e ↦ rw (eq-eqb (k + 1) last e, eq-eqb k (last - 1) (omega (arith, e))) refl
  | inr d ↦ rw (ne_eqb (k + 1) last d, ne_eqb k (last - 1) (λ e. d (omega (arith, e)))) refl
]

swap : (a b : Bool) → (a && b) ≡ (b && a)
swap true true = refl
swap true false = refl
swap false true = refl
swap false false = refl

next_is : (k : ℕ) → 1 + k ≡ k + 1
next_is k = omega arith

-- the numbered days that the month has
numbered_bit : (s : Sets) (last k : ℕ) (days word : ℕ) → ((j : ℕ) → has_bit days j ≡ contains s.days_of_month.ordinals (1 + j))
    → ((j : ℕ) → has_bit word j ≡ (nat_lt j last && has_bit days j)) → has_bit word k ≡ has_number s.days_of_month.ordinals last (k + 1)
numbered_bit s last k days word numbers cut =
    cut k ∙ rw (place_before k last, numbers k, next_is k) (swap (nat_le (k + 1) last) (contains s.days_of_month.ordinals (k + 1)))

pub marked_bit : (s : Sets) (month last k : ℕ) (days word all : ℕ) → last ≡ length_of month → 1 ≤ last → s.days_of_month.last_day ≡ true
    → ((j : ℕ) → has_bit days j ≡ contains s.days_of_month.ordinals (1 + j))
    → ((j : ℕ) → has_bit word j ≡ (nat_lt j last && has_bit days j))
    → ((j : ℕ) → has_bit all j ≡ (has_bit word j || nat_eq j (last - 1))) → has_bit all k ≡ matches_day s month (k + 1)
marked_bit s month last k days word all e some marked numbers cut set =
    set k ∙ rw (numbered_bit s last k days word numbers cut, last_place k last some) (marked_day s month last (k + 1) e marked)

-- without the mark, by its number alone
unmarked_bit : (s : Sets) (month k : ℕ) → s.days_of_month.last_day ≡ false
    → matches_day s month (k + 1) ≡ has_number s.days_of_month.ordinals (length_of month) (k + 1)
unmarked_bit s month k unmarked =
    ap (λ (b : Bool). b && nat_le (k + 1) (length_of month)) (by_number_alone s.days_of_month (length_of month) (k + 1) unmarked)

pub cut_bit : (s : Sets) (month last k : ℕ) (days word : ℕ) → last ≡ length_of month → s.days_of_month.last_day ≡ false
    → ((j : ℕ) → has_bit days j ≡ contains s.days_of_month.ordinals (1 + j))
    → ((j : ℕ) → has_bit word j ≡ (nat_lt j last && has_bit days j)) → has_bit word k ≡ matches_day s month (k + 1)
cut_bit s month last k days word e unmarked numbers cut =
    numbered_bit s last k days word numbers cut ∙ ap (λ (n : ℕ). has_number s.days_of_month.ordinals n (k + 1)) e ∙ sym (unmarked_bit s month k unmarked)

-- where no day is wanted that a month may lack, the numbered days are those of each month
pub short_bit : (s : Sets) (month k : ℕ) (days late : ℕ) → s.days_of_month.last_day ≡ false → 28 ≤ length_of month
    → ((j : ℕ) → has_bit days j ≡ contains s.days_of_month.ordinals (1 + j))
    → ((j : ℕ) → has_bit late j ≡ (nat_le 28 j && has_bit days j)) → late ≡ 0 → has_bit days k ≡ matches_day s month (k + 1)
short_bit s month k days late unmarked long numbers cut none =
    sym (unmarked_bit s month k unmarked ∙ elim (cases_lt k 28) [
      | inl l ↦ rw (le-leb (k + 1) (length_of month) (omega arith), swap (contains s.days_of_month.ordinals (k + 1)) true)
          (sym (numbers k ∙ ap (contains s.days_of_month.ordinals) (next_is k)))
      | inr g ↦
          let P : ℕ → Type 0 = λ w. has_bit w k ≡ has_bit days k in
          let same : has_bit late k ≡ has_bit days k = cut k ∙ rw (le-leb 28 k g) refl in
          let out : has_bit days k ≡ false = sym (subst P none same) ∙ bit_none k in
          let unwanted : contains s.days_of_month.ordinals (k + 1) ≡ false =
          sym (numbers k ∙ ap (contains s.days_of_month.ordinals) (next_is k)) ∙ out in
          rw (unwanted, out) refl
    ])

-- ---- and whose weekdays lie in theirs

pub fits_month : (s : Sets) (month day : ℕ) → matches_day s month day ≡ true → day ≤ length_of month
fits_month s month day h =
    leb-true day (length_of month) (and_parts (has_day s.days_of_month (length_of month) day) (nat_le day (length_of month)) h).1

pub longest_31 : (month : ℕ) → length_of month ≤ 31
longest_31 month = omega (arith, days_in_month_bounds (pos (year_of month)) (month_of month))

pub shortest_28 : (month : ℕ) → 28 ≤ length_of month
shortest_28 month = omega (arith, days_in_month_bounds (pos (year_of month)) (month_of month))

weekday_at : (s : Sets) (month k : ℕ) → first_month ≤ month → month < months_end → k + 1 ≤ length_of month
    → contains s.days_of_week ((day_number month 1 + k + 4) % 7 + 1) ≡ matches_weekday s month (k + 1)
weekday_at s month k low high fits =
    let on = number_on month (k + 1) low high (omega arith) fits in
    let n = day_number month (k + 1) in
    let is : day_number month 1 + k ≡ n = omega (arith, on.0) in
    rw is (ap (contains s.days_of_week) (weekday_by_number (date_numbered n).0 n (epoch_at n on.1)))

pub matching_bit : (s : Sets) (month k : ℕ) (days week : ℕ) → first_month ≤ month → month < months_end
    → ((j : ℕ) → has_bit days j ≡ matches_day s month (j + 1))
    → ((j : ℕ) → j < 32 → has_bit week j ≡ contains s.days_of_week ((day_number month 1 + j + 4) % 7 + 1))
    → has_bit (bit_and days week) k ≡ has_matching s month (k + 1)
matching_bit s month k days week low high set laid =
    bit_and_test days week k ∙ rw (set k, le-leb 1 (k + 1) (omega arith)) (elim (cases_Bool (matches_day s month (k + 1))) [
      | inl inside ↦
          let fits = fits_month s month (k + 1) inside in
          let short = longest_31 month in
          rw inside (laid k (omega (arith, fits, short)) ∙ weekday_at s month k low high fits)
      | inr out ↦ rw out refl
    ])

-- ---- by ranks

pub split_matching : (s : Sets) → IsSplit 100 (matches_month s) (has_matching s) (matches_ranked s)
split_matching s = both_split 100 (matches_month s) (has_matching s) (matches_ranked s) (λ n. refl)

pub matching_fits : (s : Sets) (month day : ℕ) → has_matching s month day ≡ true → (1 ≤ day) × (day ≤ length_of month)
matching_fits s month day h =
    let parts = and_parts (nat_le 1 day) (matches_day s month day && matches_weekday s month day) h in
    let day_in = and_parts (matches_day s month day) (matches_weekday s month day) parts.1 in
    (leb-true 1 day parts.0, fits_month s month day day_in.0)

-- the same bits by the numbers of the days
pub bit_by_day : (s : Sets) (month word day : ℕ) → ((k : ℕ) → has_bit word k ≡ has_matching s month (k + 1))
    → has_bit (word * 2 ^ 1 % 2 ^ 64) day ≡ has_matching s month day
bit_by_day s month word day days =
    elim (cases_lt day 64) [
      | inl l ↦ shifted word 1 day l ∙ by_day (nat_le 1 day) refl
      | inr g ↦ bit_past (word * 2 ^ 1 % 2 ^ 64) day g ∙ sym (too_late (has_matching s month day) g refl)
    ]
  where
    by_day : (b : Bool) → nat_le 1 day ≡ b → (b && has_bit word (day - 1)) ≡ has_matching s month day
    by_day false e = rw e refl
    by_day true e =
        let some : 1 ≤ day = leb-true 1 day e in
        let is : day - 1 + 1 ≡ day = omega arith in
        days (day - 1) ∙ ap (has_matching s month) is

    too_late : (b : Bool) → 64 ≤ day → has_matching s month day ≡ b → has_matching s month day ≡ false
    too_late false g e = e
    too_late true g e =
        let fits = matching_fits s month day e in
        let short = longest_31 month in
        absurd (omega (arith, fits, short))

-- a day whose bit is 1 has its place in the month that is known
pub known_place : (s : Sets) (m : MonthDays) (day place : ℕ) → first_month ≤ m.month → m.month < months_end → KnowsDays s m
    → has_bit m.days place ≡ true → day ≡ day_number m.month 1 + place
    → (rank m.month (place + 1) ≡ rank_of_date (date_numbered day).0) × (place < 31) × AreDaysOf s m
known_place s m day place low high (inl none) set e =
    let P : ℕ → Type 0 = λ w. has_bit w place ≡ true in
    absurd (both_ways (has_bit 0 place) (bit_none place) (subst P none set))
known_place s m day place low high (inr days) set e =
    let fits = matching_fits s m.month (place + 1) (sym (days place) ∙ set) in
    let short = longest_31 m.month in
    let on = number_on m.month (place + 1) low high fits.0 fits.1 in
    let is : day_number m.month (place + 1) ≡ day = omega (arith, on.0, e) in
    (sym (number_is m.month (place + 1) low high fits.0 fits.1).at ∙ ap (λ n. rank_of_date (date_numbered n).0) is, omega (arith, fits, short), days)

-- the month of a day whose date matches lies in its sets
pub month_of_day : (s : Sets) (day month place : ℕ) → day < days_in_range → first_month ≤ month → month < months_end → place < 31
    → rank month (place + 1) ≡ rank_of_date (date_numbered day).0 → matches_date s (date_numbered day).0 ≡ true → matches_month s month ≡ true
month_of_day s day month place small low high short e h =
    own_month s day (record { month = month; day = place + 1 }) small (low, high, omega arith, omega arith) e h

own_early : (way : Way) (month place n : ℕ) → place < 31 → LiesFrom way (beyond way (rank month (place + 1))) n → Precedes way (n / 100) month → ⊥
own_early Ahead month place n small lies lt = omega (arith, signed_arith)
own_early Back month place n small lies gt = omega (arith, signed_arith)

-- a search past a day of a month has come to the month
pub own_reached : (way : Way) (s : Sets) (month place : ℕ) → place < 31 → matches_month s month ≡ true
    → Reaches way 100 (matches_month s) (matches_ranked s) (beyond way (rank month (place + 1))) (pos month) month
own_reached way s month place small h = record {
  block = h;
  lies = lies_self way month;
  failed = λ n lies early. absurd (own_early way month place n small lies early);
}

-- what lies past the month lies past its days
pub own_out : (way : Way) (month place n : ℕ) → place < 31 → LiesFrom way (beyond_block way 100 month) n
    → LiesFrom way (beyond way (rank month (place + 1))) n
own_out Ahead month place n small h = omega (arith, signed_arith)
own_out Back month place n small h = omega (arith, signed_arith)

own_rest : (way : Way) (month place n k : ℕ) → place < 31 → LiesFrom way (beyond way (rank month (place + 1))) n → n / 100 ≡ month → n % 100 ≡ k + 1
    → LiesFrom way (beyond way place) k
own_rest Ahead month place n k small lies e f = omega (arith, signed_arith)
own_rest Back month place n k small lies e f = omega (arith, signed_arith)

none_at_zero : (s : Sets) (month : ℕ) → has_matching s month 0 ≡ false
none_at_zero s month = refl

-- a day is the first one or one after it
pub by_place : (s : Sets) (month d : ℕ) → ((k : ℕ) → d ≡ k + 1 → has_matching s month (k + 1) ≡ false) → has_matching s month d ≡ false
by_place s month zero h = none_at_zero s month
by_place s month (suc k) h =
    let e : suc k ≡ k + 1 = omega arith in
    let P : ℕ → Type 0 = λ d. has_matching s month d ≡ false in
    subst P (sym e) (h k e)

fails_in : (s : Sets) (month n : ℕ) → n / 100 ≡ month → has_matching s month (n % 100) ≡ false → matches_ranked s n ≡ false
fails_in s month n e h =
    let P : ℕ → Type 0 = λ m. has_matching s m (n % 100) ≡ false in
    (split_matching s).rest_fails n (subst P (sym e) h)

pub own_fails : (way : Way) (s : Sets) (month place : ℕ) → place < 31
    → ((k : ℕ) → LiesFrom way (beyond way place) k → has_matching s month (k + 1) ≡ false)
    → BlockFails way 100 (matches_ranked s) (beyond way (rank month (place + 1))) month
own_fails way s month place small none n lies e =
    fails_in s month n e (by_place s month (n % 100) (λ k f. none k (own_rest way month place n k small lies e f)))

-- within the own month
own_lies : (way : Way) (month place next : ℕ) → LiesFrom way (beyond way place) next
    → LiesFrom way (beyond way (rank month (place + 1))) (month * 100 + (next + 1))
own_lies Ahead month place next h = omega (arith, signed_arith)
own_lies Back month place next h = omega (arith, signed_arith)

own_between : (way : Way) (month place next n : ℕ) → place < 31 → next < 31 → LiesFrom way (beyond way (rank month (place + 1))) n
    → Precedes way n (month * 100 + (next + 1)) → n / 100 ≡ month
own_between Ahead month place next n small less lies lt = omega (arith, signed_arith)
own_between Back month place next n small less lies gt = omega (arith, signed_arith)

own_before : (way : Way) (month next n k : ℕ) → next < 31 → n / 100 ≡ month → n % 100 ≡ k + 1 → Precedes way n (month * 100 + (next + 1)) → Precedes way k next
own_before Ahead month next n k less e f lt = omega arith
own_before Back month next n k less e f gt = omega arith

pub own_found : (way : Way) (s : Sets) (month place next : ℕ) → place < 31 → matches_month s month ≡ true
    → IsNearestAt way (λ k. has_matching s month (k + 1)) (beyond way place) next
    → IsNearestAt way (matches_ranked s) (beyond way (rank month (place + 1))) (rank month (next + 1))
own_found way s month place next small h found =
    let fits = matching_fits s month (next + 1) found.passes in
    let short = longest_31 month in
    let less : next < 31 = omega (arith, fits, short) in
    record {
      passes = (split_matching s).passes month (next + 1) (omega arith) h found.passes;
      lies = own_lies way month place next found.lies;
      nearest = λ n lies early.
          let e = own_between way month place next n small less lies early in
          fails_in s month n e (by_place s month (n % 100) (λ k f.
          found.nearest k (own_rest way month place n k small lies e f) (own_before way month next n k less e f early)));
    }

-- in a month past it
all_places : (way : Way) (n k : ℕ) → n % 100 ≡ k + 1 → LiesFrom way (pos (outermost way 100)) k
all_places Ahead n k f = omega (arith, signed_arith)
all_places Back n k f = omega (arith, signed_arith)

pub month_fails : (way : Way) (s : Sets) (month : ℕ) (start : ℤ)
    → AllFail way (λ k. has_matching s month (k + 1)) (pos (outermost way 100))
    → BlockFails way 100 (matches_ranked s) start month
month_fails way s month start none n lies e =
    fails_in s month n e (by_place s month (n % 100) (λ k f. none k (all_places way n k f)))

later_lies : (way : Way) (month later next : ℕ) → next < 31 → LiesFrom way (beyond way month) later
    → LiesFrom way (beyond_block way 100 month) (later * 100 + (next + 1))
later_lies Ahead month later next less h = omega (arith, signed_arith)
later_lies Back month later next less h = omega (arith, signed_arith)

rest_before : (way : Way) (next n k : ℕ) → n % 100 ≡ k + 1 → Precedes way (n % 100) (next + 1) → Precedes way k next
rest_before Ahead next n k f lt = omega arith
rest_before Back next n k f gt = omega arith

pub month_found : (way : Way) (s : Sets) (month later next : ℕ)
    → Reaches way 100 (matches_month s) (matches_ranked s) (beyond_block way 100 month) (beyond way month) later
    → IsNearestAt way (λ k. has_matching s later (k + 1)) (pos (outermost way 100)) next
    → IsNearestAt way (matches_ranked s) (beyond_block way 100 month) (rank later (next + 1))
month_found way s month later next reached found =
    let fits = matching_fits s later (next + 1) found.passes in
    let short = longest_31 later in
    let less : next < 31 = omega (arith, fits, short) in
    record {
      passes = (split_matching s).passes later (next + 1) (omega arith) reached.block found.passes;
      lies = later_lies way month later next less reached.lies;
      nearest = λ n lies early. elim (precedes_split way 100 later (next + 1) n (omega arith) early) [
        | inl b ↦ reached.failed n lies b
        | inr (e, b) ↦ fails_in s later n e (by_place s later (n % 100) (λ k f.
            found.nearest k (all_places way n k f) (rest_before way next n k f b)))
      ];
    }

-- ---- by numbers

-- the month and the day of a number
pub record Dated (number : ℕ) : Type 0 where
  pub month : ℕ
  pub day : ℕ
  pub is : IsMade number month day

pub dated : (number : ℕ) → number < days_in_range → Dated number
dated number h =
    let lacking = lacking_at number in
    let years = (4 * (number + 306 + lacking) + 2) / 1461 in
    record { month = _; day = _; is = made_from number lacking years h refl refl _ refl }

regroup : (a l b w : Bool) → l ≡ true → (a && (l && (b && w))) ≡ ((a && b) && w)
regroup true true b w e = refl
regroup false true b w e = refl
regroup a false b w e = cc

ranked_at : (s : Sets) (p month day : ℕ) → p / 100 ≡ month → p % 100 ≡ day → 1 ≤ day → matches_ranked s p ≡ (matches_rank s p && matches_weekday s month day)
ranked_at s p month day e f some =
    rw (e, f) (regroup (matches_month s month) (nat_le 1 day) (matches_day s month day) (matches_weekday s month day) (le-leb 1 day some))

-- a date matches exactly if its rank does
pub matching_rank : (s : Sets) (j : ℕ) → j < days_in_range → matches_ranked s (rank_of_date (date_numbered j).0) ≡ matches_date s (date_numbered j).0
matching_rank s j h =
    let d = dated j h in
    let made = d.is in
    let n = number_is d.month d.day made.low made.high made.first made.last in
    let short = longest_31 d.month in
    let at : rank_of_date (date_numbered j).0 ≡ rank d.month d.day = sym (ap (λ k. rank_of_date (date_numbered k).0) made.number_is) ∙ n.at in
    let weekday : matches_weekday s d.month d.day ≡ contains s.days_of_week (weekday_number (date_numbered j).0) =
    ap (λ k. contains s.days_of_week (weekday_number (date_numbered k).0)) made.number_is in
    let high = made.last in
    ranked_at s (rank_of_date (date_numbered j).0) d.month d.day (omega (arith, at, short, high)) (omega (arith, at, short, high)) made.first
    ∙ rw (candidate_rank s j h, weekday) refl

pub ranked_fits : (s : Sets) (d : Day) → IsInRange d → matches_ranked s (day_rank d) ≡ true → d.day ≤ length_of d.month
ranked_fits s d range h =
    let parts = and_parts (matches_month s (day_rank d / 100)) (has_matching s (day_rank d / 100) (day_rank d % 100)) h in
    let e : day_rank d / 100 ≡ d.month = omega (arith, range) in
    let f : day_rank d % 100 ≡ d.day = omega (arith, range) in
    let P : ℕ → ℕ → Type 0 = λ m k. has_matching s m k ≡ true in
    let Q : ℕ → Type 0 = λ m. P m (day_rank d % 100) in
    (matching_fits s d.month d.day (subst (P d.month) f (subst Q e parts.1))).1

-- the nearest one past a day, by numbers
pub matching_past : (way : Way) (s : Sets) (day month place : ℕ) (found : Option Day) → day < days_in_range
    → rank month (place + 1) ≡ rank_of_date (date_numbered day).0 → IfSome found IsInRange
    → IsNearest way (matches_ranked s) (beyond way (rank month (place + 1))) (option_map day_rank found)
    → IsNearest way (matching_day s) (beyond way day) (option_map number_of found)
matching_past way s day month place found small e range h =
    let P : ℕ → Type 0 = λ p. IsNearest way (matches_ranked s) (beyond way p) (option_map day_rank found) in
    by_numbers way (matches_ranked s) (λ n. matches_date s (date_numbered n).0) _ _ found (matching_rank s) (ranked_fits s)
    (λ j lt lies. past_rank way day j small lt lies) (λ j lt lies. rank_past way day j small lt lies) range (subst P e h)

-- the nearest one from a day on, by numbers
pub matching_from : (way : Way) (s : Sets) (day : ℕ) (start : Day) (found : Option Day) → day < days_in_range
    → day_rank start ≡ rank_of_date (date_numbered day).0 → IfSome found IsInRange
    → IsNearest way (matches_ranked s) (pos (day_rank start)) (option_map day_rank found)
    → IsNearest way (matching_day s) (pos day) (option_map number_of found)
matching_from way s day start found small e range h =
    let P : ℕ → Type 0 = λ p. IsNearest way (matches_ranked s) (pos p) (option_map day_rank found) in
    by_numbers way (matches_ranked s) (λ n. matches_date s (date_numbered n).0) _ _ found (matching_rank s) (ranked_fits s)
    (λ j lt lies. lies_rank way day j small lt lies) (λ j lt lies. rank_lies way day j small lt lies) range (subst P e h)

-- tests that agree
pub bits_nearest : (way : Way) (p r : ℕ → Bool) (start : ℤ) (n : ℕ) → ((k : ℕ) → p k ≡ r k) → IsNearestAt way p start n → IsNearestAt way r start n
bits_nearest way p r start n e h =
    record { passes = sym (e n) ∙ h.passes; lies = h.lies; nearest = λ k lies early. sym (e k) ∙ h.nearest k lies early }
