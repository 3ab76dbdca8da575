-- Searches ahead one after the other: what they find, and what they count together.
use Rattle.std.proofs.Common.{◌≡◌, ℕ, zero, suc, ◌+◌, ◌-◌, ◌/◌, ◌%◌, ◌^◌, ◌<◌, ◌≤◌, Bool, true, false, not, nat_lt, ◌&&◌, cond, ℤ, pos, negsuc, ◌≤ℤ◌, int_le, List, length, take, Some, None, refl, sym, ap, subst, ◌∙◌, ◌⊎◌, inl, inr, arith}
use Rattle.std.specs.Prelude.{count_by, slice_get}
use Rattle.std.proofs.lemmas.Bool.{and_from, and_parts, and_left, and_right, both_ways, cases_Bool, cases_lt, le-ltb, lt-ltb}
use Rattle.std.proofs.lemmas.List.{length-take, take_all}
use Rattle.std.proofs.lemmas.List.Sums.{count_by-le-length, count_by_more_no, count_by_more_yes}
use Rattle.std.proofs.lemmas.Option.{get_or_from_slice_get, slice_get_past, slice_get_within}
use Rattle.jiff_core.proofs.SignedLemmas.{signed_arith}
use Rattle.jiff_tz.specs.declared.timezone.TimeZone.{TimeZone}
use Rattle.cron_units.specs.declared.way.Way.TheVariants.{Ahead}
use Rattle.cron_units.specs.Nearest.{IsNearestAt}
use Rattle.cron_units.specs.Sets.{Sets}
use Rattle.cron_moments.specs.Civil.{civil, days_in_range}
use Rattle.cron_moments.specs.CivilDates.{date_numbered}
use Rattle.cron_time.specs.Search.Counts.{count_within, candidates, is_gap_match, gap_matches, low_end, passed, span, conversions, days_of}
use Rattle.cron_time.specs.Search.Inner.Blocks.{AllFail}
use Rattle.cron_time.specs.Matches.{is_candidate, matches}
use Rattle.cron_moments.specs.Readings.{readings}
use Rattle.cron_time.specs.Seconds as seconds
use Rattle.cron_time.specs.Seconds.{has_item}
use Rattle.cron_time.specs.Search.{items_of, stands}
use Rattle.cron_time.specs.Search.Surveys.{standing_from, surveyed, surveyed_days, is_before_last_second, days_again}
use Rattle.cron_time.specs.Seconds.{numbers_below}
use Rattle.cron_time.proofs.Searches.CountLemmas.{stands_matches, within_end}
use Rattle.cron_time.proofs.Searches.SearchLemmas.{match_date}
use Rattle.cron_time.proofs.PlaceLemmas.{holds_le, fails_le}
use Rattle.cron_time.proofs.Searches.TallyLemmas.{kind_joined, kind_none, kind_one, kind_bound, kind_unique, within_kind}
use Rattle.cron_time.proofs.Searches.PassingLemmas.{filter_count, add_one, count_up, count_flat, place_passing}

-- ---- stretches one after the other

within_joined : (test : ℕ → Bool) (a b c : ℕ) → a ≤ b → b ≤ c
    → count_within test (record { from = a; to = b }) + count_within test (record { from = b; to = c }) ≡ count_within test (record { from = a; to = c })
within_joined test a b c h k =
    kind_unique c _ _ _
    (kind_joined c _ _ _ _ _ (within_kind c test (record { from = a; to = b }) k) (within_kind c test (record { from = b; to = c }) (omega arith))
    (λ n lt p q. omega (arith, p.1, q.0))
    (λ n lt e. elim e [ inl p ↦ (p.0, omega (arith, p.1, k), p.2) | inr q ↦ (omega (arith, q.0, h), q.1, q.2) ])
    (λ n lt p. elim (cases_lt n b) [ inl less ↦ inl (p.0, less, p.2) | inr ge ↦ inr (ge, p.1, p.2) ]))
    (within_kind c test (record { from = a; to = c }) (omega arith))

within_none : (test : ℕ → Bool) (a : ℕ) → test a ≡ false → count_within test (record { from = a; to = a + 1 }) ≡ 0
within_none test a fails =
    kind_unique (a + 1) _ _ _ (within_kind (a + 1) test (record { from = a; to = a + 1 }) (omega arith))
    (kind_none (a + 1) _ (λ k lt p. both_ways (test a) fails (let e : k ≡ a = omega (arith, p.0, p.1) in let P : ℕ → Type 0 = λ n. test n ≡ true in
    subst P e p.2)))

within_one : (test : ℕ → Bool) (a : ℕ) → test a ≡ true → count_within test (record { from = a; to = a + 1 }) ≡ 1
within_one test a passes =
    kind_unique (a + 1) _ _ _ (within_kind (a + 1) test (record { from = a; to = a + 1 }) (omega arith))
    (kind_one (a + 1) _ a (omega arith) (omega arith, omega arith, passes) (λ k lt p. omega (arith, p.0, p.1)))

-- a number that fails between two stretches adds nothing
within_past : (test : ℕ → Bool) (a c d : ℕ) → a ≤ c → c < d → test c ≡ false
    → count_within test (record { from = a; to = c }) + count_within test (record { from = c + 1; to = d })
    ≡ count_within test (record { from = a; to = d })
within_past test a c d h lt fails =
    omega (arith, within_none test c fails, within_joined test a c (c + 1) h (omega arith), within_joined test a (c + 1) d (omega arith) (omega arith))

-- past a civil second the days go on with its own, which is counted again, unless that is over
seam : (test : ℕ → Bool) (c a end : ℕ) → a ≤ c / 86_400 → c / 86_400 + 1 ≤ end → test (c / 86_400) ≡ true
    → count_within test (record { from = a; to = c / 86_400 + 1 }) + count_within test (record { from = (c + 1) / 86_400; to = end })
    ≡ count_within test (record { from = a; to = end }) + cond (is_before_last_second c) 1 0
seam test c a end low fits passes =
    let P : ℕ → Type 0 = λ e. count_within test (record { from = a; to = c / 86_400 + 1 }) + count_within test (record { from = e; to = end })
    ≡ count_within test (record { from = a; to = end }) + cond (is_before_last_second c) 1 0 in
    let whole = within_joined test a (c / 86_400 + 1) end (omega arith) fits in
    elim (cases_lt (c % 86_400) 86_399) [
      | inl before ↦
          let same : (c + 1) / 86_400 ≡ c / 86_400 = omega arith in
          let again : cond (is_before_last_second c) 1 0 ≡ suc zero = ap (λ b. cond b 1 0) (lt-ltb (c % 86_400) 86_399 before) in
          let rest = within_joined test (c / 86_400) (c / 86_400 + 1) end (omega arith) fits in
          subst P (sym same) (omega (arith, again, whole, rest, within_one test (c / 86_400) passes))
      | inr over ↦
          let next : (c + 1) / 86_400 ≡ c / 86_400 + 1 = omega arith in
          let once : cond (is_before_last_second c) 1 0 ≡ zero = ap (λ b. cond b 1 0) (le-ltb (c % 86_400) 86_399 over) in
          subst P (sym next) (omega (arith, once, whole))
    ]

-- of one element more, as many pass a test, and that one if it passes
taken_more : (test : ℕ → Bool) (xs : List ℕ) (k c : ℕ) → slice_get xs k ≡ Some c
    → count_by test (take (k + 1) xs) ≡ count_by test (take k xs) + cond (test c) 1 0
taken_more test xs k c at =
    let within = slice_get_within xs k c at in
    let this = ap test (get_or_from_slice_get xs k c 0 at) in
    elim (cases_Bool (test c)) [
      | inl passes ↦
          let one : cond (test c) 1 0 ≡ suc zero = ap (λ b. cond b 1 0) passes in
          omega (arith, one, count_by_more_yes test xs k 0 within (this ∙ passes))
      | inr fails ↦
          let none : cond (test c) 1 0 ≡ zero = ap (λ b. cond b 1 0) fails in
          omega (arith, none, count_by_more_no test xs k 0 within (this ∙ fails))
    ]

taken_bound : (test : ℕ → Bool) (xs : List ℕ) (k : ℕ) → count_by test (take k xs) ≤ k
taken_bound test xs k = omega (arith, count_by-le-length test (take k xs), length-take k xs)

-- ---- a survey that has come so far

abbrev pub stands_from : Sets → TimeZone → ℤ → ℕ → Bool
stands_from s z from = λ c. int_le from (pos c) && stands s z c

abbrev pub day_test : Sets → ℕ → Bool
day_test s = λ day. is_candidate s (date_numbered day).0

-- of the first so many answers, those whose day is looked at again
abbrev pub answers_again : Sets → TimeZone → ℤ → ℕ → ℕ
answers_again s z from k = count_by is_before_last_second (take k (standing_from s z from))

-- the last civil second that was found, and what was counted as far as that
pub record Come (s : Sets) (z : TimeZone) (from next : ℤ) (k days conversions : ℕ) : Type 0 where
  pub last : ℕ
  pub next_is : next ≡ pos (last + 1)
  pub low : low_end from ≤ last
  pub high : last < 4_133_980_800
  pub some : 1 ≤ k
  pub at : slice_get (standing_from s z from) (k - 1) ≡ Some last
  pub no_gap : is_gap_match s z last ≡ false
  pub asked : conversions ≡ gap_matches s z (passed Ahead from (Some last)) + k
  pub candidate : is_candidate s (date_numbered (last / 86_400)).0 ≡ true
  pub looked : days ≡ candidates s (span Ahead from (Some last)) + answers_again s z from (k - 1)

-- nothing was found yet
pub record Begun (from next : ℤ) (k days conversions : ℕ) : Type 0 where
  pub next_is : next ≡ from
  pub none : k ≡ 0
  pub days_none : days ≡ 0
  pub asked_none : conversions ≡ 0

pub record IsSurveyed (s : Sets) (z : TimeZone) (from next : ℤ) (k days conversions : ℕ) : Type 0 where
  pub from_on : from ≤ℤ next
  pub found : count_by (stands_from s z from) (numbers_below (low_end next)) ≡ k
  pub costs : Begun from next k days conversions ⊎ Come s z from next k days conversions

-- the first civil second at or after a number
low_lies : (b : ℤ) (k : ℕ) → low_end b ≤ k → b ≤ℤ pos k
low_lies (pos b) k h = omega (arith, signed_arith)
low_lies (negsuc b) k h = omega (arith, signed_arith)

lies_low : (b : ℤ) (k : ℕ) → b ≤ℤ pos k → low_end b ≤ k
lies_low (pos b) k h = omega (arith, signed_arith)
lies_low (negsuc b) k h = omega arith

not_low : (b : ℤ) (k : ℕ) → k < low_end b → ¬ (b ≤ℤ pos k)
not_low b k h = λ le. omega (arith, h, lies_low b k le)

none_below : (test : ℕ → Bool) → count_by test (numbers_below 0) ≡ 0
unfolding numbers_below
none_below test = refl

-- before the first number nothing passes
pub survey_starts : (s : Sets) (z : TimeZone) (from : ℤ) → IsSurveyed s z from from 0 0 0
survey_starts s z from = record {
  from_on = omega (arith, signed_arith);
  found = count_flat (stands_from s z from) 0 (low_end from) (omega arith)
      (λ k low high. and_left (int_le from (pos k)) (stands s z k) (fails_le from (pos k) (not_low from k high))) ∙ none_below (stands_from s z from);
  costs = inl (record { next_is = refl; none = refl; days_none = refl; asked_none = refl });
}

gap_none : (s : Sets) (z : TimeZone) (c : ℕ) → stands s z c ≡ true → is_gap_match s z c ≡ false
unfolding seconds.items_of
gap_none s z c h =
    let both = stands_matches s z c h in
    let heard : has_item (readings z c) ≡ true = rw both.1 at (and_parts (nat_lt c 4_133_980_800) (has_item (items_of s z c)) h).1 in
    and_right (matches s (civil c)) (not (has_item (readings z c))) (ap not heard)

-- one more was found
count_to : (s : Sets) (z : TimeZone) (from next : ℤ) (k c : ℕ) → count_by (stands_from s z from) (numbers_below (low_end next)) ≡ k
    → IsNearestAt Ahead (stands s z) next c → count_by (stands_from s z from) (numbers_below c) ≡ k
count_to s z from next k c counted h =
    count_flat (stands_from s z from) (low_end next) c (lies_low next c h.lies)
    (λ n low high. and_right (int_le from (pos n)) (stands s z n) (h.nearest n (low_lies next n low) high)) ∙ counted

come : (s : Sets) (z : TimeZone) (from next : ℤ) (k days asked c : ℕ) → from ≤ℤ next → IsNearestAt Ahead (stands s z) next c
    → slice_get (standing_from s z from) k ≡ Some c → Begun from next k days asked ⊎ Come s z from next k days asked
    → Come s z from (pos (c + 1)) (k + 1) (days + days_of Ahead s next (Some c)) (asked + conversions Ahead s z next (Some c))
come s z from next k days asked c on h at (inl b) =
    let e : k + 1 - 1 ≡ k = omega arith in
    let P : ℕ → Type 0 = λ n. slice_get (standing_from s z from) n ≡ Some c in
    let D : ℤ → Type 0 = λ n. days_of Ahead s n (Some c) ≡ days_of Ahead s from (Some c) in
    let A : ℤ → Type 0 = λ n. conversions Ahead s z n (Some c) ≡ conversions Ahead s z from (Some c) in
    let same_days = subst D (sym b.next_is) refl in
    let same_asked = subst A (sym b.next_is) refl in
    record {
      last = c;
      next_is = refl;
      low = lies_low from c (omega (arith, signed_arith, on, h.lies));
      high = (stands_matches s z c h.passes).0;
      some = omega arith;
      at = subst P (sym e) at;
      no_gap = gap_none s z c h.passes;
      asked = omega (arith, same_asked, b.none, b.asked_none);
      candidate = match_date s c (stands_matches s z c h.passes).1;
      looked = omega (arith, same_days, b.days_none, taken_bound is_before_last_second (standing_from s z from) (k + 1 - 1), b.none);
    }
come s z from next k days asked c on h at (inr b) =
    let e : k + 1 - 1 ≡ k = omega arith in
    let P : ℕ → Type 0 = λ n. slice_get (standing_from s z from) n ≡ Some c in
    let D : ℤ → Type 0 = λ n. days_of Ahead s n (Some c) ≡ days_of Ahead s (pos (b.last + 1)) (Some c) in
    let A : ℤ → Type 0 = λ n. conversions Ahead s z n (Some c) ≡ conversions Ahead s z (pos (b.last + 1)) (Some c) in
    let same_days = subst D (sym b.next_is) refl in
    let same_asked = subst A (sym b.next_is) refl in
    let later : b.last < c = omega (arith, signed_arith, h.lies, b.next_is) in
    let gaps = within_past (is_gap_match s z) (low_end from) b.last c b.low later b.no_gap in
    let days_at = seam (day_test s) b.last (low_end from / 86_400) (c / 86_400 + 1) (omega (arith, b.low)) (omega (arith, later)) b.candidate in
    let one_more : k + 1 - 1 ≡ k - 1 + 1 = omega (arith, b.some) in
    let again = ap (answers_again s z from) one_more ∙ taken_more is_before_last_second (standing_from s z from) (k - 1) b.last b.at in
    record {
      last = c;
      next_is = refl;
      low = omega (arith, b.low, later);
      high = (stands_matches s z c h.passes).0;
      some = omega arith;
      at = subst P (sym e) at;
      no_gap = gap_none s z c h.passes;
      asked = omega (arith, same_asked, b.asked, gaps);
      candidate = match_date s c (stands_matches s z c h.passes).1;
      looked = omega (arith, same_days, b.looked, days_at, again);
    }

pub survey_more : (s : Sets) (z : TimeZone) (from next : ℤ) (k days asked c : ℕ) → IsSurveyed s z from next k days asked
    → IsNearestAt Ahead (stands s z) next c
    → IsSurveyed s z from (pos (c + 1)) (k + 1) (days + days_of Ahead s next (Some c)) (asked + conversions Ahead s z next (Some c))
unfolding standing_from
survey_more s z from next k days asked c so h =
    let on : from ≤ℤ pos c = omega (arith, signed_arith, so.from_on, h.lies) in
    let passes = and_from (int_le from (pos c)) (stands s z c) (holds_le from (pos c) on) h.passes in
    let before = count_to s z from next k c so.found h in
    let place = place_passing (stands_from s z from) 4_133_980_800 c (stands_matches s z c h.passes).0 passes in
    let P : ℕ → Type 0 = λ n. slice_get (standing_from s z from) n ≡ Some c in
    record {
      from_on = omega (arith, signed_arith, on);
      found = omega (arith, add_one (stands_from s z from) c passes, before);
      costs = inr (come s z from next k days asked c so.from_on h (subst P before place) so.costs);
    }

-- what a survey of so many found, and what it cost
pub record IsSurvey (s : Sets) (z : TimeZone) (from : ℤ) (count k looked asked : ℕ) : Type 0 where
  pub seconds : k ≡ length (take count (standing_from s z from))
  pub conversions : asked ≡ gap_matches s z (surveyed s z from count) + k
  pub days : looked ≡ candidates s (surveyed_days s z from count) + days_again s z from count

in_all : (s : Sets) (z : TimeZone) (from : ℤ) → length (standing_from s z from) ≡ count_by (stands_from s z from) (numbers_below 4_133_980_800)
unfolding standing_from
in_all s z from = filter_count (stands_from s z from) 4_133_980_800

within_nothing : (test : ℕ → Bool) → count_within test (record { from = 0; to = 0 }) ≡ 0
within_nothing test = omega (arith, kind_bound 0 _ _ (within_kind 0 test (record { from = 0; to = 0 }) (omega arith)))

-- so many were found
pub survey_full : (s : Sets) (z : TimeZone) (from next : ℤ) (count k days asked : ℕ) → k ≡ count → IsSurveyed s z from next k days asked
    → IsSurvey s z from count k days asked
survey_full s z from next count k days asked e so = full count e so.costs
  where
    full : (count : ℕ) → k ≡ count → Begun from next k days asked ⊎ Come s z from next k days asked → IsSurvey s z from count k days asked
    full zero e (inl b) = record {
      seconds = e ∙ refl;
      conversions = omega (arith, within_nothing (is_gap_match s z), b.none, b.asked_none);
      days = omega (arith, within_nothing (day_test s), b.days_none, taken_bound is_before_last_second (standing_from s z from) 0);
    }
    full (suc n) e (inl b) = absurd (omega (arith, e, b.none))
    full zero e (inr b) = absurd (omega (arith, e, b.some))
    full (suc n) e (inr b) =
        let place : k - 1 ≡ n = omega (arith, e) in
        let P : ℕ → Type 0 = λ m. slice_get (standing_from s z from) m ≡ Some b.last in
        let at = subst P place b.at in
        let before : k - 1 ≡ suc n - 1 = omega (arith, e) in
        let D : ℕ → Type 0 = λ m. days ≡ candidates s (span Ahead from (Some b.last)) + answers_again s z from m in
        let C : ℤ → Type 0 = λ m. count_by (stands_from s z from) (numbers_below (low_end m)) ≡ k in
        let found = subst C b.next_is so.found in
        let up = count_up (stands_from s z from) (b.last + 1) 4_133_980_800 (omega (arith, b.high)) in
        record {
          seconds = omega (arith, length-take (suc n) (standing_from s z from), in_all s z from, found, up, e);
          conversions = rw at b.asked;
          days = rw at (subst D before b.looked);
        }

-- a search found none, so fewer were found
counted_all : (s : Sets) (z : TimeZone) (from next : ℤ) (k days asked : ℕ) → IsSurveyed s z from next k days asked → AllFail Ahead (stands s z) next
    → count_by (stands_from s z from) (numbers_below 4_133_980_800) ≡ k
counted_all s z from next k days asked so none =
    elim (cases_lt 4_133_980_800 (low_end next)) [
      | inl past ↦ all_past past so.costs
      | inr ge ↦ count_flat (stands_from s z from) (low_end next) 4_133_980_800 ge
          (λ n low high. and_right (int_le from (pos n)) (stands s z n) (none n (low_lies next n low))) ∙ so.found
    ]
  where
    all_past : 4_133_980_800 < low_end next → Begun from next k days asked ⊎ Come s z from next k days asked
        → count_by (stands_from s z from) (numbers_below 4_133_980_800) ≡ k
    all_past past (inl b) = omega (arith, count_up (stands_from s z from) 4_133_980_800 (low_end next) (omega (arith, past)), so.found, b.none)
    all_past past (inr b) = let e : low_end next ≡ b.last + 1 = ap low_end b.next_is in absurd (omega (arith, past, e, b.high))

pub survey_end : (s : Sets) (z : TimeZone) (from next : ℤ) (count k days asked : ℕ) → k < count → IsSurveyed s z from next k days asked
    → AllFail Ahead (stands s z) next → IsSurvey s z from count k (days + days_of Ahead s next None) (asked + conversions Ahead s z next None)
survey_end s z from next zero k days asked lt so none = absurd (omega arith)
survey_end s z from next (suc n) k days asked lt so none =
    let all = in_all s z from ∙ counted_all s z from next k days asked so none in
    let past = slice_get_past (standing_from s z from) n (omega (arith, all, lt)) in
    let taken : days_again s z from (suc n) ≡ count_by is_before_last_second (standing_from s z from)
    = ap (count_by is_before_last_second) (take_all (suc n - 1) (standing_from s z from) (omega (arith, all, lt))) in
    record {
      seconds = omega (arith, length-take (suc n) (standing_from s z from), all, lt);
      conversions = rw past (asked_all so.costs);
      days = rw past (days_all all so.costs ∙ ap (λ m. candidates s (span Ahead from None) + m) (sym taken));
    }
  where
    asked_all : Begun from next k days asked ⊎ Come s z from next k days asked
        → asked + conversions Ahead s z next None ≡ gap_matches s z (passed Ahead from None) + k
    asked_all (inl b) =
        let A : ℤ → Type 0 = λ m. conversions Ahead s z m None ≡ conversions Ahead s z from None in
        omega (arith, subst A (sym b.next_is) refl, b.none, b.asked_none)
    asked_all (inr b) =
        let A : ℤ → Type 0 = λ m. conversions Ahead s z m None ≡ conversions Ahead s z (pos (b.last + 1)) None in
        omega (arith, subst A (sym b.next_is) refl, b.asked, within_past (is_gap_match s z) (low_end from) b.last 4_133_980_800 b.low b.high b.no_gap)

    days_all : length (standing_from s z from) ≡ k → Begun from next k days asked ⊎ Come s z from next k days asked
        → days + days_of Ahead s next None ≡ candidates s (span Ahead from None) + count_by is_before_last_second (standing_from s z from)
    days_all all (inl b) =
        let D : ℤ → Type 0 = λ m. days_of Ahead s m None ≡ days_of Ahead s from None in
        let same = subst D (sym b.next_is) refl in
        omega (arith, same, b.days_none, b.none, all, count_by-le-length is_before_last_second (standing_from s z from))
    days_all all (inr b) =
        let D : ℤ → Type 0 = λ m. days_of Ahead s m None ≡ days_of Ahead s (pos (b.last + 1)) None in
        let same = subst D (sym b.next_is) refl in
        let days_at = seam (day_test s) b.last (low_end from / 86_400) days_in_range (omega (arith, b.low)) (omega (arith, b.high)) b.candidate in
        let taken = ap (count_by is_before_last_second) (take_all (k - 1 + 1) (standing_from s z from) (omega (arith, all, b.some))) in
        let again = taken_more is_before_last_second (standing_from s z from) (k - 1) b.last b.at in
        omega (arith, same, b.looked, days_at, again, taken)

-- the counts stay small
pub survey_bound : (s : Sets) (z : TimeZone) (from next : ℤ) (k days asked : ℕ) → k < 2 ^ 32 → IsSurveyed s z from next k days asked
    → (days < 2 ^ 60) × (asked < 2 ^ 60)
survey_bound s z from next k days asked small so = bound so.costs
  where
    bound : Begun from next k days asked ⊎ Come s z from next k days asked → (days < 2 ^ 60) × (asked < 2 ^ 60)
    bound (inl b) = (omega (arith, b.days_none), omega (arith, b.asked_none))
    bound (inr b) = (
      omega (
        arith,
        b.looked,
        b.high,
        small,
        within_end (day_test s) (span Ahead from (Some b.last)),
        taken_bound is_before_last_second (standing_from s z from) (k - 1),
      ),
      omega (arith, b.asked, b.high, small, within_end (is_gap_match s z) (passed Ahead from (Some b.last))),
    )
