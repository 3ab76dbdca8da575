-- The counts of a whole search.
use Rattle.std.proofs.Common.{◌≡◌, ℕ, ◌+◌, ◌/◌, ◌<◌, ◌≤◌, Bool, true, false, not, nat_lt, ℤ, pos, negsuc, Option, Some, None, option_map, IfSome, add-zero, refl, sym, ap, subst, ◌∙◌, inl, inr, arith}
use Rattle.std.proofs.lemmas.Bool.{cases_Bool, cases_lt, and_parts, and_from, and_cases, both_ways, lt-ltb, ltb-true, not_from_false}
use Rattle.jiff_core.proofs.SignedLemmas.{signed_arith}
use Rattle.jiff_tz.specs.declared.timezone.TimeZone.{TimeZone}
use Rattle.cron_units.specs.declared.way.Way.{Way}
use Rattle.cron_units.specs.declared.way.Way.TheVariants.{Ahead, Back}
use Rattle.cron_units.specs.Nearest.{LiesFrom, Precedes, IsNearestAt}
use Rattle.cron_time.specs.Search.Inner.Blocks.{AllFail}
use Rattle.cron_moments.specs.Civil.{civil, days_in_range}
use Rattle.cron_moments.specs.CivilDates.{date_numbered}
use Rattle.cron_time.specs.Search.Counts.{Stretch, count_within, candidates, is_gap_match, gap_matches, low_end, high_end, passed, span, conversions, days_of}
use Rattle.cron_time.specs.Search.Inner.DaySearch.{candidate_day, IsAsked, day_of}
use Rattle.cron_moments.specs.Found.{second_of}
use Rattle.cron_moments.specs.Found.{found_items}
use Rattle.cron_moments.specs.declared.readings.Found.{Found}
use Rattle.cron_time.proofs.Searches.DaySearchLemmas.{items_second}
use Rattle.cron_time.proofs.Searches.StandLemmas.{unmatched}
use Rattle.cron_moments.specs.Readings.{readings}
use Rattle.cron_time.specs.Seconds as seconds
use Rattle.cron_time.specs.Seconds.{has_item}
use Rattle.cron_time.specs.Search.{items_of, stands, IsFound, IsFoundAt}
use Rattle.cron_units.specs.Sets.{Sets}
use Rattle.cron_time.specs.Matches.{is_candidate, matches}
use Rattle.cron_time.specs.Search.Inner.Starts.{Starts, LiesOutside}
use Rattle.cron_time.specs.Search.Inner.Tally.{IsTally, NotPast, IsPassedTo}
use Rattle.cron_time.proofs.Searches.TallyLemmas.{kind_bound, kind_same, kind_one, kind_joined, kind_unique, within_kind, kind_none}

-- the numbers from a start to an answer are those of the stretch
Within : ℕ → Way → ℤ → Option ℕ → Stretch → Type 0
Within limit way first answer s =
    (s.to ≤ limit) × ((k : ℕ) → k < limit → LiesFrom way first k → NotPast way k answer → (s.from ≤ k) × (k < s.to))
    × ((k : ℕ) → s.from ≤ k → k < s.to → LiesFrom way first k × NotPast way k answer)

days_within : (way : Way) (s : Sets) (first : ℤ) (answer : Option ℕ) (stretch : Stretch) (days : ℕ) → Within days_in_range way first answer stretch
    → IsTally days_in_range (IsPassedTo way (candidate_day s) first answer) days → days ≡ candidates s stretch
unfolding Within
days_within way s first answer stretch days w counted =
    let test : ℕ → Bool = λ day. is_candidate s (date_numbered day).0 in
    kind_unique days_in_range (IsPassedTo way (candidate_day s) first answer) days (count_within test stretch) counted
    (kind_same days_in_range _ _ _
    (λ k lt p. let both = w.2 k p.0 p.1 in record { passes = and_from (nat_lt k days_in_range) (test k) (lt-ltb k days_in_range lt) p.2; lies = both.0; until = both.1 })
    (λ k lt p. let both = w.1 k lt p.lies p.until in (both.0, both.1, (and_parts (nat_lt k days_in_range) (test k) p.passes).1))
    (within_kind days_in_range test stretch w.0))

-- a civil second that matches and doesn't stand is a gap match
gap_from : (s : Sets) (z : TimeZone) (k : ℕ) → k < 4_133_980_800 → matches s (civil k) ≡ true → stands s z k ≡ false → is_gap_match s z k ≡ true
unfolding seconds.items_of
gap_from s z k lt h silent =
    let items : items_of s z k ≡ readings z k = rw h refl in
    elim (and_cases (nat_lt k 4_133_980_800) (has_item (items_of s z k)) silent) [
      | inl e ↦ absurd (both_ways (nat_lt k 4_133_980_800) e (lt-ltb k 4_133_980_800 lt))
      | inr e ↦ and_from (matches s (civil k)) (not (has_item (readings z k))) h (not_from_false (has_item (readings z k)) (ap has_item (sym items) ∙ e))
    ]

gap_matched : (s : Sets) (z : TimeZone) (k : ℕ) → is_gap_match s z k ≡ true → matches s (civil k) ≡ true
gap_matched s z k h = (and_parts (matches s (civil k)) (not (has_item (readings z k))) h).0

none_within : (way : Way) (s : Sets) (z : TimeZone) (first : ℤ) (stretch : Stretch) (count : ℕ) → Within 4_133_980_800 way first None stretch
    → AllFail way (stands s z) first → IsTally 4_133_980_800 (IsAsked way s first None) count → count ≡ gap_matches s z stretch
unfolding Within
none_within way s z first stretch count w none counted =
    kind_unique 4_133_980_800 (IsAsked way s first None) count (gap_matches s z stretch) counted
    (kind_same 4_133_980_800 _ _ _
    (λ k lt p. record { passes = gap_matched s z k p.2; lies = (w.2 k p.0 p.1).0; until = tt })
    (λ k lt p. let both = w.1 k lt p.lies tt in (both.0, both.1, gap_from s z k lt p.passes (none k p.lies)))
    (within_kind 4_133_980_800 (is_gap_match s z) stretch w.0))

-- the numbers from a start up to an answer, which is left out, are those of the stretch
Until : ℕ → Way → ℤ → ℕ → Stretch → Type 0
Until limit way first c s =
    (s.to ≤ limit) × ((k : ℕ) → LiesFrom way first k → Precedes way k c → (s.from ≤ k) × (k < s.to))
    × ((k : ℕ) → s.from ≤ k → k < s.to → LiesFrom way first k × Precedes way k c)

apart : (way : Way) (k c : ℕ) → Precedes way k c → k ≡ c → ⊥
apart Ahead k c h e = omega arith
apart Back k c h e = omega arith

some_until : (way : Way) (s : Sets) (z : TimeZone) (first : ℤ) (c : ℕ) (stretch : Stretch) (count : ℕ) → c < 4_133_980_800
    → Until 4_133_980_800 way first c stretch → matches s (civil c) ≡ true → IsNearestAt way (stands s z) first c
    → IsTally 4_133_980_800 (IsAsked way s first (Some c)) count → count ≡ gap_matches s z stretch + 1
unfolding Until
some_until way s z first c stretch count lt u match found counted =
    kind_unique 4_133_980_800 (IsAsked way s first (Some c)) count (gap_matches s z stretch + 1) counted
    (kind_joined 4_133_980_800 _ (λ k. k ≡ c) (IsAsked way s first (Some c)) (gap_matches s z stretch) 1
    (within_kind 4_133_980_800 (is_gap_match s z) stretch u.0)
    (kind_one 4_133_980_800 (λ k. k ≡ c) c lt refl (λ k below e. e))
    (λ k below p e. apart way k c (u.2 k p.0 p.1).1 e)
    (λ k below e. elim e [
      | inl p ↦ let both = u.2 k p.0 p.1 in record { passes = gap_matched s z k p.2; lies = both.0; until = inl both.1 }
      | inr here ↦ let P : ℕ → Type 0 = IsAsked way s first (Some c) in subst P (sym here) (record { passes = match; lies = found.lies; until = inr refl })
    ])
    (λ k below p. elim p.until [
      | inl less ↦ let both = u.1 k p.lies less in inl (both.0, both.1, gap_from s z k below p.passes (found.nearest k p.lies less))
      | inr here ↦ inr here
    ]))

-- the days of a search, one direction at a time
days_to_ahead : (from : ℤ) (start c k : ℕ) → start ≡ low_end from → LiesFrom Ahead (pos (start / 86_400)) k → NotPast Ahead k (Some (c / 86_400))
    → (low_end from / 86_400 ≤ k) × (k < c / 86_400 + 1)
days_to_ahead from start c k e lies (inl lt) = (omega (arith, signed_arith), omega arith)
days_to_ahead from start c k e lies (inr here) = (omega (arith, signed_arith), omega arith)

days_from_ahead : (c k : ℕ) → k < c / 86_400 + 1 → NotPast Ahead k (Some (c / 86_400))
days_from_ahead c k h = elim (cases_lt k (c / 86_400)) [ inl lt ↦ inl lt | inr ge ↦ inr (omega arith) ]

days_to_back : (from : ℤ) (start c k : ℕ) → start + 1 ≡ high_end from → LiesFrom Back (pos (start / 86_400)) k → NotPast Back k (Some (c / 86_400))
    → (c / 86_400 ≤ k) × (k < (high_end from + 86_399) / 86_400)
days_to_back from start c k e lies (inl lt) = (omega arith, omega (arith, signed_arith))
days_to_back from start c k e lies (inr here) = (omega arith, omega (arith, signed_arith))

days_from_back : (c k : ℕ) → c / 86_400 ≤ k → NotPast Back k (Some (c / 86_400))
days_from_back c k h = elim (cases_lt (c / 86_400) k) [ inl lt ↦ inl lt | inr ge ↦ inr (omega arith) ]

ends_days : (way : Way) (from : ℤ) (start c : ℕ) → Starts way from start → c < 4_133_980_800
    → Within days_in_range way (pos (start / 86_400)) (Some (c / 86_400)) (span way from (Some c))
unfolding Within
ends_days Ahead from start c st lt =
    let e : start ≡ low_end from = st.is_first in
    (omega arith, λ k small lies. days_to_ahead from start c k e lies, λ k low high. (omega (arith, signed_arith), days_from_ahead c k high))
ends_days Back from start c st lt =
    let e : start + 1 ≡ high_end from = st.is_first in
    let s = st.in_range in
    (omega arith, λ k small lies. days_to_back from start c k e lies, λ k low high. (omega (arith, signed_arith), days_from_back c k low))

whole_days : (way : Way) (from : ℤ) (start : ℕ) → Starts way from start → Within days_in_range way (pos (start / 86_400)) None (span way from None)
unfolding Within
whole_days Ahead from start st =
    let e : start ≡ low_end from = st.is_first in
    (omega arith, λ k small lies until. (omega (arith, signed_arith), small), λ k low high. (omega (arith, signed_arith), tt))
whole_days Back from start st =
    let e : start + 1 ≡ high_end from = st.is_first in
    let s = st.in_range in
    (omega arith, λ k small lies until. (omega arith, omega (arith, signed_arith)), λ k low high. (omega (arith, signed_arith), tt))

-- the civil seconds of a search
ends_seconds : (way : Way) (from : ℤ) (start c : ℕ) → Starts way from start → c < 4_133_980_800
    → Until 4_133_980_800 way (pos start) c (passed way from (Some c))
unfolding Until
ends_seconds Ahead from start c st lt =
    let e : start ≡ low_end from = st.is_first in
    (omega arith, λ k lies less. (omega (arith, signed_arith), less), λ k low high. (omega (arith, signed_arith), high))
ends_seconds Back from start c st lt =
    let e : start + 1 ≡ high_end from = st.is_first in
    let s = st.in_range in
    (omega arith, λ k lies less. (omega arith, omega (arith, signed_arith)), λ k low high. (omega (arith, signed_arith), omega arith))

whole_seconds : (way : Way) (from : ℤ) (start : ℕ) → Starts way from start → Within 4_133_980_800 way (pos start) None (passed way from None)
unfolding Within
whole_seconds Ahead from start st =
    let e : start ≡ low_end from = st.is_first in
    (omega arith, λ k small lies until. (omega (arith, signed_arith), small), λ k low high. (omega (arith, signed_arith), tt))
whole_seconds Back from start st =
    let e : start + 1 ≡ high_end from = st.is_first in
    let s = st.in_range in
    (omega arith, λ k small lies until. (omega arith, omega (arith, signed_arith)), λ k low high. (omega (arith, signed_arith), tt))

-- the answer's second stands, so it matches and is in range
pub stands_matches : (s : Sets) (z : TimeZone) (c : ℕ) → stands s z c ≡ true → (c < 4_133_980_800) × (matches s (civil c) ≡ true)
stands_matches s z c h =
    elim (cases_Bool (matches s (civil c))) [
      | inl inside ↦ (ltb-true c 4_133_980_800 (and_parts (nat_lt c 4_133_980_800) (has_item (items_of s z c)) h).0, inside)
      | inr out ↦ absurd (both_ways (stands s z c) (unmatched s z c out) h)
    ]

-- what was found is the answer's second
pub answer_second : (way : Way) (s : Sets) (z : TimeZone) (start : ℤ) (f : Found) → IsFoundAt way s z start (found_items f)
    → IsNearestAt way (stands s z) start f.first.second
answer_second way s z start f h =
    let P : ℕ → Type 0 = IsNearestAt way (stands s z) start in subst P (sym (items_second s z h.second f h.items)) h.nearest

pub days_counted : (way : Way) (s : Sets) (z : TimeZone) (from : ℤ) (start days : ℕ) (found : Option Found) → Starts way from start
    → IsFound way s z (pos start) (option_map found_items found)
    → IsTally days_in_range (IsPassedTo way (candidate_day s) (pos (start / 86_400)) (day_of found)) days → days ≡ days_of way s from (second_of found)
days_counted way s z from start days None st h counted =
    days_within way s (pos (start / 86_400)) None (span way from None) days (whole_days way from start st) counted
days_counted way s z from start days (Some f) st h counted =
    let fits = (stands_matches s z f.first.second (answer_second way s z (pos start) f h).passes).0 in
    days_within way s (pos (start / 86_400)) (Some (f.first.second / 86_400)) (span way from (Some f.first.second)) days
    (ends_days way from start f.first.second st fits) counted

pub conversions_counted : (way : Way) (s : Sets) (z : TimeZone) (from : ℤ) (start count : ℕ) (found : Option Found) → Starts way from start
    → IsFound way s z (pos start) (option_map found_items found) → IsTally 4_133_980_800 (IsAsked way s (pos start) (second_of found)) count
    → count ≡ conversions way s z from (second_of found)
conversions_counted way s z from start count None st h counted =
    none_within way s z (pos start) (passed way from None) count (whole_seconds way from start st) h counted ∙ sym (add-zero _)
conversions_counted way s z from start count (Some f) st h counted =
    let nearest = answer_second way s z (pos start) f h in
    let both = stands_matches s z f.first.second nearest.passes in
    some_until way s z (pos start) f.first.second (passed way from (Some f.first.second)) count both.0
    (ends_seconds way from start f.first.second st both.0) both.1 nearest counted

-- where the numbers of a stretch come to nothing
empty_stretch : (test : ℕ → Bool) (s : Stretch) → s.to ≤ s.from → 0 ≡ count_within test s
empty_stretch test s h =
    kind_unique s.to _ 0 (count_within test s) (kind_none s.to _ (λ k lt p. omega (arith, p.0, p.1))) (within_kind s.to test s (omega arith))

pub outside_days : (way : Way) (s : Sets) (from : ℤ) → LiesOutside way from → 0 ≡ days_of way s from None
outside_days Ahead s (pos b) h = empty_stretch _ (span Ahead (pos b) None) (omega (arith, signed_arith))
outside_days Ahead s (negsuc b) h = absurd (omega (arith, signed_arith))
outside_days Back s (pos b) h = absurd (omega (arith, signed_arith))
outside_days Back s (negsuc b) h = empty_stretch _ (span Back (negsuc b) None) (omega arith)

pub outside_conversions : (way : Way) (s : Sets) (z : TimeZone) (from : ℤ) → LiesOutside way from → 0 ≡ conversions way s z from None
outside_conversions Ahead s z (pos b) h = empty_stretch (is_gap_match s z) (passed Ahead (pos b) None) (omega (arith, signed_arith)) ∙ sym (add-zero _)
outside_conversions Ahead s z (negsuc b) h = absurd (omega (arith, signed_arith))
outside_conversions Back s z (pos b) h = absurd (omega (arith, signed_arith))
outside_conversions Back s z (negsuc b) h = empty_stretch (is_gap_match s z) (passed Back (negsuc b) None) (omega arith) ∙ sym (add-zero _)

-- a search looks at no more days than there are
pub within_end : (test : ℕ → Bool) (s : Stretch) → count_within test s ≤ s.to
within_end test s = kind_bound s.to _ _ (within_kind s.to test s (omega arith))

pub days_at_most : (way : Way) (s : Sets) (from : ℤ) (answer : Option ℕ) → IfSome answer (λ c. c < 4_133_980_800) → days_of way s from answer ≤ days_in_range
days_at_most way s from answer h = omega (arith, within_end (λ day. is_candidate s (date_numbered day).0) (span way from answer), span_end way from answer h)
  where
    span_end : (way : Way) (from : ℤ) (answer : Option ℕ) → IfSome answer (λ c. c < 4_133_980_800) → (span way from answer).to ≤ days_in_range
    span_end Ahead from None h = omega arith
    span_end Ahead from (Some c) h = omega arith
    span_end Back (pos b) None h = omega arith
    span_end Back (negsuc b) None h = omega arith
    span_end Back (pos b) (Some c) h = omega arith
    span_end Back (negsuc b) (Some c) h = omega arith

-- what was found is in range
pub found_in : (way : Way) (s : Sets) (z : TimeZone) (from : ℤ) (found : Option Found) → IsFound way s z from (option_map found_items found)
    → IfSome (second_of found) (λ c. c < 4_133_980_800)
found_in way s z from None h = tt
found_in way s z from (Some f) h = (stands_matches s z f.first.second (answer_second way s z from f h).passes).0
