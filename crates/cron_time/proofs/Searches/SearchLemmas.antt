-- The search of the days.
use Rattle.std.proofs.Common.{◌≡◌, ℕ, zero, suc, ◌+◌, ◌*◌, ◌/◌, ◌%◌, ◌<◌, ◌⊎◌, true, false, nat_lt, ℤ, pos, negsuc, List, Option, Some, None, is_some, option_map, IfSome, sym, subst, ◌∙◌, inl, inr, arith}
use Rattle.std.proofs.lemmas.Bool.{and_left, and_parts, and_from, both_ways, cases_lt, le-ltb, lt-ltb, ltb-true}
use Rattle.jiff_core.proofs.SignedLemmas.{signed_arith}
use Rattle.jiff_tz.specs.declared.timezone.TimeZone.{TimeZone}
use Rattle.cron_units.specs.declared.way.Way.{Way}
use Rattle.cron_units.specs.declared.way.Way.TheVariants.{Ahead, Back}
use Rattle.cron_units.specs.Nearest.{LiesFrom, Precedes, IsNearest}
use Rattle.cron_units.specs.Units.{contains}
use Rattle.cron_time.specs.Search.Inner.Blocks.{Reaches, ReachesIfAny, left_to_reach}
use Rattle.cron_moments.specs.Civil.{civil, days_in_range}
use Rattle.cron_moments.specs.CivilDates.{date_numbered}
use Rattle.cron_time.specs.Search.Counts.{high_end}
use Rattle.cron_moments.specs.Readings.{Reading}
use Rattle.cron_time.specs.Search.Inner.DaySearch.{candidate_day, Finds, IsAskedIn, IsAsked, IsAskedBefore, day_of}
use Rattle.cron_moments.specs.Found.{second_of}
use Rattle.cron_time.specs.Search.Inner.Days.{day_rank, number_of, IsInRange}
use Rattle.cron_moments.specs.Found.{found_items}
use Rattle.cron_time.specs.Search.Inner.Numbers.{beyond, beyond_day, matches_rank, matches_second, stands_at}
use Rattle.cron_moments.specs.Calendar.{rank_of_date}
use Rattle.cron_time.specs.Seconds.{has_item}
use Rattle.cron_time.specs.Search.{items_of, stands, IsFound}
use Rattle.cron_units.specs.Sets.{Sets}
use Rattle.cron_time.specs.Matches.{is_candidate, matches, matches_date}
use Rattle.cron_moments.specs.Calendar.{weekday_number}
use Rattle.cron_time.specs.Search.Inner.Starts.{Starts}
use Rattle.cron_time.specs.Search.Inner.Tally.{IsTally, NotPast, IsPassedBefore, IsPassedTo}
use Rattle.cron_time.specs.declared.search.days.Day.{Day}
use Rattle.cron_moments.specs.declared.readings.Found.{Found}
use Rattle.cron_time.proofs.Searches.BlockLemmas.{reach_start, reach_on, block_found}
use Rattle.cron_time.proofs.Searches.DayLemmas.{number_of_rank, by_number, lies_rank, rank_lies, past_rank, rank_past}
use Rattle.cron_time.proofs.Searches.DaySearchLemmas.{found_day, time_fits}
use Rattle.cron_time.proofs.Searches.StandLemmas.{matches_at, split_stands}
use Rattle.cron_time.proofs.Searches.TallyLemmas.{kind_none, kind_joined, kind_same, passed_found}
use Rattle.cron_time.proofs.Searches.WayLemmas.{side, before, same, after, after_beyond, lies_div, precedes_along}

-- the nearest day, by numbers
pub first_number : (way : Way) (s : Sets) (day : ℕ) (start : Day) (found : Option Day) → day < days_in_range → day_rank start ≡ rank_of_date (date_numbered day).0
    → IfSome found IsInRange → IsNearest way (matches_rank s) (pos (day_rank start)) (option_map day_rank found)
    → IsNearest way (candidate_day s) (pos day) (option_map number_of found)
first_number way s day start found small e range h =
    let P : ℕ → Type 0 = λ p. IsNearest way (matches_rank s) (pos p) (option_map day_rank found) in
    by_number way s _ _ found (λ j lt lies. lies_rank way day j small lt lies) (λ j lt lies. rank_lies way day j small lt lies) range (subst P e h)

-- the nearest one past a day, by numbers
pub past_number : (way : Way) (s : Sets) (day : ℕ) (d : Day) (found : Option Day) → day < days_in_range → day_rank d ≡ rank_of_date (date_numbered day).0
    → IfSome found IsInRange → IsNearest way (matches_rank s) (beyond way (day_rank d)) (option_map day_rank found)
    → IsNearest way (candidate_day s) (beyond way day) (option_map number_of found)
past_number way s day d found small e range h =
    let P : ℕ → Type 0 = λ p. IsNearest way (matches_rank s) (beyond way p) (option_map day_rank found) in
    by_number way s _ _ found (λ j lt lies. past_rank way day j small lt lies) (λ j lt lies. rank_past way day j small lt lies) range (subst P e h)

pub next_number : (way : Way) (s : Sets) (d : Day) (found : Option Day) → IsInRange d → matches_rank s (day_rank d) ≡ true → IfSome found IsInRange
    → IsNearest way (matches_rank s) (beyond way (day_rank d)) (option_map day_rank found)
    → IsNearest way (candidate_day s) (beyond way (number_of d)) (option_map number_of found)
next_number way s d found fits passes range h =
    let n = number_of_rank s d fits passes in
    past_number way s (number_of d) d found n.in_range (sym n.at) range h

-- the search past a day starts at the day past it
past_start_day : (way : Way) (day start : ℕ) → day < days_in_range → Starts way (beyond_day way day) start → beyond way day ≡ pos (start / 86_400)
past_start_day Ahead day start small h = let e = h.is_first in omega (arith, signed_arith, e, h.in_range)
past_start_day Back zero start small h = let e = h.is_first in absurd (omega (arith, signed_arith, e))
past_start_day Back (suc day) start small h =
    let last : beyond_day Back (suc day) ≡ pos (day * 86_400 + 86_399) = omega (arith, signed_arith) in
    let P : ℤ → Type 0 = λ n. start + 1 ≡ high_end n in
    let e : start + 1 ≡ high_end (pos (day * 86_400 + 86_399)) = subst P last h.is_first in
    omega (arith, signed_arith, e, h.in_range)

pub past_start : (way : Way) (s : Sets) (day start : ℕ) (next : Option ℕ) → day < days_in_range → Starts way (beyond_day way day) start
    → IsNearest way (candidate_day s) (beyond way day) next → IsNearest way (candidate_day s) (pos (start / 86_400)) next
past_start way s day start next small h nearest =
    let P : ℤ → Type 0 = λ n. IsNearest way (candidate_day s) n next in
    subst P (past_start_day way day start small h) nearest

-- the civil seconds of the range that lie from a number are those that lie from where its search starts
lies_start : (way : Way) (from : ℤ) (start k : ℕ) → Starts way from start → k < 4_133_980_800 → LiesFrom way from k → LiesFrom way (pos start) k
lies_start Ahead (pos b) start k h lt lies = let e = h.is_first in omega (arith, signed_arith, e)
lies_start Ahead (negsuc b) start k h lt lies = let e = h.is_first in omega (arith, signed_arith, e)
lies_start Back (pos b) start k h lt lies = let e = h.is_first in omega (arith, signed_arith, e)
lies_start Back (negsuc b) start k h lt lies = let e = h.is_first in absurd (omega (arith, e))

start_lies : (way : Way) (from : ℤ) (start k : ℕ) → Starts way from start → LiesFrom way (pos start) k → LiesFrom way from k
start_lies Ahead (pos b) start k h lies = let e = h.is_first in omega (arith, signed_arith, e)
start_lies Ahead (negsuc b) start k h lies = omega (arith, signed_arith)
start_lies Back (pos b) start k h lies = let e = h.is_first in omega (arith, signed_arith, e)
start_lies Back (negsuc b) start k h lies = let e = h.is_first in absurd (omega (arith, e))

high_silent : (s : Sets) (z : TimeZone) (k : ℕ) → (k < 4_133_980_800 → stands s z k ≡ false) → stands s z k ≡ false
high_silent s z k h =
    elim (cases_lt k 4_133_980_800) [
      | inl lt ↦ h lt
      | inr ge ↦ and_left (nat_lt k 4_133_980_800) (has_item (items_of s z k)) (le-ltb k 4_133_980_800 ge)
    ]

-- what is found from there is found from the number on
pub found_start : (way : Way) (s : Sets) (z : TimeZone) (from : ℤ) (start : ℕ) (found : Option (List Reading)) → Starts way from start
    → IsFound way s z (pos start) found → IsFound way s z from found
found_start way s z from start None h f = λ k lies. high_silent s z k (λ lt. f k (lies_start way from start k h lt lies))
found_start way s z from start (Some items) h f = record {
  second = f.second;
  nearest = record {
    passes = f.nearest.passes;
    lies = start_lies way from start f.second h f.nearest.lies;
    nearest = λ k lies early. high_silent s z k (λ lt. f.nearest.nearest k (lies_start way from start k h lt lies) early);
  };
  items = f.items;
}

-- a day that was found is in range, and its rank passes
pub found_passes : (way : Way) (s : Sets) (start : ℤ) (found : Option Day) → IfSome found IsInRange
    → IsNearest way (matches_rank s) start (option_map day_rank found) → IfSome found (λ d. IsInRange d × (matches_rank s (day_rank d) ≡ true))
found_passes way s start None range h = tt
found_passes way s start (Some d) range h = (range, h.passes)

pub days_start : (way : Way) (s : Sets) (z : TimeZone) (start : ℕ) (next : Option ℕ) → IsNearest way (candidate_day s) (pos (start / 86_400)) next
    → ReachesIfAny way 86_400 (candidate_day s) (stands s z) (pos start) (pos (start / 86_400)) next
days_start way s z start next h =
    reach_start way 86_400 (candidate_day s) (stands s z) (pos start) (pos (start / 86_400)) next (split_stands s z).block_fails
    (λ n lies. lies_div way 86_400 start n (omega arith) lies) h

pub days_next : (way : Way) (s : Sets) (z : TimeZone) (start day : ℕ) (next : Option ℕ)
    → Reaches way 86_400 (candidate_day s) (stands s z) (pos start) (pos (start / 86_400)) day → Finds way s z (pos start) day None
    → IsNearest way (candidate_day s) (beyond way day) next → ReachesIfAny way 86_400 (candidate_day s) (stands s z) (pos start) (pos (start / 86_400)) next
days_next way s z start day next reached none h =
    reach_on way 86_400 (candidate_day s) (stands s z) (pos start) (pos (start / 86_400)) day next (split_stands s z).block_fails reached none h

-- what is found in a day is found of all
pub day_found : (way : Way) (s : Sets) (z : TimeZone) (start day : ℕ) (found : Option Found)
    → Reaches way 86_400 (candidate_day s) (stands s z) (pos start) (pos (start / 86_400)) day → is_some found ≡ true
    → Finds way s z (pos start) day (option_map found_items found) → IsFound way s z (pos start) (option_map found_items found)
day_found way s z start day None reached e h = cc
day_found way s z start day (Some f) reached e h = record {
  second = day * 86_400 + h.finds.time;
  nearest = block_found way 86_400 (candidate_day s) (stands_at s z) (stands s z) (pos start) (pos (start / 86_400)) day h.from h.finds.time
      (split_stands s z) reached h.enters (time_fits s z day h.finds.time h.finds.nearest.passes) h.finds.nearest;
  items = h.finds.items;
}

pub days_found : (way : Way) (s : Sets) (z : TimeZone) (start day count : ℕ) (found : Option Found)
    → Reaches way 86_400 (candidate_day s) (stands s z) (pos start) (pos (start / 86_400)) day → is_some found ≡ true
    → Finds way s z (pos start) day (option_map found_items found)
    → IsTally days_in_range (IsPassedBefore way (candidate_day s) (pos (start / 86_400)) (Some day)) count
    → IsTally days_in_range (IsPassedTo way (candidate_day s) (pos (start / 86_400)) (day_of found)) (count + 1)
days_found way s z start day count None reached e h counted = cc
days_found way s z start day count (Some f) reached e h counted =
    let same_day : f.first.second / 86_400 ≡ day = found_day way s z day h.from f h.finds in
    let P : ℕ → Type 0 = λ d. IsTally days_in_range (IsPassedTo way (candidate_day s) (pos (start / 86_400)) (Some d)) (count + 1) in
    let small : day < days_in_range = ltb-true day days_in_range (and_parts (nat_lt day days_in_range) (is_candidate s (date_numbered day).0) reached.block).0 in
    subst P (sym same_day) (passed_found way days_in_range (candidate_day s) (pos (start / 86_400)) day count small reached.block reached.lies counted)

-- the day of a civil second that matches is a candidate
pub match_date : (s : Sets) (k : ℕ) → matches s (civil k) ≡ true → is_candidate s (date_numbered (k / 86_400)).0 ≡ true
match_date s k h =
    let date = (and_parts (matches_date s (date_numbered (k / 86_400)).0) (matches_second s (k % 86_400)) (sym (matches_at s k) ∙ h)).0 in
    (and_parts (is_candidate s (date_numbered (k / 86_400)).0) (contains s.days_of_week (weekday_number (date_numbered (k / 86_400)).0)) date).0

match_candidate : (s : Sets) (k : ℕ) → k < 4_133_980_800 → matches s (civil k) ≡ true → candidate_day s (k / 86_400) ≡ true
match_candidate s k lt h =
    and_from (nat_lt (k / 86_400) days_in_range) (is_candidate s (date_numbered (k / 86_400)).0) (lt-ltb (k / 86_400) days_in_range (omega arith)) (match_date s k h)

-- before the first candidate nothing is asked
none_before : (way : Way) (s : Sets) (start k : ℕ) (next : Option ℕ) → IsNearest way (candidate_day s) (pos (start / 86_400)) next → k < 4_133_980_800
    → IsAskedBefore way s (pos start) next k → ⊥
none_before way s start k None h lt p =
    both_ways (candidate_day s (k / 86_400)) (h (k / 86_400) (lies_div way 86_400 start k (omega arith) p.lies)) (match_candidate s k lt p.passes)
none_before way s start k (Some n) h lt p =
    both_ways (candidate_day s (k / 86_400)) (h.nearest (k / 86_400) (lies_div way 86_400 start k (omega arith) p.lies) p.until)
    (match_candidate s k lt p.passes)

pub asked_start : (way : Way) (s : Sets) (start : ℕ) (next : Option ℕ) → IsNearest way (candidate_day s) (pos (start / 86_400)) next
    → IsTally 4_133_980_800 (IsAskedBefore way s (pos start) next) 0
asked_start way s start next h = kind_none 4_133_980_800 _ (λ k lt p. none_before way s start k next h lt p)

not_before_itself : (way : Way) (n k : ℕ) → k ≡ n → Precedes way k n → ⊥
not_before_itself Ahead n k e h = omega arith
not_before_itself Back n k e h = omega arith

asked_earlier : (way : Way) (s : Sets) (start day k : ℕ) (next : Option ℕ) → IsNearest way (candidate_day s) (beyond way day) next
    → IsAskedBefore way s (pos start) (Some day) k ⊎ IsAskedIn way s (pos start) day None k → IsAskedBefore way s (pos start) next k
asked_earlier way s start day k None h (inl p) = record { passes = p.passes; lies = p.lies; until = tt }
asked_earlier way s start day k None h (inr p) = record { passes = p.passes; lies = p.lies; until = tt }
asked_earlier way s start day k (Some n) h (inl p) = record {
  passes = p.passes;
  lies = p.lies;
  until = precedes_along way (k / 86_400) day n p.until (after_beyond way day n h.lies);
}
asked_earlier way s start day k (Some n) h (inr p) =
    let P : ℕ → Type 0 = λ d. Precedes way d n in
    record { passes = p.passes; lies = p.lies; until = subst P (sym p.until.0) (after_beyond way day n h.lies) }

asked_later : (way : Way) (s : Sets) (start day k : ℕ) (next : Option ℕ) → IsNearest way (candidate_day s) (beyond way day) next → k < 4_133_980_800
    → LiesFrom way (beyond way day) (k / 86_400) → IsAskedBefore way s (pos start) next k → ⊥
asked_later way s start day k None h lt lies p = both_ways (candidate_day s (k / 86_400)) (h (k / 86_400) lies) (match_candidate s k lt p.passes)
asked_later way s start day k (Some n) h lt lies p = both_ways (candidate_day s (k / 86_400)) (h.nearest (k / 86_400) lies p.until)
    (match_candidate s k lt p.passes)

pub asked_next : (way : Way) (s : Sets) (start day a b : ℕ) (next : Option ℕ) → IsNearest way (candidate_day s) (beyond way day) next
    → IsTally 4_133_980_800 (IsAskedBefore way s (pos start) (Some day)) a → IsTally 4_133_980_800 (IsAskedIn way s (pos start) day None) b
    → IsTally 4_133_980_800 (IsAskedBefore way s (pos start) next) (a + b)
asked_next way s start day a b next h early here =
    kind_joined 4_133_980_800 (IsAskedBefore way s (pos start) (Some day)) (IsAskedIn way s (pos start) day None) (IsAskedBefore way s (pos start) next) a
    b early here
    (λ k lt p q. not_before_itself way day (k / 86_400) q.until.0 p.until)
    (λ k lt e. asked_earlier way s start day k next h e)
    (λ k lt p. elim (side way day (k / 86_400)) [
      | before less ↦ inl (record { passes = p.passes; lies = p.lies; until = less })
      | same e ↦ inr (record { passes = p.passes; lies = p.lies; until = (e, tt) })
      | after past gt ↦ absurd (asked_later way s start day k next h lt past p)
    ])

-- an earlier day's civil seconds come before the answer's, and the answer's before a later day's
earlier_day : (way : Way) (k c : ℕ) → Precedes way (k / 86_400) (c / 86_400) → Precedes way k c
earlier_day Ahead k c h = omega arith
earlier_day Back k c h = omega arith

no_later_day : (way : Way) (k c : ℕ) → Precedes way (c / 86_400) (k / 86_400) → NotPast way k (Some c) → ⊥
no_later_day Ahead k c h (inl lt) = omega arith
no_later_day Ahead k c h (inr e) = omega arith
no_later_day Back k c h (inl lt) = omega arith
no_later_day Back k c h (inr e) = omega arith

asked_whole : (way : Way) (s : Sets) (start day c a b : ℕ) → c / 86_400 ≡ day → IsTally 4_133_980_800 (IsAskedBefore way s (pos start) (Some day)) a
    → IsTally 4_133_980_800 (IsAskedIn way s (pos start) day (Some c)) b → IsTally 4_133_980_800 (IsAsked way s (pos start) (Some c)) (a + b)
asked_whole way s start day c a b e early here =
    kind_joined 4_133_980_800 (IsAskedBefore way s (pos start) (Some day)) (IsAskedIn way s (pos start) day (Some c)) (IsAsked way s (pos start) (Some c))
    a b early here
    (λ k lt p q. not_before_itself way day (k / 86_400) q.until.0 p.until)
    (λ k lt u. elim u [
      | inl p ↦ let P : ℕ → Type 0 = Precedes way (k / 86_400) in
          record { passes = p.passes; lies = p.lies; until = inl (earlier_day way k c (subst P (sym e) p.until)) }
      | inr q ↦ record { passes = q.passes; lies = q.lies; until = q.until.1 }
    ])
    (λ k lt p. elim (side way day (k / 86_400)) [
      | before less ↦ inl (record { passes = p.passes; lies = p.lies; until = less })
      | same f ↦ inr (record { passes = p.passes; lies = p.lies; until = (f, p.until) })
      | after past gt ↦ let P : ℕ → Type 0 = λ d. Precedes way d (k / 86_400) in absurd (no_later_day way k c (subst P (sym e) gt) p.until)
    ])

pub asked_found : (way : Way) (s : Sets) (z : TimeZone) (start day a b : ℕ) (found : Option Found) → is_some found ≡ true
    → Finds way s z (pos start) day (option_map found_items found) → IsTally 4_133_980_800 (IsAskedBefore way s (pos start) (Some day)) a
    → IsTally 4_133_980_800 (IsAskedIn way s (pos start) day (second_of found)) b
    → IsTally 4_133_980_800 (IsAsked way s (pos start) (second_of found)) (a + b)
asked_found way s z start day a b None e h early here = cc
asked_found way s z start day a b (Some f) e h early here =
    asked_whole way s start day f.first.second a b (found_day way s z day h.from f h.finds) early here

-- the search of the days comes to an end
pub fewer_days : (way : Way) (s : Sets) (day : ℕ) (next : Option ℕ) → candidate_day s day ≡ true → IsNearest way (candidate_day s) (beyond way day) next
    → left_to_reach way days_in_range next < left_to_reach way days_in_range (Some day)
fewer_days Ahead s day None c h = omega (arith, ltb-true day days_in_range (and_parts (nat_lt day days_in_range) (is_candidate s (date_numbered day).0) c).0)
fewer_days Ahead s day (Some n) c h = omega (
  arith,
  signed_arith,
  after_beyond Ahead day n h.lies,
  ltb-true n days_in_range (and_parts (nat_lt n days_in_range) (is_candidate s (date_numbered n).0) h.passes).0,
)
fewer_days Back s day None c h = omega arith
fewer_days Back s day (Some n) c h = omega (arith, signed_arith, after_beyond Back day n h.lies)

pub candidate_in : (s : Sets) (day : ℕ) → candidate_day s day ≡ true → day < days_in_range
candidate_in s day h = ltb-true day days_in_range (and_parts (nat_lt day days_in_range) (is_candidate s (date_numbered day).0) h).0

-- what was asked before the end was asked as far as no answer
pub asked_none_left : (way : Way) (s : Sets) (start : ℤ) (count : ℕ) → IsTally 4_133_980_800 (IsAskedBefore way s start None) count
    → IsTally 4_133_980_800 (IsAsked way s start None) count
asked_none_left way s start count h =
    kind_same 4_133_980_800 _ _ count (λ k lt p. record { passes = p.passes; lies = p.lies; until = tt })
    (λ k lt p. record { passes = p.passes; lies = p.lies; until = tt }) h
