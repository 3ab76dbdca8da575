-- The search of one day: what it finds, and what it asks.
use Rattle.std.proofs.Common.{◌≡◌, ℕ, ◌+◌, ◌*◌, ◌/◌, ◌%◌, ◌<◌, true, false, nat_lt, List, [], ℤ, pos, Option, Some, None, option_map, refl, sym, subst, ◌∙◌, inl, inr, arith}
use Rattle.std.proofs.lemmas.Bool.{and_parts, and_from, and_left, and_right, both_ways, cases_Bool, ltb-true}
use Rattle.jiff_tz.specs.declared.timezone.TimeZone.{TimeZone}
use Rattle.cron_units.specs.declared.way.Way.{Way}
use Rattle.cron_units.specs.declared.way.Way.TheVariants.{Ahead, Back}
use Rattle.cron_units.specs.Nearest.{LiesFrom, Precedes}
use Rattle.cron_units.specs.Units.{contains}
use Rattle.cron_time.specs.Search.Inner.Blocks.{Enters}
use Rattle.cron_moments.specs.Civil.{civil, days_in_range}
use Rattle.cron_moments.specs.CivilDates.{date_numbered}
use Rattle.cron_time.specs.Search.Inner.DaySearch.{candidate_day, FindsInDay, FindsTime, Finds, IsAskedIn, time_of}
use Rattle.cron_moments.specs.Found.{second_of}
use Rattle.cron_moments.specs.Found.{found_items}
use Rattle.cron_time.specs.Search.Inner.Numbers.{matches_second, stands_at}
use Rattle.cron_moments.specs.Readings.{Reading}
use Rattle.cron_time.specs.Seconds as seconds
use Rattle.cron_time.specs.Search.{items_of, stands}
use Rattle.cron_units.specs.Sets.{Sets}
use Rattle.cron_time.specs.Matches.{is_candidate, matches, matches_date}
use Rattle.cron_moments.specs.Calendar.{weekday_number}
use Rattle.cron_time.specs.Search.Inner.Tally.{IsTally, IsPassedTo, NotPast}
use Rattle.cron_moments.specs.declared.readings.Found.{Found}
use Rattle.cron_time.proofs.Searches.BlockLemmas.{block_fails}
use Rattle.cron_moments.proofs.FoundLemmas.{second_is}
use Rattle.cron_time.proofs.Searches.StandLemmas.{matches_at, unmatched, split_stands}
use Rattle.cron_time.proofs.Searches.TallyLemmas.{kind_block, kind_none, kind_same}

-- whether the date of a candidate matches goes with its weekday
pub date_fails : (s : Sets) (n : ℕ) → contains s.days_of_week (weekday_number (date_numbered n).0) ≡ false → matches_date s (date_numbered n).0 ≡ false
date_fails s n h = and_right (is_candidate s (date_numbered n).0) _ h

pub date_passes : (s : Sets) (n : ℕ) → is_candidate s (date_numbered n).0 ≡ true → contains s.days_of_week (weekday_number (date_numbered n).0) ≡ true
    → matches_date s (date_numbered n).0 ≡ true
date_passes s n c h = and_from (is_candidate s (date_numbered n).0) _ c h

-- nothing matches on a day whose date doesn't
day_unmatched : (s : Sets) (day k : ℕ) → matches_date s (date_numbered day).0 ≡ false → k / 86_400 ≡ day → matches s (civil k) ≡ false
day_unmatched s day k h e =
    let P : ℕ → Type 0 = λ n. matches_date s (date_numbered n).0 ≡ false in
    matches_at s k ∙ and_left (matches_date s (date_numbered (k / 86_400)).0) (matches_second s (k % 86_400)) (subst P (sym e) h)

pub day_silent : (way : Way) (s : Sets) (z : TimeZone) (start : ℤ) (day : ℕ) → matches_date s (date_numbered day).0 ≡ false → Finds way s z start day None
day_silent way s z start day h = λ k lies e. unmatched s z k (day_unmatched s day k h e)

pub day_unasked : (way : Way) (s : Sets) (start : ℤ) (day : ℕ) (answer : Option ℕ) → matches_date s (date_numbered day).0 ≡ false
    → IsTally 4_133_980_800 (IsAskedIn way s start day answer) 0
day_unasked way s start day answer h =
    kind_none 4_133_980_800 _ (λ k lt p. both_ways (matches s (civil k)) (day_unmatched s day k h p.until.0) p.passes)

-- what is found among the times of a day is found from a civil second on
pub day_finds : (way : Way) (s : Sets) (z : TimeZone) (start : ℤ) (day from : ℕ) (found : Option (List Reading)) → Enters way 86_400 start day from
    → FindsInDay way s z day from found → Finds way s z start day found
day_finds way s z start day from None enters h =
    block_fails way 86_400 (candidate_day s) (stands_at s z) (stands s z) start day from (split_stands s z) enters h
day_finds way s z start day from (Some items) enters h = record { from = from; enters = enters; finds = h }

-- the second that was found, from its items
pub items_second : (s : Sets) (z : TimeZone) (c : ℕ) (f : Found) → items_of s z c ≡ found_items f → f.first.second ≡ c
unfolding seconds.items_of
items_second s z c f e =
    elim (cases_Bool (matches s (civil c))) [
      | inl inside ↦ second_is z c f (sym e ∙ rw inside refl)
      | inr out ↦ let none : items_of s z c ≡ [] = rw out refl in cc
    ]

pub found_second : (way : Way) (s : Sets) (z : TimeZone) (day from : ℕ) (f : Found) (h : FindsTime way s z day from (found_items f))
    → f.first.second ≡ day * 86_400 + h.time
found_second way s z day from f h = items_second s z (day * 86_400 + h.time) f h.items

pub time_fits : (s : Sets) (z : TimeZone) (day r : ℕ) → stands_at s z day r ≡ true → r < 86_400
time_fits s z day r h = ltb-true r 86_400 (and_parts (nat_lt r 86_400) (stands s z (day * 86_400 + r)) h).0

pub found_day : (way : Way) (s : Sets) (z : TimeZone) (day from : ℕ) (f : Found) → FindsTime way s z day from (found_items f) → f.first.second / 86_400 ≡ day
found_day way s z day from f h =
    let e = found_second way s z day from f h in
    let lt = time_fits s z day h.time h.nearest.passes in
    omega (arith, e, lt)

-- within a day, seconds go as their times
rest_precedes : (way : Way) (k n : ℕ) → k / 86_400 ≡ n / 86_400 → Precedes way (k % 86_400) (n % 86_400) → Precedes way k n
rest_precedes Ahead k n e h = omega arith
rest_precedes Back k n e h = omega arith

precedes_rest : (way : Way) (k n : ℕ) → k / 86_400 ≡ n / 86_400 → Precedes way k n → Precedes way (k % 86_400) (n % 86_400)
precedes_rest Ahead k n e h = omega arith
precedes_rest Back k n e h = omega arith

-- the answer's day is this one
AnswerIn : ℕ → Option Found → Type 0
AnswerIn day None = Unit {0}
AnswerIn day (Some f) = f.first.second / 86_400 ≡ day

answer_in : (way : Way) (s : Sets) (z : TimeZone) (day from : ℕ) (o : Option Found) → FindsInDay way s z day from (option_map found_items o) → AnswerIn day o
unfolding AnswerIn
answer_in way s z day from None h = tt
answer_in way s z day from (Some f) h = found_day way s z day from f h

until_second : (way : Way) (day k : ℕ) (o : Option Found) → AnswerIn day o → k / 86_400 ≡ day → NotPast way (k % 86_400) (time_of o)
    → NotPast way k (second_of o)
unfolding AnswerIn
until_second way day k None at e h = tt
until_second way day k (Some f) at e (inl lt) = inl (rest_precedes way k f.first.second (e ∙ sym at) lt)
until_second way day k (Some f) at e (inr same) = inr (omega arith)

until_time : (way : Way) (day k : ℕ) (o : Option Found) → AnswerIn day o → k / 86_400 ≡ day → NotPast way k (second_of o) → NotPast way (k % 86_400) (time_of o)
unfolding AnswerIn
until_time way day k None at e h = tt
until_time way day k (Some f) at e (inl lt) = inl (precedes_rest way k f.first.second (e ∙ sym at) lt)
until_time way day k (Some f) at e (inr same) = inr (omega arith)

asked_from : (way : Way) (s : Sets) (start : ℤ) (day from k : ℕ) (o : Option Found) → AnswerIn day o → matches_date s (date_numbered day).0 ≡ true
    → Enters way 86_400 start day from → (k / 86_400 ≡ day) × IsPassedTo way (matches_second s) (pos from) (time_of o) (k % 86_400)
    → IsAskedIn way s start day (second_of o) k
asked_from way s start day from k o at date enters p =
    let P : ℕ → Type 0 = λ n. matches_date s (date_numbered n).0 ≡ true in
    let whole : day * 86_400 + k % 86_400 ≡ k = omega (arith, p.0) in
    let Q : ℕ → Type 0 = LiesFrom way start in
    record {
      passes = matches_at s k ∙ and_from (matches_date s (date_numbered (k / 86_400)).0) (matches_second s (k % 86_400)) (subst P (sym p.0) date) p.1.passes;
      lies = subst Q whole (enters.out (k % 86_400) (omega arith) p.1.lies);
      until = (p.0, until_second way day k o at p.0 p.1.until);
    }

asked_to : (way : Way) (s : Sets) (start : ℤ) (day from k : ℕ) (o : Option Found) → AnswerIn day o → matches_date s (date_numbered day).0 ≡ true
    → Enters way 86_400 start day from → IsAskedIn way s start day (second_of o) k
    → (k / 86_400 ≡ day) × IsPassedTo way (matches_second s) (pos from) (time_of o) (k % 86_400)
asked_to way s start day from k o at date enters p = (
  p.until.0,
  record {
    passes = (and_parts (matches_date s (date_numbered (k / 86_400)).0) (matches_second s (k % 86_400)) (sym (matches_at s k) ∙ p.passes)).1;
    lies = enters.into k p.lies p.until.0;
    until = until_time way day k o at p.until.0 p.until.1;
  },
)

-- the times asked are the civil seconds asked in the day
pub day_asked : (way : Way) (s : Sets) (z : TimeZone) (start : ℤ) (day from count : ℕ) (o : Option Found) → day < days_in_range
    → matches_date s (date_numbered day).0 ≡ true → Enters way 86_400 start day from → FindsInDay way s z day from (option_map found_items o)
    → IsTally 86_400 (IsPassedTo way (matches_second s) (pos from) (time_of o)) count
    → IsTally 4_133_980_800 (IsAskedIn way s start day (second_of o)) count
day_asked way s z start day from count o small date enters finds counted =
    let at = answer_in way s z day from o finds in
    kind_same 4_133_980_800 _ _ count
    (λ k lt p. asked_from way s start day from k o at date enters p)
    (λ k lt p. asked_to way s start day from k o at date enters p)
    (kind_block 4_133_980_800 86_400 day _ count (omega arith) (omega arith) counted)
