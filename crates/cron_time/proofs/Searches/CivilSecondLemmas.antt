-- A civil second of the range matches exactly if its day matches and its time of day lies in the sets.
use Rattle.std.proofs.Common.{◌≡◌, ℕ, ◌/◌, ◌%◌, ◌<◌, ℤ, Bool, true, false, ◌&&◌, nat_lt, Option, Some, None, refl, sym, ◌∙◌, inl, inr, arith}
use Rattle.std.proofs.lemmas.Bool.{and_left, and_parts, cases_lt, lt-ltb, le-ltb, ltb-true}
use Rattle.cron_moments.specs.Civil.{days_in_range}
use Rattle.cron_units.specs.declared.way.Way.{Way}
use Rattle.cron_units.specs.Nearest.{IsNearest}
use Rattle.cron_units.specs.Sets.{Sets}
use Rattle.cron_moments.specs.CivilDates.{date_numbered}
use Rattle.cron_moments.specs.Calendar.{weekday_number}
use Rattle.cron_units.specs.Units.{contains}
use Rattle.cron_time.specs.Matches.{is_candidate, is_match, matches_date}
use Rattle.cron_time.specs.Search.Inner.Blocks.{IsSplit}
use Rattle.cron_time.specs.Search.Inner.MonthDays.{matching_day}
use Rattle.cron_time.specs.Search.Inner.Numbers.{matches_rank, matches_second}
use Rattle.cron_time.proofs.Searches.BlockLemmas.{both_split}
use Rattle.cron_time.proofs.Searches.CarryLemmas.{both}
use Rattle.cron_time.proofs.Searches.DayLemmas.{no_day}
use Rattle.cron_time.proofs.Searches.StandLemmas.{matches_at}

day_in_range : (n : ℕ) → nat_lt n 4_133_980_800 ≡ nat_lt (n / 86_400) days_in_range
day_in_range n =
    elim (cases_lt n 4_133_980_800) [
      | inl lt ↦ lt-ltb n 4_133_980_800 lt ∙ sym (lt-ltb (n / 86_400) days_in_range (omega arith))
      | inr ge ↦ le-ltb n 4_133_980_800 ge ∙ sym (le-ltb (n / 86_400) days_in_range (omega arith))
    ]

pub and_assoc : (a b c : Bool) → (a && (b && c)) ≡ ((a && b) && c)
and_assoc true b c = refl
and_assoc false b c = refl

pub match_both : (s : Sets) (n : ℕ) → is_match s n ≡ both 86_400 (matching_day s) (matches_second s) n
match_both s n =
    rw (matches_at s n, day_in_range n)
    (and_assoc (nat_lt (n / 86_400) days_in_range) (matches_date s (date_numbered (n / 86_400)).0) (matches_second s (n % 86_400)))

pub split_match : (s : Sets) → IsSplit 86_400 (matching_day s) (λ _. matches_second s) (is_match s)
split_match s = both_split 86_400 (matching_day s) (λ _. matches_second s) (is_match s) (match_both s)

-- the day of a match is in range and its date matches, and its time lies in the sets
pub match_parts : (s : Sets) (n : ℕ) → is_match s n ≡ true
    → (n / 86_400 < days_in_range) × (matches_date s (date_numbered (n / 86_400)).0 ≡ true) × (matches_second s (n % 86_400) ≡ true)
match_parts s n h =
    let parts = and_parts (matching_day s (n / 86_400)) (matches_second s (n % 86_400)) (sym (match_both s n) ∙ h) in
    let day = and_parts (nat_lt (n / 86_400) days_in_range) (matches_date s (date_numbered (n / 86_400)).0) parts.0 in
    (ltb-true (n / 86_400) days_in_range day.0, day.1, parts.1)

-- the same numbers pass two tests that agree
pub nearest_same : (way : Way) (p q : ℕ → Bool) (start : ℤ) (found : Option ℕ) → ((n : ℕ) → q n ≡ p n) → IsNearest way p start found
    → IsNearest way q start found
nearest_same way p q start None e h = λ k lies. e k ∙ h k lies
nearest_same way p q start (Some n) e h = record {
  passes = e n ∙ h.passes;
  lies = h.lies;
  nearest = λ k lies early. e k ∙ h.nearest k lies early;
}

pub nearest_both : (way : Way) (s : Sets) (start : ℤ) (found : Option ℕ) → IsNearest way (is_match s) start found
    → IsNearest way (both 86_400 (matching_day s) (matches_second s)) start found
nearest_both way s start found h =
    nearest_same way (is_match s) (both 86_400 (matching_day s) (matches_second s)) start found (λ n. sym (match_both s n)) h

pub match_day : (s : Sets) (n : ℕ) → is_match s n ≡ true → matching_day s (n / 86_400) ≡ true
match_day s n h = (and_parts (matching_day s (n / 86_400)) (matches_second s (n % 86_400)) (sym (match_both s n) ∙ h)).0

-- a day that matches is in range
pub day_bound : (s : Sets) (day : ℕ) → matching_day s day ≡ true → day < days_in_range
day_bound s day h = ltb-true day days_in_range (and_parts (nat_lt day days_in_range) (matches_date s (date_numbered day).0) h).0

pub day_date : (s : Sets) (day : ℕ) → matching_day s day ≡ true → matches_date s (date_numbered day).0 ≡ true
day_date s day h = (and_parts (nat_lt day days_in_range) (matches_date s (date_numbered day).0) h).1

-- where no month has a day of the set nothing matches
pub no_match : (s : Sets) → ((p : ℕ) → matches_rank s p ≡ false) → (n : ℕ) → is_match s n ≡ false
no_match s none n =
    let date = (date_numbered (n / 86_400)).0 in
    (split_match s).block_fails n (and_assoc (nat_lt (n / 86_400) days_in_range) (is_candidate s date) (contains s.days_of_week (weekday_number date))
    ∙ and_left (nat_lt (n / 86_400) days_in_range && is_candidate s date) (contains s.days_of_week (weekday_number date)) (no_day s none (n / 86_400)))
