-- The times of a day by their minutes, and what comes past one in its day.
use Rattle.std.proofs.Common.{◌≡◌, ℕ, ◌+◌, ◌*◌, ◌/◌, ◌%◌, ◌<◌, pos, true, Option, Some, None, option_map, is_some, IfSome, refl, sym, subst, ◌∙◌, arith}
use Rattle.jiff_tz.specs.declared.timezone.TimeZone.{TimeZone}
use Rattle.cron_moments.specs.Civil.{seconds_in_range}
use Rattle.cron_moments.specs.CivilDates.{date_numbered}
use Rattle.cron_moments.specs.Found.{found_items}
use Rattle.cron_moments.specs.Readings.{readings}
use Rattle.cron_moments.specs.declared.readings.Found.{Found}
use Rattle.cron_units.specs.declared.way.Way.{Way}
use Rattle.cron_units.specs.Nearest.{IsNearestAt}
use Rattle.cron_units.specs.Sets.{Sets}
use Rattle.cron_units.specs.Units.{contains}
use Rattle.cron_time.specs.Matches.{is_match, matches_date}
use Rattle.cron_time.specs.Search.{items_of, IsFound}
use Rattle.cron_time.specs.Search.Inner.Blocks.{AllFail, IsExtreme}
use Rattle.cron_time.specs.Search.Inner.Minutes.{matches_minute, IsLaterInDay}
use Rattle.cron_time.specs.Search.Inner.MonthDays.{matching_day}
use Rattle.cron_time.specs.Search.Inner.Numbers.{beyond, beyond_day, matches_second}
use Rattle.cron_time.proofs.Searches.BlockLemmas.{div_of, mod_of}
use Rattle.cron_time.proofs.Searches.CarryLemmas.{both, both_parts, past_in, past_none, past_next, past_out}
use Rattle.cron_time.proofs.Searches.CivilSecondLemmas.{and_assoc, match_both, match_day, nearest_same}
use Rattle.cron_time.proofs.Searches.OwnDayLemmas.{own_day, later_day}
use Rattle.cron_time.proofs.Searches.StandLemmas.{heard, items_at, second_fails}

-- a time lies in the sets exactly if its minute of the day and its second do
matches_both : (s : Sets) (n : ℕ) → matches_second s n ≡ both 60 (matches_minute s) (contains s.seconds) n
matches_both s n =
    let hour : n / 60 / 60 ≡ n / 3600 = omega arith in
    let minute : n / 60 % 60 ≡ n % 3600 / 60 = omega arith in
    let second : n % 60 ≡ n % 3600 % 60 = omega arith in
    rw (hour, minute, second) (and_assoc (contains s.hours (n / 3600)) (contains s.minutes (n % 3600 / 60)) (contains s.seconds (n % 3600 % 60)))

-- past a time there is none where its minute has no later second and no later minute lies in the sets
pub times_end : (way : Way) (s : Sets) (q p : ℕ) → p < 60 → AllFail way (contains s.seconds) (beyond way p) → AllFail way (matches_minute s) (beyond way q)
    → AllFail way (matches_second s) (beyond way (q * 60 + p))
times_end way s q p fits none end =
    let test = both 60 (matches_minute s) (contains s.seconds) in
    nearest_same way test (matches_second s) (beyond way (q * 60 + p)) None (matches_both s)
    (past_out way 60 (matches_minute s) (contains s.seconds) (q * 60 + p) None (omega arith) (rw (mod_of 60 q p fits) none)
    (rw (div_of 60 q p fits) (past_none way 60 (matches_minute s) (contains s.seconds) test q (both_parts 60 (matches_minute s) (contains s.seconds)) (omega arith) end)))

-- else it is the first second of the next minute
pub times_next : (way : Way) (s : Sets) (q p next t r : ℕ) → p < 60 → AllFail way (contains s.seconds) (beyond way p)
    → IsNearestAt way (matches_minute s) (beyond way q) next → IsExtreme way 60 t → r < 60 → IsNearestAt way (contains s.seconds) (pos t) r
    → IsNearestAt way (matches_second s) (beyond way (q * 60 + p)) (next * 60 + r)
times_next way s q p next t r fits none found extreme h first =
    let test = both 60 (matches_minute s) (contains s.seconds) in
    nearest_same way test (matches_second s) (beyond way (q * 60 + p)) (Some (next * 60 + r)) (matches_both s)
    (past_out way 60 (matches_minute s) (contains s.seconds) (q * 60 + p) (Some (next * 60 + r)) (omega arith) (rw (mod_of 60 q p fits) none)
    (rw (div_of 60 q p fits)
    (past_next way 60 (matches_minute s) (contains s.seconds) test q next t r (both_parts 60 (matches_minute s) (contains s.seconds)) (omega arith) found
    extreme h first)))

-- so it is in the numbers of the civil seconds
pub end_in_day : (way : Way) (s : Sets) (second t : ℕ) → second % 86_400 ≡ t → AllFail way (matches_second s) (beyond way t)
    → AllFail way (matches_second s) (beyond way (second % 86_400))
end_in_day way s second t e none = rw e none

pub later_in_day : (way : Way) (s : Sets) (second next t r : ℕ) → second % 86_400 ≡ t → next % 86_400 ≡ r → next / 86_400 ≡ second / 86_400
    → IsNearestAt way (matches_second s) (beyond way t) r → IsLaterInDay way s second next
later_in_day way s second next t r e f day near = record { day = day; nearest = rw (e, f) near }

-- the next match of its day
pub match_in_day : (way : Way) (s : Sets) (c n : ℕ) → is_match s c ≡ true → IsLaterInDay way s c n → IsNearestAt way (is_match s) (beyond way c) n
match_in_day way s c n match h =
    let number : c / 86_400 * 86_400 + n % 86_400 ≡ n = omega (arith, h.day) in
    let P : ℕ → Type 0 = λ k. IsNearestAt way (is_match s) (beyond way c) k in
    subst P number (nearest_same way (both 86_400 (matching_day s) (matches_second s)) (is_match s) (beyond way c) (Some _) (match_both s)
    (past_in way 86_400 (matching_day s) (matches_second s) c (n % 86_400) (omega arith) (match_day s c match) (omega arith) h.nearest))

-- the items of the next one of its day, where it has some
pub found_in_day : (way : Way) (s : Sets) (z : TimeZone) (c n : ℕ) (found : Option Found) → c < seconds_in_range
    → matches_date s (date_numbered (c / 86_400)).0 ≡ true → is_some found ≡ true → IsLaterInDay way s c n
    → IfSome found (λ f. found_items f ≡ readings z n) → IsFound way s z (beyond way c) (option_map found_items found)
found_in_day way s z c n None small date e h items = cc
found_in_day way s z c n (Some f) small date e h items =
    let number : n ≡ c / 86_400 * 86_400 + n % 86_400 = omega (arith, h.day) in
    let P : ℕ → Type 0 = λ k. found_items f ≡ readings z k in
    let own : items_of s z (c / 86_400 * 86_400 + n % 86_400) ≡ found_items f =
    items_at s z (c / 86_400) (n % 86_400) (omega arith) date h.nearest.passes ∙ sym (subst P number items) in
    own_day way s z c (found_items f) (record {
      time = n % 86_400;
      nearest = record {
        passes = heard s z (c / 86_400) (n % 86_400) (omega (arith, small)) (omega arith) (rw own refl);
        lies = h.nearest.lies;
        nearest = λ k lies early. second_fails s z (c / 86_400) k (h.nearest.nearest k lies early);
      };
      items = own;
    })

-- what is found past its day, where the day has no more
pub found_past_day : (way : Way) (s : Sets) (z : TimeZone) (c : ℕ) (found : Option Found) → AllFail way (matches_second s) (beyond way (c % 86_400))
    → IsFound way s z (beyond_day way (c / 86_400)) (option_map found_items found) → IsFound way s z (beyond way c) (option_map found_items found)
found_past_day way s z c found none h =
    later_day way s z c (option_map found_items found) (λ k lies. second_fails s z (c / 86_400) k (none k lies)) h
