-- The search of the times of one day.
use Rattle.std.proofs.Common.{◌≡◌, ℕ, ◌+◌, ◌*◌, ◌%◌, ◌<◌, ◌≤◌, true, false, pos, Option, Some, None, is_some, option_map, IfSome, arith, refl, sym, subst, ◌∙◌}
use Rattle.jiff_tz.specs.declared.timezone.TimeZone.{TimeZone}
use Rattle.cron_moments.specs.Civil.{days_in_range}
use Rattle.cron_units.specs.declared.way.Way.{Way}
use Rattle.cron_units.specs.Nearest.{IsNearest}
use Rattle.cron_time.specs.Search.Inner.Blocks.{Reaches, ReachesIfAny}
use Rattle.cron_moments.specs.CivilDates.{date_numbered}
use Rattle.cron_time.specs.Search.Inner.DaySearch.{FindsInDay, time_of}
use Rattle.cron_moments.specs.Found.{found_items, items_if_any}
use Rattle.cron_time.specs.Search.Inner.Numbers.{beyond, matches_second, stands_at}
use Rattle.cron_moments.specs.Readings.{readings}
use Rattle.cron_units.specs.Sets.{Sets}
use Rattle.cron_time.specs.Matches.{matches_date}
use Rattle.cron_time.specs.Search.Inner.Tally.{IsTally, IsPassedBefore, IsPassedTo}
use Rattle.cron_moments.specs.declared.readings.Found.{Found}
use Rattle.cron_time.proofs.Searches.BlockLemmas.{fails_each, starts_each, block_each, found_each, reach_on, reach_start}
use Rattle.cron_moments.proofs.FoundLemmas.{second_is}
use Rattle.cron_time.proofs.Searches.StandLemmas.{items_at, heard, silent, second_fails, time_of_second}
use Rattle.cron_time.proofs.Searches.TallyLemmas.{passed_found}

-- the search of a matching day has come to a time
pub record AtTime (way : Way) (s : Sets) (z : TimeZone) (day from time : ℕ) : Type 0 where
  pub day_in : day < days_in_range
  pub time_in : time < 86_400
  pub matching : matches_date s (date_numbered day).0 ≡ true
  pub reached : Reaches way 1 (matches_second s) (stands_at s z day) (pos from) (pos from) time

-- it has come to the next time, if there is one
pub at_next : (way : Way) (s : Sets) (z : TimeZone) (day from time : ℕ) (next : Option ℕ) → next ≡ Some time → day < days_in_range
    → matches_date s (date_numbered day).0 ≡ true → IfSome next (λ n. (0 ≤ n) × (n < 86_400))
    → ReachesIfAny way 1 (matches_second s) (stands_at s z day) (pos from) (pos from) next → AtTime way s z day from time
at_next way s z day from time next is day_in matching bound reached =
    record { day_in = day_in; time_in = (rw is at bound).1; matching = matching; reached = rw is at reached }

found_time : (way : Way) (s : Sets) (z : TimeZone) (day from time : ℕ) (f : Found) → AtTime way s z day from time
    → found_items f ≡ readings z (day * 86_400 + time) → FindsInDay way s z day from (Some (found_items f))
found_time way s z day from time f at e =
    let items = items_at s z day time at.time_in at.matching at.reached.block ∙ sym e in
    record {
      time = time;
      nearest = found_each way (matches_second s) (stands_at s z day) (pos from) time at.reached (heard s z day time at.day_in at.time_in (rw items refl));
      items = items;
    }

pub time_found : (way : Way) (s : Sets) (z : TimeZone) (day from time : ℕ) (o : Option Found) → AtTime way s z day from time
    → items_if_any o ≡ readings z (day * 86_400 + time) → is_some o ≡ true → FindsInDay way s z day from (option_map found_items o)
time_found way s z day from time None at e h = cc
time_found way s z day from time (Some f) at e h = found_time way s z day from time f at e

pub time_counted : (way : Way) (s : Sets) (z : TimeZone) (day from time count : ℕ) (o : Option Found) → AtTime way s z day from time
    → items_if_any o ≡ readings z (day * 86_400 + time) → is_some o ≡ true
    → IsTally 86_400 (IsPassedBefore way (matches_second s) (pos from) (Some time)) count
    → IsTally 86_400 (IsPassedTo way (matches_second s) (pos from) (time_of o)) (count + 1)
time_counted way s z day from time count None at e h counted = cc
time_counted way s z day from time count (Some f) at e h counted =
    let second : f.first.second ≡ day * 86_400 + time = second_is z (day * 86_400 + time) f e in
    let same_time : f.first.second % 86_400 ≡ time = rw second (time_of_second day time at.time_in) in
    let P : ℕ → Type 0 = λ t. IsTally 86_400 (IsPassedTo way (matches_second s) (pos from) (Some t)) (count + 1) in
    subst P (sym same_time) (passed_found way 86_400 (matches_second s) (pos from) time count at.time_in at.reached.block at.reached.lies counted)

pub time_silent : (way : Way) (s : Sets) (z : TimeZone) (day from time : ℕ) (o : Option Found) → AtTime way s z day from time
    → items_if_any o ≡ readings z (day * 86_400 + time) → is_some o ≡ false → stands_at s z day time ≡ false
time_silent way s z day from time None at e h =
    silent s z day time (items_at s z day time at.time_in at.matching at.reached.block ∙ sym e)
time_silent way s z day from time (Some f) at e h = cc

pub times_start : (way : Way) (s : Sets) (z : TimeZone) (day from : ℕ) (next : Option ℕ) → IsNearest way (matches_second s) (pos from) next
    → ReachesIfAny way 1 (matches_second s) (stands_at s z day) (pos from) (pos from) next
times_start way s z day from next h =
    reach_start way 1 (matches_second s) (stands_at s z day) (pos from) (pos from) next
    (fails_each (matches_second s) (stands_at s z day) (second_fails s z day)) (starts_each way (pos from)) h

pub times_next : (way : Way) (s : Sets) (z : TimeZone) (day from time : ℕ) (next : Option ℕ) → AtTime way s z day from time
    → stands_at s z day time ≡ false → IsNearest way (matches_second s) (beyond way time) next
    → ReachesIfAny way 1 (matches_second s) (stands_at s z day) (pos from) (pos from) next
times_next way s z day from time next at fails h =
    reach_on way 1 (matches_second s) (stands_at s z day) (pos from) (pos from) time next
    (fails_each (matches_second s) (stands_at s z day) (second_fails s z day)) at.reached (block_each way (stands_at s z day) (pos from) time fails) h

pub time_low : (next : Option ℕ) → IfSome next (λ n. n < 86_400) → IfSome next (λ n. (0 ≤ n) × (n < 86_400))
time_low None h = h
time_low (Some n) h = (omega arith, h)
