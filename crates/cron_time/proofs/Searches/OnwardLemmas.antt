-- A search that goes through the block of its start first, and then on past that block.
use Rattle.std.proofs.Common.{◌≡◌, ℕ, ◌/◌, Bool, true, false, ℤ, pos, List, Option, Some, None}
use Rattle.std.proofs.lemmas.Nat.{mul-le}
use Rattle.jiff_core.proofs.SignedLemmas.{signed_arith}
use Rattle.std.proofs.Common.{◌+◌, ◌*◌, ◌%◌, ◌<◌, arith, option_map, is_some}
use Rattle.jiff_tz.specs.declared.timezone.TimeZone.{TimeZone}
use Rattle.cron_units.specs.declared.way.Way.{Way}
use Rattle.cron_units.specs.declared.way.Way.TheVariants.{Ahead, Back}
use Rattle.cron_units.specs.Nearest.{LiesFrom, IsNearest, IsNearestAt}
use Rattle.cron_units.specs.Sets.{Sets}
use Rattle.cron_moments.specs.Readings.{Reading}
use Rattle.cron_time.specs.Search.{stands, IsFound}
use Rattle.cron_moments.specs.Found.{found_items}
use Rattle.cron_moments.specs.declared.readings.Found.{Found}
use Rattle.cron_time.specs.Search.Inner.Blocks.{Enters, Reaches}
use Rattle.cron_time.specs.Search.Inner.DaySearch.{FindsInDay, FindsPastDay}
use Rattle.cron_time.specs.Search.Inner.MonthDays.{matching_day}
use Rattle.cron_time.specs.Search.Inner.Numbers.{beyond_block, beyond_day, matches_rank, stands_at}
use Rattle.cron_time.proofs.Searches.BlockLemmas.{BlockFails, block_fails, block_found, reach_first, reach_none}
use Rattle.cron_time.proofs.Searches.CarryLemmas.{past_block, start_parts}
use Rattle.cron_time.proofs.Searches.DaySearchLemmas.{time_fits}
use Rattle.cron_time.proofs.Searches.DaysPastLemmas.{split_days}
use Rattle.cron_time.proofs.Searches.DayLemmas.{no_day}
use Rattle.cron_time.proofs.Searches.StandLemmas.{split_stands}
use Rattle.cron_time.proofs.Searches.WayLemmas.{side, before, same, after, lies_div}

-- a search from the start has come to the block m, where nothing passes, and what lies past m lies from the start
pub record GoesOn (way : Way) (w : ℕ) (outer test : ℕ → Bool) (start first : ℤ) (m : ℕ) : Type 0 where
  pub positive : 0 < w
  pub reached : Reaches way w outer test start first m
  pub fails : BlockFails way w test start m
  pub out : (n : ℕ) → LiesFrom way (beyond_block way w m) n → LiesFrom way start n

none_before : (way : Way) (w : ℕ) (outer test : ℕ → Bool) (start first : ℤ) (m n : ℕ) → GoesOn way w outer test start first m → LiesFrom way start n
    → (LiesFrom way (beyond_block way w m) n → test n ≡ false) → test n ≡ false
none_before way w outer test start first m n on lies far =
    elim (side way m (n / w)) [
      | before lt ↦ on.reached.failed n lies lt
      | same e ↦ on.fails n lies e
      | after past gt ↦ far (past_block way w m n on.positive gt)
    ]

pub on_nearest : (way : Way) (w : ℕ) (outer test : ℕ → Bool) (start first : ℤ) (m : ℕ) (found : Option ℕ) → GoesOn way w outer test start first m
    → IsNearest way test (beyond_block way w m) found → IsNearest way test start found
on_nearest way w outer test start first m None on h = λ n lies. none_before way w outer test start first m n on lies (h n)
on_nearest way w outer test start first m (Some k) on h = record {
  passes = h.passes;
  lies = on.out k h.lies;
  nearest = λ n lies early. none_before way w outer test start first m n on lies (λ far. h.nearest n far early);
}

-- so it does with the items of what is found
pub on_found : (way : Way) (outer : ℕ → Bool) (s : Sets) (z : TimeZone) (start first : ℤ) (m : ℕ) (found : Option (List Reading))
    → GoesOn way 86_400 outer (stands s z) start first m → IsFound way s z (beyond_block way 86_400 m) found → IsFound way s z start found
on_found way outer s z start first m None on h = λ n lies. none_before way 86_400 outer (stands s z) start first m n on lies (h n)
on_found way outer s z start first m (Some items) on h = record {
  second = h.second;
  nearest = on_nearest way 86_400 outer (stands s z) start first m (Some h.second) on h.nearest;
  items = h.items;
}

-- what lies past the block of a start or past a later one lies from the start
pub out_of : (way : Way) (w a b m n : ℕ) → 0 < w → b < w → LiesFrom way (pos a) m → LiesFrom way (beyond_block way w m) n → LiesFrom way (pos (a * w + b)) n
out_of Ahead w a b m n positive less lies far =
    let more = mul-le (a + 1) w (m + 1) w (omega (arith, signed_arith)) (omega arith) in omega (arith, signed_arith, more)
out_of Back w a b m n positive less lies far =
    let more = mul-le m w a w (omega (arith, signed_arith)) (omega arith) in omega (arith, signed_arith, more)

-- ---- through the days from a civil second on

past_day_block : (way : Way) (s : Sets) (z : TimeZone) (day : ℕ) (found : Option (List Reading)) → IsFound way s z (beyond_day way day) found
    → IsFound way s z (beyond_block way 86_400 day) found
past_day_block Ahead s z day found h = h
past_day_block Back s z day found h = h

days_reached : (way : Way) (s : Sets) (z : TimeZone) (start day : ℕ) → IsNearestAt way (matching_day s) (pos (start / 86_400)) day
    → Reaches way 86_400 (matching_day s) (stands s z) (pos start) (pos (start / 86_400)) day
days_reached way s z start day near =
    reach_first way 86_400 (matching_day s) (stands s z) (pos start) (pos (start / 86_400)) day (split_days s z).block_fails
    (λ n lies. lies_div way 86_400 start n (omega arith) lies) near

pub days_end : (way : Way) (s : Sets) (z : TimeZone) (start : ℕ) → IsNearest way (matching_day s) (pos (start / 86_400)) None
    → IsFound way s z (pos start) None
days_end way s z start none =
    reach_none way 86_400 (matching_day s) (stands s z) (pos start) (pos (start / 86_400)) (split_days s z).block_fails
    (λ n lies. lies_div way 86_400 start n (omega arith) lies) none

pub days_found : (way : Way) (s : Sets) (z : TimeZone) (start day from : ℕ) (found : Option Found)
    → IsNearestAt way (matching_day s) (pos (start / 86_400)) day → Enters way 86_400 (pos start) day from → is_some found ≡ true
    → FindsInDay way s z day from (option_map found_items found) → IsFound way s z (pos start) (option_map found_items found)
days_found way s z start day from None near enters e h = cc
days_found way s z start day from (Some f) near enters e h = record {
  second = day * 86_400 + h.time;
  nearest = block_found way 86_400 (matching_day s) (stands_at s z) (stands s z) (pos start) (pos (start / 86_400)) day from h.time (split_days s z)
      (days_reached way s z start day near) enters (time_fits s z day h.time h.nearest.passes) h.nearest;
  items = h.items;
}

days_go_on : (way : Way) (s : Sets) (z : TimeZone) (start day from : ℕ) → IsNearestAt way (matching_day s) (pos (start / 86_400)) day
    → Enters way 86_400 (pos start) day from → FindsInDay way s z day from None
    → GoesOn way 86_400 (matching_day s) (stands s z) (pos start) (pos (start / 86_400)) day
days_go_on way s z start day from near enters h = record {
  positive = omega arith;
  reached = days_reached way s z start day near;
  fails = block_fails way 86_400 (matching_day s) (stands_at s z) (stands s z) (pos start) day from (split_days s z) enters h;
  out = λ n far. start_parts 86_400 start (λ p. LiesFrom way p n)
      (out_of way 86_400 (start / 86_400) (start % 86_400) day n (omega arith) (omega arith) near.lies far);
}

pub days_on : (way : Way) (s : Sets) (z : TimeZone) (start day from : ℕ) (here later : Option Found)
    → IsNearestAt way (matching_day s) (pos (start / 86_400)) day → Enters way 86_400 (pos start) day from → is_some here ≡ false
    → FindsInDay way s z day from (option_map found_items here) → FindsPastDay way s z day later → IsFound way s z (pos start) (option_map found_items later)
days_on way s z start day from None later near enters e h past =
    on_found way (matching_day s) s z (pos start) (pos (start / 86_400)) day (option_map found_items later) (days_go_on way s z start day from near enters h)
    (past_day_block way s z day (option_map found_items later) past)
days_on way s z start day from (Some f) later near enters e h past = cc

-- where no month has a day of the set, no civil second stands
pub nowhere : (s : Sets) (z : TimeZone) → ((p : ℕ) → matches_rank s p ≡ false) → (k : ℕ) → stands s z k ≡ false
nowhere s z none k = (split_stands s z).block_fails k (no_day s none (k / 86_400))
