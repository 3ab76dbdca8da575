-- The search of the days past one, by the days whose dates match.
use Rattle.std.proofs.Common.{◌≡◌, ℕ, ◌+◌, ◌*◌, ◌/◌, ◌%◌, ◌<◌, ◌≤◌, true, false, nat_lt, pos, Option, Some, None, option_map, is_some, ◌∙◌, inl, inr, arith}
use Rattle.std.proofs.lemmas.Bool.{and_cases, and_from, and_left, and_parts, le-ltb, lt-ltb, ltb-false, ltb-true}
use Rattle.jiff_core.proofs.SignedLemmas.{signed_arith}
use Rattle.jiff_tz.specs.declared.timezone.TimeZone.{TimeZone}
use Rattle.cron_moments.specs.Civil.{days_in_range}
use Rattle.cron_units.specs.declared.way.Way.{Way}
use Rattle.cron_units.specs.declared.way.Way.TheVariants.{Ahead, Back}
use Rattle.cron_units.specs.Nearest.{LiesFrom, Precedes}
use Rattle.cron_units.specs.Sets.{Sets}
use Rattle.cron_moments.specs.CivilDates.{date_numbered}
use Rattle.cron_moments.specs.Found.{found_items}
use Rattle.cron_moments.specs.declared.readings.Found.{Found}
use Rattle.cron_time.specs.Matches.{matches_date}
use Rattle.cron_time.specs.Seconds.{has_item}
use Rattle.cron_time.specs.Search.{items_of, stands, IsFound}
use Rattle.cron_time.specs.Search.Inner.Blocks.{Enters, IsExtreme, IsSplit, Reaches, left_to_reach}
use Rattle.cron_time.specs.Search.Inner.DaySearch.{FindsInDay}
use Rattle.cron_time.specs.Search.Inner.Questions.{outermost}
use Rattle.cron_time.specs.Search.Inner.MonthDays.{matching_day}
use Rattle.cron_time.specs.Search.Inner.Numbers.{beyond, beyond_day, matches_second, stands_at}
use Rattle.cron_time.proofs.Searches.BlockLemmas.{BlockFails, block_fails, block_found}
use Rattle.cron_time.proofs.Searches.DaySearchLemmas.{time_fits}
use Rattle.cron_time.proofs.Searches.StandLemmas.{matches_at, split_stands, unmatched}
use Rattle.cron_time.proofs.Searches.WayLemmas.{after_beyond, lies_self}

-- nothing stands on a day whose date doesn't match
day_fails : (s : Sets) (z : TimeZone) (n : ℕ) → matching_day s (n / 86_400) ≡ false → stands s z n ≡ false
day_fails s z n h =
    elim (and_cases (nat_lt (n / 86_400) days_in_range) (matches_date s (date_numbered (n / 86_400)).0) h) [
      | inl far ↦ let ge : days_in_range ≤ n / 86_400 = ltb-false (n / 86_400) days_in_range far in
          and_left (nat_lt n 4_133_980_800) (has_item (items_of s z n)) (le-ltb n 4_133_980_800 (omega arith))
      | inr out ↦ unmatched s z n (matches_at s n ∙ and_left (matches_date s (date_numbered (n / 86_400)).0) (matches_second s (n % 86_400)) out)
    ]

pub split_days : (s : Sets) (z : TimeZone) → IsSplit 86_400 (matching_day s) (stands_at s z) (stands s z)
split_days s z = record {
  block_fails = day_fails s z;
  rest_fails = (split_stands s z).rest_fails;
  passes = λ m r h o i. (and_parts (nat_lt r 86_400) (stands s z (m * 86_400 + r)) i).1;
}

pub day_in_range : (s : Sets) (day : ℕ) → matching_day s day ≡ true → (day < days_in_range) × (matches_date s (date_numbered day).0 ≡ true)
day_in_range s day h =
    let parts = and_parts (nat_lt day days_in_range) (matches_date s (date_numbered day).0) h in
    (ltb-true day days_in_range parts.0, parts.1)

not_in_day : (way : Way) (day n : ℕ) → LiesFrom way (beyond_day way day) n → Precedes way (n / 86_400) day → ⊥
not_in_day Ahead day n lies lt = omega (arith, signed_arith)
not_in_day Back day n lies gt = omega (arith, signed_arith)

not_of_day : (way : Way) (day n : ℕ) → LiesFrom way (beyond_day way day) n → n / 86_400 ≡ day → ⊥
not_of_day Ahead day n lies e = omega (arith, signed_arith)
not_of_day Back day n lies e = omega (arith, signed_arith)

-- the search past a day begins at that day, of which nothing lies past it
pub begins : (way : Way) (s : Sets) (z : TimeZone) (day : ℕ) → day < days_in_range → matches_date s (date_numbered day).0 ≡ true
    → Reaches way 86_400 (matching_day s) (stands s z) (beyond_day way day) (pos day) day
begins way s z day small h = record {
  block = and_from (nat_lt day days_in_range) (matches_date s (date_numbered day).0) (lt-ltb day days_in_range small) h;
  lies = lies_self way day;
  failed = λ n lies early. absurd (not_in_day way day n lies early);
}

pub own_day_fails : (way : Way) (s : Sets) (z : TimeZone) (day : ℕ) → BlockFails way 86_400 (stands s z) (beyond_day way day) day
own_day_fails way s z day n lies e = absurd (not_of_day way day n lies e)

out_of_day : (way : Way) (day m r : ℕ) → r < 86_400 → Precedes way day m → LiesFrom way (beyond_day way day) (m * 86_400 + r)
out_of_day Ahead day m r h past = omega (arith, signed_arith)
out_of_day Back day m r h past = omega (arith, signed_arith)

entered : (way : Way) (day m s : ℕ) → Precedes way day m → IsExtreme way 86_400 s → Enters way 86_400 (beyond_day way day) m s
entered way day m s past extreme = record {
  into = λ n lies e. extreme (n % 86_400) (omega arith);
  out = λ r lt lies. out_of_day way day m r lt past;
}

-- a day past it is gone through
pub day_silent : (way : Way) (s : Sets) (z : TimeZone) (day m from : ℕ) (found : Option Found) → Precedes way day m → IsExtreme way 86_400 from
    → is_some found ≡ false → FindsInDay way s z m from (option_map found_items found) → BlockFails way 86_400 (stands s z) (beyond_day way day) m
day_silent way s z day m from None past extreme e h =
    block_fails way 86_400 (matching_day s) (stands_at s z) (stands s z) (beyond_day way day) m from (split_days s z) (entered way day m from past extreme) h
day_silent way s z day m from (Some f) past extreme e h = cc

pub day_found : (way : Way) (s : Sets) (z : TimeZone) (day m from : ℕ) (found : Option Found)
    → Reaches way 86_400 (matching_day s) (stands s z) (beyond_day way day) (pos day) m → Precedes way day m → IsExtreme way 86_400 from
    → is_some found ≡ true → FindsInDay way s z m from (option_map found_items found)
    → IsFound way s z (beyond_day way day) (option_map found_items found)
day_found way s z day m from None reached past extreme e h = cc
day_found way s z day m from (Some f) reached past extreme e h = record {
  second = m * 86_400 + h.time;
  nearest = block_found way 86_400 (matching_day s) (stands_at s z) (stands s z) (beyond_day way day) (pos day) m from h.time (split_days s z) reached
      (entered way day m from past extreme) (time_fits s z m h.time h.nearest.passes) h.nearest;
  items = h.items;
}

pub fewer_days : (way : Way) (day next : ℕ) → day < days_in_range → next < days_in_range → LiesFrom way (beyond way day) next
    → left_to_reach way days_in_range (Some next) < left_to_reach way days_in_range (Some day)
fewer_days Ahead day next h g lies = let past = after_beyond Ahead day next lies in omega (arith, past)
fewer_days Back day next h g lies = let past = after_beyond Back day next lies in omega (arith, past)

pub outer_second : (way : Way) → IsExtreme way 86_400 (outermost way 86_400)
outer_second Ahead r h = omega (arith, signed_arith)
outer_second Back r h = omega (arith, signed_arith)
