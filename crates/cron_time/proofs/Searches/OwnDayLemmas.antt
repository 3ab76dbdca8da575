-- A search that goes on in its own day first.
use Rattle.std.proofs.Common.{◌≡◌, ℕ, ◌+◌, ◌*◌, ◌/◌, ◌%◌, ◌<◌, false, true, pos, ℤ, List, Option, Some, None, option_map, is_some, nat_lt, MatchOption, sym, subst, inl, inr, arith}
use Rattle.std.proofs.lemmas.Bool.{and_parts, cases_eq}
use Rattle.jiff_core.proofs.SignedLemmas.{signed_arith}
use Rattle.jiff_tz.specs.declared.timezone.TimeZone.{TimeZone}
use Rattle.cron_units.specs.declared.way.Way.{Way}
use Rattle.cron_units.specs.declared.way.Way.TheVariants.{Ahead, Back}
use Rattle.cron_units.specs.Nearest.{LiesFrom, Precedes, IsNearestAt}
use Rattle.cron_units.specs.Sets.{Sets}
use Rattle.cron_moments.specs.Found.{found_items}
use Rattle.cron_time.specs.Search.Inner.Blocks.{AllFail}
use Rattle.cron_time.specs.Search.Inner.DaySearch.{FindsInDay, FindsTimePast}
use Rattle.cron_time.specs.Search.Inner.Numbers.{beyond, beyond_day, stands_at}
use Rattle.cron_moments.specs.Readings.{Reading}
use Rattle.cron_time.specs.Search.{stands, IsFound, IsFoundAt}
use Rattle.cron_moments.specs.declared.readings.Found.{Found}
use Rattle.cron_time.proofs.Searches.DaySearchLemmas.{time_fits}
use Rattle.cron_time.proofs.Searches.StandLemmas.{split_stands}

-- the search from the next number on is the search past a number
pub found_past : (way : Way) (s : Sets) (z : TimeZone) (day time from : ℕ) (found : Option (List Reading)) → pos from ≡ beyond way time
    → FindsInDay way s z day from found → MatchOption found (AllFail way (stands_at s z day) (beyond way time)) (FindsTimePast way s z day time)
found_past way s z day time from None e h =
    let P : ℤ → Type 0 = AllFail way (stands_at s z day) in subst P e h
found_past way s z day time from (Some items) e h =
    let P : ℤ → Type 0 = λ n. IsNearestAt way (stands_at s z day) n h.time in
    record { time = h.time; nearest = subst P e h.nearest; items = h.items }

-- what lies past a civil second lies past its time in its own day, or past the day
rest_past : (way : Way) (c k : ℕ) → LiesFrom way (beyond way c) k → k / 86_400 ≡ c / 86_400 → LiesFrom way (beyond way (c % 86_400)) (k % 86_400)
rest_past Ahead c k h e = omega (arith, signed_arith)
rest_past Back c k h e = omega (arith, signed_arith)

other_day : (way : Way) (c k : ℕ) → LiesFrom way (beyond way c) k → ¬ (k / 86_400 ≡ c / 86_400) → LiesFrom way (beyond_day way (c / 86_400)) k
other_day Ahead c k h e = omega (arith, signed_arith, e)
other_day Back c k h e = omega (arith, signed_arith, e)

past_day : (way : Way) (c k : ℕ) → LiesFrom way (beyond_day way (c / 86_400)) k → LiesFrom way (beyond way c) k
past_day Ahead c k h = omega (arith, signed_arith)
past_day Back c k h = omega (arith, signed_arith)

past_time : (way : Way) (c r : ℕ) → LiesFrom way (beyond way (c % 86_400)) r → LiesFrom way (beyond way c) (c / 86_400 * 86_400 + r)
past_time Ahead c r h = omega (arith, signed_arith)
past_time Back c r h = omega (arith, signed_arith)

-- between a civil second and one of its day lie those of the day alone
between : (way : Way) (c r k : ℕ) → r < 86_400 → LiesFrom way (beyond way c) k → Precedes way k (c / 86_400 * 86_400 + r)
    → (k / 86_400 ≡ c / 86_400) × Precedes way (k % 86_400) r
between Ahead c r k h lies lt = (omega (arith, signed_arith), omega (arith, signed_arith))
between Back c r k h lies gt = (omega (arith, signed_arith), omega (arith, signed_arith))

silent_in : (s : Sets) (z : TimeZone) (day k : ℕ) → k / 86_400 ≡ day → stands_at s z day (k % 86_400) ≡ false → stands s z k ≡ false
silent_in s z day k e h =
    let P : ℕ → Type 0 = λ d. stands_at s z d (k % 86_400) ≡ false in
    (split_stands s z).rest_fails k (subst P (sym e) h)

-- what is found in the own day is found
pub own_day : (way : Way) (s : Sets) (z : TimeZone) (c : ℕ) (items : List Reading) → FindsTimePast way s z (c / 86_400) (c % 86_400) items
    → IsFoundAt way s z (beyond way c) items
own_day way s z c items h =
    let fits = time_fits s z (c / 86_400) h.time h.nearest.passes in
    record {
      second = c / 86_400 * 86_400 + h.time;
      nearest = record {
        passes = (and_parts (nat_lt h.time 86_400) (stands s z (c / 86_400 * 86_400 + h.time)) h.nearest.passes).1;
        lies = past_time way c h.time h.nearest.lies;
        nearest = λ k lies early.
            let both = between way c h.time k fits lies early in
            silent_in s z (c / 86_400) k both.0 (h.nearest.nearest (k % 86_400) (rest_past way c k lies both.0) both.1);
      };
      items = h.items;
    }

-- where the own day has nothing more, what is found past it is found
pub later_day : (way : Way) (s : Sets) (z : TimeZone) (c : ℕ) (found : Option (List Reading))
    → AllFail way (stands_at s z (c / 86_400)) (beyond way (c % 86_400)) → IsFound way s z (beyond_day way (c / 86_400)) found
    → IsFound way s z (beyond way c) found
later_day way s z c None own h = λ k lies.
    elim (cases_eq (k / 86_400) (c / 86_400)) [
      | inl same ↦ silent_in s z (c / 86_400) k same (own (k % 86_400) (rest_past way c k lies same))
      | inr other ↦ h k (other_day way c k lies other)
    ]
later_day way s z c (Some items) own h = record {
  second = h.second;
  nearest = record {
    passes = h.nearest.passes;
    lies = past_day way c h.second h.nearest.lies;
    nearest = λ k lies early. elim (cases_eq (k / 86_400) (c / 86_400)) [
      | inl same ↦ silent_in s z (c / 86_400) k same (own (k % 86_400) (rest_past way c k lies same))
      | inr other ↦ h.nearest.nearest k (other_day way c k lies other) early
    ];
  };
  items = h.items;
}

pub own_found : (way : Way) (s : Sets) (z : TimeZone) (c : ℕ) (found : Option Found) → is_some found ≡ true
    → MatchOption (option_map found_items found) (AllFail way (stands_at s z (c / 86_400)) (beyond way (c % 86_400)))
    (FindsTimePast way s z (c / 86_400) (c % 86_400)) → IsFound way s z (beyond way c) (option_map found_items found)
own_found way s z c None e h = cc
own_found way s z c (Some f) e h = own_day way s z c (found_items f) h

pub own_none : (way : Way) (s : Sets) (z : TimeZone) (c : ℕ) (found : Option Found) → is_some found ≡ false
    → MatchOption (option_map found_items found) (AllFail way (stands_at s z (c / 86_400)) (beyond way (c % 86_400)))
    (FindsTimePast way s z (c / 86_400) (c % 86_400)) → AllFail way (stands_at s z (c / 86_400)) (beyond way (c % 86_400))
own_none way s z c None e h = h
own_none way s z c (Some f) e h = cc
