-- The nearest time of day, by the seconds of the day.
use Rattle.std.proofs.Common.{◌≡◌, ℕ, ◌+◌, ◌*◌, ◌/◌, ◌%◌, ◌<◌, ◌&&◌, true, pos, Option, Some, None, option_map, Contains, refl, sym, subst, ◌∙◌, inl, inr, arith}
use Rattle.std.proofs.lemmas.Bool.{and_from, and_parts, both_ways, cases_lt}
use Rattle.cron_units.specs.declared.way.Way.{Way}
use Rattle.cron_units.specs.declared.way.Way.TheVariants.{Ahead, Back}
use Rattle.cron_units.specs.Nearest.{LiesFrom, IsNearest}
use Rattle.cron_units.specs.Sets.{Sets, AreSets}
use Rattle.cron_units.specs.Units.{contains}
use Rattle.cron_time.specs.Search.Inner.Filled.{member_within}
use Rattle.cron_time.specs.Search.Inner.Numbers.{matches_second}
use Rattle.cron_time.specs.Search.Times.{TimeOfDay, times_of_day, IsBefore, LiesFromTime, IsNearestTime}
use Rattle.cron_time.proofs.Searches.TimeOfDayLemmas.{among_to, among_from}
use Rattle.cron_time.proofs.Searches.WayLemmas.{lies_or_before, lies_not_before}

-- the second of the day
number : TimeOfDay → ℕ
number t = t.hour * 3600 + t.minute * 60 + t.second

pub record IsTime (t : TimeOfDay) : Type 0 where
  pub minute_in : t.minute < 60
  pub second_in : t.second < 60

-- the order of times is that of their seconds
before_less : (a b : TimeOfDay) → IsTime a → IsTime b → IsBefore a b → number a < number b
unfolding number
before_less a b h k (inl lt) = omega (arith, lt, h.minute_in, h.second_in)
before_less a b h k (inr (e, inl lt)) = omega (arith, e, lt, h.second_in)
before_less a b h k (inr (e, inr (f, lt))) = omega (arith, e, f, lt)

less_before : (a b : TimeOfDay) → IsTime a → IsTime b → number a < number b → IsBefore a b
unfolding number
less_before a b h k lt =
    elim (cases_lt a.hour b.hour) [
      | inl less ↦ inl less
      | inr ge ↦ elim (cases_lt b.hour a.hour) [
        | inl more ↦ absurd (omega (arith, more, lt, h.minute_in, h.second_in, k.minute_in, k.second_in))
        | inr le ↦ elim (cases_lt a.minute b.minute) [
          | inl less ↦ inr (omega (arith, ge, le), inl less)
          | inr wide ↦ elim (cases_lt b.minute a.minute) [
            | inl more ↦ absurd (omega (arith, ge, le, more, lt, h.second_in, k.second_in))
            | inr same ↦ inr (omega (arith, ge, le), inr (omega (arith, wide, same), omega (arith, ge, le, wide, same, lt)))
          ]
        ]
      ]
    ]

lies_time : (way : Way) (a b : TimeOfDay) → IsTime a → IsTime b → LiesFrom way (pos (number a)) (number b) → LiesFromTime way a b
lies_time Ahead a b h k lies = λ early. lies_not_before Ahead (number a) (number b) lies (before_less b a k h early)
lies_time Back a b h k lies = λ early. lies_not_before Back (number a) (number b) lies (before_less a b h k early)

time_lies : (way : Way) (a b : TimeOfDay) → IsTime a → IsTime b → LiesFromTime way a b → LiesFrom way (pos (number a)) (number b)
time_lies Ahead a b h k lies =
    elim (lies_or_before Ahead (number a) (number b)) [ inl l ↦ l | inr less ↦ absurd (lies (less_before b a k h less)) ]
time_lies Back a b h k lies =
    elim (lies_or_before Back (number a) (number b)) [ inl l ↦ l | inr less ↦ absurd (lies (less_before a b h k less)) ]

-- a time of day of the sets, by its second of the day
among_time : (s : Sets) (t : TimeOfDay) → AreSets s → Contains (times_of_day s) t → IsTime t
among_time s t sets h =
    let parts = among_to s t h in
    let m = member_within _ s.minutes t.minute sets.minutes (omega arith) parts.1 in
    let sec = member_within _ s.seconds t.second sets.seconds (omega arith) parts.2 in
    record { minute_in = omega (arith, m.1); second_in = omega (arith, sec.1) }

parts_match : (s : Sets) (h m sec n : ℕ) → n / 3600 ≡ h → n % 3600 / 60 ≡ m → n % 3600 % 60 ≡ sec
    → (matches_second s n ≡ (contains s.hours h && (contains s.minutes m && contains s.seconds sec)))
parts_match s h m sec n e f g = rw (e, f, g) refl

among_matches : (s : Sets) (t : TimeOfDay) → IsTime t → Contains (times_of_day s) t → matches_second s (number t) ≡ true
unfolding number
among_matches s t time h =
    let parts = among_to s t h in
    let low = time.minute_in in
    let short = time.second_in in
    rw (parts_match s t.hour t.minute t.second (t.hour * 3600 + t.minute * 60 + t.second) (omega (arith, low, short)) (omega (arith, low, short))
    (omega (arith, low, short))) (and_from (contains s.hours t.hour) (contains s.minutes t.minute && contains s.seconds t.second) parts.0
    (and_from (contains s.minutes t.minute) (contains s.seconds t.second) parts.1 parts.2))

-- the time of day with a number
abbrev pub time_at : ℕ → TimeOfDay
time_at n = record { hour = n / 3600; minute = n / 60 % 60; second = n % 60 }

number_at : (n : ℕ) → number (time_at n) ≡ n
unfolding number
number_at n = omega arith

time_in : (n : ℕ) → IsTime (time_at n)
time_in n = record { minute_in = omega arith; second_in = omega arith }

matches_among : (s : Sets) (n : ℕ) → matches_second s n ≡ true → Contains (times_of_day s) (time_at n)
matches_among s n h =
    let e : n % 3600 / 60 ≡ n / 60 % 60 = omega arith in
    let f : n % 3600 % 60 ≡ n % 60 = omega arith in
    let parts = and_parts (contains s.hours (n / 3600)) (contains s.minutes (n / 60 % 60) && contains s.seconds (n % 60))
    (sym (parts_match s (n / 3600) (n / 60 % 60) (n % 60) n refl e f) ∙ h) in
    let rest = and_parts (contains s.minutes (n / 60 % 60)) (contains s.seconds (n % 60)) parts.1 in
    among_from s (n / 3600) (n / 60 % 60) (n % 60) parts.0 rest.0 rest.1

-- the nearest second of the day is the nearest time
pub nearest_time : (way : Way) (s : Sets) (start : TimeOfDay) (from : ℕ) (found : Option ℕ) → AreSets s → start.minute < 60 → start.second < 60
    → from ≡ start.hour * 3600 + start.minute * 60 + start.second → IsNearest way (matches_second s) (pos from) found
    → IsNearestTime way s start (option_map time_at found)
unfolding number
nearest_time way s start from found sets low short e h =
    let P : ℕ → Type 0 = λ n. IsNearest way (matches_second s) (pos n) found in
    by_found found (subst P e h)
  where
    at_start : IsTime start
    at_start = record { minute_in = low; second_in = short }

    by_found : (found : Option ℕ) → IsNearest way (matches_second s) (pos (number start)) found → IsNearestTime way s start (option_map time_at found)
    by_found None none = λ t among lies.
        let time = among_time s t sets among in
        both_ways (matches_second s (number t)) (none (number t) (time_lies way start t at_start time lies)) (among_matches s t time among)
    by_found (Some n) at =
        let Q : ℕ → Type 0 = λ k. LiesFrom way (pos (number start)) k in
        record {
          among = matches_among s n at.passes;
          lies = lies_time way start (time_at n) at_start (time_in n) (subst Q (sym (number_at n)) at.lies);
          nearest = λ t among lies.
              let time = among_time s t sets among in
              let from_start = time_lies way start t at_start time lies in
              let R : ℕ → Type 0 = λ k. LiesFrom way (pos k) (number t) in
              elim (lies_or_before way n (number t)) [
                | inl from_found ↦ lies_time way (time_at n) t (time_in n) time (subst R (sym (number_at n)) from_found)
                | inr early ↦ absurd (both_ways (matches_second s (number t)) (at.nearest (number t) from_start early) (among_matches s t time among))
              ];
        }
