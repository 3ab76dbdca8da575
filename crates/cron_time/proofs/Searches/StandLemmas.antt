-- Which civil seconds match and stand, by their days and times.
use Rattle.std.proofs.Common.{◌≡◌, ℕ, ◌+◌, ◌*◌, ◌/◌, ◌%◌, ◌<◌, ◌≤◌, true, false, ◌&&◌, nat_lt, [], Bool, refl, ap, subst, ◌∙◌, inl, inr, arith}
use Rattle.std.proofs.lemmas.Bool.{both_ways, and_parts, and_cases, and_from, and_left, and_right, cases_lt, lt-ltb, le-ltb, ltb-false}
use Rattle.std.proofs.lemmas.Nat.{div-add-mod'}
use Rattle.jiff_tz.specs.declared.timezone.TimeZone.{TimeZone}
use Rattle.cron_time.specs.Search.Inner.Blocks.{IsSplit}
use Rattle.cron_moments.specs.Civil.{civil, days_in_range, time_numbered}
use Rattle.cron_moments.specs.CivilDates.{date_numbered}
use Rattle.cron_time.specs.Search.Inner.DaySearch.{candidate_day}
use Rattle.cron_time.specs.Search.Inner.Numbers.{matches_second, stands_at}
use Rattle.cron_moments.specs.Readings.{readings}
use Rattle.cron_time.specs.Seconds as seconds
use Rattle.cron_time.specs.Seconds.{has_item}
use Rattle.cron_time.specs.Search.{items_of, stands}
use Rattle.cron_units.specs.Sets.{Sets}
use Rattle.cron_units.specs.Units.{contains}
use Rattle.cron_time.specs.Matches.{is_candidate, matches, matches_date}

and_assoc : (a b c : Bool) → ((a && b) && c) ≡ (a && (b && c))
and_assoc true b c = refl
and_assoc false b c = refl

-- the day and the time of a civil second of a day
pub matches_at : (s : Sets) (k : ℕ) → matches s (civil k) ≡ (matches_date s (date_numbered (k / 86_400)).0 && matches_second s (k % 86_400))
unfolding matches civil time_numbered
matches_at s k =
    let rest : k % 86_400 % 3600 ≡ k % 3600 = omega arith in
    let sec : k % 60 ≡ k % 3600 % 60 = omega arith in
    rw (rest, sec) (ap (λ b. matches_date s (date_numbered (k / 86_400)).0 && b)
    (and_assoc (contains s.hours (k % 86_400 / 3600)) (contains s.minutes (k % 3600 / 60)) (contains s.seconds (k % 3600 % 60))))

pub day_of_second : (day r : ℕ) → r < 86_400 → (day * 86_400 + r) / 86_400 ≡ day
day_of_second day r h = omega arith

pub time_of_second : (day r : ℕ) → r < 86_400 → (day * 86_400 + r) % 86_400 ≡ r
time_of_second day r h = omega arith

pub matches_time_of : (s : Sets) (day r : ℕ) → r < 86_400 → matches s (civil (day * 86_400 + r)) ≡ (matches_date s (date_numbered day).0 && matches_second s r)
matches_time_of s day r h =
    let P : ℕ → ℕ → Type 0 = λ d t. matches s (civil (day * 86_400 + r)) ≡ (matches_date s (date_numbered d).0 && matches_second s t) in
    let Q : ℕ → Type 0 = λ d. P d ((day * 86_400 + r) % 86_400) in
    subst (P day) (time_of_second day r h) (subst Q (day_of_second day r h) (matches_at s (day * 86_400 + r)))

-- a civil second that doesn't match doesn't stand
pub unmatched : (s : Sets) (z : TimeZone) (c : ℕ) → matches s (civil c) ≡ false → stands s z c ≡ false
unfolding seconds.items_of
unmatched s z c h = rw h (and_right (nat_lt c 4_133_980_800) false refl)

-- a second of the day that doesn't match doesn't stand
pub second_fails : (s : Sets) (z : TimeZone) (day r : ℕ) → matches_second s r ≡ false → stands_at s z day r ≡ false
second_fails s z day r h =
    elim (cases_lt r 86_400) [
      | inl lt ↦ and_right (nat_lt r 86_400) (stands s z (day * 86_400 + r))
          (unmatched s z (day * 86_400 + r) (matches_time_of s day r lt ∙ and_right (matches_date s (date_numbered day).0) (matches_second s r) h))
      | inr ge ↦ and_left (nat_lt r 86_400) (stands s z (day * 86_400 + r)) (le-ltb r 86_400 ge)
    ]

-- the items of one that matches are its readings
pub items_at : (s : Sets) (z : TimeZone) (day r : ℕ) → r < 86_400 → matches_date s (date_numbered day).0 ≡ true → matches_second s r ≡ true
    → items_of s z (day * 86_400 + r) ≡ readings z (day * 86_400 + r)
unfolding seconds.items_of
items_at s z day r h date time =
    rw (matches_time_of s day r h ∙ and_from (matches_date s (date_numbered day).0) (matches_second s r) date time) refl

pub silent : (s : Sets) (z : TimeZone) (day r : ℕ) → items_of s z (day * 86_400 + r) ≡ [] → stands_at s z day r ≡ false
silent s z day r h =
    and_right (nat_lt r 86_400) (stands s z (day * 86_400 + r))
    (and_right (nat_lt (day * 86_400 + r) 4_133_980_800) (has_item (items_of s z (day * 86_400 + r))) (rw h refl))

pub heard : (s : Sets) (z : TimeZone) (day r : ℕ) → day < days_in_range → r < 86_400 → has_item (items_of s z (day * 86_400 + r)) ≡ true → stands_at s z day r ≡ true
heard s z day r small h item =
    and_from (nat_lt r 86_400) (stands s z (day * 86_400 + r)) (lt-ltb r 86_400 h)
    (and_from (nat_lt (day * 86_400 + r) 4_133_980_800) (has_item (items_of s z (day * 86_400 + r)))
    (lt-ltb (day * 86_400 + r) 4_133_980_800 (omega arith)) item)

-- nothing stands on a day that is no candidate
day_fails : (s : Sets) (z : TimeZone) (n : ℕ) → candidate_day s (n / 86_400) ≡ false → stands s z n ≡ false
day_fails s z n h =
    elim (and_cases (nat_lt (n / 86_400) days_in_range) (is_candidate s (date_numbered (n / 86_400)).0) h) [
      | inl far ↦ let ge : days_in_range ≤ n / 86_400 = ltb-false (n / 86_400) days_in_range far in
          and_left (nat_lt n 4_133_980_800) (has_item (items_of s z n)) (le-ltb n 4_133_980_800 (omega arith))
      | inr out ↦ unmatched s z n (matches_at s n ∙ and_left (matches_date s (date_numbered (n / 86_400)).0) (matches_second s (n % 86_400))
          (and_left (is_candidate s (date_numbered (n / 86_400)).0) _ out))
    ]

-- a day stands only in the range and where its date matches
pub split_stands : (s : Sets) (z : TimeZone) → IsSplit 86_400 (candidate_day s) (stands_at s z) (stands s z)
split_stands s z = record {
  block_fails = day_fails s z;
  rest_fails = λ n h. elim (and_cases (nat_lt (n % 86_400) 86_400) (stands s z (n / 86_400 * 86_400 + n % 86_400)) h) [
    | inl e ↦ absurd (both_ways (nat_lt (n % 86_400) 86_400) e (lt-ltb (n % 86_400) 86_400 (omega arith)))
    | inr e ↦ let P : ℕ → Type 0 = λ k. stands s z k ≡ false in subst P (div-add-mod' n 86_400) e
  ];
  passes = λ m r h o i. (and_parts (nat_lt r 86_400) (stands s z (m * 86_400 + r)) i).1;
}
