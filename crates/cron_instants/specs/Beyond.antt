-- The nearest item beyond a place, in a direction. A place is an instant and a civil second. An
-- item lies beyond it by its instant, or by its civil second if the two share the instant.
use Rattle.std.specs.Prelude.{◌≡◌, ◌⊎◌, ℕ, ◌+◌, ◌-◌, ◌<◌, ◌≤◌, ℤ, ◌+ℤ◌, ◌-ℤ◌, pos, Bool, true, false, Option, Some, None, MatchOption, IfSome, if◌then◌else◌, slice_get, int_lt}
use Rattle.jiff_core.specs.declared.Offset.{Offset}
use Rattle.jiff_tz.specs.declared.timezone.TimeZone.{TimeZone}
use Rattle.cron_units.specs.declared.way.Way.{Way}
use Rattle.cron_units.specs.declared.way.Way.TheVariants.{Ahead, Back}
use Rattle.cron_units.specs.Nearest.{LiesFrom, Precedes}
use Rattle.cron_time.specs.Seconds.{Seconds, is_match}
use Rattle.cron_moments.specs.Civil.{seconds_in_range}
use Rattle.cron_moments.specs.Readings.{Reading, instant, readings}
use Rattle.cron_instants.specs.Order.{comes_before, is_earlier}
use Rattle.cron_clocks.specs.Steady.{readings_at}
use Rattle.cron_clocks.specs.declared.stretch.Stretch.{Stretch}

-- the reading lies beyond an instant and a civil second, in this direction
abbrev pub beyond : Way → ℤ → ℕ → Reading → Bool
beyond Ahead i c r = comes_before i c (instant r) r.second
beyond Back i c r = comes_before (instant r) r.second i c

-- one reading is reached before another, in this direction
abbrev pub is_nearer : Way → Reading → Reading → Bool
is_nearer Ahead a b = is_earlier a b
is_nearer Back a b = is_earlier b a

-- the reading isn't reached before the best one so far; without a best one each is
abbrev pub IsNoBetter : Way → Option Reading → Reading → Type 0
IsNoBetter way None r = ⊥
IsNoBetter way (Some best) r = is_nearer way r best ≡ false

-- of the readings with a property the nearest; `None` exactly if none has it
abbrev pub IsBest : Way → (Reading → Type 0) → Option Reading → Type 0
IsBest way P best =
    MatchOption best ((r : Reading) → P r → ⊥) (λ b. P b × ((r : Reading) → P r → is_nearer way r b ≡ false))

-- the nearest of the best one so far and the readings with a property
abbrev pub IsBettered : Way → (Reading → Type 0) → Option Reading → Option Reading → Type 0
IsBettered way P best better = IsBest way (λ r. (best ≡ Some r) ⊎ P r) better

-- the nearer of two readings, or the only one
abbrev pub nearer_of : Way → Option Reading → Option Reading → Option Reading
nearer_of way None other = other
nearer_of way (Some r) None = Some r
nearer_of way (Some r) (Some q) = if is_nearer way q r then Some q else Some r

-- a reading of a civil second of the range that matches
pub record Stands (s : Seconds) (z : TimeZone) (r : Reading) : Type 0 where
  pub matching : is_match s r.second ≡ true
  pub place : ℕ
  pub here : slice_get (readings z r.second) place ≡ Some r

-- an item beyond an instant and a civil second
abbrev pub IsBeyond : Way → Seconds → TimeZone → ℤ → ℕ → Reading → Type 0
IsBeyond way s z i c r = Stands s z r × (beyond way i c r ≡ true)

-- the civil second lies before the one where a search goes on; if the search has ended, each does
abbrev pub IsPassed : Way → Option ℕ → ℕ → Type 0
IsPassed way None c = Unit {0}
IsPassed way (Some n) c = Precedes way c n

-- the first civil second that, read at an offset, lies beyond an instant and a civil second
abbrev pub entry_of : Way → ℤ → ℕ → ℤ → ℤ
entry_of Ahead i c o = if int_lt (pos c) (i +ℤ o) then i +ℤ o else i +ℤ o +ℤ pos 1
entry_of Back i c o = if int_lt (i +ℤ o) (pos c) then i +ℤ o else i +ℤ o -ℤ pos 1

-- where a search for items beyond a place begins: no civil second before it has such an item;
-- `None` only if none of the range has one
abbrev pub IsEntered : Way → ℤ → ℕ → Option ℕ → Type 0
IsEntered way i c first =
    MatchOption first
    ((r : Reading) → r.second < seconds_in_range → beyond way i c r ≡ true → ⊥)
    (λ n. (n < seconds_in_range)
    × ((r : Reading) → r.second < seconds_in_range → beyond way i c r ≡ true → Precedes way r.second n → ⊥))

-- the civil second lies past the stretch from low to high, high left out, in this direction
abbrev pub LiesPast : Way → ℕ → ℕ → ℕ → Type 0
LiesPast Ahead low high c = high ≤ c
LiesPast Back low high c = c < low

-- the civil second doesn't lie past the stretch from low to high, in this direction
abbrev pub IsNotPast : Way → ℕ → ℕ → ℕ → Type 0
IsNotPast Ahead low high c = c < high
IsNotPast Back low high c = low ≤ c

-- where a search goes on past a stretch: no match between them is better than the best so far;
-- `None` only if no match past the stretch is better
abbrev pub IsGoneOn : Way → Seconds → ℕ → ℕ → Option Reading → Option ℕ → Type 0
IsGoneOn way s low high best next =
    MatchOption next
    ((r : Reading) → is_match s r.second ≡ true → LiesPast way low high r.second → IsNoBetter way best r)
    (λ n. (n < seconds_in_range)
    × LiesPast way low high n
    × ((r : Reading) → is_match s r.second ≡ true → LiesPast way low high r.second → Precedes way r.second n → IsNoBetter way best r))

-- the civil second doesn't lie before the stretch from low to high, in this direction
abbrev pub IsInside : Way → ℕ → ℕ → ℕ → Type 0
IsInside Ahead low high c = low ≤ c
IsInside Back low high c = c < high

-- a search from `start` on finds in the stretch what one from `from` on finds in it
pub record IsStartAt (way : Way) (low high : ℕ) (from start : ℤ) : Type 0 where
  pub inside : (k : ℕ) → LiesFrom way start k → IsInside way low high k
  pub sound : (k : ℕ) → LiesFrom way start k → LiesFrom way from k
  pub whole : (k : ℕ) → low ≤ k → k < high → LiesFrom way from k → LiesFrom way start k

-- where a search from `from` on starts in the stretch; `None` exactly if no civil second of the
-- stretch lies from `from` on
abbrev pub IsStart : Way → ℕ → ℕ → ℤ → Option ℤ → Type 0
IsStart way low high from start =
    MatchOption start ((k : ℕ) → low ≤ k → k < high → LiesFrom way from k → ⊥) (IsStartAt way low high from)

-- a match in a stretch, read at an offset, beyond an instant and a civil second
pub record IsMatchAt (way : Way) (s : Seconds) (i : ℤ) (c low high : ℕ) (offset : Offset) (r : Reading) : Type 0 where
  pub matching : is_match s r.second ≡ true
  pub past : beyond way i c r ≡ true
  pub from : low ≤ r.second
  pub to : r.second < high
  pub at : r.offset ≡ offset

-- a match in a stretch, read at one of its offsets, beyond an instant and a civil second
pub record IsMatchIn (way : Way) (s : Seconds) (i : ℤ) (c : ℕ) (st : Stretch) (r : Reading) : Type 0 where
  pub matching : is_match s r.second ≡ true
  pub past : beyond way i c r ≡ true
  pub from : st.first ≤ r.second
  pub to : r.second < st.end
  pub place : ℕ
  pub here : slice_get (readings_at r.second st.earlier st.later) place ≡ Some r

-- how many civil seconds a search has left to go through
abbrev pub left_to_pass : Way → Option ℕ → ℕ
left_to_pass way None = 0
left_to_pass Ahead (Some n) = seconds_in_range - n
left_to_pass Back (Some n) = n + 1

-- the best so far is the nearest of the items beyond the place whose civil seconds lie before the
-- one where the search goes on
abbrev pub IsSought : Way → Seconds → TimeZone → ℤ → ℕ → Option ℕ → Option Reading → Type 0
IsSought way s z i c next best =
    IfSome next (λ n. n < seconds_in_range) × IsBest way (λ r. IsBeyond way s z i c r × IsPassed way next r.second) best
