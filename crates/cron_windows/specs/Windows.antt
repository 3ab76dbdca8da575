-- Windows: each opens at a fire, and closes after some seconds or at the next fire of another set.
-- Instants are seconds since 1970-01-01T00:00:00Z.
use Rattle.std.specs.Prelude.{◌≡◌, ℕ, ℤ, pos, ◌+ℤ◌, ◌≤ℤ◌, ◌<ℤ◌, ◌-ℤ◌, int_le, int_lt, nat_lt, Bool, true, false, ◌&&◌, not, ◌⊎◌, List, filter, Option, Some, None}
use Rattle.std.specs.Bool.{beq}
use Rattle.std.specs.Int.{int_max}
use Rattle.std.specs.List.{list_any}
use Rattle.cron_stretches.specs.declared.stretch.Stretch.{Stretch}
use Rattle.cron_stretches.specs.Stretches.{stretches_between}
use Rattle.cron_stretches.specs.Fires.{instants}
use Rattle.cron_windows.specs.declared.closing.Closing.{Closing}
use Rattle.cron_windows.specs.declared.closing.Closing.TheVariants.{After, AtFires}

-- so many seconds have passed at t since a window opened
abbrev pub has_passed : ℕ → ℤ → ℤ → Bool
has_passed length opened t = int_le (opened +ℤ pos length) t

-- one of some fires has come by t since a window opened; one at which it opened doesn't count
abbrev pub has_come : List ℤ → ℤ → ℤ → Bool
has_come fires opened t = list_any (λ fire. int_lt opened fire && int_le fire t) fires

-- whether what closes windows has closed one by t since it opened
unfoldable pub has_closed : Closing (List ℤ) → ℤ → ℤ → Bool
has_closed (After length) = has_passed length
has_closed (AtFires fires) = has_come fires

-- the fires at which windows open, and what closes them: a number of seconds, or the fires of another set
pub record WindowFires : Type 0 where
  pub opens : List ℤ
  pub closing : Closing (List ℤ)

-- windows that open at fires and close a number of seconds later
abbrev pub lasting : List ℤ → ℕ → WindowFires
lasting opens length = record { opens = opens; closing = After length }

-- windows that open at fires and close at the next fire of another set
abbrev pub closed_by : List ℤ → List ℤ → WindowFires
closed_by opens closes = record { opens = opens; closing = AtFires closes }

-- a fire has come by t, and the window that it opened hasn't closed by t
unfoldable pub is_open : WindowFires → ℤ → Bool
is_open w t = list_any (λ fire. int_le fire t && not (has_closed w.closing fire t)) w.opens

-- what closes windows by a rule: the instants of the fires in place of their set
abbrev pub closing_by : {A C : Type 0} → (A → ℤ) → (C → List A) → Closing C → Closing (List ℤ)
closing_by at fires_of (After length) = After length
closing_by at fires_of (AtFires set) = AtFires (instants at (fires_of set))

-- what closes windows takes some time
abbrev pub takes_time : {C : Type 0} → Closing C → Bool
takes_time (After length) = nat_lt 0 length
takes_time (AtFires set) = true

-- from one second on a window hasn't closed up to an end, which is another second, or is when it closes
abbrev pub EndsAt : (ℤ → Bool) → ℤ → ℤ → ℤ → Type 0
EndsAt closed from to end =
    (from <ℤ end) × (end ≤ℤ to) × ((t : ℤ) → from ≤ℤ t → t <ℤ end → closed t ≡ false) × ((end ≡ to) ⊎ (closed end ≡ true))

-- the seconds from one on that come before another have this answer
abbrev pub AllAre : (ℤ → Bool) → ℤ → ℤ → Bool → Type 0
AllAre test from to b = (t : ℤ) → from ≤ℤ t → t <ℤ to → test t ≡ b

-- the seconds from one on have this answer up to an end, which is another second or has the other answer
pub record LastsUntil (test : ℤ → Bool) (b : Bool) (from to end : ℤ) : Type 0 where
  pub later : from <ℤ end
  pub within : end ≤ℤ to
  pub alike : AllAre test from end b
  pub ends : (end ≡ to) ⊎ (test end ≡ not b)

-- the seconds up to and with one have this answer from a first on, which is another second or comes right after one
-- with the other answer
pub record LastsSince (test : ℤ → Bool) (b : Bool) (from t first : ℤ) : Type 0 where
  pub from_first : from ≤ℤ first
  pub first_to_t : first ≤ℤ t
  pub alike : AllAre test first (t +ℤ pos 1) b
  pub before : (first ≡ from) ⊎ (test (first -ℤ pos 1) ≡ not b)

-- the windows between two seconds, cut at them; windows that touch are one
abbrev pub windows_between : (ℤ → Bool) → ℤ → ℤ → List (Stretch Bool)
windows_between test from to = filter (λ s. s.value) (stretches_between beq test from to)

-- the second right before one, or another if that is later or there is no such one
abbrev pub behind : ℤ → Option ℤ → ℤ
behind from None = from
behind from (Some reach) = int_max from (reach -ℤ pos 1)
