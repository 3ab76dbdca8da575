-- Civil seconds between the transitions of a zone's table.
use Rattle.std.specs.Prelude.{◌≡◌, ℕ, ◌-◌, ◌<◌, ℤ, pos, ◌≤ℤ◌, ◌<ℤ◌, Bool, true, false, List, Option, MatchOption, get_or, length, map, if◌then◌else◌}
use Rattle.jiff_core.specs.declared.civil.datetime.DateTime.{DateTime}
use Rattle.jiff_tz.specs.declared.ambiguous.AmbiguousOffset.{AmbiguousOffset}
use Rattle.jiff_tz.specs.declared.tzif.Tzif.{Tzif}
use Rattle.jiff_tz.specs.declared.tzif.transition.Transition.{Transition}
use Rattle.jiff_tz.specs.Tzif.{ambiguous_at, ambiguous_after, is_inside, offsets_in, transition_at}
use Rattle.jiff_tz.specs.TzifText.{TransitionText, civil_start, civil_end, no_row, transition_text}
use Rattle.cron_moments.specs.Civil.{civil}
use Rattle.cron_clocks.specs.Spans.{IsUnparted}

-- the table has the same offsets for each civil second from `first` up to `end` as for the civil
-- second c
abbrev pub IsToldAlikeIn : Tzif → ℕ → ℤ → ℤ → Type 0
IsToldAlikeIn z c first end = (k : ℕ) → first ≤ℤ pos k → pos k <ℤ end → ambiguous_at z (civil k) ≡ ambiguous_at z (civil c)

-- the transitions of a table
abbrev pub transitions_of : Tzif → List TransitionText
transitions_of z = map transition_text z.transitions.items

abbrev pub row_at : List TransitionText → ℕ → TransitionText
row_at transitions i = get_or transitions i no_row

-- transition n, counted from 0, doesn't begin among the seconds after `first` and before `end`
abbrev pub IsShortOf : List TransitionText → ℕ → ℤ → ℤ → Type 0
IsShortOf transitions n first end = n < length transitions → IsUnparted first end (civil_start (row_at transitions n))

-- transition n doesn't begin among the seconds after `first` and before `end`, and transition n - 1
-- neither begins nor ends there
pub record IsBetweenTransitions (transitions : List TransitionText) (n : ℕ) (first end : ℤ) : Type 0 where
  pub begun : 0 < n → IsUnparted first end (civil_start (row_at transitions (n - 1)))
  pub ended : 0 < n → IsUnparted first end (civil_end (row_at transitions (n - 1)))
  pub next : IsShortOf transitions n first end

-- the offsets of a civil datetime after the beginning of the first n transitions: if `inside`, it
-- is in the gap or fold of the last of them
abbrev pub offsets_around : Tzif → ℕ → Bool → DateTime → AmbiguousOffset
offsets_around z n inside dt = if inside then offsets_in (transition_at z (n - 1)) else ambiguous_after z n dt

-- `offsets_around` is the same for each civil second from `first` up to `end` as for the civil
-- second c
abbrev pub IsAlikeAround : Tzif → ℕ → Bool → ℕ → ℤ → ℤ → Type 0
IsAlikeAround z n inside c first end =
    (k : ℕ) → first ≤ℤ pos k → pos k <ℤ end → offsets_around z n inside (civil k) ≡ offsets_around z n inside (civil c)

-- the transition is the last of the first n, and the second lies in its gap or fold; `None` if it
-- lies in none
abbrev pub IsTransitionAround : Tzif → ℕ → ℤ → Option Transition → Type 0
IsTransitionAround z n second transition =
    MatchOption transition (is_inside z n second ≡ false) (λ t. (is_inside z n second ≡ true) × (offsets_in t ≡ offsets_in (transition_at z (n - 1))))
