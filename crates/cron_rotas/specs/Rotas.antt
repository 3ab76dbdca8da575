-- Rotas: people take turns, and each handover gives duty to the next. Instants are seconds since 1970-01-01T00:00:00Z.
use Rattle.std.specs.Prelude.{◌≡◌, ℕ, ◌%◌, ℤ, int_le, int_lt, Bool, ◌&&◌, if◌then◌else◌, Option, Some, None, unwrap_or, List, reverse, find, nat_eq, nat_lt}
use Rattle.std.specs.Option.{option_map}
use Rattle.std.specs.Int.{int_max}
use Rattle.std.specs.List.{count_by, list_all}
use Rattle.cron_stretches.specs.declared.stretch.Stretch.{Stretch}
use Rattle.cron_stretches.specs.Stretches.{count_between, stretches_between}
use Rattle.cron_rotas.specs.declared.swap.Swap.{Swap}

-- how many handovers come after one second, up to and with another
abbrev pub handovers_in : List ℤ → ℤ → ℤ → ℕ
handovers_in handovers after until = count_by (λ h. int_lt after h && int_le h until) handovers

-- the swap holds at t
abbrev pub holds_at : ℤ → Swap → Bool
holds_at t s = int_le s.from t && int_lt t s.until

-- the person of the last swap of the list that holds at t
abbrev pub swapped : List Swap → ℤ → Option ℕ
swapped swaps t = option_map (λ s. s.person) (find (holds_at t) (reverse swaps))

-- a rota: how many people it has, when it starts, the handovers, and swaps
pub record Duty : Type 0 where
  pub people : ℕ
  pub start : ℤ
  pub handovers : List ℤ
  pub swaps : List Swap

-- whose turn it is: the handovers after the start, counted round the people
abbrev pub turn_at : Duty → ℤ → ℕ
turn_at d t = handovers_in d.handovers d.start t % d.people

-- whose duty it is from the start on: of the last swap that holds, or else of the person whose turn it is
abbrev pub person_at : Duty → ℤ → ℕ
person_at d t = unwrap_or (swapped d.swaps t) (turn_at d t)

-- who is on duty; before the start nobody is
abbrev pub on_duty : Duty → ℤ → Option ℕ
on_duty d t = if int_lt t d.start then None else Some (person_at d t)

-- the shifts from one second on, or from the start, that come before another, cut at both
abbrev pub shifts_between : Duty → ℤ → ℤ → List (Stretch ℕ)
shifts_between d from to = stretches_between nat_eq (person_at d) (int_max from d.start) to

-- how many of the seconds from one on, or from the start, that come before another a person is on duty
abbrev pub seconds_of_duty : Duty → ℤ → ℤ → ℕ → ℕ
seconds_of_duty d from to person = count_between (λ t. nat_eq (person_at d t) person) (int_max from d.start) to

-- a swap has seconds, and is of one of the people
abbrev pub is_swap_of : ℕ → Swap → Bool
is_swap_of people s = int_lt s.from s.until && nat_lt s.person people

-- there are people, and each swap has seconds and is of one of them
abbrev pub is_rota : ℕ → List Swap → Bool
is_rota people swaps = nat_lt 0 people && list_all (is_swap_of people) swaps
