-- How long one person is on duty.
use Rattle.std.specs.Prelude.{◌≡◌, ◌⊎◌, ℕ, ℤ, ◌≤ℤ◌, ◌<ℤ◌, false, nat_eq}
use Rattle.cron_rotas.specs.Rotas.{Duty, person_at}

-- from one second on up to a later one, at most `to`, one person is on duty
pub record IsStep (d : Duty) (from to end : ℤ) : Type 0 where
  pub later : from <ℤ end
  pub within : end ≤ℤ to
  pub same : (t : ℤ) → from ≤ℤ t → t <ℤ end → person_at d t ≡ person_at d from

-- from one second on up to an end a person is on duty, and at the end somebody else is, if it isn't `to`
pub record IsShift (d : Duty) (person : ℕ) (from to end : ℤ) : Type 0 where
  pub later : from <ℤ end
  pub within : end ≤ℤ to
  pub alike : (t : ℤ) → from ≤ℤ t → t <ℤ end → person_at d t ≡ person
  pub ends : (end ≡ to) ⊎ (nat_eq person (person_at d end) ≡ false)
