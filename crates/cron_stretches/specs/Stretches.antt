-- Stretches of seconds that share a value, where a function gives each second its value.
use Rattle.std.specs.Prelude.{◌≡◌, ℕ, zero, suc, ◌+◌, ℤ, pos, negsuc, ◌+ℤ◌, ◌-ℤ◌, ◌≤ℤ◌, ◌<ℤ◌, Bool, false, ◌⊎◌, if◌then◌else◌, List, [], ◌∷◌}
use Rattle.cron_stretches.specs.declared.stretch.Stretch.{Stretch}

-- how many seconds there are from one on that come before another
abbrev pub seconds_from : ℤ → ℕ
seconds_from (pos n) = n
seconds_from (negsuc n) = 0

-- one more second in front of some stretches: it lengthens the first of them, if that has its value
abbrev pub put_before : {A : Type 0} → (A → A → Bool) → ℤ → A → List (Stretch A) → List (Stretch A)
put_before eq n v [] = record { first = n; end = n +ℤ pos 1; value = v } ∷ []
put_before eq n v (s ∷ l) =
    if eq v s.value then record { first = n; end = s.end; value = v } ∷ l else record { first = n; end = n +ℤ pos 1; value = v } ∷ s ∷ l

-- the greatest stretches of one value among so many seconds from n on
unfoldable pub stretches : {A : Type 0} → (A → A → Bool) → (ℤ → A) → ℤ → ℕ → List (Stretch A)
stretches eq value n zero = []
stretches eq value n (suc count) = put_before eq n (value n) (stretches eq value (n +ℤ pos 1) count)

-- the greatest stretches of one value among the seconds from one on that come before another
abbrev pub stretches_between : {A : Type 0} → (A → A → Bool) → (ℤ → A) → ℤ → ℤ → List (Stretch A)
stretches_between eq value from to = stretches eq value from (seconds_from (to -ℤ from))

-- how many of so many seconds from n on pass a test
unfoldable pub count_seconds : (ℤ → Bool) → ℤ → ℕ → ℕ
count_seconds test n zero = 0
count_seconds test n (suc count) = (if test n then 1 else 0) + count_seconds test (n +ℤ pos 1) count

-- how many of the seconds from one on that come before another pass a test
abbrev pub count_between : (ℤ → Bool) → ℤ → ℤ → ℕ
count_between test from to = count_seconds test from (seconds_from (to -ℤ from))

-- all seconds of a stretch have its value
abbrev pub IsAlike : {A : Type 0} → (ℤ → A) → Stretch A → Type 0
IsAlike value s = (n : ℤ) → s.first ≤ℤ n → n <ℤ s.end → value n ≡ s.value

-- of the stretches of one value that have the second t, and lie between two seconds, the greatest
pub record IsGreatest {A : Type 0} (eq : A → A → Bool) (value : ℤ → A) (from t to : ℤ) (s : Stretch A) : Type 0 where
  pub from_first : from ≤ℤ s.first
  pub first_to_t : s.first ≤ℤ t
  pub t_to_end : t <ℤ s.end
  pub end_to_to : s.end ≤ℤ to
  pub alike : IsAlike value s
  pub before : (s.first ≡ from) ⊎ (eq s.value (value (s.first -ℤ pos 1)) ≡ false)
  pub after : (s.end ≡ to) ⊎ (eq s.value (value s.end) ≡ false)
