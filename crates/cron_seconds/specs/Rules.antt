-- Fires by a rule at clock changes, whichever it is: a list in order, the instant of each, and which comes past which.
use Rattle.std.specs.Prelude.{◌≡◌, ℕ, ◌≤◌, ℤ, pos, ◌*ℤ◌, ◌≤ℤ◌, Bool, true, false, int_le, int_lt, List, [], ◌∷◌, ◌++◌, filter, reverse, Option, Some, MatchOption, slice_get}

-- ---- parts of a list of fires

-- the instant of a fire, in seconds, comes after t, which is in nanoseconds since 1970
abbrev pub is_after : {A : Type 0} → (A → ℤ) → ℤ → A → Bool
is_after at t fire = int_lt t (at fire *ℤ pos 1_000_000_000)

-- the instant of a fire, in seconds, is t, which is in nanoseconds since 1970, or comes before it
abbrev pub is_by : {A : Type 0} → (A → ℤ) → ℤ → A → Bool
is_by at t fire = int_le (at fire *ℤ pos 1_000_000_000) t

-- the fires after an instant
abbrev pub all_after : {A : Type 0} → (A → ℤ) → List A → ℤ → List A
all_after at fires t = filter (is_after at t) fires

-- the fires past a fire
abbrev pub all_past : {A : Type 0} → (A → A → Bool) → List A → A → List A
all_past is_past fires fire = filter (is_past fire) fires

-- the fires after one instant and up to and with another
abbrev pub all_between : {A : Type 0} → (A → ℤ) → List A → ℤ → ℤ → List A
all_between at fires last now = filter (is_by at now) (all_after at fires last)

-- the fires past a fire and up to and with an instant
abbrev pub all_past_by : {A : Type 0} → (A → ℤ) → (A → A → Bool) → List A → A → ℤ → List A
all_past_by at is_past fires fire now = filter (is_by at now) (all_past is_past fires fire)

-- the fires up to and with an instant, the last one first
abbrev pub all_back : {A : Type 0} → (A → ℤ) → List A → ℤ → List A
all_back at fires t = reverse (filter (is_by at t) fires)

-- the fires that a fire comes past, the last one first
abbrev pub all_before : {A : Type 0} → (A → A → Bool) → List A → A → List A
all_before is_past fires fire = reverse (filter (λ other. is_past other fire) fires)

-- ---- the first of some fires

-- the first of some fires, so that the others are those past it; `None` exactly if there are no
-- fires
abbrev pub IsFirstOf : {A : Type 0} → List A → (A → List A) → Option A → Type 0
IsFirstOf fires past answer = MatchOption answer (fires ≡ []) (λ fire. fires ≡ fire ∷ past fire)

-- of the fires with a property the one that comes past no other; `None` exactly if no fire has it
abbrev pub IsLeast : {A : Type 0} → (A → A → Bool) → (A → Type 0) → Option A → Type 0
IsLeast {A} is_past P answer = MatchOption answer ((r : A) → P r → ⊥) (λ r. P r × ((q : A) → P q → is_past q r ≡ false))

-- of the fires with a property the one that no other comes past; `None` exactly if no fire has it
abbrev pub IsGreatest : {A : Type 0} → (A → A → Bool) → (A → Type 0) → Option A → Type 0
IsGreatest {A} is_past P answer = MatchOption answer ((r : A) → P r → ⊥) (λ r. P r × ((q : A) → P q → is_past r q ≡ false))

-- ---- their order

-- the fire is in the list
abbrev pub IsAmong : {A : Type 0} → List A → A → Type 0
IsAmong {A} l fire = (i : ℕ) × (slice_get l i ≡ Some fire)

-- each fire comes past all earlier ones in the list
abbrev pub Rises : {A : Type 0} → (A → A → Bool) → List A → Type 0
Rises is_past [] = Unit {0}
Rises {A} is_past (x ∷ l) = ((y : A) → IsAmong l y → is_past x y ≡ true) × Rises is_past l

-- no fire comes past itself, and what comes past a fire comes past those that it comes past
pub record IsOrder {A : Type 0} (is_past : A → A → Bool) : Type 0 where
  pub not_itself : (a : A) → is_past a a ≡ false
  pub through : (a b c : A) → is_past a b ≡ true → is_past b c ≡ true → is_past a c ≡ true

-- each fire comes past all earlier ones in the list, and its instant isn't before theirs
pub record AreInOrder {A : Type 0} (at : A → ℤ) (is_past : A → A → Bool) (fires : List A) : Type 0 where
  pub rise : Rises is_past fires
  pub keep_up : (a b : A) → IsAmong fires a → IsAmong fires b → is_past a b ≡ true → at a ≤ℤ at b

-- from fire to fire instants never decrease
abbrev pub NeverDecreases : {A : Type 0} → (A → ℤ) → List A → Type 0
NeverDecreases {A} at fires =
    (i j : ℕ) (fire later : A) → i ≤ j → slice_get fires i ≡ Some fire → slice_get fires j ≡ Some later → at fire ≤ℤ at later

-- wherever a list of fires is cut after one of them, the rest are those past it
abbrev pub IsCut : {A : Type 0} → List A → (A → List A) → Type 0
IsCut {A} fires past = (done : List A) (fire : A) (rest : List A) → fires ≡ done ++ fire ∷ rest → past fire ≡ rest
