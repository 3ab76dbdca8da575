-- A law of fires that all last equally long.
use Rattle.std.specs.Prelude.{◌≡◌, ◌↔◌, ℕ, ℤ, pos, ◌+ℤ◌, ◌<ℤ◌, ◌≤ℤ◌, true}
use Rattle.cron_collisions.specs.Collisions.{collide}

-- a fire that begins at the second s and lasts `length` seconds goes on at the second x
abbrev pub GoesOnAt : ℕ → ℤ → ℤ → Type 0
GoesOnAt length s x = (s ≤ℤ x) × (x <ℤ (s +ℤ pos length))

-- two fires collide exactly if there is a second when both go on
abbrev pub CollideWhereTheyShare : Type 0
CollideWhereTheyShare =
    (length : ℕ) (s t : ℤ) → (collide length s t ≡ true) ↔ ((x : ℤ) × GoesOnAt length s x × GoesOnAt length t x)
