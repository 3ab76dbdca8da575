-- Calls that change files, one by one.
use Rattle.std.specs.Prelude.{◌≡◌, ◌⊎◌, ℕ, List, [], ◌∷◌, Result, Ok, Err, ⊤}
use Rattle.std.specs.declared.io.Error.{Error}

-- a call that changes files: it writes one whole, syncs it, gives it another path, or syncs a
-- folder
pub data Change : Type 0 where
  Write : List ℕ → List ℕ → Change
  Sync : List ℕ → Change
  Rename : List ℕ → List ℕ → Change
  SyncFolder : List ℕ → Change

-- These calls were made in this order, up to and with the first that failed, whose error is the
-- answer. If none failed, the answer is `Ok`.
abbrev pub AreMade : {S : Type 0} → (S → Change → Result ⊤ Error → S → Type 0) → List Change → S → Result ⊤ Error → S → Type 0
AreMade does [] old answer new = (answer ≡ Ok tt) × (new ≡ old)
AreMade {S} does (c ∷ cs) old answer new =
    ((e : Error) × does old c (Err e) new × (answer ≡ Err e))
    ⊎ ((next : S) × does old c (Ok tt) next × AreMade does cs next answer new)
