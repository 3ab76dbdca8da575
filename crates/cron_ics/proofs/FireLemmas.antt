-- Fires that are taken one after another.
use Rattle.std.proofs.Common.{◌≡◌, ℕ, suc, ◌<◌, ◌≤◌, ℤ, pos, ◌+ℤ◌, ◌*ℤ◌, List, [], ◌∷◌, ◌++◌, length, refl, ap, length-append, arith}
use Rattle.jiff_core.proofs.SignedLemmas.{signed_arith}
use Rattle.cron_ics.specs.Fires.{AreTold, Tells, Told}
use Rattle.cron_ics.specs.declared.fires.Fire.{Fire}

pub at_utc : (shown nanos second : ℤ) → shown ≡ nanos +ℤ (pos 0 *ℤ pos 1_000_000_000) → nanos ≡ second *ℤ pos 1_000_000_000
    → shown ≡ second *ℤ pos 1_000_000_000
at_utc shown nanos second e g = omega (arith, signed_arith)

pub one_more : (ts : List Told) (fs : List Fire) (t : Told) (f : Fire) → AreTold ts fs → Tells t f → AreTold (ts ++ t ∷ []) (fs ++ f ∷ [])
one_more [] [] t f told one = (one, tt)
one_more [] (g ∷ fs) t f told one = absurd told
one_more (s ∷ ts) [] t f told one = absurd told
one_more (s ∷ ts) (g ∷ fs) t f told one = (told.0, one_more ts fs t f told.1 one)

pub as_many : (ts : List Told) (fs : List Fire) → AreTold ts fs → length fs ≡ length ts
as_many [] [] told = refl
as_many [] (f ∷ fs) told = absurd told
as_many (t ∷ ts) [] told = absurd told
as_many (t ∷ ts) (f ∷ fs) told = ap suc (as_many ts fs told.1)

-- one more is left than there is room for
pub too_many : (front old new : List Told) (t : Told) (fs : List Fire) (room : ℕ) → AreTold front fs → old ≡ front ++ t ∷ new → room ≤ length fs
    → room < length old
too_many front old new t fs room told split full =
    omega (arith, as_many front fs told, ap length split, length-append front (t ∷ new))
