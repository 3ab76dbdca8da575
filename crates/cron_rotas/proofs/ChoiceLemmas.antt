-- Which of two seconds comes first, and whose turn it is a few handovers later.
use Rattle.std.proofs.Common.{◌≡◌, ℕ, suc, ◌+◌, ◌%◌, ◌<◌, ℤ, pos, ◌≤ℤ◌, ◌<ℤ◌, Bool, true, false, List, Option, Some, None, ◌⊎◌, inl, inr, refl, sym, ap, ◌∙◌, subst, arith}
use Rattle.std.specs.Prelude.{IfSome, nat_eq}
use Rattle.std.proofs.lemmas.Int.{ints, by_lt_z}
use native.Mathlib.Nat.{mod-add-mod, mod-eq_of_lt, mod-lt, zero-mod}
use Rattle.cron_stretches.specs.Fires.{IsInstant, IsNext}
use Rattle.cron_rotas.specs.Edges.{IsNextEdge}
use Rattle.cron_rotas.specs.Rotas.{Duty, handovers_in, person_at, turn_at}
use Rattle.cron_rotas.specs.Steps.{IsShift, IsStep}
use Rattle.cron_rotas.proofs.StepLemmas.{AllOf, step}
use Rattle.cron_rotas.proofs.TurnLemmas.{handovers-meet, turn-later}

if-some : (o : Option ℤ) (end : ℤ) → IfSome o (λ n. end ≤ℤ n) → (n : ℤ) → o ≡ Some n → end ≤ℤ n
if-some None end h n e = absurd (cc)
if-some (Some m) end h n e = let same : m ≡ n = cc in subst (λ (v : ℤ). end ≤ℤ v) same h

-- the earlier of an edge and the next handover comes later
pub later-of : (l : List ℤ) (a edge end : ℤ) (next : Option ℤ) → IsNext l a next → a <ℤ edge → (end ≡ edge) ⊎ (next ≡ Some end) → a <ℤ end
later-of l a edge end next is less (inl same) = omega (arith, ints)
later-of l a edge end next is less (inr e) = let found = subst (IsNext l a) e is in found.1

pub step-of : (d : Duty) (a to edge end : ℤ) (next : Option ℤ) → d.start ≤ℤ a → IsNextEdge d.swaps a to edge → IsNext d.handovers a next
    → end ≤ℤ edge → IfSome next (λ n. end ≤ℤ n) → (end ≡ edge) ⊎ (next ≡ Some end) → IsStep d a to end
step-of d a to edge end next low is_edge is_next within first which =
    step d a to edge end next low is_edge is_next (later-of d.handovers a edge end next is_next is_edge.0 which) within (if-some next end first)

-- the turn so many handovers later
pub turn-after : (d : Duty) (a b : ℤ) (person : ℕ) → d.start ≤ℤ a → a ≤ℤ b → person ≡ turn_at d a → (person + handovers_in d.handovers a b) % d.people ≡ turn_at d b
turn-after d a b person low high is = ap (λ (p : ℕ). (p + handovers_in d.handovers a b) % d.people) is ∙ turn-later d a b (handovers_in d.handovers a b) low high refl

pub turn-none : (person n : ℕ) → person < n → person ≡ (person + 0) % n
turn-none person n less = let same : person + 0 ≡ person = omega arith in sym (mod-eq_of_lt less) ∙ ap (λ (p : ℕ). p % n) (sym same)

pub turn-below : (d : Duty) (t : ℤ) → 0 < d.people → turn_at d t < d.people
turn-below d t some = mod-lt (handovers_in d.handovers d.start t) some

pub below-of : (m n person : ℕ) → 0 < n → person ≡ m % n → person < n
below-of m n person some is = subst (λ (p : ℕ). p < n) (sym is) (mod-lt m some)

-- a shift that ends where somebody else comes on duty, or at the end
pub unlike-of : (a b : ℕ) → (a ≡ b → ⊥) → nat_eq b a ≡ false
unlike-of a b other = grind arith

-- at the start it is the first person's turn
pub turn-start : (d : Duty) → 0 ≡ turn_at d d.start
turn-start d =
    let joined = handovers-meet d.start d.start d.start (omega (arith, ints)) (omega (arith, ints)) d.handovers in
    let none : handovers_in d.handovers d.start d.start ≡ 0 = omega arith in
    sym (ap (λ (m : ℕ). m % d.people) none ∙ zero-mod d.people)

-- ---- a run of handovers, by how many are left

pub turn-step : (n person next k total whole : ℕ) → next ≡ (person + 1) % n → total ≡ suc k → (person + total) % n ≡ whole → (next + k) % n ≡ whole
turn-step n person next k total whole is more e =
    let same : (person + 1) + k ≡ person + total = omega arith in
    ap (λ (p : ℕ). (p + k) % n) is ∙ mod-add-mod (person + 1) n k ∙ ap (λ (m : ℕ). m % n) same ∙ e

pub turn-last : (n person total whole : ℕ) → person < n → total ≡ 0 → (person + total) % n ≡ whole → person ≡ whole
turn-last n person total whole less none e =
    let same : person + total ≡ person = omega arith in
    sym (mod-eq_of_lt less) ∙ ap (λ (m : ℕ). m % n) (sym same) ∙ e
