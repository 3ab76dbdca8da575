-- Numbers that ascend from each to the next ascend.
use Rattle.std.proofs.Common.{◌≡◌, ◌<◌, ◌+◌, ◌-◌, zero, suc, ℕ, ℤ, pos, ◌≤ℤ◌, List, length, get_or, arith, subst}
use Rattle.std.proofs.lemmas.Int.{ints}
use Rattle.cron_collisions.specs.Collisions.{Ascends}
use Rattle.cron_collisions.proofs.FirstLemmas.{get_or_default}

so_far : (ss : List ℤ) (i n : ℕ) → ((k : ℕ) → k + 1 < length ss → get_or ss k (pos 0) ≤ℤ get_or ss (k + 1) (pos 0)) → i + n < length ss
    → get_or ss i (pos 0) ≤ℤ get_or ss (i + n) (pos 0)
so_far ss i zero each short = let same : i + 0 ≡ i = omega arith in rw same (omega (arith, ints))
so_far ss i (suc n) each short =
    let same : i + suc n ≡ (i + n) + 1 = omega arith in
    let before : get_or ss i (pos 0) ≤ℤ get_or ss (i + n) (pos 0) = so_far ss i n each (omega arith) in
    let next : get_or ss (i + n) (pos 0) ≤ℤ get_or ss ((i + n) + 1) (pos 0) = each (i + n) (omega arith) in
    rw same (omega (arith, ints))

pub ascend-each : (ss : List ℤ) → ((k : ℕ) → k + 1 < length ss → get_or ss k (pos 0) ≤ℤ get_or ss (k + 1) (pos 0)) → Ascends ss
ascend-each ss each = λ i j d le short.
    let same : i + (j - i) ≡ j = omega arith in
    let far : get_or ss i (pos 0) ≤ℤ get_or ss j (pos 0) = subst (λ (k : ℕ). get_or ss i (pos 0) ≤ℤ get_or ss k (pos 0)) same (so_far ss i (j - i) each (omega arith)) in
    rw (get_or_default ss i d (pos 0) (omega arith), get_or_default ss j d (pos 0) short) far
