use Rattle.std.proofs.Common.{◌≡◌, ℕ, ℤ, true, arith}
use Rattle.std.proofs.lemmas.Int.{ints, by_lt_z}
use Rattle.cron_collisions.specs.Collisions.{collide}
use Rattle.cron_collisions.specs.Laws.{GoesOnAt}
use Rattle.cron_collisions.proofs.BelowLemmas.{collides, collides_each}
use Rattle.cron_collisions.proofs.laws.collide_where_they_share.Goals as goal

-- the later of the two has just begun
shared : (length : ℕ) (s t : ℤ) → collide length s t ≡ true → (x : ℤ) × GoesOnAt length s x × GoesOnAt length t x
shared length s t h =
    let both = collides_each length s t h in
    by_lt_z s t (λ l. (t, (omega (arith, ints), omega (arith, ints)), (omega (arith, ints), omega (arith, ints))))
    (λ m. (s, (omega (arith, ints), omega (arith, ints)), (omega (arith, ints), omega (arith, ints))))

pub returns : goal.returns
returns c = λ length s t. (
  shared length s t,
  λ both. let (x, one, other) = both in collides length s t (omega (arith, ints)) (omega (arith, ints)),
)
