-- The remainder of a number, digit after digit.
use Rattle.std.proofs.Common.{◌≡◌, ℕ, ◌+◌, ◌*◌, ◌/◌, ◌%◌, arith, sym, ap, ◌∙◌}
use native.Mathlib.Nat.{add-mul-mod_self_right, div-add-mod'}

-- one more digit
pub one_digit : (n byte m : ℕ) → (n % m * 256 + byte) % m ≡ (n * 256 + byte) % m
one_digit n byte m =
    let whole : n * 256 + byte ≡ n % m * 256 + byte + n / m * 256 * m = omega (arith, div-add-mod' n m) in
    sym (ap (λ k. k % m) whole ∙ add-mul-mod_self_right (n % m * 256 + byte) (n / m * 256) m)
