-- Numbers that are a whole number of steps apart.
use Rattle.std.proofs.Common.{◌≡◌, ℕ, ◌+◌, ◌-◌, ◌*◌, ◌/◌, ◌%◌, ◌<◌, ◌≤◌, true, false, sym, ap, ◌∙◌, inl, inr, arith}
use Rattle.std.proofs.Math.Nat.{mul-add, mul-add-mod_self_right, mul-mod_right}
use Rattle.std.proofs.lemmas.Bool.{cases_lt, eq-eqb, ne_eqb}
use Rattle.std.proofs.lemmas.Nat.{div-add-mod', mul-le, mod-mul-add, mod_below}
use Rattle.cron_days.specs.Rules.{distance, is_steps_apart}

module _ (n : ℕ) (some : 0 < n) where
  fewer : (u v : ℕ) → n * u < n * v → u < v
  fewer u v h = elim (cases_lt u v) [
    | inl less ↦ less
    | inr ge ↦ absurd (omega (arith, mul-le n v n u (omega arith) ge))
  ]

  rests-up : (a x : ℕ) → x ≤ a → a % n ≡ x % n → x / n ≤ a / n
  rests-up a x le e = elim (cases_lt (a / n) (x / n)) [
    | inl less ↦ absurd (omega (arith, mul-le n (a / n + 1) n (x / n) (omega arith) (omega arith), mul-add n (a / n) 1, mod_below a n some))
    | inr ge ↦ ge
  ]

  same_rest-apart : (a x : ℕ) → x ≤ a → a % n ≡ x % n → (a - x) % n ≡ 0
  same_rest-apart a x le e =
      let up : x / n ≤ a / n = rests-up a x le e in
      let whole : a / n ≡ a / n - x / n + x / n = omega arith in
      let parts : n * (a / n) ≡ n * (a / n - x / n) + n * (x / n) = ap (λ k. n * k) whole ∙ mul-add n (a / n - x / n) (x / n) in
      let is : a - x ≡ n * (a / n - x / n) = omega arith in
      ap (λ d. d % n) is ∙ mul-mod_right n (a / n - x / n)

  apart-same_rest : (a x : ℕ) → x ≤ a → (a - x) % n ≡ 0 → a % n ≡ x % n
  apart-same_rest a x le e =
      let is : a ≡ (a - x) / n * n + x = omega (arith, div-add-mod' (a - x) n) in
      ap (λ d. d % n) is ∙ mul-add-mod_self_right ((a - x) / n) n x

  apart-from_rest : (a x : ℕ) → a % n ≡ x % n → distance a x % n ≡ 0
  apart-from_rest a x e = elim (cases_lt a x) [
    | inl less ↦ let is : distance a x ≡ x - a = omega arith in ap (λ d. d % n) is ∙ same_rest-apart x a (omega arith) (sym e)
    | inr ge ↦ let is : distance a x ≡ a - x = omega arith in ap (λ d. d % n) is ∙ same_rest-apart a x ge e
  ]

  rest-from_apart : (a x : ℕ) → distance a x % n ≡ 0 → a % n ≡ x % n
  rest-from_apart a x e = elim (cases_lt a x) [
    | inl less ↦ let is : x - a ≡ distance a x = omega arith in sym (apart-same_rest x a (omega arith) (ap (λ d. d % n) is ∙ e))
    | inr ge ↦ let is : a - x ≡ distance a x = omega arith in apart-same_rest a x ge (ap (λ d. d % n) is ∙ e)
  ]

  -- a number that the last step reached
  rest-at_step : (r p : ℕ) → r < n → (p + n - r) % n ≡ 0 → p % n ≡ r
  rest-at_step r p low e =
      let is : 1 * n + p ≡ (p + n - r) / n * n + r = omega (arith, div-add-mod' (p + n - r) n) in
      sym (mul-add-mod_self_right 1 n p) ∙ ap (λ d. d % n) is ∙ mod-mul-add ((p + n - r) / n) n r low

  -- a number between two steps
  no_step_between : (r p x : ℕ) → r < n → p + 1 ≤ x + (p + n - r) % n → x + (p + n - r) % n < p + n → 0 < (p + n - r) % n → x % n ≡ r → ⊥
  no_step_between r p x low after before past rest =
      let v = (p + n - r) / n in
      let one : v < x / n + 1 = fewer v (x / n + 1) (omega (arith, mul-add n (x / n) 1)) in
      let other : x / n < v = fewer (x / n) v (omega arith) in
      omega arith

  pub at_step : (a p x : ℕ) → (p + n - a % n) % n ≡ 0 → x ≡ p → is_steps_apart n a x ≡ true
  at_step a p x e same =
      let rest : x % n ≡ a % n = ap (λ d. d % n) same ∙ rest-at_step (a % n) p (mod_below a n some) e in
      eq-eqb (distance a x % n) 0 (apart-from_rest a x (sym rest))

  pub between_steps : (a p x past : ℕ) → past ≡ (p + n - a % n) % n → 0 < past → p + 1 - past ≤ x → x < p + n - past → is_steps_apart n a x ≡ false
  between_steps a p x past is some_past after before =
      ne_eqb (distance a x % n) 0 (λ e. no_step_between (a % n) p x (mod_below a n some) (omega arith) (omega arith) (omega arith) (sym (rest-from_apart a x e)))
