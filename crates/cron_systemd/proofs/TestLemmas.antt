-- Tests of bytes.
use Rattle.std.proofs.Common.{◌≡◌, ℕ, suc, ◌+◌, ◌-◌, ◌<◌, ◌≤◌, ◌==◌, Bool, true, false, not, nat_le, nat_lt, List, [], ◌∷◌, take, refl, sym, ◌∙◌, subst, inl, inr, arith}
use Rattle.std.specs.Prelude.{zero, ◌&&◌, ◌||◌}
use Rattle.std.specs.Char.{is_ascii_alphanumeric}
use Rattle.std.specs.Int.{is_in_range}
use Rattle.std.specs.List.{list_all}
use Rattle.std.proofs.lemmas.Bool.{and_from, and_parts, cases_Bool, eqb-true, false≢true, leb-true, lt-ltb, ltb-true, or_cases}
use Rattle.cron_systemd.specs.Sayable.{is_byte}
use Rattle.cron_systemd.specs.Values.{is_bare}

-- a byte that passes a test which k fails isn't k
pub other : (p : ℕ → Bool) (c k : ℕ) → p c ≡ true → p k ≡ false → (c == k) ≡ false
other p c k passes fails = elim (cases_Bool (c == k)) [
  | inl it ↦ absurd (false≢true (sym fails ∙ subst (λ b. p b ≡ true) (eqb-true c k it) passes))
  | inr it ↦ it
]

-- what each element passes, if it passes a test that implies it
pub all_pass : (p q : ℕ → Bool) → ((c : ℕ) → p c ≡ true → q c ≡ true) → (text : List ℕ) → list_all p text ≡ true → list_all q text ≡ true
all_pass p q implies [] all = refl
all_pass p q implies (c ∷ cs) all =
    let parts = and_parts (p c) (list_all p cs) all in
    and_from (q c) (list_all q cs) (implies c parts.0) (all_pass p q implies cs parts.1)

pub all_take : (p : ℕ → Bool) (n : ℕ) (text : List ℕ) → list_all p text ≡ true → list_all p (take n text) ≡ true
all_take p zero text all = refl
all_take p (suc n) [] all = refl
all_take p (suc n) (c ∷ cs) all =
    let parts = and_parts (p c) (list_all p cs) all in
    and_from (p c) (list_all p (take n cs)) parts.0 (all_take p n cs parts.1)

pub some : (c : ℕ) → is_byte c ≡ true → 0 < c
some c is = ltb-true 0 c (and_parts (nat_lt 0 c) (nat_lt c 256) is).0

pub low : (c : ℕ) → is_byte c ≡ true → c < 256
low c is = ltb-true c 256 (and_parts (nat_lt 0 c) (nat_lt c 256) is).1

-- ---- the bytes of words without quotes

abbrev IsWithin : ℕ → Type 0
IsWithin c = (32 < c) × (c < 127)

in_range : (lo hi c : ℕ) → 32 < lo → hi < 127 → is_in_range lo hi c ≡ true → IsWithin c
in_range lo hi c more less is =
    let parts = and_parts (nat_le lo c) (nat_le c hi) is in
    let least = leb-true lo c parts.0 in
    let most = leb-true c hi parts.1 in
    (omega arith, omega arith)

is_one : (c k : ℕ) → 32 < k → k < 127 → (c == k) ≡ true → IsWithin c
is_one c k more less is = let e = eqb-true c k is in (omega arith, omega arith)

letter_or_digit : (c : ℕ) → is_ascii_alphanumeric c ≡ true → IsWithin c
letter_or_digit c is = elim (or_cases (is_in_range 48 57 c || is_in_range 65 90 c) (is_in_range 97 122 c) is) [
  | inl front ↦ elim (or_cases (is_in_range 48 57 c) (is_in_range 65 90 c) front) [
    | inl it ↦ in_range 48 57 c (omega arith) (omega arith) it
    | inr it ↦ in_range 65 90 c (omega arith) (omega arith) it
  ]
  | inr it ↦ in_range 97 122 c (omega arith) (omega arith) it
]

abbrev bare_front : ℕ → Bool
bare_front c = is_ascii_alphanumeric c || (c == 43) || (c == 45)

front_within : (c : ℕ) → bare_front c ≡ true → IsWithin c
front_within c is = elim (or_cases (is_ascii_alphanumeric c || (c == 43)) (c == 45) is) [
  | inl front ↦ elim (or_cases (is_ascii_alphanumeric c) (c == 43) front) [
    | inl it ↦ letter_or_digit c it
    | inr it ↦ is_one c 43 (omega arith) (omega arith) it
  ]
  | inr it ↦ is_one c 45 (omega arith) (omega arith) it
]

pub bare_within : (c : ℕ) → is_bare c ≡ true → (32 < c) × (c < 127)
bare_within c is = elim (or_cases (bare_front c || (c == 46) || (c == 47)) (c == 95) is) [
  | inl front ↦ elim (or_cases (bare_front c || (c == 46)) (c == 47) front) [
    | inl more ↦ elim (or_cases (bare_front c) (c == 46) more) [
      | inl it ↦ front_within c it
      | inr it ↦ is_one c 46 (omega arith) (omega arith) it
    ]
    | inr it ↦ is_one c 47 (omega arith) (omega arith) it
  ]
  | inr it ↦ is_one c 95 (omega arith) (omega arith) it
]

pub bare_byte : (c : ℕ) → is_bare c ≡ true → is_byte c ≡ true
bare_byte c is =
    let within = bare_within c is in
    let more : 0 < c = omega arith in
    let less : c < 256 = omega arith in
    and_from (nat_lt 0 c) (nat_lt c 256) (lt-ltb 0 c more) (lt-ltb c 256 less)

-- ---- the bytes of names are among them

pub name_bare : (c : ℕ) → (is_ascii_alphanumeric c || (c == 95)) ≡ true → is_bare c ≡ true
name_bare c is = elim (or_cases (is_ascii_alphanumeric c) (c == 95) is) [
  | inl it ↦ rw it refl
  | inr it ↦ rw (eqb-true c 95 it) refl
]
