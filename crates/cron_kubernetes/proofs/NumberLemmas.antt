-- Numbers, as they are written.
use Rattle.std.proofs.Common.{◌≡◌, ℕ, ◌+◌, ◌^◌, ◌<◌, ◌≤◌, ◌&&◌, ◌||◌, ◌==◌, Bool, true, false, List, [], ◌∷◌, length, drop, get_or, refl, ap, ◌∙◌, arith, inl, inr}
use Rattle.std.specs.Prelude.{Result, Ok, Err, MatchOption, nat_lt}
use Rattle.std.specs.Result.{OkIff, result_ok}
use Rattle.std.specs.Char.{is_ascii_digit}
use Rattle.std.specs.List.{list_all}
use Rattle.std.specs.Str.{IsUtf8, IsCharBoundary}
use Rattle.std.specs.Str.Parse.{AllDigits, IsNumeral, digits_value, without_leading_plus, without_leading_sign}
use Rattle.std.proofs.lemmas.Bool.{cases_lt, ltb-true}
use Rattle.std.proofs.lemmas.Str.{IsCharBoundary-after_ascii}
use Rattle.std.proofs.lemmas.Str.Parse.{without_leading_plus_none}
use Rattle.cron_crontab.proofs.NumberLemmas.{digit_is}
use Rattle.cron_kubernetes.specs.Items.{are_digits}

-- ---- signs

signed : (text : List ℕ) → (get_or text 0 0 == 43 || get_or text 0 0 == 45) ≡ true → (0 < length text) × (get_or text 0 0 < 128)
signed [] is = absurd cc
signed (c ∷ cs) is = (omega arith, grind arith)

-- a text may be cut behind its sign
pub boundary-sign : (text : List ℕ) → IsUtf8 text → (get_or text 0 0 == 43 || get_or text 0 0 == 45) ≡ true → IsCharBoundary text 1
boundary-sign text utf8 is = let sign = signed text is in IsCharBoundary-after_ascii text 0 utf8 sign.0 sign.1

pub sign_cut : (text : List ℕ) → (get_or text 0 0 == 43 || get_or text 0 0 == 45) ≡ true → drop 1 text ≡ without_leading_sign text
sign_cut text is = by_test (get_or text 0 0 == 43) (get_or text 0 0 == 45) refl refl is
  where
    by_test : (a b : Bool) → (get_or text 0 0 == 43) ≡ a → (get_or text 0 0 == 45) ≡ b → (a || b) ≡ true → drop 1 text ≡ without_leading_sign text
    by_test true true e f or = rw f refl
    by_test true false e f or = rw (f, e) refl
    by_test false true e f or = rw f refl
    by_test false false e f or = absurd cc

pub no_sign : (text : List ℕ) → (get_or text 0 0 == 43 || get_or text 0 0 == 45) ≡ false → text ≡ without_leading_sign text
no_sign text is = by_test (get_or text 0 0 == 43) (get_or text 0 0 == 45) refl refl is
  where
    by_test : (a b : Bool) → (get_or text 0 0 == 43) ≡ a → (get_or text 0 0 == 45) ≡ b → (a || b) ≡ false → text ≡ without_leading_sign text
    by_test true b e f or = absurd cc
    by_test false true e f or = absurd cc
    by_test false false e f or = rw (f, e) refl

-- ---- digits

all_digits : (text : List ℕ) → list_all is_ascii_digit text ≡ true → AllDigits 10 text
all_digits [] all = tt
all_digits (c ∷ cs) all = (let d = digit_is c (grind arith) in omega arith, all_digits cs (grind arith))

both : (a b : Bool) → (a && b) ≡ true → (a ≡ true) × (b ≡ true)
both true true is = (refl, refl)
both true false is = absurd cc
both false b is = absurd cc

no_plus : (text : List ℕ) → 0 < length text → list_all is_ascii_digit text ≡ true → without_leading_plus text ≡ text
no_plus [] some all = absurd (omega arith)
no_plus (c ∷ cs) some all = let d = digit_is c (grind arith) in without_leading_plus_none (c ∷ cs) (λ e. omega (arith, d.0, e))

digits_parsed : {E : Type 0} (text : List ℕ) (r : Result ℕ E) → 0 < length text → list_all is_ascii_digit text ≡ true
    → OkIff r (IsNumeral 10 text × (digits_value 10 text < 2 ^ 64)) (digits_value 10 text)
    → MatchOption (result_ok r) (2 ^ 64 ≤ digits_value 10 text) (λ n. n ≡ digits_value 10 text)
digits_parsed text (Ok n) some all is = is.1
digits_parsed text (Err e) some all is = elim (cases_lt (digits_value 10 text) (2 ^ 64)) [
  | inl less ↦ absurd (is ((some, all_digits text all), less))
  | inr more ↦ more
]

-- what digits parse as
pub parsed : {E : Type 0} (text : List ℕ) (r : Result ℕ E) → are_digits text ≡ true
    → OkIff r (IsNumeral 10 (without_leading_plus text) × (digits_value 10 (without_leading_plus text) < 2 ^ 64)) (digits_value 10 (without_leading_plus text))
    → MatchOption (result_ok r) (2 ^ 64 ≤ digits_value 10 text) (λ n. n ≡ digits_value 10 text)
parsed text r are is =
    let parts = both (nat_lt 0 (length text)) (list_all is_ascii_digit text) are in
    let some = ltb-true 0 (length text) parts.0 in
    let same = no_plus text some parts.1 in
    digits_parsed text r some parts.1 (rw same at is)
