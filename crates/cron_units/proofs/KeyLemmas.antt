-- The keys of names.
use Rattle.std.proofs.Common.{◌≡◌, ℕ, ◌+◌, ◌*◌, ◌%◌, ◌<◌, ◌≤◌, Bool, true, false, ◌&&◌, cond, List, [], ◌∷◌, ◌++◌, refl, sym, ap, ◌∙◌, arith, reverse, nat_lt, inl, inr}
use Rattle.std.specs.List.{list_all}
use Rattle.std.specs.Str.{str_to_ascii_lowercase}
use Rattle.std.specs.Char.{to_ascii_lowercase}
use Rattle.std.proofs.lemmas.Bool.{cases_lt}
use Rattle.std.proofs.lemmas.Bool.Decides.{nat_tests}
use Rattle.std.proofs.lemmas.List.{reverse-append, reverse-reverse, map-append}
use Rattle.std.proofs.lemmas.List.Folds.{list_all-append}
use Rattle.cron_units.specs.Keys.{is_letter, key_from, key_of, IsKey}

-- ---- letters in either case

lower_letter : (b d : Bool) (c : ℕ) → cond b c (cond d (c + 32) c) % 32 ≡ c % 32
lower_letter true d c = refl
lower_letter false true c = omega arith
lower_letter false false c = refl

same_letter : (c : ℕ) → to_ascii_lowercase c % 32 ≡ c % 32
same_letter c = lower_letter (nat_lt c 65) (nat_lt c 91) c

still_letter : (c : ℕ) → is_letter (to_ascii_lowercase c) ≡ is_letter c
still_letter c = grind (arith, nat_tests)

one_case : (c d : ℕ) → is_letter c ≡ true → is_letter d ≡ true → c % 32 ≡ d % 32 → to_ascii_lowercase c ≡ to_ascii_lowercase d
one_case c d p q e = grind (arith, nat_tests)

some_letter : (c : ℕ) → is_letter c ≡ true → 1 ≤ c % 32
some_letter c h = grind (arith, nat_tests)

pub lower_key : (k : ℕ) (name : List ℕ) → key_from k (str_to_ascii_lowercase name) ≡ key_from k name
lower_key k [] = refl
lower_key k (c ∷ cs) = ap (λ n. key_from (k * 32 + n) (str_to_ascii_lowercase cs)) (same_letter c) ∙ lower_key (k * 32 + c % 32) cs

pub lower_letters : (name : List ℕ) → list_all is_letter (str_to_ascii_lowercase name) ≡ list_all is_letter name
lower_letters [] = refl
lower_letters (c ∷ cs) = rw (still_letter c, lower_letters cs) refl

-- ---- one letter more

pub key_more : (k : ℕ) (name : List ℕ) (c : ℕ) → key_from k (name ++ c ∷ []) ≡ key_from k name * 32 + c % 32
key_more k [] c = refl
key_more k (d ∷ ds) c = key_more (k * 32 + d % 32) ds c

-- ---- the key tells the letters

first_true : (a b : Bool) → (a && b) ≡ true → a ≡ true
first_true true b h = refl
first_true false b h = h

rest_true : (a b : Bool) → (a && b) ≡ true → b ≡ true
rest_true true b h = h
rest_true false b h = absurd cc

-- the key of a name that is read from its end
backward : List ℕ → ℕ
backward [] = 0
backward (c ∷ cs) = backward cs * 32 + c % 32

reverse_more : (c : ℕ) (cs : List ℕ) → reverse (c ∷ cs) ≡ reverse cs ++ c ∷ []
reverse_more c cs = reverse-append (c ∷ []) cs

key_backward : (name : List ℕ) → key_of (reverse name) ≡ backward name
unfolding backward
key_backward [] = refl
key_backward (c ∷ cs) = ap key_of (reverse_more c cs) ∙ (key_more 0 (reverse cs) c ∙ ap (λ n. n * 32 + c % 32) (key_backward cs))

backward_injective : (a b : List ℕ) → list_all is_letter a ≡ true → list_all is_letter b ≡ true → backward a ≡ backward b
    → str_to_ascii_lowercase a ≡ str_to_ascii_lowercase b
unfolding backward
backward_injective [] [] p q e = refl
backward_injective [] (d ∷ ds) p q e = let some = some_letter d (first_true (is_letter d) (list_all is_letter ds) q) in absurd (omega (arith, some, e))
backward_injective (c ∷ cs) [] p q e = let some = some_letter c (first_true (is_letter c) (list_all is_letter cs) p) in absurd (omega (arith, some, e))
backward_injective (c ∷ cs) (d ∷ ds) p q e =
    let last : c % 32 ≡ d % 32 = omega (arith, e) in
    let before : backward cs ≡ backward ds = omega (arith, e) in
    let one = one_case c d (first_true (is_letter c) (list_all is_letter cs) p) (first_true (is_letter d) (list_all is_letter ds) q) last in
    let others = backward_injective cs ds (rest_true (is_letter c) (list_all is_letter cs) p) (rest_true (is_letter d) (list_all is_letter ds) q) before in
    rw (one, others) refl

turn_and : (a b : Bool) → (b && (a && true)) ≡ (a && b)
turn_and true true = refl
turn_and true false = refl
turn_and false true = refl
turn_and false false = refl

letters_backward : (name : List ℕ) → list_all is_letter (reverse name) ≡ list_all is_letter name
letters_backward [] = refl
letters_backward (c ∷ cs) =
    ap (list_all is_letter) (reverse_more c cs) ∙ (list_all-append is_letter (reverse cs) (c ∷ [])
    ∙ (ap (λ (b : Bool). b && (is_letter c && true)) (letters_backward cs) ∙ turn_and (is_letter c) (list_all is_letter cs)))

lower_backward : (name : List ℕ) → str_to_ascii_lowercase (reverse name) ≡ reverse (str_to_ascii_lowercase name)
lower_backward [] = refl
lower_backward (c ∷ cs) =
    ap str_to_ascii_lowercase (reverse_more c cs) ∙ (map-append to_ascii_lowercase (reverse cs) (c ∷ [])
    ∙ (ap (λ (xs : List ℕ). xs ++ to_ascii_lowercase c ∷ []) (lower_backward cs) ∙ sym (reverse_more (to_ascii_lowercase c) (str_to_ascii_lowercase cs))))

-- Names of letters with one key are the same but for the case of their letters.
pub key_injective : (a b : List ℕ) → list_all is_letter a ≡ true → list_all is_letter b ≡ true → key_of a ≡ key_of b
    → str_to_ascii_lowercase a ≡ str_to_ascii_lowercase b
key_injective a b p q e =
    let turned : (xs : List ℕ) → key_of xs ≡ backward (reverse xs) = λ xs. ap key_of (sym (reverse-reverse xs)) ∙ key_backward (reverse xs) in
    let same : backward (reverse a) ≡ backward (reverse b) = sym (turned a) ∙ (e ∙ turned b) in
    let lower = backward_injective (reverse a) (reverse b) (letters_backward a ∙ p) (letters_backward b ∙ q) same in
    let again : reverse (str_to_ascii_lowercase a) ≡ reverse (str_to_ascii_lowercase b) = sym (lower_backward a) ∙ (lower ∙ lower_backward b) in
    sym (reverse-reverse (str_to_ascii_lowercase a)) ∙ (ap (λ (xs : List ℕ). reverse xs) again ∙ reverse-reverse (str_to_ascii_lowercase b))

-- ---- keys as far as they are read

pub key_none : IsKey [] 0
key_none = record { same = λ l. refl; past = λ l. absurd (omega (arith, l)) }

pub key_letter : (name : List ℕ) (key c : ℕ) → key < 36028797018963968 → IsKey name key → IsKey (name ++ c ∷ []) (key * 32 + c % 32)
key_letter name key c short k = elim (cases_lt (key_of name) 36028797018963968) [
  | inl small ↦
      let is = key_more 0 name c in
      let more = k.same small in
      record { same = λ l. omega (arith, is, more); past = λ l. omega (arith, is, more, l) }
  | inr large ↦ absurd (omega (arith, short, k.past large))
]

pub key_long : (name : List ℕ) (key c : ℕ) → 36028797018963968 ≤ key → IsKey name key → IsKey (name ++ c ∷ []) key
key_long name key c long k = elim (cases_lt (key_of name) 36028797018963968) [
  | inl small ↦ absurd (omega (arith, long, k.same small, small))
  | inr large ↦ let is = key_more 0 name c in record { same = λ l. absurd (omega (arith, is, l, large)); past = λ l. long }
]
