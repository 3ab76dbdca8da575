-- Where a token ends.
use Rattle.std.proofs.Common.{◌≡◌, ℕ, ◌<◌, ◌≤◌, Bool, true, false, not, ◌&&◌, ◌||◌, cond, List, [], ◌∷◌, length, get_or, take, drop, refl, sym, ap, ◌∙◌, subst, arith, ◌⊎◌, inl, inr, zero, suc}
use Rattle.std.proofs.lemmas.Bool.Decides.{nat_tests}
use Rattle.std.proofs.lemmas.Bool.{false≢true}
use Rattle.std.specs.Prelude.{slice_index}
use Rattle.cron_text.specs.Tokens.{Token, tokens, is_space, is_digit, is_letter, in_one_run, after_space, after_byte, after_gap, BeginsNoSpace}

pub tokens-nil : tokens [] ≡ []
unfolding tokens
tokens-nil = refl

pub tokens-cons : (c : ℕ) (cs : List ℕ) → tokens (c ∷ cs) ≡ cond (is_space c) (after_space (tokens cs)) (after_byte c (tokens cs))
unfolding tokens
tokens-cons c cs = refl

pub after_gap-space : (b : Bool) (ts : List Token) → after_gap b (after_space ts) ≡ after_space ts
after_gap-space true [] = refl
after_gap-space true (t ∷ ts) = refl
after_gap-space false ts = refl

pub and_parts : (a b : Bool) → (a && b) ≡ true → (a ≡ true) × (b ≡ true)
and_parts true b h = (refl, h)
and_parts false b h = absurd (false≢true h)

both : (a b c d : Bool) → ((a && b) || (c && d)) ≡ true → ((a ≡ true) × (b ≡ true)) ⊎ ((c ≡ true) × (d ≡ true))
both true true c d h = inl (refl, refl)
both true false c d h = inr (and_parts c d h)
both false b c d h = inr (and_parts c d h)

run_cases : (c d : ℕ) → in_one_run c d ≡ true → ((is_digit c ≡ true) × (is_digit d ≡ true)) ⊎ ((is_letter c ≡ true) × (is_letter d ≡ true))
run_cases c d h = both (is_digit c) (is_digit d) (is_letter c) (is_letter d) h

digit_no_letter : (c : ℕ) → is_digit c ≡ true → is_letter c ≡ true → ⊥
digit_no_letter c p q = grind (arith, nat_tests)

pub digit_no_space : (c : ℕ) → is_digit c ≡ true → is_space c ≡ false
digit_no_space c p = grind (arith, nat_tests)

pub letter_no_space : (c : ℕ) → is_letter c ≡ true → is_space c ≡ false
letter_no_space c p = grind (arith, nat_tests)

digits_run : (a b c d : Bool) → a ≡ true → b ≡ true → ((a && b) || (c && d)) ≡ true
digits_run a b c d p q = rw (p, q) refl

or_true : (a : Bool) → (a || true) ≡ true
or_true true = refl
or_true false = refl

letters_run : (a b c d : Bool) → c ≡ true → d ≡ true → ((a && b) || (c && d)) ≡ true
letters_run a b c d p q = rw (p, q) (or_true (a && b))

pub run_trans : (c d e : ℕ) → in_one_run c d ≡ true → in_one_run c e ≡ true → in_one_run d e ≡ true
run_trans c d e p q =
    elim (run_cases c d p) [
      | inl x ↦ elim (run_cases c e q) [
        | inl y ↦ digits_run (is_digit d) (is_digit e) (is_letter d) (is_letter e) x.1 y.1
        | inr y ↦ absurd (digit_no_letter c x.0 y.0)
      ]
      | inr x ↦ elim (run_cases c e q) [
        | inl y ↦ absurd (digit_no_letter c y.0 x.0)
        | inr y ↦ letters_run (is_digit d) (is_digit e) (is_letter d) (is_letter e) x.1 y.1
      ]
    ]

run_sym : (c d : ℕ) → in_one_run c d ≡ true → in_one_run d c ≡ true
run_sym c d p =
    elim (run_cases c d p) [
      | inl x ↦ digits_run (is_digit d) (is_digit c) (is_letter d) (is_letter c) x.1 x.0
      | inr x ↦ letters_run (is_digit d) (is_digit c) (is_letter d) (is_letter c) x.1 x.0
    ]

false_from : (b : Bool) → (b ≡ true → ⊥) → b ≡ false
false_from true f = absurd (f refl)
false_from false f = refl

pub run_end : (c d e : ℕ) → in_one_run c d ≡ true → in_one_run c e ≡ false → in_one_run d e ≡ false
run_end c d e p q = false_from (in_one_run d e) (λ h. false≢true (sym q ∙ run_trans d c e (run_sym c d p) h))

pub run_no_space : (c d : ℕ) → in_one_run c d ≡ true → is_space d ≡ false
run_no_space c d p = elim (run_cases c d p) [ inl x ↦ digit_no_space d x.1 | inr x ↦ letter_no_space d x.1 ]

lone_grown : (c d : ℕ) (t : Token) (ts : List Token) (b : Bool) → in_one_run c d ≡ false
    → after_byte c (cond b (record { spaced = false; text = d ∷ t.text } ∷ ts) (record { spaced = false; text = d ∷ [] } ∷ t ∷ ts))
    ≡ record { spaced = false; text = c ∷ [] } ∷ cond b (record { spaced = false; text = d ∷ t.text } ∷ ts)
    (record { spaced = false; text = d ∷ [] } ∷ t ∷ ts)
lone_grown c d t ts true h = rw h refl
lone_grown c d t ts false h = rw h refl

lone_cases : (c d : ℕ) (ts : List Token) (b : Bool) → in_one_run c d ≡ false
    → after_byte c (cond b (after_space ts) (after_byte d ts)) ≡ record { spaced = false; text = c ∷ [] } ∷ cond b (after_space ts) (after_byte d ts)
lone_cases c d [] true h = refl
lone_cases c d (t ∷ ts) true h = refl
lone_cases c d [] false h = rw h refl
lone_cases c d (t ∷ ts) false h = lone_grown c d t ts (not t.spaced && in_one_run d (slice_index t.text 0)) h

-- what begins a rest that doesn't go on with the run of c
pub lone_before : (c : ℕ) (rest : List ℕ) → (0 < length rest → in_one_run c (get_or rest 0 0) ≡ false)
    → after_byte c (tokens rest) ≡ record { spaced = false; text = c ∷ [] } ∷ tokens rest
lone_before c [] h = rw tokens-nil refl
lone_before c (d ∷ ds) h = rw tokens-cons (lone_cases c d (tokens ds) (is_space d) (h (omega arith)))

-- a whole run is the first token
pub run_is_token : (c : ℕ) (bytes : List ℕ) (n : ℕ) → is_space c ≡ false → n ≤ length bytes → ((k : ℕ) → k < n → in_one_run c (get_or bytes k 0) ≡ true)
    → (n < length bytes → in_one_run c (get_or bytes n 0) ≡ false)
    → tokens (c ∷ bytes) ≡ record { spaced = false; text = c ∷ take n bytes } ∷ tokens (drop n bytes)
run_is_token c bytes zero s w b e = tokens-cons c bytes ∙ rw s (lone_before c bytes (λ h. e h))
run_is_token c [] (suc n) s w b e = absurd (omega arith)
run_is_token c (d ∷ ds) (suc n) s w b e =
    let joined : in_one_run c d ≡ true = b 0 (omega arith) in
    let again : tokens (d ∷ ds) ≡ record { spaced = false; text = d ∷ take n ds } ∷ tokens (drop n ds) =
    run_is_token d ds n (run_no_space c d joined) (omega arith) (λ k h. run_trans c d (get_or ds k 0) joined (b (suc k) (omega arith)))
    (λ h. run_end c d (get_or ds n 0) joined (e (omega arith))) in
    tokens-cons c (d ∷ ds) ∙ rw (s, again, joined) refl

pub skip_more : (b : Bool) (whole rest others : List ℕ) (c : ℕ) → tokens whole ≡ after_gap b (tokens rest) → rest ≡ c ∷ others → is_space c ≡ true
    → tokens whole ≡ after_space (tokens others)
skip_more b whole rest others c h e s = h ∙ rw (e, tokens-cons, s) (after_gap-space b (tokens others))

gap_front : (b : Bool) (c : ℕ) (others : List ℕ) (ts : List Token)
    → after_gap b (record { spaced = false; text = c ∷ others } ∷ ts) ≡ record { spaced = b; text = c ∷ others } ∷ ts
gap_front true c others ts = refl
gap_front false c others ts = refl

-- the first token of a text that begins with white space or doesn't, by where its run ends
pub first_token : (text rest others : List ℕ) (b : Bool) (c n : ℕ) → tokens text ≡ after_gap b (tokens rest) → BeginsNoSpace rest → rest ≡ c ∷ others
    → n ≤ length others → ((k : ℕ) → k < n → in_one_run c (get_or others k 0) ≡ true) → (n < length others → in_one_run c (get_or others n 0) ≡ false)
    → tokens text ≡ record { spaced = b; text = c ∷ take n others } ∷ tokens (drop n others)
first_token text rest others b c n same front is within before end =
    let no_space : is_space c ≡ false = subst BeginsNoSpace is front in
    same ∙ (ap (λ bytes. after_gap b (tokens bytes)) is ∙ (ap (after_gap b) (run_is_token c others n no_space within before end)
    ∙ gap_front b c (take n others) (tokens (drop n others))))

-- only white space
pub no_token : (text rest : List ℕ) (b : Bool) → tokens text ≡ after_gap b (tokens rest) → length rest ≡ 0 → tokens text ≡ []
no_token text [] true h z = h ∙ rw tokens-nil refl
no_token text [] false h z = h ∙ tokens-nil
no_token text (c ∷ cs) b h z = absurd (omega arith)
