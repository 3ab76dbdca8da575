-- Texts with escapes are read back.
use Rattle.std.proofs.Common.{◌≡◌, ℕ, ◌+◌, ◌*◌, ◌/◌, ◌%◌, ◌<◌, ◌==◌, Bool, true, false, List, [], ◌∷◌, ◌++◌, Some, refl, sym, ap, ◌∙◌, append_assoc, inl, inr, arith}
use Rattle.std.specs.Prelude.{◌&&◌, Option, if◌then◌else◌}
use Rattle.std.specs.Char.{digit_char}
use Rattle.std.specs.List.{flat_map, list_all}
use Rattle.std.proofs.lemmas.Bool.{and_parts, cases_Bool, eqb-true, lt-ltb}
use Rattle.std.proofs.lemmas.Str.{digit_value-digit_char}
use Rattle.cron_systemd.specs.Sayable.{is_byte}
use Rattle.cron_systemd.specs.Texts.{escaped, is_plain, is_quoted, is_sign, written, written_byte}
use Rattle.cron_systemd.specs.Values.{behind_digit, behind_first, behind_x, inside, read, with_byte, with_meant}
use Rattle.cron_systemd.specs.declared.values.Form.{Form}
use Rattle.cron_systemd.proofs.TestLemmas.{low, some}

-- these bytes, in front of the first word
abbrev pub with_bytes : List ℕ → Option (List (List ℕ)) → Option (List (List ℕ))
with_bytes [] words = words
with_bytes (c ∷ cs) words = with_byte c (with_bytes cs words)

pub joined : (a b : List ℕ) (words : Option (List (List ℕ))) → with_bytes (a ++ b) words ≡ with_bytes a (with_bytes b words)
joined [] b words = refl
joined (c ∷ cs) b words = ap (with_byte c) (joined cs b words)

pub first_word : (text word : List ℕ) (words : List (List ℕ)) → with_bytes text (Some (word ∷ words)) ≡ Some ((text ++ word) ∷ words)
first_word [] word words = refl
first_word (c ∷ cs) word words = ap (with_byte c) (first_word cs word words)

first_digit : (q : Bool) (h : ℕ) → h < 16 → behind_first q (digit_char h) ≡ behind_digit q h
first_digit q h low = rw (digit_value-digit_char h (omega arith), lt-ltb h 16 low) refl

second_digit : (h l c : ℕ) (words : Option (List (List ℕ))) → l < 16 → 16 * h + l ≡ c → 0 < c → with_meant h (digit_char l) words ≡ with_byte c words
second_digit h l c words low whole more = rw (digit_value-digit_char l (omega arith), lt-ltb l 16 low, whole, lt-ltb 0 c more) refl

-- the two digits of an escape
digits : (q : Bool) (c : ℕ) (rest : List ℕ) → 0 < c → c < 256
    → read (behind_x q) (digit_char (c / 16) ∷ digit_char (c % 16) ∷ rest) ≡ with_byte c (read (inside q) rest)
digits q c rest more less =
    let high : c / 16 < 16 = omega arith in
    let least : c % 16 < 16 = omega arith in
    let whole : 16 * (c / 16) + c % 16 ≡ c = omega arith in
    ap (λ p. read p (digit_char (c % 16) ∷ rest)) (first_digit q (c / 16) high)
    ∙ second_digit (c / 16) (c % 16) c (read (inside q) rest) least whole more

one_quoted : (c : ℕ) (rest : List ℕ) → 0 < c → c < 256 → read (inside true) (escaped true c ++ rest) ≡ with_byte c (read (inside true) rest)
one_quoted c rest more less = elim (cases_Bool (c == 92)) [
  | inl it ↦ rw (eqb-true c 92 it) refl
  | inr slash ↦ elim (cases_Bool (c == 34)) [
    | inl it ↦ rw (eqb-true c 34 it) refl
    | inr quote ↦ elim (cases_Bool (is_plain true c)) [
      | inl it ↦ rw (slash, quote, it, quote, slash) refl
      | inr it ↦ rw (slash, quote, it) (digits true c rest more less)
    ]
  ]
]

one_bare : (c : ℕ) (rest : List ℕ) → 0 < c → c < 256 → read (inside false) (escaped false c ++ rest) ≡ with_byte c (read (inside false) rest)
one_bare c rest more less = elim (cases_Bool (c == 92)) [
  | inl it ↦ rw (eqb-true c 92 it) refl
  | inr slash ↦ elim (cases_Bool (c == 34)) [
    | inl it ↦ rw (eqb-true c 34 it) refl
    | inr quote ↦ elim (cases_Bool (is_plain false c)) [
      | inl it ↦ rw (slash, quote, it, slash) refl
      | inr it ↦ rw (slash, quote, it) (digits false c rest more less)
    ]
  ]
]

one : (q : Bool) (c : ℕ) (rest : List ℕ) → 0 < c → c < 256 → read (inside q) (escaped q c ++ rest) ≡ with_byte c (read (inside q) rest)
one true = one_quoted
one false = one_bare

-- a byte, twice if it is a sign
abbrev pub signed_byte : Form → ℕ → List ℕ
signed_byte form c = if is_sign form c then c ∷ c ∷ [] else c ∷ []

abbrev pub signed : Form → List ℕ → List ℕ
signed form text = flat_map (signed_byte form) text

one_written : (form : Form) (c : ℕ) (rest : List ℕ) → 0 < c → c < 256
    → read (inside (is_quoted form)) (written_byte form c ++ rest) ≡ with_bytes (signed_byte form c) (read (inside (is_quoted form)) rest)
one_written form c rest more less =
    let q = is_quoted form in
    elim (cases_Bool (is_sign form c)) [
      | inl it ↦ rw it
          (ap (read (inside q)) (append_assoc (escaped q c) (escaped q c) rest)
          ∙ (one q c (escaped q c ++ rest) more less ∙ ap (with_byte c) (one q c rest more less)))
      | inr it ↦ rw it (one q c rest more less)
    ]

-- a text is read back, with its signs
pub back : (form : Form) (text rest : List ℕ) → list_all is_byte text ≡ true
    → read (inside (is_quoted form)) (written form text ++ rest) ≡ with_bytes (signed form text) (read (inside (is_quoted form)) rest)
back form [] rest all = refl
back form (c ∷ cs) rest all =
    let parts = and_parts (is_byte c) (list_all is_byte cs) all in
    let q = is_quoted form in
    ap (read (inside q)) (append_assoc (written_byte form c) (written form cs) rest)
    ∙ (one_written form c (written form cs ++ rest) (some c parts.0) (low c parts.0)
    ∙ (ap (with_bytes (signed_byte form c)) (back form cs rest parts.1)
    ∙ sym (joined (signed_byte form c) (signed form cs) (read (inside q) rest))))
