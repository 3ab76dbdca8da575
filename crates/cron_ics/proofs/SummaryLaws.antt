-- The line of a summary is a text, with no carriage return.
use Rattle.std.proofs.Common.{◌≡◌, ℕ, suc, ◌<◌, ◌≤◌, true, false, ◌==◌, ◌||◌, List, [], ◌∷◌, ◌++◌, length, get_or, IsUtf8, flat_map, inl, inr, refl, sym, ap, ap₂, ◌∙◌, subst, arith, append_assoc, append-nil}
use Rattle.std.proofs.lemmas.Bool.{and_parts, cases_Bool, cases_lt, eqb-true, true≢false}
use Rattle.std.proofs.lemmas.Str.{IsUtf8-append, IsUtf8-encode, IsUtf8-nil, encode_ascii, inside_one}
use Rattle.std.specs.Str.Lossy.{utf8_lossy}
use lib.Utf8.{encode, encodes, low_scalar, scalar, scalars}
use Rattle.cron_ics.proofs.LossyLemmas.{lossy_is_text, replacement_is_text}
use Rattle.cron_ics.specs.Folding.{HasNoReturn}
use Rattle.cron_ics.specs.Laws.{SummariesAreLines}
use Rattle.cron_ics.specs.Texts.{escaped, escaped_byte, is_control, shown, shown_byte}

pub ascii_then : (x : ℕ) (xs : List ℕ) → x < 128 → IsUtf8 xs → IsUtf8 (x ∷ xs)
ascii_then x xs small u = IsUtf8-append (x ∷ []) xs (subst IsUtf8 (encode_ascii x small) (IsUtf8-encode x (low_scalar x (omega arith)))) u

ascii : (x : ℕ) → x < 128 → IsUtf8 (x ∷ [])
ascii x small = ascii_then x [] small IsUtf8-nil

-- ---- bytes of a text in place of which others stand

flat_map_append : (f : ℕ → List ℕ) (xs ys : List ℕ) → flat_map f (xs ++ ys) ≡ flat_map f xs ++ flat_map f ys
flat_map_append f [] ys = refl
flat_map_append f (x ∷ xs) ys = ap (λ l. f x ++ l) (flat_map_append f xs ys) ∙ sym (append_assoc (f x) (flat_map f xs) (flat_map f ys))

-- ASCII may become any text, and no other byte changes
record Keeps (f : ℕ → List ℕ) : Type 0 where
  pub low : (b : ℕ) → b < 128 → IsUtf8 (f b)
  pub high : (b : ℕ) → 128 ≤ b → f b ≡ b ∷ []

high_bytes : (f : ℕ → List ℕ) → Keeps f → (xs : List ℕ) → ((k : ℕ) → k < length xs → 128 ≤ get_or xs k 0) → flat_map f xs ≡ xs
high_bytes f keeps [] h = refl
high_bytes f keeps (x ∷ xs) h =
    ap₂ (λ (a b : List ℕ). a ++ b) (keeps.high x (h 0 (omega arith))) (high_bytes f keeps xs (λ k below. h (suc k) (omega arith)))

one_char : (f : ℕ → List ℕ) → Keeps f → (c : ℕ) → scalar c ≡ true → IsUtf8 (flat_map f (encode c))
one_char f keeps c ok = elim (cases_lt c 128) [
  | inl small ↦ rw (encode_ascii c small, append-nil) (keeps.low c small)
  | inr big ↦
      let high : (k : ℕ) → k < length (encode c) → 128 ≤ get_or (encode c) k 0 = λ k below. elim (cases_lt (get_or (encode c) k 0) 128) [
        | inl low ↦ absurd (omega (arith, inside_one c [] (encode c) k (sym (append-nil _)) below low))
        | inr h ↦ h
      ] in
      subst IsUtf8 (sym (high_bytes f keeps (encode c) high)) (IsUtf8-encode c ok)
]

all_chars : (f : ℕ → List ℕ) → Keeps f → (cs : List ℕ) → scalars cs ≡ true → IsUtf8 (flat_map f (encodes cs))
all_chars f keeps [] e = IsUtf8-nil
all_chars f keeps (c ∷ cs) e =
    let p = and_parts _ _ e in
    subst IsUtf8 (sym (flat_map_append f (encode c) (encodes cs))) (IsUtf8-append _ _ (one_char f keeps c p.0) (all_chars f keeps cs p.1))

stays_text : (f : ℕ → List ℕ) → Keeps f → (s : List ℕ) → IsUtf8 s → IsUtf8 (flat_map f s)
stays_text f keeps s u = subst (λ l. IsUtf8 (flat_map f l)) u.1.1 (all_chars f keeps u.0 u.1.0)

shown_keeps : Keeps shown_byte
shown_keeps = record {
  low = λ b small. elim (cases_Bool (is_control b)) [
    | inl it ↦ rw it replacement_is_text
    | inr other_than ↦ rw other_than (ascii b small)
  ];
  high = λ b big. grind arith;
}

escaped_keeps : Keeps escaped_byte
escaped_keeps = record {
  low = λ b small. elim (cases_Bool (b == 10)) [
    | inl it ↦ rw it (ascii_then 92 (110 ∷ []) (omega arith) (ascii 110 (omega arith)))
    | inr other_than ↦ elim (cases_Bool (b == 92 || (b == 59 || b == 44))) [
      | inl it ↦ rw (other_than, it) (ascii_then 92 (b ∷ []) (omega arith) (ascii b small))
      | inr plain ↦ rw (other_than, plain) (ascii b small)
    ]
  ];
  high = λ b big. grind arith;
}

-- ---- no carriage return

joined : (xs ys : List ℕ) → HasNoReturn xs → HasNoReturn ys → HasNoReturn (xs ++ ys)
joined [] ys p q = q
joined (x ∷ xs) ys p q = (p.0, joined xs ys p.1 q)

shown_byte_has_none : (b : ℕ) → HasNoReturn (shown_byte b)
shown_byte_has_none b = elim (cases_Bool (is_control b)) [
  | inl it ↦ rw it (refl, (refl, (refl, tt)))
  | inr other_than ↦ elim (cases_Bool (b == 13)) [
    | inl is ↦ absurd (true≢false (subst (λ n. is_control n ≡ false) (eqb-true b 13 is) other_than))
    | inr other ↦ rw other_than (other, tt)
  ]
]

shown_has_none : (text : List ℕ) → HasNoReturn (shown text)
shown_has_none [] = tt
shown_has_none (b ∷ text) = joined (shown_byte b) (shown text) (shown_byte_has_none b) (shown_has_none text)

escaped_byte_has_none : (b : ℕ) → (b == 13) ≡ false → HasNoReturn (escaped_byte b)
escaped_byte_has_none b none = elim (cases_Bool (b == 10)) [
  | inl it ↦ rw it (refl, (refl, tt))
  | inr other_than ↦ elim (cases_Bool (b == 92 || (b == 59 || b == 44))) [
    | inl it ↦ rw (other_than, it) (refl, (none, tt))
    | inr plain ↦ rw (other_than, plain) (none, tt)
  ]
]

escaped_has_none : (text : List ℕ) → HasNoReturn text → HasNoReturn (escaped text)
escaped_has_none [] h = tt
escaped_has_none (b ∷ text) h = joined (escaped_byte b) (escaped text) (escaped_byte_has_none b h.0) (escaped_has_none text h.1)

name_is_text : (s : List ℕ) → IsUtf8 s → IsUtf8 (83 ∷ 85 ∷ 77 ∷ 77 ∷ 65 ∷ 82 ∷ 89 ∷ 58 ∷ s)
name_is_text s u =
    ascii_then 83 _ (omega arith) (ascii_then 85 _ (omega arith) (ascii_then 77 _ (omega arith) (ascii_then 77 _ (omega arith)
    (ascii_then 65 _ (omega arith) (ascii_then 82 _ (omega arith) (ascii_then 89 _ (omega arith) (ascii_then 58 _ (omega arith) u)))))))

pub are_lines : SummariesAreLines
are_lines text = (
  name_is_text _ (stays_text escaped_byte escaped_keeps _ (stays_text shown_byte shown_keeps _ (lossy_is_text (length text) text (omega arith)))),
  (refl, (refl, (refl, (refl, (refl, (refl, (refl, (refl, escaped_has_none _ (shown_has_none (utf8_lossy text)))))))))),
)
