-- The pieces of a folded line.
use Rattle.std.proofs.Common.{◌≡◌, ℕ, suc, ◌+◌, ◌/◌, ◌%◌, ◌≤◌, true, false, not, nat_le, nat_lt, List, [], ◌∷◌, ◌++◌, length, IsUtf8, refl, sym, ap, ◌∙◌, subst, append_assoc, append-nil, length-append, inl, inr, arith, ltb, leb-false}
use Rattle.std.proofs.lemmas.Bool.{and_from, and_left, and_parts, and_right, cases_Bool, false≢true, le-leb, le-ltb, lt-leb, lt-ltb, ltb-true, not_from_false, not_from_true}
use Rattle.std.proofs.lemmas.Str.{IsUtf8-append, IsUtf8-encode, IsUtf8-nil}
use lib.Utf8.{encode, encodes, scalar, scalars}
use Rattle.cron_ics.specs.Folding.{IsFolded, breaks, folded_from, is_inside}
use Rattle.cron_ics.specs.Laws.{FoldedIsFolded}

abbrev AllInside : List ℕ → Type 0
AllInside [] = Unit {0}
AllInside (x ∷ xs) = (is_inside x ≡ true) × AllInside xs

-- a byte that begins a character, and those behind it
record IsShape (c : ℕ) : Type 0 where
  pub byte : ℕ
  pub others : List ℕ
  pub are : encode c ≡ byte ∷ others
  pub begins : is_inside byte ≡ false
  pub inside : AllInside others
  pub few : length others ≤ 3

next_inside : (d : ℕ) → is_inside (128 + d % 64) ≡ true
next_inside d = and_from _ _ (le-leb 128 (128 + d % 64) (omega arith)) (lt-ltb (128 + d % 64) 192 (omega arith))

lead_outside : (n : ℕ) → 192 ≤ n → is_inside n ≡ false
lead_outside n h = and_right (nat_le 128 n) (nat_lt n 192) (le-ltb n 192 h)

shape : (c : ℕ) → IsShape c
unfolding encode
shape c =
    elim (cases_Bool (ltb c 128)) [
      | inl one ↦ record {
        byte = c;
        others = [];
        are = rw one refl;
        begins = and_left (nat_le 128 c) (nat_lt c 192) (lt-leb 128 c (ltb-true c 128 one));
        inside = tt;
        few = omega arith;
      }
      | inr more ↦ elim (cases_Bool (ltb c 2048)) [
        | inl two ↦ record {
          byte = 192 + c / 64;
          others = (128 + c % 64) ∷ [];
          are = rw (more, two) refl;
          begins = lead_outside (192 + c / 64) (omega arith);
          inside = (next_inside c, tt);
          few = omega arith;
        }
        | inr many ↦ elim (cases_Bool (ltb c 65536)) [
          | inl three ↦ record {
            byte = 224 + c / 4096;
            others = (128 + c / 64 % 64) ∷ (128 + c % 64) ∷ [];
            are = rw (more, many, three) refl;
            begins = lead_outside (224 + c / 4096) (omega arith);
            inside = (next_inside (c / 64), (next_inside c, tt));
            few = omega arith;
          }
          | inr four ↦ record {
            byte = 240 + c / 262144;
            others = (128 + c / 4096 % 64) ∷ (128 + c / 64 % 64) ∷ (128 + c % 64) ∷ [];
            are = rw (more, many, four) refl;
            begins = lead_outside (240 + c / 262144) (omega arith);
            inside = (next_inside (c / 4096), (next_inside (c / 64), (next_inside c, tt)));
            few = omega arith;
          }
        ]
      ]
    ]

-- a piece doesn't end before a byte inside a character
stays : (xs t : List ℕ) (k : ℕ) → AllInside xs → folded_from k (xs ++ t) ≡ xs ++ folded_from (k + length xs) t
stays [] t k h = let e : k + 0 ≡ k = omega arith in rw e refl
stays (x ∷ xs) t k h =
    let other_than : breaks k x ≡ false = and_right (nat_le 71 k) (not (is_inside x)) (not_from_true (is_inside x) h.0) in
    let e : k + 1 + length xs ≡ k + suc (length xs) = omega arith in
    rw other_than (ap (λ l. x ∷ l) (stays xs t (k + 1) h.1 ∙ ap (λ n. xs ++ folded_from n t) e))

broken : (c : ℕ) (s : IsShape c) (t : List ℕ) (k : ℕ) → breaks k s.byte ≡ true
    → folded_from k (encode c ++ t) ≡ 13 ∷ 10 ∷ 32 ∷ (encode c ++ folded_from (length (encode c)) t)
broken c s t k it =
    let e : 1 + length s.others ≡ suc (length s.others) = omega arith in
    rw (s.are, it) (ap (λ l. 13 ∷ 10 ∷ 32 ∷ s.byte ∷ l) (stays s.others t 1 s.inside ∙ ap (λ n. s.others ++ folded_from n t) e))

unbroken : (c : ℕ) (s : IsShape c) (t : List ℕ) (k : ℕ) → breaks k s.byte ≡ false
    → folded_from k (encode c ++ t) ≡ encode c ++ folded_from (k + length (encode c)) t
unbroken c s t k other_than =
    let e : k + 1 + length s.others ≡ k + suc (length s.others) = omega arith in
    rw (s.are, other_than) (ap (λ l. s.byte ∷ l) (stays s.others t (k + 1) s.inside ∙ ap (λ n. s.others ++ folded_from n t) e))

-- a piece that doesn't end has room for a character
has_room : (c : ℕ) (s : IsShape c) (k : ℕ) → breaks k s.byte ≡ false → k + length (encode c) ≤ 74
has_room c s k other_than =
    let it : not (is_inside s.byte) ≡ true = not_from_false (is_inside s.byte) s.begins in
    elim (cases_Bool (nat_le 71 k)) [
      | inl full ↦ absurd (false≢true (sym other_than ∙ and_from (nat_le 71 k) (not (is_inside s.byte)) full it))
      | inr room ↦ omega (arith, leb-false 71 k room, ap length s.are, s.few)
    ]

go : (cs p : List ℕ) → scalars cs ≡ true → IsUtf8 p → length p ≤ 74 → IsFolded (p ++ encodes cs) (p ++ folded_from (length p) (encodes cs))
go [] p ok u few = ([], rw (append-nil p) (few, u, refl))
go (c ∷ cs) p ok u few =
    let parts = and_parts (scalar c) (scalars cs) ok in
    let s = shape c in
    let char = IsUtf8-encode c parts.0 in
    elim (cases_Bool (breaks (length p) s.byte)) [
      | inl it ↦
          let next = go cs (encode c) parts.1 char (omega (arith, ap length s.are, s.few)) in
          (p ∷ next.0, (few, u, (_, _, refl, ap (λ l. p ++ l) (broken c s (encodes cs) (length p) it), next.1)))
      | inr other_than ↦
          let long = length-append p (encode c) in
          let next = go cs (p ++ encode c) parts.1 (IsUtf8-append p (encode c) u char) (omega (arith, long, has_room c s (length p) other_than)) in
          let text : p ++ folded_from (length p) (encode c ++ encodes cs) ≡ (p ++ encode c) ++ folded_from (length (p ++ encode c)) (encodes cs) =
          ap (λ l. p ++ l) (unbroken c s (encodes cs) (length p) other_than)
          ∙ (sym (append_assoc p (encode c) _) ∙ ap (λ n. (p ++ encode c) ++ folded_from n (encodes cs)) (sym long)) in
          rw (text, ← append_assoc p (encode c) (encodes cs)) next
    ]

pub is_folded : FoldedIsFolded
is_folded line u = subst (λ l. IsFolded l (folded_from 0 l)) u.1.1 (go u.0 [] u.1.0 IsUtf8-nil (omega arith))
