-- Lines are read as they stand.
use Rattle.std.proofs.Common.{◌≡◌, ℕ, ◌+◌, ◌/◌, ◌%◌, ◌<◌, ◌==◌, Bool, true, false, not, nat_lt, List, [], ◌∷◌, ◌++◌, Some, refl, sym, ap, ◌∙◌, append_assoc, subst, inl, inr, arith}
use Rattle.std.specs.Prelude.{◌&&◌, ◌||◌, ◌⊎◌, nat_eq, Option}
use Rattle.std.specs.Char.{digit_char}
use Rattle.std.specs.List.{flat_map, list_all, onto_first, slice_split}
use Rattle.std.specs.Option.{option_map}
use Rattle.std.proofs.lemmas.Bool.{and_from, and_parts, cases_Bool, eqb-false, eqb-true, false_from_ne_true, false≢true, lt-ltb, ltb-true, or_cases, or_parts}
use Rattle.cron_systemd.specs.Sayable.{is_byte}
use Rattle.cron_systemd.specs.Texts.{escaped, is_plain, is_quoted, is_sign, written, written_byte}
use Rattle.cron_systemd.specs.Units.{Line, Setting, behind_backslash, is_printable, line_of, next_end, setting, settings_below, settings_in, stands, with_line}
use Rattle.cron_systemd.specs.declared.checks.End.{End}
use Rattle.cron_systemd.specs.declared.checks.End.TheVariants.{Backslash, Blank, Plain}
use Rattle.cron_systemd.specs.declared.values.Form.{Form}
use Rattle.cron_systemd.specs.declared.values.Form.TheVariants.{Input}
use Rattle.cron_systemd.proofs.TestLemmas.{low, some}

-- ---- what stands in a line

-- a byte after which the line is plain, whatever precedes
pub solid : (end : End) (c : ℕ) (rest : List ℕ) → 32 < c → c < 127 → (c == 92) ≡ false → stands (c ∷ rest) end ≡ stands rest Plain
solid end c rest more less slash =
    let above : 31 < c = omega arith in
    let blank : (c == 32) ≡ false = false_from_ne_true (c == 32) (λ e. let is = eqb-true c 32 e in absurd (omega arith)) in
    rw (lt-ltb 31 c above, lt-ltb c 127 less, blank, slash) refl

digit_stands : (end : End) (d : ℕ) (rest : List ℕ) → d < 16 → stands (digit_char d ∷ rest) end ≡ stands rest Plain
digit_stands end d rest small = elim (cases_Bool (nat_lt d 10)) [
  | inl it ↦
      let few = ltb-true d 10 it in
      let slash : (48 + d == 92) ≡ false = false_from_ne_true (48 + d == 92) (λ e. let is = eqb-true (48 + d) 92 e in absurd (omega arith)) in
      rw it (solid end (48 + d) rest (omega arith) (omega arith) slash)
  | inr it ↦
      let slash : (87 + d == 92) ≡ false = false_from_ne_true (87 + d == 92) (λ e. digit_above d it (eqb-true (87 + d) 92 e)) in
      rw it (solid end (87 + d) rest (omega arith) (omega arith) slash)
]
  where
    digit_above : (d : ℕ) → nat_lt d 10 ≡ false → 87 + d ≡ 92 → ⊥
    digit_above d many is = let few : d < 10 = omega arith in false≢true (sym many ∙ lt-ltb d 10 few)

-- an escape of two digits
escape_stands : (end : End) (c : ℕ) (rest : List ℕ) → c < 256 → stands (92 ∷ 120 ∷ digit_char (c / 16) ∷ digit_char (c % 16) ∷ rest) end ≡ stands rest Plain
escape_stands Plain c rest less = digit_stands Plain (c / 16) (digit_char (c % 16) ∷ rest) (omega arith) ∙ digit_stands Plain (c % 16) rest (omega arith)
escape_stands Blank c rest less = digit_stands Plain (c / 16) (digit_char (c % 16) ∷ rest) (omega arith) ∙ digit_stands Plain (c % 16) rest (omega arith)
escape_stands Backslash c rest less = digit_stands Plain (c / 16) (digit_char (c % 16) ∷ rest) (omega arith) ∙ digit_stands Plain (c % 16) rest (omega arith)

-- A rest that stands after a plain byte, and, where blanks are written, after a blank.
abbrev pub Follows : Bool → List ℕ → Type 0
Follows true rest = (stands rest Plain ≡ true) × (stands rest Blank ≡ true)
Follows false rest = stands rest Plain ≡ true

plain_follows : (q : Bool) (rest : List ℕ) → Follows q rest → stands rest Plain ≡ true
plain_follows true rest follows = follows.0
plain_follows false rest follows = follows

follow_both : (q : Bool) (text rest : List ℕ) → ((end : End) → (end ≡ Plain) ⊎ (end ≡ Blank) → stands text end ≡ true) → Follows q text
follow_both true text rest both = (both Plain (inl refl), both Blank (inr refl))
follow_both false text rest both = both Plain (inl refl)

soft : (end : End) → (end ≡ Plain) ⊎ (end ≡ Blank) → behind_backslash end ≡ Backslash
soft end (inl is) = rw is refl
soft end (inr is) = rw is refl

pair_stands : (end : End) (c : ℕ) (rest : List ℕ) → (end ≡ Plain) ⊎ (end ≡ Blank) → ((c == 92) ≡ true) ⊎ ((c == 34) ≡ true)
    → stands (92 ∷ c ∷ rest) end ≡ stands rest Plain
pair_stands end c rest (inl is) (inl it) = rw (is, eqb-true c 92 it) refl
pair_stands end c rest (inl is) (inr it) = rw (is, eqb-true c 34 it) refl
pair_stands end c rest (inr is) (inl it) = rw (is, eqb-true c 92 it) refl
pair_stands end c rest (inr is) (inr it) = rw (is, eqb-true c 34 it) refl

-- a plain byte: a blank only where blanks are written
plain_stands : (q : Bool) (end : End) (c : ℕ) (rest : List ℕ) → is_plain q c ≡ true → (c == 92) ≡ false → Follows q rest → stands (c ∷ rest) end ≡ true
plain_stands q end c rest is slash follows = elim (or_cases (nat_lt 32 c && nat_lt c 127) (q && (c == 32)) is) [
  | inl it ↦
      let parts = and_parts (nat_lt 32 c) (nat_lt c 127) it in
      solid end c rest (ltb-true 32 c parts.0) (ltb-true c 127 parts.1) slash ∙ plain_follows q rest follows
  | inr it ↦
      let parts = and_parts q (c == 32) it in
      rw (eqb-true c 32 parts.1) (blank_follows q rest parts.0 follows)
]
  where
    blank_follows : (q : Bool) (rest : List ℕ) → q ≡ true → Follows q rest → stands rest Blank ≡ true
    blank_follows true rest it follows = follows.1
    blank_follows false rest it follows = absurd (false≢true it)

one_stands : (q : Bool) (end : End) (c : ℕ) (rest : List ℕ) → (end ≡ Plain) ⊎ (end ≡ Blank) → c < 256 → Follows q rest
    → stands (escaped q c ++ rest) end ≡ true
one_stands q end c rest at less follows = elim (cases_Bool ((c == 92) || (c == 34))) [
  | inl it ↦ rw it (pair_stands end c rest at (or_cases (c == 92) (c == 34) it) ∙ plain_follows q rest follows)
  | inr other ↦ elim (cases_Bool (is_plain q c)) [
    | inl it ↦ rw (other, it) (plain_stands q end c rest it (or_parts (c == 92) (c == 34) other).0 follows)
    | inr it ↦ rw (other, it) (escape_stands end c rest less ∙ plain_follows q rest follows)
  ]
]

escaped_follows : (q : Bool) (c : ℕ) (rest : List ℕ) → c < 256 → Follows q rest → Follows q (escaped q c ++ rest)
escaped_follows q c rest less follows = follow_both q (escaped q c ++ rest) rest (λ end at. one_stands q end c rest at less follows)

byte_follows : (form : Form) (c : ℕ) (rest : List ℕ) → c < 256 → Follows (is_quoted form) rest → Follows (is_quoted form) (written_byte form c ++ rest)
byte_follows form c rest less follows =
    let q = is_quoted form in
    elim (cases_Bool (is_sign form c)) [
      | inl it ↦ rw it (subst (Follows q) (sym (append_assoc (escaped q c) (escaped q c) rest))
          (escaped_follows q c (escaped q c ++ rest) less (escaped_follows q c rest less follows)))
      | inr it ↦ rw it (escaped_follows q c rest less follows)
    ]

-- a text that is written stands in a line
pub written_follows : (form : Form) (text rest : List ℕ) → list_all is_byte text ≡ true → Follows (is_quoted form) rest
    → Follows (is_quoted form) (written form text ++ rest)
written_follows form [] rest all follows = follows
written_follows form (c ∷ cs) rest all follows =
    let parts = and_parts (is_byte c) (list_all is_byte cs) all in
    subst (Follows (is_quoted form)) (sym (append_assoc (written_byte form c) (written form cs) rest))
    (byte_follows form c (written form cs ++ rest) (low c parts.0) (written_follows form cs rest parts.1 follows))

-- ---- lines in a text

split_line : (line rest : List ℕ) (end : End) → stands line end ≡ true → slice_split (nat_eq 10) (line ++ 10 ∷ rest) ≡ line ∷ slice_split (nat_eq 10) rest
split_line [] rest end is = refl
split_line (c ∷ cs) rest end is =
    let parts = and_parts (is_printable c) (stands cs (next_end end c)) is in
    let more = ltb-true 31 c (and_parts (nat_lt 31 c) (nat_lt c 127) parts.0).0 in
    let feed : nat_eq 10 c ≡ false = false_from_ne_true (nat_eq 10 c) (λ e. let is = eqb-true 10 c e in absurd (omega arith)) in
    rw feed (ap (onto_first c) (split_line cs rest (next_end end c) parts.1))

-- one more setting in front of others
pub one_setting : (heading name value line rest : List ℕ) (others : List Setting) → line_of line ≡ Some (setting name value) → stands line Plain ≡ true
    → settings_below heading rest ≡ Some others
    → settings_below heading (line ++ 10 ∷ rest) ≡ Some (record { section = heading; name = name; value = value } ∷ others)
one_setting heading name value [] rest others is standing read = absurd (cc)
one_setting heading name value (c ∷ cs) rest others is standing read =
    ap (settings_in heading) (split_line (c ∷ cs) rest Plain standing)
    ∙ (ap (λ l. with_line heading l (λ new. settings_below new rest)) is ∙ ap (option_map (λ ss. record { section = heading; name = name; value = value } ∷ ss)) read)
