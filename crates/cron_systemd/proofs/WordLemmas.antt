-- Words and variables are read back.
use Rattle.std.proofs.Common.{◌≡◌, ℕ, ◌<◌, ◌==◌, Bool, true, false, not, List, [], ◌∷◌, ◌++◌, Some, refl, sym, ap, ◌∙◌, append_assoc, append-nil, arith, inl, inr}
use Rattle.std.specs.Prelude.{◌&&◌, ◌||◌, ◌-◌, nat_lt, Option, codes, length, slice_index}
use Rattle.std.specs.Char.{is_ascii_alphanumeric}
use Rattle.std.specs.List.{flat_map, list_all}
use Rattle.std.specs.Option.{option_map}
use Rattle.std.specs.Str.{is_utf8}
use Rattle.std.proofs.lemmas.Bool.{and_from, and_parts, eqb-true, false≢true, lt-ltb, ltb-true, or_cases}
use Rattle.std.proofs.lemmas.List.Folds.{list_all-append}
use Rattle.cron_shell.specs.Lines.{assignment}
use Rattle.cron_systemd.specs.Sayable.{begins_with_slash, is_byte, is_path}
use Rattle.cron_systemd.specs.Texts.{written}
use Rattle.cron_systemd.specs.Values.{and_then, bare, begins_name, between, command_of, cut, each, ended, halved, inside, is_bare, is_name, is_name_byte, is_shown, is_text, is_variable, read, text_of, variable_of, variables_of, with_byte, words_of}
use Rattle.cron_systemd.specs.declared.values.Form.{Form}
use Rattle.cron_systemd.specs.declared.values.Form.TheVariants.{Argument, Input, Variable}
use Rattle.cron_systemd.proofs.EscapeLemmas.{back, first_word, signed, with_bytes}
use Rattle.cron_systemd.proofs.SignLemmas.{argument_halves, doubled, halves, no_sign}
use Rattle.cron_systemd.proofs.TestLemmas.{all_pass, bare_byte, name_bare, other}

-- a quoted text at the end of a value
argument_back : (text : List ℕ) → list_all is_byte text ≡ true → read between (34 ∷ (written Argument text ++ 34 ∷ [])) ≡ Some (signed Argument text ∷ [])
argument_back text all =
    back Argument text (34 ∷ []) all ∙ (first_word (signed Argument text) [] [] ∙ ap (λ t. Some (t ∷ [])) (append-nil (signed Argument text)))

variable_back : (text : List ℕ) → list_all is_byte text ≡ true → read between (34 ∷ (written Variable text ++ 34 ∷ [])) ≡ Some (signed Variable text ∷ [])
variable_back text all =
    back Variable text (34 ∷ []) all ∙ (first_word (signed Variable text) [] [] ∙ ap (λ t. Some (t ∷ [])) (append-nil (signed Variable text)))

-- ---- inputs

pub input_back : (text : List ℕ) → list_all is_byte text ≡ true → text_of (written Input text) ≡ Some (text ++ 10 ∷ [])
input_back text all =
    let whole : read (inside false) (written Input text) ≡ Some (signed Input text ∷ []) =
    ap (read (inside false)) (sym (append-nil (written Input text)))
    ∙ (back Input text [] all ∙ (first_word (signed Input text) [] [] ∙ ap (λ t. Some (t ∷ [])) (append-nil (signed Input text)))) in
    rw (whole, halves 37 text) refl

-- ---- words without quotes

bare_rest : (text rest : List ℕ) → list_all is_bare text ≡ true → read bare (text ++ 32 ∷ rest) ≡ with_bytes text (ended (read between rest))
bare_rest [] rest all = refl
bare_rest (c ∷ cs) rest all =
    let parts = and_parts (is_bare c) (list_all is_bare cs) all in
    rw (other is_bare c 32 parts.0 refl, parts.0) (ap (with_byte c) (bare_rest cs rest parts.1))

bare_word : (c : ℕ) (cs rest : List ℕ) → list_all is_bare (c ∷ cs) ≡ true
    → read between ((c ∷ cs) ++ 32 ∷ rest) ≡ with_bytes (c ∷ cs) (ended (read between rest))
bare_word c cs rest all =
    let parts = and_parts (is_bare c) (list_all is_bare cs) all in
    rw (other is_bare c 32 parts.0 refl, other is_bare c 34 parts.0 refl, parts.0) (ap (with_byte c) (bare_rest cs rest parts.1))

bare_no_sign : (sign : ℕ) → is_bare sign ≡ false → (c : ℕ) → is_bare c ≡ true → not (c == sign) ≡ true
bare_no_sign sign fails c passes = rw (other is_bare c sign passes fails) refl

-- ---- commands

abbrev pub command_value : List ℕ → List ℕ → List ℕ
command_value shell command = shell ++ (codes " -c \"" ++ (written Argument command ++ 34 ∷ []))

words_back : (shell command : List ℕ) → begins_with_slash shell ≡ true → list_all is_bare shell ≡ true → list_all is_byte command ≡ true
    → read between (command_value shell command) ≡ Some (shell ∷ codes "-c" ∷ signed Argument command ∷ [])
words_back [] command slash all said = absurd (false≢true slash)
words_back (c ∷ cs) command slash all said =
    bare_word c cs (45 ∷ 99 ∷ 32 ∷ 34 ∷ (written Argument command ++ 34 ∷ [])) all
    ∙ (ap (λ r. with_bytes (c ∷ cs) (ended (with_byte 45 (with_byte 99 (ended r))))) (argument_back command said)
    ∙ (first_word (c ∷ cs) [] (codes "-c" ∷ signed Argument command ∷ []) ∙ ap (λ t. Some (t ∷ codes "-c" ∷ signed Argument command ∷ [])) (append-nil (c ∷ cs))))

pub path_bare : (path : List ℕ) → is_path path ≡ true → list_all is_bare path ≡ true
path_bare path is =
    let slash = and_parts (begins_with_slash path) (nat_lt (length path) 256 && (not (slice_index path (length path - 1) == 47) && list_all is_bare path)) is in
    let short = and_parts (nat_lt (length path) 256) (not (slice_index path (length path - 1) == 47) && list_all is_bare path) slash.1 in
    (and_parts (not (slice_index path (length path - 1) == 47)) (list_all is_bare path) short.1).1

pub command_back : (shell command : List ℕ) → is_path shell ≡ true → list_all is_byte command ≡ true
    → command_of (command_value shell command) ≡ Some (shell ∷ codes "-c" ∷ command ∷ [])
command_back shell command path said =
    let slash = and_parts (begins_with_slash shell) (nat_lt (length shell) 256 && (not (slice_index shell (length shell - 1) == 47) && list_all is_bare shell)) path in
    let bare_bytes = path_bare shell path in
    let percents = no_sign 37 shell (all_pass is_bare (λ c. not (c == 37)) (bare_no_sign 37 refl) shell bare_bytes) in
    let dollars = no_sign 36 shell (all_pass is_bare (λ c. not (c == 36)) (bare_no_sign 36 refl) shell bare_bytes) in
    rw (words_back shell command slash.0 bare_bytes said, percents, argument_halves command, dollars, halves 36 command) refl

-- ---- variables

-- the name of a variable ends where it is cut
cut_name : (name value : List ℕ) → list_all is_name_byte name ≡ true → cut (name ++ 61 ∷ value) ≡ Some (name, value)
cut_name [] value all = refl
cut_name (c ∷ cs) value all =
    let parts = and_parts (is_name_byte c) (list_all is_name_byte cs) all in
    rw (other is_name_byte c 61 parts.0 refl, cut_name cs value parts.1) refl

pub letter_named : (c : ℕ) → begins_name c ≡ true → is_name_byte c ≡ true
letter_named c is = elim (or_cases (is_ascii_alphanumeric c && nat_lt 57 c) (c == 95) is) [
  | inl it ↦ rw (and_parts (is_ascii_alphanumeric c) (nat_lt 57 c) it).0 refl
  | inr it ↦ rw (eqb-true c 95 it) refl
]

name_bytes : (name : List ℕ) → is_name name ≡ true → list_all is_name_byte name ≡ true
name_bytes [] is = absurd (false≢true is)
name_bytes (c ∷ cs) is =
    let parts = and_parts (begins_name c) (list_all is_name_byte cs) is in
    and_from (is_name_byte c) (list_all is_name_byte cs) (letter_named c parts.0) parts.1

shown_byte : (c : ℕ) → is_shown c ≡ true → is_byte c ≡ true
shown_byte c is =
    let parts = and_parts (nat_lt 31 c || (c == 9)) (not (c == 127) && nat_lt c 256) is in
    and_from (nat_lt 0 c) (nat_lt c 256) (elim (or_cases (nat_lt 31 c) (c == 9) parts.0) [
      | inl it ↦ let more = ltb-true 31 c it in let some : 0 < c = omega arith in lt-ltb 0 c some
      | inr it ↦ rw (eqb-true c 9 it) refl
    ]) (and_parts (not (c == 127)) (nat_lt c 256) parts.1).1

pub variable_bytes : (v : List ℕ × List ℕ) → is_variable v ≡ true → list_all is_byte (assignment v) ≡ true
variable_bytes v is =
    let parts = and_parts (is_name v.0) (is_text v.1) is in
    let name = all_pass is_name_byte is_byte (λ c it. bare_byte c (name_bare c it)) v.0 (name_bytes v.0 parts.0) in
    let value = all_pass is_shown is_byte shown_byte v.1 (and_parts (list_all is_shown v.1) (is_utf8 v.1) parts.1).0 in
    list_all-append is_byte v.0 (61 ∷ v.1) ∙ rw (name, value) refl

abbrev pub variable_value : List ℕ × List ℕ → List ℕ
variable_value v = 34 ∷ (written Variable (assignment v) ++ 34 ∷ [])

pub variables_back : (v : List ℕ × List ℕ) → is_variable v ≡ true → variables_of (variable_value v) ≡ Some (v ∷ [])
variables_back v is =
    let name = name_bytes v.0 (and_parts (is_name v.0) (is_text v.1) is).0 in
    rw (variable_back (assignment v) (variable_bytes v is), halves 37 (assignment v), cut_name v.0 v.1 name, is) refl
