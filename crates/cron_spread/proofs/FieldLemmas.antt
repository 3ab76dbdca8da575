-- A text whose fields were made one after another.
use Rattle.std.proofs.Common.{◌≡◌, ℕ, List, ◌∷◌, ◌++◌, ap, ◌∙◌, append_assoc, drop, take}
use Rattle.cron_crontab.specs.declared.field.Field.{Field}
use Rattle.cron_spread.specs.Texts.{blanks_len, field_text, fields_text, front_text, rest_of, word_len}

-- one field in front of others
pub one_field : (name : List ℕ) (f : Field) (fs : List Field) (text rest old new end : List ℕ) → new ≡ old ++ front_text name f text → rest ≡ rest_of text
    → end ≡ new ++ fields_text name fs rest → end ≡ old ++ fields_text name (f ∷ fs) text
one_field name f fs text rest old new end made left all =
    all
    ∙ (ap (λ (u : List ℕ). u ++ fields_text name fs rest) made
    ∙ (append_assoc old (front_text name f text) (fields_text name fs rest)
    ∙ ap (λ (u : List ℕ). old ++ (front_text name f text ++ fields_text name fs u)) left))

-- the blanks and the word at the front of a text, which were made one after another
pub next_made : (name : List ℕ) (f : Field) (text blanks words word old mid new : List ℕ) (count size : ℕ) → count ≡ blanks_len text
    → blanks ≡ take count text → words ≡ drop count text → size ≡ word_len words → word ≡ take size words → mid ≡ old ++ blanks
    → new ≡ mid ++ field_text name f word → new ≡ old ++ front_text name f text
unfolding front_text
next_made name f text blanks words word old mid new count size counted front behind sized at first second =
    let b : blanks ≡ take (blanks_len text) text = front ∙ ap (λ (k : ℕ). take k text) counted in
    let w : words ≡ drop (blanks_len text) text = behind ∙ ap (λ (k : ℕ). drop k text) counted in
    let x : word ≡ take (word_len (drop (blanks_len text) text)) (drop (blanks_len text) text) =
    at ∙ (ap (λ (k : ℕ). take k words) sized ∙ ap (λ (v : List ℕ). take (word_len v) v) w) in
    second
    ∙ (ap (λ (u : List ℕ). u ++ field_text name f word) first
    ∙ (append_assoc old blanks (field_text name f word)
    ∙ ap (λ (u : List ℕ). old ++ u)
    (ap (λ (u : List ℕ). u ++ field_text name f word) b ∙ ap (λ (u : List ℕ). take (blanks_len text) text ++ field_text name f u) x)))
