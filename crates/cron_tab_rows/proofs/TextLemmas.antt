-- The members of bytes, as they were written.
use Rattle.std.proofs.Common.{◌≡◌, ◌++◌, ℕ, Bool, true, false, List, [], ◌∷◌, refl, ap, ◌∙◌, append_assoc}
use Rattle.std.specs.Str.{IsUtf8, is_utf8}
use Rattle.std.specs.Str.Lossy.{utf8_lossy}
use Rattle.std.proofs.lemmas.Str.{IsUtf8-from_is_utf8, is_utf8-from_IsUtf8, utf8_lossy-IsUtf8}
use Rattle.hex.specs.Hex.{encode_lower}
use Rattle.json.specs.Token.{Token, key, string}
use Rattle.cron_tab_rows.specs.Members.{text_members}

-- the members of bytes that are a text
pub text_written : (name raw bytes text : List ℕ) (old mid new : List Token) → text ≡ bytes → IsUtf8 bytes → mid ≡ old ++ key name ∷ []
    → new ≡ mid ++ string text ∷ [] → new ≡ old ++ text_members name raw bytes
text_written name raw bytes text old mid new same utf8 one two =
    two ∙ ap (λ (m : List Token). m ++ string text ∷ []) one ∙ append_assoc old (key name ∷ []) (string text ∷ [])
    ∙ rw (same, utf8_lossy-IsUtf8 bytes utf8, is_utf8-from_IsUtf8 bytes utf8) refl

no_text : (b : Bool) (bytes : List ℕ) → is_utf8 bytes ≡ b → (IsUtf8 bytes → ⊥) → is_utf8 bytes ≡ false
no_text true bytes is none = absurd (none (IsUtf8-from_is_utf8 bytes is))
no_text false bytes is none = is

-- and of others
pub raw_written : (name raw bytes : List ℕ) (old mid new : List Token) → (IsUtf8 bytes → ⊥) → mid ≡ old ++ key name ∷ []
    → new ≡ mid ++ (string (utf8_lossy bytes) ∷ key raw ∷ string (encode_lower bytes) ∷ []) → new ≡ old ++ text_members name raw bytes
raw_written name raw bytes old mid new none one two =
    let more = string (utf8_lossy bytes) ∷ key raw ∷ string (encode_lower bytes) ∷ [] in
    two ∙ ap (λ (m : List Token). m ++ more) one ∙ append_assoc old (key name ∷ []) more
    ∙ rw (no_text (is_utf8 bytes) bytes refl none) refl
