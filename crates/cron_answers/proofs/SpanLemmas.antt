-- Whether an instant was read.
use Rattle.std.proofs.Common.{◌≡◌, ℤ, Bool, true, false, Option, Some, None, MatchBool, is_some, option_map, sym, ◌∙◌}
use Rattle.std.proofs.lemmas.Bool.{true≢false}
use Rattle.jiff.specs.declared.timestamp.Timestamp.{Timestamp}

-- one was
pub some_instant : (P : Option ℤ → Type 0) (r : Option Timestamp) (t : Bool) → P (option_map (λ t. t.nanosecond) r) → t ≡ is_some r → t ≡ true
    → (t : ℤ) × P (Some t)
some_instant P None t p is h = absurd (true≢false (sym h ∙ is))
some_instant P (Some i) t p is h = (i.nanosecond, p)

-- and none was
pub no_instant : (P : Option ℤ → Type 0) (r : Option Timestamp) (t : Bool) → P (option_map (λ t. t.nanosecond) r) → t ≡ is_some r → t ≡ false → P None
no_instant P None t p is h = p
no_instant P (Some i) t p is h = absurd (true≢false (sym is ∙ h))

-- the first fact of a test that holds
pub holds : (t : Bool) (P Q : Type 0) → MatchBool t P Q → t ≡ true → P
holds true P Q m h = m
holds false P Q m h = absurd (true≢false (sym h))

-- and the second of one that fails
pub fails : (t : Bool) (P Q : Type 0) → MatchBool t P Q → t ≡ false → Q
fails true P Q m h = absurd (true≢false h)
fails false P Q m h = m
