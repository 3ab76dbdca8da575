-- A text that begins with `@every`.
use Rattle.std.proofs.Common.{◌≡◌, ℕ, ◌<◌, true, List, [], ◌∷◌, length, get_or, arith}
use Rattle.std.specs.Prelude.{codes}
use Rattle.std.specs.Str.{IsUtf8, IsCharBoundary}
use Rattle.std.proofs.lemmas.Str.{IsCharBoundary-after_ascii}
use Rattle.cron_kubernetes.specs.Kubernetes.{begins_with}

seventh : (text : List ℕ) → begins_with (codes "@every ") text ≡ true → (6 < length text) × (get_or text 6 0 ≡ 32)
seventh [] is = absurd cc
seventh (a ∷ []) is = absurd (grind arith)
seventh (a ∷ b ∷ []) is = absurd (grind arith)
seventh (a ∷ b ∷ c ∷ []) is = absurd (grind arith)
seventh (a ∷ b ∷ c ∷ d ∷ []) is = absurd (grind arith)
seventh (a ∷ b ∷ c ∷ d ∷ e ∷ []) is = absurd (grind arith)
seventh (a ∷ b ∷ c ∷ d ∷ e ∷ f ∷ []) is = absurd (grind arith)
seventh (a ∷ b ∷ c ∷ d ∷ e ∷ f ∷ g ∷ more) is = (omega arith, grind arith)

-- it may be cut behind the space
pub boundary-every : (text : List ℕ) → IsUtf8 text → begins_with (codes "@every ") text ≡ true → IsCharBoundary text 7
boundary-every text utf8 is = let found = seventh text is in IsCharBoundary-after_ascii text 6 utf8 found.0 (omega (arith, found.1))
