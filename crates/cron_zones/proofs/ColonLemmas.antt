-- What a text is that doesn't begin with a colon.
use Rattle.std.proofs.Common.{◌≡◌, ℕ, false, List, [], ◌∷◌, ◌++◌, refl, ap}
use Rattle.std.specs.Char.{encode_utf8}
use Rattle.std.proofs.lemmas.Bool.{ne_eqb}
use Rattle.cron_zones.specs.Sources.{begins_with}

pub no_colon : (text : List ℕ) → ((rest : List ℕ) → text ≡ encode_utf8 58 ++ rest → ⊥) → begins_with 58 text ≡ false
unfolding encode_utf8
no_colon [] none = refl
no_colon (b ∷ bs) none = ne_eqb b 58 (λ e. none bs (ap (λ v. v ∷ bs) e))
