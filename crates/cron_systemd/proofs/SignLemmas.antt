-- Signs that are written twice are read once.
use Rattle.std.proofs.Common.{◌≡◌, ℕ, ◌==◌, Bool, true, false, not, List, [], ◌∷◌, ◌++◌, Some, refl, ap, inl, inr}
use Rattle.std.specs.Prelude.{Option, if◌then◌else◌}
use Rattle.std.specs.List.{flat_map, list_all}
use Rattle.std.proofs.lemmas.Bool.{and_parts, cases_Bool, eqb-true, not-true}
use Rattle.cron_systemd.specs.Values.{halved, onto}
use Rattle.cron_systemd.specs.declared.values.Form.TheVariants.{Argument}
use Rattle.cron_systemd.proofs.EscapeLemmas.{signed}

abbrev pub doubled : ℕ → ℕ → List ℕ
doubled sign c = if c == sign then c ∷ c ∷ [] else c ∷ []

pub halves : (sign : ℕ) (text : List ℕ) → halved sign false (flat_map (doubled sign) text) ≡ Some text
halves sign [] = refl
halves sign (c ∷ cs) = elim (cases_Bool (c == sign)) [
  | inl it ↦ simp it (ap (onto c) (halves sign cs))
  | inr it ↦ simp it (ap (onto c) (halves sign cs))
]

-- an argument's `%` are read first
pub argument_halves : (text : List ℕ) → halved 37 false (signed Argument text) ≡ Some (flat_map (doubled 36) text)
argument_halves [] = refl
argument_halves (c ∷ cs) = elim (cases_Bool (c == 37)) [
  | inl it ↦ rw (eqb-true c 37 it) (ap (onto 37) (argument_halves cs))
  | inr percent ↦ elim (cases_Bool (c == 36)) [
    | inl it ↦ rw (eqb-true c 36 it) (ap (λ t. onto 36 (onto 36 t)) (argument_halves cs))
    | inr dollar ↦ simp (percent, dollar) (ap (onto c) (argument_halves cs))
  ]
]

-- a text without signs is read as it stands
pub no_sign : (sign : ℕ) (text : List ℕ) → list_all (λ c. not (c == sign)) text ≡ true → halved sign false text ≡ Some text
no_sign sign [] all = refl
no_sign sign (c ∷ cs) all =
    let parts = and_parts (not (c == sign)) (list_all (λ b. not (b == sign)) cs) all in
    rw (not-true (c == sign) parts.0) (ap (onto c) (no_sign sign cs parts.1))
