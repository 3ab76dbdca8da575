-- What a run has left up to an instant.
use Rattle.std.proofs.Common.{◌≡◌, ℤ, pos, ◌*ℤ◌, Bool, true, false, List, [], ◌∷◌, Option, Some, None, inl, inr, refl, ap, ◌∙◌, arith}
use Rattle.std.specs.Prelude.{filter}
use Rattle.std.specs.Int.{int_div_euclid}
use Rattle.jiff_core.proofs.SignedLemmas.{signed_arith}
use Rattle.cron_clocks.proofs.Windows.{le_yes, le_no}
use Rattle.cron_time.proofs.ListLemmas.{among-cases, among-first, among-rest, filter-alike, filter-none}
use Rattle.cron_seconds.specs.Rules.{AreInOrder, IsAmong, is_by}
use Rattle.cron_seconds.specs.Runs.{is_within, up_to}
use Rattle.cron_seconds.proofs.IntLemmas.{int_le-false, int_le-true, same_tests}

within-is_by : {A : Type 0} (at : A → ℤ) (t last : ℤ) (x : A) → last ≡ int_div_euclid t (pos 1_000_000_000) → is_within (Some last) (at x) ≡ is_by at t x
within-is_by at t last x is =
    same_tests (is_within (Some last) (at x)) (is_by at t x)
    (λ h. let le = int_le-true (at x) last h in le_yes (at x *ℤ pos 1_000_000_000) t (omega (arith, signed_arith)))
    (λ h. let le = int_le-true (at x *ℤ pos 1_000_000_000) t h in le_yes (at x) last (omega (arith, signed_arith)))

-- up to the second in which an instant lies are those by the instant
pub up_to-is_by : {A : Type 0} (at : A → ℤ) (t last : ℤ) (l : List A) → last ≡ int_div_euclid t (pos 1_000_000_000) → up_to at (Some last) l ≡ filter (is_by at t) l
up_to-is_by at t last l is = filter-alike (λ x. is_within (Some last) (at x)) (is_by at t) l (λ x h. within-is_by at t last x is)

-- where the first lies past the last instant, none is left
pub up_to-late : {A : Type 0} (at : A → ℤ) (is_past : A → A → Bool) (until : Option ℤ) (x : A) (l : List A) → AreInOrder at is_past (x ∷ l)
    → is_within until (at x) ≡ false → up_to at until (x ∷ l) ≡ []
up_to-late at is_past None x l are late = cc
up_to-late at is_past (Some last) x l are late =
    filter-none (λ y. is_within (Some last) (at y)) (x ∷ l) (λ y h. elim (among-cases x l y h) [
      | inl same ↦ ap (λ v. is_within (Some last) (at v)) same ∙ late
      | inr there ↦
          let less = are.keep_up x y (among-first x l) (among-rest x y l there) (are.rise.0 y there) in
          let more = int_le-false (at x) last late in
          le_no (at y) last (omega (arith, signed_arith))
    ])

pub up_to-nothing : {A : Type 0} (at : A → ℤ) (until : Option ℤ) → up_to at until [] ≡ []
up_to-nothing at None = refl
up_to-nothing at (Some last) = refl
