-- What was found so far.
use Rattle.std.proofs.Common.{◌≡◌, ℕ, ℤ, List, [], ◌∷◌, ◌++◌, ap, sym, ◌∙◌, refl, subst, append_assoc, append-nil}
use Rattle.std.specs.Prelude.{Option, Some}
use Rattle.jiff_tz.specs.declared.timezone.TimeZone.{TimeZone}
use Rattle.cron_tab_lines.specs.Files.{FileLine}
use Rattle.cron_tab_lines.specs.Zones.{zone_below}
use Rattle.cron_tab_lines.specs.declared.zones.NamedZone.{NamedZone}
use Rattle.cron_tab_context.specs.Inner.{Appends}
use Rattle.cron_tab_context.specs.Times.{AreTimes, AreTimesIn, zone_at}
use Rattle.cron_tab_context.specs.declared.found.Found.{Found}

module _ (zones : List TimeZone) (names : List NamedZone) (t : ℤ) (all : List FileLine) where
  -- what was found of the lines that are left makes what was found of all
  abbrev pub AreSoFar : Option ℕ → List FileLine → List Found → List Found → Type 0
  AreSoFar here left old now = (rest : List Found) → AreTimes zones names t here left rest → Appends (AreTimes zones names t (Some 0) all) old (now ++ rest)

  -- one more line was looked at
  pub times_on : (here below : Option ℕ) (left rest : List FileLine) (line : FileLine) (old now new : List Found) → AreSoFar here left old now
      → left ≡ line ∷ rest → below ≡ zone_below names here line.outcome → Appends (AreTimesIn line (zone_at zones here) t) now new → AreSoFar below rest old new
  times_on here below left rest line old now new so_far cut is (more, e, of_line) = λ behind others.
      subst (Appends (AreTimes zones names t (Some 0) all) old) (sym (ap (λ (l : List Found). l ++ behind) e ∙ append_assoc now more behind))
      (so_far (more ++ behind)
      (subst (λ (l : List FileLine). AreTimes zones names t here l (more ++ behind)) (sym cut)
      (more, behind, refl, of_line, subst (λ (b : Option ℕ). AreTimes zones names t b rest behind) is others)))

  -- all lines were looked at
  pub times_all : (here : Option ℕ) (left : List FileLine) (old now : List Found) → AreSoFar here left old now → left ≡ []
      → Appends (AreTimes zones names t (Some 0) all) old now
  times_all here left old now so_far none =
      subst (Appends (AreTimes zones names t (Some 0) all) old) (append-nil now)
      (so_far [] (subst (λ (l : List FileLine). AreTimes zones names t here l []) (sym none) refl))
