-- What was made so far.
use Rattle.std.proofs.Common.{◌≡◌, ℕ, List, [], ◌∷◌, ◌++◌, ap, sym, ◌∙◌, refl, subst, append_assoc, append-nil, inl, inr}
use Rattle.std.specs.Prelude.{Option, Some, Result, Ok, Err, OnOk}
use Rattle.jiff_tz.specs.declared.timezone.TimeZone.{TimeZone}
use Rattle.cron_tab_context.specs.Inner.{Appends}
use Rattle.cron_tab_context.specs.Times.{zone_at}
use Rattle.cron_tab_lines.specs.Entries.{Entry}
use Rattle.cron_tab_lines.specs.Files.{FileLine}
use Rattle.cron_tab_lines.specs.Zones.{zone_below}
use Rattle.cron_tab_tasks.specs.Tasks.{defaults, variables_in}
use Rattle.cron_tab_systemd.specs.Lines.{AreMade, Given, IsMadeOf, IsMadeOfEntry}
use Rattle.cron_tab_systemd.specs.Entries.{AreUnits, IsUnitsFault, IsWritten, left_out}
use Rattle.cron_tab_systemd.specs.declared.made.Fault.TheVariants.{Unsaid as Says}
use Rattle.cron_tab_systemd.specs.declared.made.Units.{Units}
use Rattle.cron_tab_systemd.specs.declared.made.Unsaid.{Unsaid}
use Rattle.cron_tab_systemd.specs.declared.made.LineMade.{LineMade}

-- what holds of a call that went well
pub went_on : {A E : Type 0} (r : Result A E) (P Q : Type 0) → (P → Q) → OnOk r P → OnOk r Q
went_on (Ok x) P Q f p = f p
went_on (Err e) P Q f p = p

pub has_units : (g : Given) (z : TimeZone) (vs : List (List ℕ × List ℕ)) (line : FileLine) (e : Entry) (units : Units) (old new : List LineMade)
    → AreUnits g.zone g.persistent vs e units → Appends (IsWritten units g.start z line) old new → Appends (IsMadeOfEntry g z vs line e) old new
has_units g z vs line e units old new are (made, is, written) = (made, is, inl (record { units = units; are_units = are; written = written }))

pub is_left_out : (g : Given) (z : TimeZone) (vs : List (List ℕ × List ℕ)) (line : FileLine) (e : Entry) (why : Unsaid) (old new : List LineMade)
    → IsUnitsFault g.zone g.persistent vs e (Says why) → new ≡ old ++ left_out line.number why ∷ [] → Appends (IsMadeOfEntry g z vs line e) old new
is_left_out g z vs line e why old new fault is = (left_out line.number why ∷ [], is, inr (record { why = why; fault = fault; all = refl }))

module _ (g : Given) (zones : List TimeZone) (all : List FileLine) where
  -- what is made of the lines that are left makes what is made of all
  abbrev pub AreSoFar : Option ℕ → List (List ℕ × List ℕ) → List FileLine → List LineMade → Type 0
  AreSoFar here vs left now = (rest : List LineMade) → AreMade g zones here vs left rest → AreMade g zones (Some 0) defaults all (now ++ rest)

  -- one more line was read
  pub made_on : (here below : Option ℕ) (vs more : List (List ℕ × List ℕ)) (left rest : List FileLine) (line : FileLine) (now new : List LineMade)
      → AreSoFar here vs left now → left ≡ line ∷ rest → below ≡ zone_below g.names here line.outcome → more ≡ vs ++ variables_in line.outcome
      → Appends (IsMadeOf g (zone_at zones here) more line) now new → AreSoFar below more rest new
  made_on here below vs more left rest line now new so_far cut is set (made, e, of_line) = λ behind others.
      subst (AreMade g zones (Some 0) defaults all) (sym (ap (λ (l : List LineMade). l ++ behind) e ∙ append_assoc now made behind))
      (so_far (made ++ behind)
      (subst (λ (l : List FileLine). AreMade g zones here vs l (made ++ behind)) (sym cut) (
        made,
        behind,
        refl,
        subst (λ (v : List (List ℕ × List ℕ)). IsMadeOf g (zone_at zones here) v line made) set of_line,
        subst (λ (v : List (List ℕ × List ℕ)). AreMade g zones (zone_below g.names here line.outcome) v rest behind) set
            (subst (λ (b : Option ℕ). AreMade g zones b more rest behind) is others),
      )))

  -- all lines were read
  pub made_all : (here : Option ℕ) (vs : List (List ℕ × List ℕ)) (left : List FileLine) (now : List LineMade) → AreSoFar here vs left now → left ≡ []
      → AreMade g zones (Some 0) defaults all now
  made_all here vs left now so_far none =
      subst (AreMade g zones (Some 0) defaults all) (append-nil now)
      (so_far [] (subst (λ (l : List FileLine). AreMade g zones here vs l []) (sym none) refl))
