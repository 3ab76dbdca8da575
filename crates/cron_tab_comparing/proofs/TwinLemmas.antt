-- Twins of a crontab's entries, so far.
use Rattle.std.proofs.Common.{◌≡◌, ℕ, List, [], ◌∷◌, ◌++◌, ap, sym, ◌∙◌, refl, subst, append_assoc, append-nil}
use Rattle.std.specs.Prelude.{Bool, IsTrue, ◌↔◌, Option}
use Rattle.cron_units.specs.Sets.{Sets}
use Rattle.cron_tab_comparing.specs.Entries.{Entry}
use Rattle.cron_tab_comparing.specs.Twins.{AreTwinsOf, IsTwinAmong, twins_of}
use Rattle.cron_tab_comparing.specs.declared.twins.Twin.{Twin}

-- ---- schedules

-- lists that begin with different sets are different
pub other_sets : (a b : Sets) (rest others ss ts : List Sets) → ss ≡ a ∷ rest → ts ≡ b ∷ others → (a ≡ b → ⊥) → ss ≡ ts → ⊥
other_sets a b rest others ss ts e f differ g = let h : a ∷ rest ≡ b ∷ others = sym e ∙ (g ∙ f) in differ (cc)

-- lists that begin with the same sets are the same exactly if the rests are
pub sets_on : (a b : Sets) (rest others ss ts : List Sets) (r : Bool) → ss ≡ a ∷ rest → ts ≡ b ∷ others → a ≡ b → IsTrue r ↔ (rest ≡ others) → IsTrue r ↔ (ss ≡ ts)
sets_on a b rest others ss ts r e f is h = (
  λ yes. let same : rest ≡ others = h.0 yes in e ∙ (rw (is, same) (sym f)),
  λ g. let both : a ∷ rest ≡ b ∷ others = sym e ∙ (g ∙ f) in h.1 (cc),
)

-- ---- twins

-- the twins of those that are left make those of all
abbrev pub AreSoFar : List Entry → List Entry → List Entry → List Twin → Type 0
AreSoFar all before left now = (rest : List Twin) → AreTwinsOf before left rest → AreTwinsOf [] all (now ++ rest)

-- one more was looked at
pub twin_on : (all before left more rest : List Entry) (a : Entry) (above : Option ℕ) (now new : List Twin) → AreSoFar all before left now
    → left ≡ a ∷ rest → more ≡ before ++ a ∷ [] → IsTwinAmong before a above → new ≡ now ++ twins_of a above → AreSoFar all more rest new
twin_on all before left more rest a above now new so_far cut is among e = λ behind others.
    subst (AreTwinsOf [] all) (sym (ap (λ (l : List Twin). l ++ behind) e ∙ append_assoc now (twins_of a above) behind))
    (so_far (twins_of a above ++ behind)
    (subst (λ (l : List Entry). AreTwinsOf before l (twins_of a above ++ behind)) (sym cut)
    (above, behind, refl, among, subst (λ (m : List Entry). AreTwinsOf m rest behind) is others)))

-- all were looked at
pub twins_all : (all before left : List Entry) (now : List Twin) → AreSoFar all before left now → left ≡ [] → AreTwinsOf [] all now
twins_all all before left now so_far none =
    subst (AreTwinsOf [] all) (append-nil now) (so_far [] (subst (λ (l : List Entry). AreTwinsOf before l []) (sym none) refl))
