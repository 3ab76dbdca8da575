-- A job that is run for what is due, fire by fire.
use Rattle.std.proofs.Common.{◌≡◌, Bool, true, List, [], ◌∷◌, ◌++◌, refl, sym, ap, subst, ◌∙◌, append_assoc}
use Rattle.std.specs.Prelude.{Result, Ok, ⊤}
use Rattle.cron_scheduler.specs.Passing.{AllPass, RanFor}

-- one more
pub ran_on : {A J F : Type 0} (runs : J → A → Result ⊤ F → J → Type 0) (rs : List A) (r : A) (j mid j' : J) → RanFor runs rs j mid
    → runs mid r (Ok tt) j' → RanFor runs (rs ++ r ∷ []) j j'
ran_on runs [] r j mid j' went last = (j', subst (λ m. runs m r (Ok tt) j') went last, refl)
ran_on runs (q ∷ rs) r j mid j' went last = (went.0, went.1, ran_on runs rs r went.0 mid j' went.2 last)

pub pass_on : {A : Type 0} (p : A → Bool) (rs : List A) (r : A) → AllPass p rs → p r ≡ true → AllPass p (rs ++ r ∷ [])
pass_on p [] r all last = (last, tt)
pass_on p (q ∷ rs) r all last = (all.0, pass_on p rs r all.1 last)

pub left_on : {A : Type 0} (fires rs left rest : List A) (r : A) → fires ≡ rs ++ left → left ≡ r ∷ rest → fires ≡ (rs ++ r ∷ []) ++ rest
left_on {A} fires rs left rest r split first = split ∙ (ap (λ (l : List A). rs ++ l) first ∙ sym (append_assoc rs (r ∷ []) rest))
