-- What goes on at a look behind rounds.
use Rattle.std.proofs.Common.{◌≡◌, ℕ, Bool, true, false, not, cond, List, [], ◌∷◌, length, refl, ap, sym, ◌∙◌, arith}
use Rattle.std.proofs.lemmas.Bool.Decides.{Decides-eqb}
use Rattle.std.specs.Prelude.{◌&&◌, ◌==◌}
use Rattle.cron_tab_running.specs.Following.{Round, goes_on, going_on, history, is_empty}
use Rattle.cron_tab_running.specs.Looks.{has_none}
use Rattle.cron_tab_running.specs.Noted.{Noted}

-- what was noted behind the last look, and behind those before it
abbrev pub last_of : Noted → List Round → Noted
last_of start [] = start
last_of start (r ∷ rounds) = r.noted

abbrev older_of : Noted → List Round → List Noted
older_of start [] = []
older_of start (r ∷ rounds) = cond r.stayed (r.noted ∷ history start rounds) (history start rounds)

parts : (start : Noted) (rounds : List Round) → history start rounds ≡ last_of start rounds ∷ older_of start rounds
parts start [] = refl
parts start (r ∷ rounds) = by_test r.stayed
  where
    by_test : (b : Bool) → cond b (r.noted ∷ r.noted ∷ history start rounds) (r.noted ∷ history start rounds)
        ≡ r.noted ∷ cond b (r.noted ∷ history start rounds) (history start rounds)
    by_test true = refl
    by_test false = refl

some_go_on : (m : Noted) (older : List Noted) → has_none m ≡ false → goes_on (m ∷ older) ≡ m
some_go_on m [] some = refl
some_go_on m (k ∷ older) some = rw some refl

either : {A : Type 0} (b : Bool) (x : A) → cond b x x ≡ x
either true x = refl
either false x = refl

one_more : (n m on : Noted) (older : List Noted) (none none_before : Bool) → has_none n ≡ none → has_none m ≡ none_before → on ≡ goes_on (m ∷ older)
    → cond (none && not none_before) m n ≡ cond ((not none_before && true) && none) on n
one_more n m on older true true is was same = refl
one_more n m on older false true is was same = refl
one_more n m on older true false is was same = sym (same ∙ some_go_on m older was)
one_more n m on older false false is was same = refl

-- what goes on behind one more round
pub goes-on : (start : Noted) (rounds : List Round) (r : Round) (on : Noted) (before : Bool) → on ≡ goes_on (history start rounds)
    → before ≡ not (has_none (last_of start rounds)) → going_on on r.noted (before && not r.stayed) ≡ goes_on (history start (r ∷ rounds))
goes-on start rounds r on before same some = by_test r.stayed
  where
    m : Noted
    m = last_of start rounds

    was : on ≡ goes_on (m ∷ older_of start rounds)
    was = same ∙ ap goes_on (parts start rounds)

    by_test : (b : Bool) → going_on on r.noted (before && not b) ≡ goes_on (cond b (r.noted ∷ r.noted ∷ history start rounds) (r.noted ∷ history start rounds))
    by_test true =
        ap (λ (t : Bool). cond (t && has_none r.noted) on r.noted) (never before) ∙ sym (either (has_none r.noted && not (has_none r.noted)) r.noted)
      where
        never : (t : Bool) → (t && false) ≡ false
        never true = refl
        never false = refl
    by_test false =
        ap (λ (t : Bool). cond ((t && true) && has_none r.noted) on r.noted) some
        ∙ sym (one_more r.noted m on (older_of start rounds) (has_none r.noted) (has_none m) refl refl was)
        ∙ ap (λ h. goes_on (r.noted ∷ h)) (sym (parts start rounds))

unlike : (n : ℕ) → (n ≡ 0 → ⊥) → (n == 0) ≡ false
unlike n apart = by_test (n == 0) refl
  where
    by_test : (t : Bool) → (n == 0) ≡ t → t ≡ false
    by_test true is = absurd (apart ((Decides-eqb n 0).0 is))
    by_test false is = refl

pub first_is : (rounds : List Round) (n : ℕ) → length rounds ≡ n → (n == 0) ≡ is_empty rounds
first_is [] n is = rw (sym is) refl
first_is (r ∷ rounds) n is = unlike n (λ none. omega (arith, is, none))
