-- Reports of a crontab's entries, so far.
use Rattle.std.proofs.Common.{◌≡◌, ◌<◌, ◌≤◌, ◌+◌, ℕ, List, [], ◌∷◌, ◌++◌, map, take, drop, length, get_or, ap, sym, ◌∙◌, refl, subst, append_assoc, append-nil, add-one, suc}
use Rattle.std.proofs.Math.Seq.{drop-cons}
use Rattle.std.proofs.lemmas.List.{drop_all, map-append, take_more}
use Rattle.cron_replies.specs.declared.form.Form.{Form}
use Rattle.cron_tab_comparing.specs.Changes.{TellsOfOld, TellsOld}
use Rattle.cron_tab_comparing.specs.Entries.{Entry}
use Rattle.cron_replies.specs.Inner.Telling.{AppendsTold}
use Rattle.cron_tab_comparing.specs.Keys.{other_of}

-- what is told of those that are left makes what is told of all
abbrev pub IsSoFar : Form → List Entry → List Entry → List Entry → List Entry → List ℕ → List ℕ → Type 0
IsSoFar form others all before left old now = (rest : List ℕ) → TellsOld form others before left rest → AppendsTold (TellsOld form others [] all) old (now ++ rest)

-- one more was told of
pub told_on : (form : Form) (others all before left more rest : List Entry) (a : Entry) (old now new : List ℕ) → IsSoFar form others all before left old now
    → left ≡ a ∷ rest → more ≡ before ++ a ∷ [] → AppendsTold (TellsOfOld form a (other_of others before a)) now new → IsSoFar form others all more rest old new
told_on form others all before left more rest a old now new so_far cut is (here, e, tells) = λ behind others_told.
    subst (λ (l : List ℕ). AppendsTold (TellsOld form others [] all) old l) (sym (ap (λ (l : List ℕ). l ++ behind) e ∙ append_assoc now here behind))
    (so_far (here ++ behind)
    (subst (λ (l : List Entry). TellsOld form others before l (here ++ behind)) (sym cut)
    (here, behind, refl, tells, subst (λ (m : List Entry). TellsOld form others m rest behind) is others_told)))

-- all were told of
pub told_all : (form : Form) (others all before left : List Entry) (old now : List ℕ) → IsSoFar form others all before left old now → left ≡ []
    → AppendsTold (TellsOld form others [] all) old now
told_all form others all before left old now so_far none =
    subst (λ (l : List ℕ). AppendsTold (TellsOld form others [] all) old l) (append-nil now)
    (so_far [] (subst (λ (l : List Entry). TellsOld form others before l []) (sym none) refl))

-- ---- the entries at a place, and behind it

-- those from a place on begin with the one there
pub left_from : {A B : Type 0} (f : A → B) (xs : List A) (i : ℕ) (x : A) → i < length xs → x ≡ get_or xs i x → map f (drop i xs) ≡ f x ∷ map f (drop (i + 1) xs)
left_from f xs i x short is =
    ap (map f) (drop-cons xs i x short ∙ (ap (λ (y : _). y ∷ drop (suc i) xs) (sym is) ∙ ap (λ (j : ℕ). x ∷ drop j xs) (sym (add-one i))))

-- those in front of it, and it
pub front_on : {A B : Type 0} (f : A → B) (xs : List A) (i : ℕ) (x : A) → i < length xs → x ≡ get_or xs i x
    → map f (take (i + 1) xs) ≡ map f (take i xs) ++ f x ∷ []
front_on f xs i x short is =
    ap (map f) (take_more xs i x short ∙ ap (λ (y : _). take i xs ++ y ∷ []) (sym is)) ∙ map-append f (take i xs) (x ∷ [])

pub none_left : {A B : Type 0} (f : A → B) (xs : List A) (i : ℕ) → length xs ≤ i → map f (drop i xs) ≡ []
none_left f xs i long = ap (map f) (drop_all i xs long)
