-- Whether the pieces of a name fit, a byte at a time.
use Rattle.std.proofs.Common.{◌≡◌, ◌<◌, ◌≤◌, ◌+◌, ◌==◌, ℕ, Bool, true, false, not, List, ◌∷◌, [], drop, get_or, length, refl, sym, ap, ◌∙◌, arith, suc}
use Rattle.std.proofs.Math.Seq.{drop-cons}
use Rattle.std.proofs.lemmas.List.{drop_all}
use Rattle.cron_zones.specs.Names.{pieces_fit, stands_behind}

step_on : (before b : ℕ) (bs : List ℕ) → stands_behind before b ≡ true → pieces_fit before (b ∷ bs) ≡ pieces_fit b bs
unfolding pieces_fit
step_on before b bs is = rw is refl

step_off : (before b : ℕ) (bs : List ℕ) → stands_behind before b ≡ false → pieces_fit before (b ∷ bs) ≡ false
unfolding pieces_fit
step_off before b bs is = rw is refl

none_left : (before : ℕ) → pieces_fit before [] ≡ not (before == 47)
unfolding pieces_fit
none_left before = refl

cut_at : (name : List ℕ) (i b : ℕ) → i < length name → b ≡ get_or name i 0 → drop i name ≡ b ∷ drop (i + 1) name
cut_at name i b lt is = let e : i + 1 ≡ suc i = omega arith in rw e (drop-cons name i 0 lt ∙ ap (λ v. v ∷ drop (suc i) name) (sym is))

pub fits_on : (name : List ℕ) (i b before : ℕ) → i < length name → b ≡ get_or name i 0 → pieces_fit 47 name ≡ pieces_fit before (drop i name)
    → stands_behind before b ≡ true → pieces_fit 47 name ≡ pieces_fit b (drop (i + 1) name)
fits_on name i b before lt is so stands = so ∙ ap (pieces_fit before) (cut_at name i b lt is) ∙ step_on before b (drop (i + 1) name) stands

pub fits_not : (name : List ℕ) (i b before : ℕ) → i < length name → b ≡ get_or name i 0 → pieces_fit 47 name ≡ pieces_fit before (drop i name)
    → stands_behind before b ≡ false → false ≡ pieces_fit 47 name
fits_not name i b before lt is so not_so = sym (so ∙ ap (pieces_fit before) (cut_at name i b lt is) ∙ step_off before b (drop (i + 1) name) not_so)

pub fits_all : (name : List ℕ) (i before : ℕ) → length name ≤ i → pieces_fit 47 name ≡ pieces_fit before (drop i name)
    → not (before == 47) ≡ pieces_fit 47 name
fits_all name i before past so = sym (so ∙ ap (pieces_fit before) (drop_all i name past) ∙ none_left before)
