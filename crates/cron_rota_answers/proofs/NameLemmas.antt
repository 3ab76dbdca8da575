-- Names behind others.
use Rattle.std.proofs.Common.{◌≡◌, ℕ, suc, ◌+◌, ◌++◌, Bool, Option, Some, None, List, [], ◌∷◌, cond, length, refl, sym, ap, ◌∙◌}
use Rattle.std.specs.Borrow.{Bor}
use Rattle.std.specs.Prelude.{nat_lt, not, ◌||◌, position}
use Rattle.std.specs.List.{list_any, position_or_len, prefix_len}
use Rattle.cron_rota_answers.specs.People.{first_fault, name_fault, texts, wrong_name}
use Rattle.cron_rota_answers.specs.declared.people.NameFault.{NameFault}
use Rattle.cron_rota_answers.specs.declared.people.WrongName.{WrongName}

-- ---- texts that are borrowed

pub any_text : (p : List ℕ → Bool) (names : List (Bor (List ℕ))) → list_any p (texts names) ≡ list_any (λ n. p n.now) names
any_text p [] = refl
any_text p (n ∷ names) = ap (λ (rest : Bool). p n.now || rest) (any_text p names)

pub count_texts : (names : List (Bor (List ℕ))) → length (texts names) ≡ length names
count_texts [] = refl
count_texts (n ∷ names) = ap suc (count_texts names)

front_texts : (p : List ℕ → Bool) (names : List (Bor (List ℕ))) → prefix_len p (texts names) ≡ prefix_len (λ n. p n.now) names
front_texts p [] = refl
front_texts p (n ∷ names) = ap (λ (rest : ℕ). cond (p n.now) (1 + rest) 0) (front_texts p names)

pub place_text : (p : List ℕ → Bool) (names : List (Bor (List ℕ))) → position p (texts names) ≡ position (λ n. p n.now) names
place_text p names =
    ap (λ (len : ℕ). cond (nat_lt (position_or_len p (texts names)) len) (Some (position_or_len p (texts names))) None) (count_texts names)
    ∙ ap (λ (n : ℕ). cond (nat_lt n (length names)) (Some n) None) (front_texts (λ x. not (p x)) names)

-- ---- one name more

pub good_on : (before more : List (List ℕ)) (name : List ℕ) → name_fault before name ≡ None → wrong_name (before ++ name ∷ []) more ≡ wrong_name before (name ∷ more)
good_on before more name good = sym (ap (λ f. first_fault f (length before + 1) (wrong_name (before ++ name ∷ []) more)) good)

wrong_first : (fault : Option NameFault) (number : ℕ) (later : Option WrongName) (wrong : WrongName) → first_fault fault number None ≡ Some wrong → first_fault fault number later ≡ Some wrong
wrong_first None number later wrong is = absurd (cc)
wrong_first (Some fault) number later wrong is = is

pub wrong_here : (before more : List (List ℕ)) (name : List ℕ) (wrong : WrongName) → first_fault (name_fault before name) (length before + 1) None ≡ Some wrong
    → wrong_name before (name ∷ more) ≡ Some wrong
wrong_here before more name wrong is = wrong_first (name_fault before name) (length before + 1) (wrong_name (before ++ name ∷ []) more) wrong is
