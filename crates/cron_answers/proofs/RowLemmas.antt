-- The rows of fires, one after another.
use Rattle.std.proofs.Common.{◌≡◌, ℕ, zero, suc, ◌-◌, Option, Some, None, List, [], ◌∷◌, ◌++◌, true, false, take, refl, sym, ap, ◌∙◌, append_assoc, append-nil, arith}
use Rattle.std.specs.Prelude.{ℤ, map, Result}
use Rattle.std.specs.declared.io.Error.{Error}
use Rattle.std.proofs.lemmas.List.{map-append}
use Rattle.cron_writer.specs.Calls.{Gathers}
use Rattle.cron_writer.specs.Watching.{has_failed}
use Rattle.cron_writer.specs.declared.watched.Watched.{Watched}
use Rattle.cron_writer.proofs.Gathering.{gathered_on}
use Rattle.cron_answers.specs.Fires.{first_of, is_none_wanted, one_less, GathersRows}
use Rattle.cron_answers.specs.Rows.{row, rows}
use Rattle.cron_replies.specs.declared.form.Form.{Form}

pub first_more : {A : Type 0} (most : Option ℕ) (fire : A) (rest : List A) → is_none_wanted most ≡ false
    → first_of most (fire ∷ rest) ≡ fire ∷ first_of (one_less most) rest
first_more None fire rest h = refl
first_more (Some zero) fire rest h = absurd (cc)
first_more {A} (Some (suc n)) fire rest h =
    let same : n ≡ suc n - 1 = omega arith in ap (λ (k : ℕ). fire ∷ take k rest) same

pub first_of_none : {A : Type 0} (most : Option ℕ) → first_of {A = A} most [] ≡ []
first_of_none None = refl
first_of_none (Some zero) = refl
first_of_none (Some (suc n)) = refl

pub none_wanted : {A : Type 0} (most : Option ℕ) (fires : List A) → is_none_wanted most ≡ true → first_of most fires ≡ []
none_wanted None fires h = absurd (cc)
none_wanted (Some zero) fires h = refl
none_wanted (Some (suc n)) fires h = absurd (cc)

-- the row of the first fire that is left, and those of the others
pub one_more : {A : Type 0} (form : Form) (text : A → List ℕ) (second : A → ℤ) (all sent line : List ℕ) (most : Option ℕ) (fires rest : List A) (fire : A)
    → all ≡ sent ++ rows form text second (first_of most fires) → is_none_wanted most ≡ false → fires ≡ fire ∷ rest
    → line ≡ row form (text fire) (second fire)
    → all ≡ (sent ++ line) ++ rows form text second (first_of (one_less most) rest)
one_more form text second all sent line most fires rest fire e wanted cut is =
    let rows_of = λ (fs : List _). rows form text second fs in
    let split = ap rows_of (ap (first_of most) cut ∙ first_more most fire rest wanted) in
    e ∙ (ap (λ (l : List ℕ). sent ++ l) split
    ∙ (ap (λ (l : List ℕ). sent ++ (l ++ rows_of (first_of (one_less most) rest))) (sym is)
    ∙ sym (append_assoc sent line (rows_of (first_of (one_less most) rest)))))

-- no row is left
pub none_left : {A : Type 0} (form : Form) (text : A → List ℕ) (second : A → ℤ) (all sent : List ℕ) (most : Option ℕ) (fires : List A)
    → all ≡ sent ++ rows form text second (first_of most fires) → fires ≡ [] → sent ≡ all
none_left form text second all sent most fires e none =
    let rows_of = λ (fs : List _). rows form text second fs in
    sym (e ∙ (ap (λ (l : List ℕ). sent ++ l) (ap rows_of (ap (first_of most) none ∙ first_of_none most)) ∙ append-nil sent))

-- no more are wanted
pub none_more : {A : Type 0} (form : Form) (text : A → List ℕ) (second : A → ℤ) (all sent : List ℕ) (most : Option ℕ) (fires : List A)
    → all ≡ sent ++ rows form text second (first_of most fires) → is_none_wanted most ≡ true → sent ≡ all
none_more form text second all sent most fires e done =
    let rows_of = λ (fs : List _). rows form text second fs in
    sym (e ∙ (ap (λ (l : List ℕ). sent ++ l) (ap rows_of (none_wanted most fires done)) ∙ append-nil sent))

-- the row of one more fire was gathered
pub one_gathered :
    {A W : Type 0} (writes : W → List ℕ → Result ℕ Error → W → Type 0) (form : Form) (text : A → List ℕ) (second : A → ℤ) (fire : A) (old mid new : Watched W)
    (held kept line : List ℕ) → GathersRows writes form text second old mid [] held → has_failed mid ≡ false
    → line ≡ row form (text fire) (second fire) → Gathers writes mid new held kept line → GathersRows writes form text second old new [] kept
one_gathered {A} writes form text second fire old mid new held kept line (fires, h) fresh is g =
    let told = λ (f : A). row form (text f) (second f) in
    let whole : Gathers writes mid new held kept (told fire) = rw (← is) g in
    (fires ++ fire ∷ [], rw (map-append told fires (fire ∷ [])) (gathered_on writes (map told fires) (told fire) old mid new [] held kept h fresh whole))
