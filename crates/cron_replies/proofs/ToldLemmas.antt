-- Lines of the things of a list that were told so far.
use Rattle.std.proofs.Common.{◌≡◌, ◌<◌, ◌≤◌, ◌+◌, ◌++◌, ℕ, List, [], ◌∷◌, drop, drop-cons, drop_of_length-le, add-one, get_or, length, inl, inr, refl, sym, ap, ◌∙◌, subst, append_assoc, append-nil}
use Rattle.cron_replies.specs.Telling.{TellsThose}
use Rattle.cron_replies.specs.Inner.Telling.{AppendsTold}

-- what is told of the things from a place on, behind what was told of those in front of it
abbrev pub ToldUpTo : {A : Type 0} → (A → Type 0) → (A → List ℕ) → List A → ℕ → List ℕ → Type 0
ToldUpTo has line all i so_far = (rest : List ℕ) → TellsThose has line (drop i all) rest → TellsThose has line all (so_far ++ rest)

cut_at : {A : Type 0} (all : List A) (i : ℕ) (d : A) → i < length all → drop i all ≡ get_or all i d ∷ drop (i + 1) all
cut_at all i d some = drop-cons all i d some ∙ rw (add-one i) refl

-- one more of them is told
told_one : {A : Type 0} (has : A → Type 0) (line : A → List ℕ) (all : List A) (i : ℕ) (d : A) (so_far : List ℕ) → i < length all → has (get_or all i d)
    → ToldUpTo has line all i so_far → ToldUpTo has line all (i + 1) (so_far ++ line (get_or all i d))
told_one has line all i d so_far some holds h rest t =
    let x = get_or all i d in
    subst (TellsThose has line all) (sym (append_assoc so_far (line x) rest))
    (h (line x ++ rest) (subst (λ l. TellsThose has line l (line x ++ rest)) (sym (cut_at all i d some)) (inl (holds, (rest, refl, t)))))

-- one of them isn't
passed_one : {A : Type 0} (has : A → Type 0) (line : A → List ℕ) (all : List A) (i : ℕ) (d : A) (so_far : List ℕ) → i < length all
    → (has (get_or all i d) → ⊥) → ToldUpTo has line all i so_far → ToldUpTo has line all (i + 1) so_far
passed_one has line all i d so_far some fails h rest t =
    h rest (subst (λ l. TellsThose has line l rest) (sym (cut_at all i d some)) (inr (fails, t)))

-- none is left
pub told_all : {A : Type 0} (has : A → Type 0) (line : A → List ℕ) (all : List A) (i : ℕ) (so_far : List ℕ) → length all ≤ i
    → ToldUpTo has line all i so_far → TellsThose has line all so_far
told_all has line all i so_far end h =
    subst (TellsThose has line all) (append-nil so_far) (h [] (subst (λ l. TellsThose has line l []) (sym (drop_of_length-le all end)) refl))

-- a text that was appended so far
pub record IsToldSoFar {A : Type 0} (has : A → Type 0) (line : A → List ℕ) (all : List A) (i : ℕ) (old now : List ℕ) : Type 0 where
  pub so_far : List ℕ
  pub appended : now ≡ old ++ so_far
  pub tells : ToldUpTo has line all i so_far

pub begun : {A : Type 0} (has : A → Type 0) (line : A → List ℕ) (all : List A) (old : List ℕ) → IsToldSoFar has line all 0 old old
begun has line all old = record { so_far = []; appended = sym (append-nil old); tells = λ rest t. t }

pub told_on : {A : Type 0} (has : A → Type 0) (line : A → List ℕ) (all : List A) (i : ℕ) (d : A) (old now new : List ℕ) → i < length all
    → has (get_or all i d) → new ≡ now ++ line (get_or all i d) → IsToldSoFar has line all i old now → IsToldSoFar has line all (i + 1) old new
told_on has line all i d old now new some holds e h =
    record {
      so_far = h.so_far ++ line (get_or all i d);
      appended = e ∙ (ap (λ (t : List ℕ). t ++ line (get_or all i d)) h.appended ∙ append_assoc old h.so_far (line (get_or all i d)));
      tells = told_one has line all i d h.so_far some holds h.tells;
    }

pub passed_on : {A : Type 0} (has : A → Type 0) (line : A → List ℕ) (all : List A) (i : ℕ) (d : A) (old now new : List ℕ) → i < length all
    → (has (get_or all i d) → ⊥) → new ≡ now → IsToldSoFar has line all i old now → IsToldSoFar has line all (i + 1) old new
passed_on has line all i d old now new some fails e h =
    record { so_far = h.so_far; appended = e ∙ h.appended; tells = passed_one has line all i d h.so_far some fails h.tells }

pub told_to_end : {A : Type 0} (has : A → Type 0) (line : A → List ℕ) (all : List A) (i : ℕ) (old now : List ℕ) → length all ≤ i
    → IsToldSoFar has line all i old now → AppendsTold (TellsThose has line all) old now
told_to_end has line all i old now end h = (h.so_far, h.appended, told_all has line all i h.so_far end h.tells)
