-- What is folded reads back.
use Rattle.std.proofs.Common.{◌≡◌, ℕ, ◌+◌, false, ◌==◌, List, [], ◌∷◌, ◌++◌, refl, ap, ◌∙◌, inl, inr}
use Rattle.std.proofs.lemmas.Bool.{cases_Bool}
use Rattle.cron_ics.specs.Folding.{HasNoReturn, breaks, folded_from, line_end, unfolded}
use Rattle.cron_ics.specs.Laws.{FoldedReadsBack}

pub plain_byte : (a : ℕ) (l : List ℕ) → (a == 13) ≡ false → unfolded (a ∷ l) ≡ a ∷ unfolded l
plain_byte a [] e = refl
plain_byte a (b ∷ []) e = refl
plain_byte a (b ∷ c ∷ l) e = rw e refl

from_column : (line : List ℕ) (k : ℕ) → HasNoReturn line → unfolded (folded_from k line) ≡ line ++ line_end
from_column [] k h = refl
from_column (b ∷ bs) k h =
    elim (cases_Bool (breaks k b)) [
      | inl it ↦ rw it (plain_byte b (folded_from 1 bs) h.0 ∙ ap (λ l. b ∷ l) (from_column bs 1 h.1))
      | inr other_than ↦ rw other_than (plain_byte b (folded_from (k + 1) bs) h.0 ∙ ap (λ l. b ∷ l) (from_column bs (k + 1) h.1))
    ]

pub reads_back : FoldedReadsBack
reads_back line h = from_column line 0 h
