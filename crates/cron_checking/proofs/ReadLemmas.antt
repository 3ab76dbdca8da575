-- Reads one after another.
use Rattle.std.proofs.Common.{◌≡◌, ℕ, false, List, [], ◌∷◌, ◌++◌, Result, refl, subst, inr}
use Rattle.std.specs.declared.io.Error.{Error}
use Rattle.cron_checking.specs.Reads.{Read, GaveLine, IsRead, AreLinesRead, AreReads}
use Rattle.cron_checking.specs.declared.line_reader.Given.{Given}
use Rattle.cron_checking.specs.declared.line_reader.Given.TheVariants.{Line}

-- one more read, after others that gave a line and its line feed
read_after : {R : Type 0} (reads : R → Result ℕ Error → List ℕ → R → Type 0) (rs : List Read) (r : Read) (old mid new : R)
    → AreLinesRead reads rs old mid → GaveLine r → reads mid r.answer r.bytes new → AreLinesRead reads (rs ++ r ∷ []) old new
read_after reads [] r old mid new is gave call = (gave, (new, subst (λ w. reads w r.answer r.bytes new) is call, refl))
read_after reads (s ∷ rs) r old mid new (first, (next, one, more)) gave call = (first, (next, one, read_after reads rs r next mid new more gave call))

pub line_on : {R : Type 0} (reads : R → Result ℕ Error → List ℕ → R → Type 0) (old mid new : R) (given : Given)
    → (rs : List Read) × AreLinesRead reads rs old mid → given ≡ Line false → IsRead reads mid new given → (rs : List Read) × AreLinesRead reads rs old new
line_on reads old mid new given (rs, h) more (r, call, gave) = (rs ++ r ∷ [], read_after reads rs r old mid new h (gave more) call)

pub last_read : {R : Type 0} (reads : R → Result ℕ Error → List ℕ → R → Type 0) (old mid new : R) (given : Given)
    → (rs : List Read) × AreLinesRead reads rs old mid → IsRead reads mid new given → AreReads reads old new
last_read reads old mid new given (rs, h) (r, call, gave) = (rs, mid, h, inr (r, call))
