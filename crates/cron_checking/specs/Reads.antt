-- The calls of a reader, one by one: each is one `read_until` at a line feed.
use Rattle.std.specs.Prelude.{◌≡◌, ◌++◌, ℕ, false, List, [], ◌∷◌, ◌⊎◌, IsOk, Result}
use Rattle.std.specs.declared.io.Error.{Error}
use Rattle.cron_checking.specs.declared.line_reader.Given.{Given}
use Rattle.cron_checking.specs.declared.line_reader.Given.TheVariants.{Line}

-- one read: what it returned, and the bytes that were read
pub record Read : Type 0 where
  pub answer : Result ℕ Error
  pub bytes : List ℕ

-- the read gave a line and the line feed that ends it
abbrev pub GaveLine : Read → Type 0
GaveLine r = IsOk r.answer × ((line : List ℕ) × (r.bytes ≡ line ++ 10 ∷ []))

-- one read was made; if a further line may follow, it gave a line and its line feed
abbrev pub IsRead : {R : Type 0} → (R → Result ℕ Error → List ℕ → R → Type 0) → R → R → Given → Type 0
IsRead reads old new given = (r : Read) × reads old r.answer r.bytes new × (given ≡ Line false → GaveLine r)

-- these reads were made one after another, and each gave a line and its line feed
abbrev pub AreLinesRead : {R : Type 0} → (R → Result ℕ Error → List ℕ → R → Type 0) → List Read → R → R → Type 0
AreLinesRead reads [] old new = new ≡ old
AreLinesRead {R} reads (r ∷ rs) old new = GaveLine r × ((next : R) × reads old r.answer r.bytes next × AreLinesRead reads rs next new)

-- Reads were made, and each but perhaps the last one gave a line and its line feed. The last one
-- may have been at the end, or may have failed.
abbrev pub AreReads : {R : Type 0} → (R → Result ℕ Error → List ℕ → R → Type 0) → R → R → Type 0
AreReads {R} reads old new =
    (rs : List Read) × (mid : R) × AreLinesRead reads rs old mid × ((new ≡ mid) ⊎ ((r : Read) × reads mid r.answer r.bytes new))
