-- The calls that a watched writer gets, one by one.
use Rattle.std.specs.Prelude.{◌≡◌, ◌<◌, ◌≤◌, ◌+◌, ◌++◌, ℕ, Bool, true, false, List, [], ◌∷◌, ⊤, length, drop, Result, Ok, Err}
use Rattle.std.specs.declared.io.Error.{Error}
use Rattle.cron_writer.specs.declared.watched.Watched.{Watched}
use Rattle.cron_writer.specs.Watching.{has_failed, writer_of, is_failed_write, is_failed_flush}

-- one write: the bytes that were passed, and the writer's answer
pub record Call : Type 0 where
  pub piece : List ℕ
  pub answer : Result ℕ Error

-- These writes were made one after another, each of one byte at least, and none after a call that
-- failed. `was` says whether a call had failed before them, and `failed` whether one has after
-- them.
abbrev pub IsWritten :
    {W : Type 0} → (W → List ℕ → Result ℕ Error → W → Type 0) → List Call → W → Bool → W → Bool → Type 0
IsWritten writes [] old was new failed = (new ≡ old) × (failed ≡ was)
IsWritten {W} writes (c ∷ cs) old was new failed =
    (was ≡ false) × (0 < length c.piece)
    × ((next : W) × writes old c.piece c.answer next × IsWritten writes cs next (is_failed_write c.answer c.piece) new failed)

-- some writes were made, and none after a call that failed
abbrev pub AreWrites : {W : Type 0} → (W → List ℕ → Result ℕ Error → W → Type 0) → W → Bool → W → Bool → Type 0
AreWrites writes old was new failed = (calls : List Call) × IsWritten writes calls old was new failed

-- how many bytes a write took
abbrev pub taken : Result ℕ Error → ℕ
taken (Ok n) = n
taken (Err e) = 0

-- each write was passed all of the text that the writes before it hadn't taken, and `left` is what
-- remains
abbrev pub AreTries : List ℕ → List Call → List ℕ → Type 0
AreTries text [] left = left ≡ text
AreTries text (c ∷ cs) left = (c.piece ≡ text) × AreTries (drop (taken c.answer) text) cs left

-- some writes were made of a text, none after a call that failed, each of all that was left, and
-- `left` remains
abbrev pub AreTried :
    {W : Type 0} → (W → List ℕ → Result ℕ Error → W → Type 0) → W → Bool → W → Bool → List ℕ → List ℕ → Type 0
AreTried writes old was new failed text left = (calls : List Call) × (IsWritten writes calls old was new failed × AreTries text calls left)

-- A text was passed to the writer, and nothing of it remains if no call has failed.
abbrev pub HandsOn : {W : Type 0} → (W → List ℕ → Result ℕ Error → W → Type 0) → W → Bool → W → Bool → List ℕ → Type 0
HandsOn writes old was new failed text = (left : List ℕ) × (AreTried writes old was new failed text left × (failed ≡ false → left ≡ []))

-- A line was gathered after those that were kept, `was`. If it has room no call is made. Else those
-- are passed to the writer first, and only the line is kept.
abbrev pub Gathers : {W : Type 0} → (W → List ℕ → Result ℕ Error → W → Type 0) → Watched W → Watched W → List ℕ → List ℕ → List ℕ → Type 0
Gathers writes old new was kept line =
    (length was + length line ≤ 4096 → (new ≡ old) × (kept ≡ was ++ line))
    × (4096 < length was + length line → HandsOn writes (writer_of old) (has_failed old) (writer_of new) (has_failed new) was × (kept ≡ line))

-- the writer was flushed once, or wasn't called if a call had failed
abbrev pub IsFlushed : {W : Type 0} → (W → Result ⊤ Error → W → Type 0) → W → Bool → W → Bool → Type 0
IsFlushed flushes old true new failed = (new ≡ old) × (failed ≡ true)
IsFlushed flushes old false new failed = (answer : Result ⊤ Error) × flushes old answer new × (failed ≡ is_failed_flush answer)

-- some writes and then one flush were made, and none after a call that failed
abbrev pub AreWritesFlushed :
    {W : Type 0} → (W → List ℕ → Result ℕ Error → W → Type 0) → (W → Result ⊤ Error → W → Type 0) → W → Bool → W → Bool → Type 0
AreWritesFlushed {W} writes flushes old was new failed =
    (last : W) × (mark : Bool) × AreWrites writes old was last mark × IsFlushed flushes last mark new failed

-- A text was passed to the writer, in each write all that was left of it, and then the writer was
-- flushed once. No call was made after one that failed.
abbrev pub HandsOnFlushed :
    {W : Type 0} → (W → List ℕ → Result ℕ Error → W → Type 0) → (W → Result ⊤ Error → W → Type 0) → W → Bool → W → Bool → List ℕ → Type 0
HandsOnFlushed {W} writes flushes old was new failed text =
    (last : W) × (mark : Bool) × HandsOn writes old was last mark text × IsFlushed flushes last mark new failed

-- These lines were gathered one after another, after what was kept, and no line once a call has
-- failed.
abbrev pub AreGathered :
    {W : Type 0} → (W → List ℕ → Result ℕ Error → W → Type 0) → List (List ℕ) → Watched W → Watched W → List ℕ → List ℕ → Type 0
AreGathered writes [] old new was kept = (new ≡ old) × (kept ≡ was)
AreGathered {W} writes (line ∷ lines) old new was kept =
    (has_failed old ≡ false)
    × ((next : Watched W) × (held : List ℕ) × Gathers writes old next was held line × AreGathered writes lines next new held kept)

-- these lines were gathered, and then what was kept of them was passed to the writer
abbrev pub HandsOnLines : {W : Type 0} → (W → List ℕ → Result ℕ Error → W → Type 0) → List (List ℕ) → Watched W → Watched W → Type 0
HandsOnLines {W} writes lines old new =
    (last : Watched W) × (kept : List ℕ) × AreGathered writes lines old last [] kept
    × HandsOn writes (writer_of last) (has_failed last) (writer_of new) (has_failed new) kept
