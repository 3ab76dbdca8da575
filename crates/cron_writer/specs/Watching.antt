-- A watched writer, and the bytes that it gets.
use Rattle.std.specs.Prelude.{◌≡◌, ℕ, Bool, true, false, ◌&&◌, ◌==◌, not, List, [], ◌∷◌, ◌++◌, Option, Result, Ok, Err}
use Rattle.std.specs.Io.KnownBytes.{Appends}
use Rattle.cron_writer.specs.declared.gathered.Gathered.{Gathered}
use Rattle.cron_writer.specs.declared.watched.Watched.{Watched}

-- whether a call of the writer has failed
abbrev pub has_failed : {W : Type 0} → Watched W → Bool
has_failed w = w.failed

-- the writer that is watched
abbrev pub writer_of : {W : Type 0} → Watched W → W
writer_of w = w.writer

abbrev pub is_empty : List ℕ → Bool
is_empty [] = true
is_empty (b ∷ bs) = false

-- a write fails, or takes no byte of a piece that isn't empty
abbrev pub is_failed_write : {E : Type 0} → Result ℕ E → List ℕ → Bool
is_failed_write (Ok n) piece = n == 0 && not (is_empty piece)
is_failed_write (Err e) piece = true

abbrev pub is_failed_flush : {A E : Type 0} → Result A E → Bool
is_failed_flush (Ok x) = false
is_failed_flush (Err e) = true

-- a beginning of the text, `sent`, was appended to the writer's bytes
pub record IsFrontSent (old new : Option (List ℕ)) (text : List ℕ) : Type 0 where
  pub sent : List ℕ
  pub kept_back : List ℕ
  pub cut : text ≡ sent ++ kept_back
  pub appended : Appends old new sent

-- The text was passed to the writer: a beginning of it was appended, and the whole of it if no call
-- has failed.
pub record IsSent (old new : Option (List ℕ)) (failed : Bool) (text : List ℕ) : Type 0 where
  pub front : IsFrontSent old new text
  pub whole : failed ≡ false → Appends old new text

-- the bytes that were gathered and are not passed to the writer yet
abbrev pub kept_in : Gathered → List ℕ
kept_in g = g.block

-- all of the text but its end `kept` was appended to the writer's bytes
pub record IsKept (old new : Option (List ℕ)) (kept text : List ℕ) : Type 0 where
  pub sent : List ℕ
  pub cut : text ≡ sent ++ kept
  pub appended : Appends old new sent

-- The text was gathered: a beginning of it was appended to the writer's bytes. If no call has
-- failed, all but what is kept was.
pub record IsGathered (old new : Option (List ℕ)) (failed : Bool) (kept text : List ℕ) : Type 0 where
  pub front : IsFrontSent old new text
  pub rest : failed ≡ false → IsKept old new kept text
