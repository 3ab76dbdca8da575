-- What a printer writes, and what calls it makes of its writer.
use Rattle.std.specs.Prelude.{◌≡◌, ◌++◌, ℕ, List, [], ◌∷◌, Option, Result, ⊤, codes, is_err}
use Rattle.std.specs.declared.io.Error.{Error}
use Rattle.cron_dues.specs.Due.{Due}
use Rattle.cron_dues.specs.DueText.{due_text}
use Rattle.cron_printing.specs.declared.printer.Printer.{Printer}
use Rattle.cron_writer.specs.Calls.{HandsOnFlushed}
use Rattle.cron_writer.specs.Watching.{has_failed, writer_of, IsSent}

-- the calls of a writer, and the bytes that it has
pub record WriterCalls (W : Type 0) : Type 1 where
  pub writes : W → List ℕ → Result ℕ Error → W → Type 0
  pub flushes : W → Result ⊤ Error → W → Type 0
  pub contents : W → Option (List ℕ)

abbrev pub writer_calls : {W : Type 0} → (W → List ℕ → Result ℕ Error → W → Type 0) → (W → Result ⊤ Error → W → Type 0) → (W → Option (List ℕ)) → WriterCalls W
writer_calls writes flushes contents = record { writes = writes; flushes = flushes; contents = contents }

-- The text follows all that was passed to the writer before, and the answer is an error exactly if
-- a call has failed.
abbrev pub PrintsText : {W E : Type 0} → WriterCalls W → Printer W → List ℕ → Result ⊤ E → Printer W → Type 0
PrintsText writer old text answer new =
    ((origin : Option (List ℕ)) (before : List ℕ) → IsSent origin (writer.contents (writer_of old.out)) (has_failed old.out) before
    → IsSent origin (writer.contents (writer_of new.out)) (has_failed new.out) (before ++ text))
    × (is_err answer ≡ has_failed new.out)
    × HandsOnFlushed writer.writes writer.flushes (writer_of old.out) (has_failed old.out) (writer_of new.out) (has_failed new.out) text

-- the text of a due fire, and a line feed
abbrev pub due_line : Due → List ℕ
due_line d = due_text d ++ 10 ∷ []

abbrev pub write_failed_text : List ℕ
write_failed_text = codes "a write failed"
