-- How a subcommand ends.
use Rattle.std.specs.Prelude.{◌≡◌, ◌⊎◌, ℕ, Bool, true, false, List, Option, Result, ⊤, nat_lt, if◌then◌else◌}
use Rattle.std.specs.Io.KnownBytes.{Appends}
use Rattle.std.specs.declared.io.Error.{Error}
use Rattle.cron_writer.specs.Calls.{AreWritesFlushed}
use Rattle.cron_writer.specs.Watching.{has_failed, writer_of, IsFrontSent}
use Rattle.cron_writer.specs.declared.watched.Watched.{Watched}
use Rattle.cron_replies.specs.declared.status.Status.{Status}
use Rattle.cron_replies.specs.declared.status.Status.TheVariants.{Done, No, WrongWords, WriteFailed, Unreadable}

-- the exit status of a subcommand
abbrev pub code_of : Status → ℕ
code_of Done = 0
code_of No = 1
code_of WrongWords = 2
code_of WriteFailed = 3
code_of Unreadable = 4

-- the one of two statuses whose exit status is greater
abbrev pub worse : Status → Status → Status
worse a b = if nat_lt (code_of a) (code_of b) then b else a

abbrev pub is_write_failure : Status → Bool
is_write_failure WriteFailed = true
is_write_failure _ = false

-- A writer was passed this text. It has all of it, and the status is `done`. Or a write or a flush
-- failed, and it has a beginning of it.
abbrev pub Ends : Status → List ℕ → Option (List ℕ) → Option (List ℕ) → Status → Type 0
Ends done text old new status =
    ((status ≡ done) × Appends old new text) ⊎ ((status ≡ WriteFailed) × IsFrontSent old new text)

-- a property of a writer's bytes before and after, and of the status
abbrev pub Ending : Type 1
Ending = Option (List ℕ) → Option (List ℕ) → Status → Type 0

-- a statement about a writer before and after a subcommand, by the property of its bytes and the
-- status
abbrev pub Reporting : Type 0 → Type 1
Reporting W = Ending → W → Status → W → Type 0

-- A subcommand ended with this status, and the writer's bytes have the property. Some writes and
-- then one flush were made, none after a call that failed. The status is `WriteFailed` exactly if
-- one failed.
abbrev pub Reports :
    {W : Type 0} → (W → Option (List ℕ)) → (W → List ℕ → Result ℕ Error → W → Type 0) → (W → Result ⊤ Error → W → Type 0) → Ending → Watched W
    → Status → Watched W → Type 0
Reports contents writes flushes Ended old status new =
    Ended (contents (writer_of old)) (contents (writer_of new)) status × (has_failed new ≡ is_write_failure status)
    × AreWritesFlushed writes flushes (writer_of old) (has_failed old) (writer_of new) (has_failed new)
