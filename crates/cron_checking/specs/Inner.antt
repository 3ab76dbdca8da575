-- What the steps of a check do: the report of each line, and where the check ends.
use Rattle.std.specs.Prelude.{◌≡◌, ◌≤◌, ◌+◌, ℕ, Bool, true, false, List, [], ◌++◌, Option, Some, None, Result, Ok, Err, length, IsUtf8}
use Rattle.std.specs.Io.KnownBytes.{Consumes}
use Rattle.std.specs.declared.io.Error.{Error}
use Rattle.cron_writer.specs.Watching.{has_failed}
use Rattle.cron_writer.specs.declared.gathered.Gathered.{Gathered}
use Rattle.cron_writer.specs.declared.watched.Watched.{Watched}
use Rattle.cron_checking.specs.Checks.{EndsAt, line_not_utf8}
use Rattle.cron_checking.specs.Lines.{lines_of}
use Rattle.cron_checking.specs.Puts.{Puts}
use Rattle.cron_checking.specs.Reports.{TellsLine, TellsLines}
use Rattle.cron_checking.specs.declared.check.Outcome.{Outcome}
use Rattle.cron_checking.specs.declared.check.Outcome.TheVariants.{AllRead, SomeRefused, OutOfMemory, WriteFailed, NotUtf8}
use Rattle.cron_checking.specs.declared.line.Telling.{Telling}

-- the text is the report of a line, and says so if the line isn't UTF-8; the answer is whether it
-- is refused, if it is UTF-8
abbrev pub TellsBytes : Telling → ℕ → List ℕ → List ℕ → Option Bool → Type 0
TellsBytes how number bytes text (Some refused) = TellsLine how number bytes text refused
TellsBytes how number bytes text None = (IsUtf8 bytes → ⊥) × (text ≡ line_not_utf8 how.front.now number)

-- why the check ends at a line, what of its report was gathered, and whether a write failed
abbrev pub StopsAtLine : Telling → ℕ → List ℕ → Outcome → List ℕ → Bool → Type 0
StopsAtLine how number line OutOfMemory text failed = text ≡ []
StopsAtLine how number line NotUtf8 text failed = (IsUtf8 line → ⊥) × (text ≡ line_not_utf8 how.front.now number)
StopsAtLine how number line WriteFailed text failed = (failed ≡ true) × (bad : Bool) × TellsLine how number line text bad
StopsAtLine how number line _ text failed = ⊥

-- the report of a line was gathered and no write failed; or the check ends at the line
abbrev pub TellsNext : Telling → ℕ → List ℕ → Result Bool Outcome → List ℕ → Bool → Type 0
TellsNext how number line (Ok bad) text failed = (failed ≡ false) × TellsLine how number line text bad
TellsNext how number line (Err end) text failed = StopsAtLine how number line end text failed

-- what is gathered of the line at which a check ends, after `count` whole lines
abbrev pub stop_line : List ℕ → Outcome → ℕ → List ℕ
stop_line front NotUtf8 count = line_not_utf8 front (count + 1)
stop_line front _ count = []

-- The reports of the lines that were read were gathered in order, until the check ended. `bytes`
-- are the reader's before and after, and `old` and `new` are what is gathered, with the writer.
pub record TellsAll {W : Type 0} (how : Telling) (bytes : Option (List ℕ) × Option (List ℕ)) (contents : W → Option (List ℕ))
    (writes : W → List ℕ → Result ℕ Error → W → Type 0) (old new : Gathered × Watched W) (end : Outcome) : Type 0 where
  pub checked : List (List ℕ)
  pub front : List ℕ
  pub piece : List ℕ
  pub report : List ℕ
  pub refused : Bool
  pub read : Consumes bytes.0 bytes.1 (front ++ piece)
  pub one_line : length (lines_of piece) ≤ 1
  pub ends : EndsAt end bytes.0 bytes.1 front piece checked refused
  pub tells : TellsLines how 1 checked report refused
  pub puts : Puts contents writes old.0 old.1 new.0 new.1 (report ++ stop_line how.front.now end (length checked))
  pub failed : end ≡ WriteFailed → has_failed new.1 ≡ true

abbrev pub end_of : Bool → Outcome
end_of true = SomeRefused
end_of false = AllRead
