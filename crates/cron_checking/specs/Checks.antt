-- What a check writes, and how it ends.
use Rattle.std.specs.Prelude.{◌≡◌, ◌≤◌, ◌+◌, ℕ, Bool, true, false, List, [], ◌∷◌, ◌++◌, Option, codes, length, IsUtf8}
use Rattle.std.specs.Io.KnownBytes.{Appends, Consumes}
use Rattle.cron_writer.specs.Watching.{IsFrontSent}
use Rattle.cron_checking.specs.Lines.{lines_of, AreEnded, AreWhole, IsReadThrough}
use Rattle.cron_checking.specs.Reports.{told, TellsLines}
use Rattle.cron_checking.specs.declared.check.Outcome.{Outcome}
use Rattle.cron_checking.specs.declared.check.Outcome.TheVariants.{AllRead, SomeRefused, OutOfMemory, WriteFailed, Unreadable, NotUtf8}
use Rattle.cron_checking.specs.declared.line.Telling.{Telling}

abbrev pub line_not_utf8 : List ℕ → ℕ → List ℕ
line_not_utf8 front number = told front number (codes "not UTF-8")

-- the last line of a check that ended since memory ran out or the reader failed; empty for any
-- other end
abbrev pub closing_line : Outcome → List ℕ
closing_line OutOfMemory = codes "error: out of memory" ++ 10 ∷ []
closing_line Unreadable = codes "error: the file can't be read" ++ 10 ∷ []
closing_line _ = []

-- the line that a check writes last, after `count` whole lines; empty if none is needed
abbrev pub last_line : List ℕ → Outcome → ℕ → List ℕ
last_line front NotUtf8 count = line_not_utf8 front (count + 1)
last_line front end count = closing_line end

-- Where a check ended. The reader had the bytes `given` and has `left`. The bytes `front` are the
-- lines that were checked, none of which is cut off, and `piece` was read after them.
abbrev pub EndsAt : Outcome → Option (List ℕ) → Option (List ℕ) → List ℕ → List ℕ → List (List ℕ) → Bool → Type 0
EndsAt AllRead given left front piece checked refused = IsReadThrough given left × (lines_of front ≡ checked) × (piece ≡ []) × (refused ≡ false)
EndsAt SomeRefused given left front piece checked refused = IsReadThrough given left × (lines_of front ≡ checked) × (piece ≡ []) × (refused ≡ true)
EndsAt WriteFailed given left front piece checked refused = AreWhole given left front checked × (piece ≡ [])
EndsAt NotUtf8 given left front piece checked refused =
    AreEnded front checked × (line : List ℕ) × AreWhole given left piece (line ∷ []) × (IsUtf8 line → ⊥)
EndsAt _ given left front piece checked refused = AreEnded front checked

-- The text was written whole, and the outcome is `end`. Or a write or the flush failed, and the
-- writer holds a beginning of the text, perhaps all of it.
abbrev pub Ends : Outcome → List ℕ → Option (List ℕ) → Option (List ℕ) → Outcome → Type 0
Ends end text old new WriteFailed = IsFrontSent old new text
Ends end text old new outcome = (outcome ≡ end) × Appends old new text

-- The reports of the lines that were read were written in order, and then why the check ended. The
-- reader had the bytes `given` and has `left`. The writer held `old` and holds `new`.
pub record Checks (how : Telling) (given left old new : Option (List ℕ)) (outcome : Outcome) : Type 0 where
  pub checked : List (List ℕ)
  pub front : List ℕ
  pub piece : List ℕ
  pub report : List ℕ
  pub refused : Bool
  pub end : Outcome
  pub read : Consumes given left (front ++ piece)
  pub one_line : length (lines_of piece) ≤ 1
  pub ends : EndsAt end given left front piece checked refused
  pub tells : TellsLines how 1 checked report refused
  pub writes : Ends end (report ++ last_line how.front.now end (length checked)) old new outcome

abbrev pub is_write_failure : Outcome → Bool
is_write_failure WriteFailed = true
is_write_failure _ = false

-- the exit status of a check
abbrev pub code_of : Outcome → ℕ
code_of AllRead = 0
code_of SomeRefused = 1
code_of OutOfMemory = 1
code_of WriteFailed = 3
code_of Unreadable = 4
code_of NotUtf8 = 4
