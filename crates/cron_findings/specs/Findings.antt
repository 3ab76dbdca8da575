-- Findings of a check.
use Rattle.std.specs.Prelude.{ℕ, List, [], ◌++◌, Option, Some, None, codes}
use Rattle.std.specs.Option.{option_map}
use Rattle.cron_findings.specs.declared.finding.Finding as code
use Rattle.cron_findings.specs.declared.finding.Hint as hint
use Rattle.cron_findings.specs.declared.finding.Severity.{Severity}

-- a hint: what it tells, and the text that it proposes, if it proposes one
pub record Hint : Type 0 where
  pub told : List ℕ
  pub text : Option (List ℕ)

-- A finding: the name of its file, the number of its line, the line's bytes, and the span in them
-- that it is about, from the byte `start` up to the byte `end`. Then how grave it is, its code, its
-- message, and a hint, if there is one.
pub record Finding : Type 0 where
  pub file : List ℕ
  pub line : ℕ
  pub bytes : List ℕ
  pub start : ℕ
  pub end : ℕ
  pub severity : Severity
  pub code : List ℕ
  pub message : List ℕ
  pub hint : Option Hint

abbrev pub hint_view : hint.Hint → Hint
hint_view h = record { told = h.told.now; text = option_map (λ t. t.now) h.text }

abbrev pub view : code.Finding → Finding
view f = record {
  file = f.file.now;
  line = f.line;
  bytes = f.bytes.now;
  start = f.start;
  end = f.end;
  severity = f.severity;
  code = f.code.now;
  message = f.message.now;
  hint = option_map hint_view f.hint;
}

-- the text that a hint proposes, behind a colon
abbrev pub proposal : Option (List ℕ) → List ℕ
proposal None = []
proposal (Some text) = codes ": " ++ text

-- a hint as words
abbrev pub advice : Hint → List ℕ
advice h = h.told ++ proposal h.text

-- a hint behind a message
abbrev pub advice_behind : Option Hint → List ℕ
advice_behind None = []
advice_behind (Some h) = codes "; " ++ advice h

-- the message and the hint
unfoldable pub told : Finding → List ℕ
told f = f.message ++ advice_behind f.hint
