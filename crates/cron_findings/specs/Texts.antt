-- Findings as lines of text.
use Rattle.std.specs.Prelude.{ℕ, Bool, true, false, List, [], ◌∷◌, ◌++◌, Option, Some, None, codes}
use Rattle.std.specs.Fmt.{decimal}
use Rattle.cron_controls.specs.declared.Controls.{Controls}
use Rattle.cron_controls.specs.declared.Controls.TheVariants.{Raw, Shown}
use Rattle.cron_findings.specs.declared.finding.Severity.{Severity}
use Rattle.cron_findings.specs.declared.finding.Severity.TheVariants.{Error, Warning, Note}
use Rattle.cron_findings.specs.Findings.{Finding, Hint, advice, told}
use Rattle.cron_findings.specs.Places.{before, blanks, column, in_line, marks, span}

abbrev pub severity_word : Severity → List ℕ
severity_word Error = codes "error"
severity_word Warning = codes "warning"
severity_word Note = codes "note"

-- what stands in front of a message: nothing for an error
abbrev pub severity_front : Severity → List ℕ
severity_front Error = []
severity_front Warning = codes "warning: "
severity_front Note = codes "note: "

-- a text as it is, or in one line
abbrev pub written : Controls → List ℕ → List ℕ
written Raw text = text
written Shown text = in_line text

-- the file's name and a colon, if it is to be named
abbrev pub file_front : Controls → Bool → List ℕ → List ℕ
file_front controls false file = []
file_front controls true file = written controls file ++ 58 ∷ []

-- `FILE:LINE: MESSAGE`
abbrev pub plain_line : Controls → Bool → Finding → List ℕ
plain_line controls named f =
    file_front controls named f.file ++ (decimal f.line ++ (codes ": " ++ (severity_front f.severity ++ (written controls f.message ++ 10 ∷ []))))

-- `FILE:LINE:COLUMN: `
abbrev pub gcc_place : Finding → List ℕ
gcc_place f = in_line f.file ++ (58 ∷ decimal f.line ++ (58 ∷ decimal (column f) ++ codes ": "))

-- the message with the hint, and ` [code]`
abbrev pub gcc_matter : Finding → List ℕ
gcc_matter f = in_line (told f) ++ (codes " [" ++ (f.code ++ codes "]\n"))

-- `FILE:LINE:COLUMN: error: MESSAGE [code]`
abbrev pub gcc_line : Finding → List ℕ
gcc_line f = gcc_place f ++ (severity_word f.severity ++ (codes ": " ++ gcc_matter f))

-- ---- on a terminal

-- the code of a terminal that makes what follows red, yellow or cyan
abbrev pub color : Severity → List ℕ
color Error = 27 ∷ codes "[31m"
color Warning = 27 ∷ codes "[33m"
color Note = 27 ∷ codes "[36m"

abbrev pub no_color : List ℕ
no_color = 27 ∷ codes "[0m"

-- the marks below a span, in the colour of what is found if that is wanted
abbrev pub marks_line : Bool → Severity → List ℕ → List ℕ
marks_line false severity bytes = marks bytes ++ 10 ∷ []
marks_line true severity bytes = color severity ++ (marks bytes ++ (no_color ++ 10 ∷ []))

abbrev pub hint_line : Option Hint → List ℕ
hint_line None = []
hint_line (Some h) = codes "hint: " ++ (in_line (advice h) ++ 10 ∷ [])

-- the message, the line, the marks below its span, and the hint
abbrev pub underlined_lines : Bool → Bool → Finding → List ℕ
underlined_lines named colored f =
    plain_line Shown named f
    ++ (in_line f.bytes ++ (10 ∷ blanks (before f) ++ (marks_line colored f.severity (span f) ++ hint_line f.hint)))
