-- What is told of a crontab's lines.
use Rattle.std.specs.Prelude.{◌≡◌, ◌++◌, ◌&&◌, ◌||◌, ℕ, Bool, true, false, List, [], ◌∷◌, Option, Result, Ok, Err, codes, take}
use Rattle.std.specs.Io.KnownBytes.{Appends}
use Rattle.std.specs.List.{list_any}
use Rattle.std.specs.Str.Lossy.{utf8_valid_len}
use Rattle.cron_writer.specs.Watching.{IsFrontSent}
use Rattle.cron_crontab.specs.Crontab as tabs
use Rattle.cron_checking.specs.Reports.{told}
use Rattle.cron_controls.specs.Controls.{shown_by}
use Rattle.cron_tab_lines.specs.Files.{FileLine}
use Rattle.cron_tab_lines.specs.Lines.{Meaning, entry}
use Rattle.cron_tab_lines.specs.Refusals.{Refusal, refusal_text}
use Rattle.cron_tab_lines.specs.Zones.{names_no_zone, no_zone_text}
use Rattle.cron_tab_lines.specs.declared.zones.NamedZone.{NamedZone}
use Rattle.cron_tab_warnings.specs.Files.{warns_line}
use Rattle.cron_tab_warnings.specs.declared.files.LineWarning.{LineWarning}
use Rattle.cron_tab_warnings.specs.declared.files.LineWarning.TheVariants.{NoLineFeed}
use Rattle.cron_tab_warnings.specs.Messages.{line_warning_text, warning_text}
use Rattle.cron_tab_warnings.specs.Warnings.{Warns}
use Rattle.cron_tab_warnings.specs.declared.files.TheConstants.{LINE_WARNINGS}
use Rattle.cron_tab_warnings.specs.declared.warnings.TheConstants.{WARNINGS}
use Rattle.cron_tab_context.specs.Messages.{context_text}
use Rattle.cron_tab_answers.specs.declared.check.Wanted.{Wanted}
use Rattle.cron_replies.specs.Telling.{TellsThose}
use Rattle.cron_replies.specs.declared.status.Status.{Status}
use Rattle.cron_replies.specs.declared.status.Status.TheVariants.{Done, No, WrongWords, WriteFailed, Unreadable}

-- whether a line is refused for what it says, or sets `CRON_TZ` to no zone
abbrev pub is_refused : List NamedZone → Result Meaning Refusal → Bool
is_refused names (Ok meaning) = names_no_zone names (Ok meaning)
is_refused names (Err refusal) = true

-- whether no line feed ends the line, so that it may be half written
abbrev pub is_unended : FileLine → Bool
is_unended line = warns_line NoLineFeed line

-- whether a line is refused: for what it says, or, if that is wanted, for the line feed that it
-- lacks
abbrev pub refuses : Wanted → FileLine → Bool
refuses w line = is_refused w.names.now line.outcome || (w.needs_feed && is_unended line)

-- whether some line is refused
abbrev pub any_refused : Wanted → List FileLine → Bool
any_refused w lines = list_any (refuses w) lines

-- the message about a line that is read, by whether it sets `CRON_TZ` to no zone; nothing if it
-- doesn't
abbrev pub zone_line : List ℕ → ℕ → Bool → List ℕ
zone_line front number false = []
zone_line front number true = told front number no_zone_text

-- the message why a line is refused, with its number; nothing if it isn't
abbrev pub refusal_line : List ℕ → List NamedZone → ℕ → Result Meaning Refusal → List ℕ
refusal_line front names number (Ok meaning) = zone_line front number (names_no_zone names (Ok meaning))
refusal_line front names number (Err refusal) = told front number (refusal_text refusal)

-- The message about a line by whether no line feed ends it: that it is refused for that, or a note.
-- It is nothing if one ends it.
abbrev pub unended_line : Bool → List ℕ → ℕ → Bool → List ℕ
unended_line refused front number false = []
unended_line true front number true = told front number (line_warning_text NoLineFeed)
unended_line false front number true = told front number (codes "note: " ++ line_warning_text NoLineFeed)

abbrev pub warning_line : List ℕ → ℕ → List ℕ → List ℕ
warning_line front number text = told front number (codes "warning: " ++ text)

-- `told` has a line for each warning that applies to an expression. The text begins with the
-- expression.
abbrev pub TellsOfFields : Wanted → ℕ → List ℕ → tabs.Meaning → List ℕ → Type 0
TellsOfFields w number text meaning told =
    TellsThose (λ v. Warns w.kind v text meaning) (λ v. warning_line w.front.now number (warning_text v)) WARNINGS told

-- `told` has the warnings about the expression of a line's entry, or nothing if the line is no
-- entry.
abbrev pub TellsOfEntry : Wanted → ℕ → Result Meaning Refusal → List ℕ → List ℕ → Type 0
TellsOfEntry w number (Ok (entry e)) text told = TellsOfFields w number text e.meaning told
TellsOfEntry w number _ text told = told ≡ []

-- whether a warning about a line itself is written; a missing line feed isn't, since `unended_line`
-- reports it
abbrev pub is_told : LineWarning → FileLine → Bool
is_told NoLineFeed line = false
is_told w line = warns_line w line

-- `told` has the warnings about a line itself.
abbrev pub TellsOfLine : List ℕ → FileLine → List ℕ → Type 0
TellsOfLine front line told =
    TellsThose (λ w. is_told w line ≡ true) (λ w. warning_line front line.number (line_warning_text w)) LINE_WARNINGS told

-- `told` has the warnings that were found about the entry in the line with this number, by what is
-- around it.
abbrev pub TellsFound : Wanted → ℕ → List ℕ → Type 0
TellsFound w number told =
    TellsThose (λ f. f.line ≡ number) (λ f. warning_line w.front.now number (context_text f.warning)) w.found.now told

-- The text is the warnings that apply to a line: those about its expression, those about the line
-- itself, and those by what is around it.
pub record TellsWarnings (w : Wanted) (l : FileLine) (text : List ℕ) : Type 0 where
  pub of_entry : List ℕ
  pub of_line : List ℕ
  pub of_found : List ℕ
  pub all : text ≡ of_entry ++ (of_line ++ of_found)
  pub entry : TellsOfEntry w l.number l.outcome (take (utf8_valid_len l.bytes) l.bytes) of_entry
  pub line : TellsOfLine w.front.now l of_line
  pub found : TellsFound w l.number of_found

abbrev pub TellsIfWanted : Bool → Wanted → FileLine → List ℕ → Type 0
TellsIfWanted true w line text = TellsWarnings w line text
TellsIfWanted false w line text = text ≡ []

-- the messages why a line is refused, and that no line feed ends it
abbrev pub faults_line : Wanted → FileLine → List ℕ
faults_line w line =
    refusal_line w.front.now w.names.now line.number line.outcome ++ unended_line w.needs_feed w.front.now line.number (is_unended line)

-- The text is the report on a line: its faults, and then its warnings if they are wanted.
abbrev pub TellsLine : Wanted → FileLine → List ℕ → Type 0
TellsLine w line text = (warnings : List ℕ) × (text ≡ faults_line w line ++ warnings) × TellsIfWanted w.warn w line warnings

-- The text is the reports on lines, one after another, with control characters as they are wanted.
abbrev pub TellsLines : Wanted → List FileLine → List ℕ → Type 0
TellsLines w [] text = text ≡ []
TellsLines w (line ∷ lines) text =
    (here : List ℕ) × (rest : List ℕ) × (text ≡ shown_by w.controls here ++ rest) × TellsLine w line here × TellsLines w lines rest

-- How a check ends that leaves these of the lines. All were reported, and none is refused (`Done`)
-- or some are (`No`). Or a write failed, or memory ran out.
abbrev pub EndsAs : Status → Wanted → List FileLine → List FileLine → List ℕ → Option (List ℕ) → Option (List ℕ) → Type 0
EndsAs Done w lines left report old new = (left ≡ []) × (any_refused w lines ≡ false) × Appends old new report
EndsAs No w lines left report old new = (left ≡ []) × (any_refused w lines ≡ true) × Appends old new report
EndsAs WrongWords w lines left report old new = ⊥
EndsAs WriteFailed w lines left report old new = IsFrontSent old new report
EndsAs Unreadable w lines left report old new = Appends old new report

-- The lines were reported in order, or the first of them, up to those that are left. The writer
-- held `old` before and holds `new` after.
pub record Checks (w : Wanted) (lines : List FileLine) (old new : Option (List ℕ)) (status : Status) : Type 0 where
  pub checked : List FileLine
  pub left : List FileLine
  pub cut : lines ≡ checked ++ left
  pub report : List ℕ
  pub tells : TellsLines w checked report
  pub ends : EndsAs status w lines left report old new
