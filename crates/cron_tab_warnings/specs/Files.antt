-- What another cron reads differently in a file's line, or refuses. Texts are lists of bytes.
use Rattle.std.specs.Option.{is_some}
use Rattle.std.specs.Prelude.{ℕ, ◌+◌, ◌-◌, ◌==◌, ◌&&◌, ◌||◌, Bool, not, true, false, nat_le, List, [], ◌∷◌, Contains, Option, Some, None, Result, Ok, length, slice_index}
use Rattle.cron_tab_lines.specs.Bytes.{first, is_quote, is_white}
use Rattle.cron_tab_lines.specs.Entries.{Entry}
use Rattle.cron_tab_lines.specs.Files.{FileLine}
use Rattle.cron_tab_lines.specs.Lines.{Meaning, blank, comment, setting, zone, entry}
use Rattle.cron_tab_lines.specs.Refusals.{Refusal}
use Rattle.cron_tab_warnings.specs.declared.files.LineWarning.{LineWarning}
use Rattle.cron_tab_warnings.specs.declared.files.LineWarning.TheVariants.{IgnoredZone, LongCommand, ReturnAtEnd, TwoBackslashes, DashInFront, PercentSign, ShortenedValue, LongSetting, ManyLines, NoLineFeed}

-- the length of a command's input with the `%` before it; 0 if there is no input
abbrev pub input_len : Option (List ℕ) → ℕ
input_len None = 0
input_len (Some input) = length input + 1

-- the length of an entry's command and its input, with the `%` between
abbrev pub task_len : Entry → ℕ
task_len e = length e.command + input_len e.input

abbrev pub is_zone : Result Meaning Refusal → Bool
is_zone (Ok (zone value)) = true
is_zone _ = false

abbrev pub last_byte : List ℕ → ℕ
last_byte bytes = slice_index bytes (length bytes - 1)

-- what ends an entry's line: the input, or the command if there is no input
abbrev pub end_of : List ℕ → Option (List ℕ) → List ℕ
end_of command None = command
end_of command (Some input) = input

-- whether a carriage return ends the entry's command, or its input if it has one
abbrev pub keeps_return : Entry → Bool
keeps_return e = last_byte (end_of e.command e.input) == 13

-- whether the text has two backslashes in a row, where `before` is the byte in front of it
abbrev pub has_two_backslashes : ℕ → List ℕ → Bool
has_two_backslashes before [] = false
has_two_backslashes before (c ∷ cs) = (before == 92 && c == 92) || has_two_backslashes c cs

abbrev pub has_dash : List ℕ → Bool
has_dash command = first command == 45

-- Whether a warning applies to an entry. Debian's cron refuses commands of 999 bytes or more.
abbrev pub warns_entry : LineWarning → Entry → Bool
warns_entry LongCommand e = nat_le 999 (task_len e)
warns_entry ReturnAtEnd e = keeps_return e
warns_entry TwoBackslashes e = has_two_backslashes 0 e.command
warns_entry DashInFront e = has_dash e.command
warns_entry PercentSign e = is_some e.input
warns_entry _ e = false

abbrev pub entry_warns : LineWarning → Result Meaning Refusal → Bool
entry_warns w (Ok (entry e)) = warns_entry w e
entry_warns w _ = false

-- whether the value begins and ends with the same quotation mark
abbrev pub is_wrapped : List ℕ → Bool
is_wrapped value = nat_le 2 (length value) && (is_quote (first value) && last_byte value == first value)

-- whether the line is a setting whose value, which was quoted, ends in white space or has quotation
-- marks around it
abbrev pub loses_ends : Result Meaning Refusal → Bool
loses_ends (Ok (setting name value)) = is_white (last_byte value) || is_wrapped value
loses_ends _ = false

-- whether the line is a setting of 998 bytes or more without the `=`; Debian's cron keeps 998 bytes
-- with it
abbrev pub is_cut : Result Meaning Refusal → Bool
is_cut (Ok (setting name value)) = nat_le 998 (length name + length value)
is_cut _ = false

-- whether the line is neither blank nor a comment
abbrev pub has_content : Result Meaning Refusal → Bool
has_content (Ok blank) = false
has_content (Ok comment) = false
has_content _ = true

-- whether a warning applies to a line; `ManyLines` applies to the first line past 10,000
abbrev pub warns_line : LineWarning → FileLine → Bool
warns_line IgnoredZone line = is_zone line.outcome
warns_line ShortenedValue line = loses_ends line.outcome
warns_line LongSetting line = is_cut line.outcome
warns_line ManyLines line = line.number == 10_001
warns_line NoLineFeed line = not (last_byte line.bytes == 10) && has_content line.outcome
warns_line w line = entry_warns w line.outcome

-- the list has each warning of a file's line
abbrev pub AllStandIn : List LineWarning → Type 0
AllStandIn all = (w : LineWarning) → Contains all w
