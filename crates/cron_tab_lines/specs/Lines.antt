-- What a line is, without its line feed.
use Rattle.std.specs.Prelude.{◌≡◌, ℕ, ◌==◌, ◌-◌, List, Option, Some, None, Result, Ok, Err, codes, length, take, if◌then◌else◌}
use Rattle.std.specs.List.{list_any}
use Rattle.std.specs.Str.{bytes_eq}
use Rattle.cron_crontab.specs.Items.{and_then}
use Rattle.cron_tab_lines.specs.Bytes.{behind, first, is_blank}
use Rattle.cron_tab_lines.specs.Settings.{name_of, value_of}
use Rattle.cron_tab_lines.specs.Entries.{Entry, entry_of}
use Rattle.cron_tab_lines.specs.Refusals.{Refusal, nul, second_line, lone_return, no_value}
use Rattle.cron_tab_lines.specs.declared.kinds.Crontab.{Crontab}

pub data Meaning : Type 0 where
  blank : Meaning
  comment : Meaning
  -- a name, and its value
  setting : List ℕ → List ℕ → Meaning
  -- the value of `CRON_TZ`
  zone : List ℕ → Meaning
  entry : Entry → Meaning

abbrev pub named : List ℕ → List ℕ → Meaning
named name value = if bytes_eq name (codes "CRON_TZ") then zone value else setting name value

abbrev pub setting_of : List ℕ → List ℕ → Result Meaning Refusal
setting_of name text = and_then (value_of text) (λ value. Ok (named name value))

-- what a line is that has a name and `=`, and is no setting for this reason; where the value is missing the two crons differ
abbrev pub no_setting : Refusal → Result Entry Refusal → Result Meaning Refusal
no_setting no_value other = Err no_value
no_setting refusal (Ok e) = Ok (entry e)
no_setting refusal (Err other) = Err refusal

abbrev pub if_no_setting : Crontab → List ℕ → Result Meaning Refusal → Result Meaning Refusal
if_no_setting kind text (Ok meaning) = Ok meaning
if_no_setting kind text (Err refusal) = no_setting refusal (entry_of kind text)

-- a line is tried as a setting first, then as an entry
abbrev pub setting_or_entry : Crontab → List ℕ → Option (List ℕ × List ℕ) → Result Meaning Refusal
setting_or_entry kind text (Some cut) = if_no_setting kind text (setting_of cut.0 cut.1)
setting_or_entry kind text None = and_then (entry_of kind text) (λ e. Ok (entry e))

-- what a line is whose first byte isn't blank
abbrev pub text_outcome : Crontab → List ℕ → Result Meaning Refusal
text_outcome kind text =
    if length text == 0 then Ok blank
    else if first text == 35 then Ok comment
    else if bytes_eq text (codes "\r") then Err lone_return
    else setting_or_entry kind text (name_of text)

abbrev pub without_last : List ℕ → List ℕ
without_last line = take (length line - 1) line

-- What a line is, or why it is refused. A line feed may stand at its end alone.
abbrev pub outcome_of : Crontab → List ℕ → Result Meaning Refusal
outcome_of kind line =
    if list_any (λ c. c == 0) line then Err nul
    else if list_any (λ c. c == 10) (without_last line) then Err second_line
    else text_outcome kind (behind is_blank line)

-- the line is this
abbrev pub IsLine : Crontab → List ℕ → Meaning → Type 0
IsLine kind line meaning = outcome_of kind line ≡ Ok meaning

-- the line is refused for this
abbrev pub IsRefused : Crontab → List ℕ → Refusal → Type 0
IsRefused kind line refusal = outcome_of kind line ≡ Err refusal
