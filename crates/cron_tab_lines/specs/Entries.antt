-- Entries: fields, in system crontabs a user, a command, and perhaps its input.
use Rattle.std.specs.Prelude.{ℕ, zero, suc, Bool, true, false, not, ◌==◌, ◌&&◌, ◌-◌, ◌+◌, nat_lt, List, [], ◌∷◌, Option, Some, None, Result, Ok, Err, length, take, drop, slice_index, if◌then◌else◌}
use Rattle.std.specs.List.{list_all, take_while}
use Rattle.cron_crontab.specs.Crontab as crontabs
use Rattle.cron_crontab.specs.Crontab.{Meaning}
use Rattle.cron_crontab.specs.Refusals as crontab
use Rattle.cron_crontab.specs.Items.{and_then}
use Rattle.cron_tab_lines.specs.Bytes.{behind, first, is_blank, no_blank, is_plain}
use Rattle.cron_tab_lines.specs.Refusals.{Refusal, strange_byte, expression, sixth_field, no_user, no_command}
use Rattle.cron_tab_lines.specs.declared.kinds.Crontab.{Crontab}
use Rattle.cron_tab_lines.specs.declared.kinds.Crontab.TheVariants.{User, System}

pub record Entry : Type 0 where
  pub meaning : Meaning
  pub user : Option (List ℕ)
  pub command : List ℕ
  pub input : Option (List ℕ)

-- ---- percent signs

-- How many bytes precede the first bare `%`, which no backslash guards. A backslash guards the byte
-- after it, unless it is guarded itself.
abbrev pub before_percent : Bool → List ℕ → ℕ
before_percent guarded [] = 0
before_percent guarded (c ∷ cs) = if c == 37 && not guarded then 0 else suc (before_percent (c == 92 && not guarded) cs)

abbrev pub command_of : List ℕ → List ℕ
command_of task = take (before_percent false task) task

-- the text after the first bare `%`, if there is one
abbrev pub input_of : List ℕ → Option (List ℕ)
input_of task = if nat_lt (before_percent false task) (length task) then Some (drop (before_percent false task + 1) task) else None

-- A backslash directly before a `%` is removed, and that `%` stays. Every other `%` becomes a line
-- feed.
abbrev pub shown : Bool → List ℕ → List ℕ
shown behind_backslash [] = []
shown behind_backslash (c ∷ cs) =
    if c == 37 then (if behind_backslash then 37 else 10) ∷ shown false cs
    else if c == 92 && first cs == 37 then shown true cs
    else c ∷ shown false cs

-- the bytes of a command that the shell gets, or the bytes that a command reads as its input
abbrev pub unescaped : List ℕ → List ℕ
unescaped text = shown false text

-- ---- words

-- the rest of a text after this number of words and the blanks that follow each
abbrev pub behind_words : ℕ → List ℕ → List ℕ
behind_words zero text = text
behind_words (suc n) text = behind_words n (behind is_blank (behind no_blank text))

-- how many words say when an entry fires: one for a nickname, else five
abbrev pub field_count : List ℕ → ℕ
field_count text = if first text == 64 then 1 else 5

-- the text without `rest`, which is its end
abbrev pub up_to : List ℕ → List ℕ → List ℕ
up_to text rest = take (length text - length rest) text

-- the text without the carriage return at its end, if it has one
abbrev pub without_return : List ℕ → List ℕ
without_return text = if slice_index text (length text - 1) == 13 then take (length text - 1) text else text

-- ---- entries

abbrev pub meaning_or_refusal : Result Meaning crontab.Fault → Result Meaning Refusal
meaning_or_refusal (Ok meaning) = Ok meaning
meaning_or_refusal (Err fault) = Err (expression fault)

abbrev pub meaning_of : List ℕ → Result Meaning Refusal
meaning_of fields = if list_all is_plain fields then meaning_or_refusal (crontabs.text_outcome fields) else Err strange_byte

-- the task unchanged from the line `text`, where `core` is the line without its carriage return
abbrev pub as_it_stands : List ℕ → List ℕ → List ℕ → List ℕ
as_it_stands text core task = drop (length core - length task) text

-- The entry of a task, or why there is none. A command has at least one byte.
abbrev pub with_task : Meaning → Option (List ℕ) → List ℕ → List ℕ → Result Entry Refusal
with_task meaning user task whole =
    if length task == 0 then Err no_command
    else if before_percent false whole == 0 then Err no_command
    else Ok (record { meaning = meaning; user = user; command = command_of whole; input = input_of whole })

-- The entry whose fields `rest` follows: the command, with a user in front of it in system
-- crontabs.
abbrev pub behind_fields : Crontab → Meaning → List ℕ → List ℕ → List ℕ → Result Entry Refusal
behind_fields User meaning text core rest = with_task meaning None rest (as_it_stands text core rest)
behind_fields System meaning text core rest =
    if length rest == 0 then Err no_user
    else with_task meaning (Some (take_while no_blank rest)) (behind_words 1 rest) (as_it_stands text core (behind_words 1 rest))

abbrev pub no_sixth : List ℕ → Result Entry Refusal → Result Entry Refusal
no_sixth rest entry = if first rest == 42 then Err sixth_field else entry

-- A carriage return at the end of the line is white space after fields. After a command it is a
-- part of the command.
abbrev pub cut_entry : Crontab → List ℕ → List ℕ → List ℕ → Result Entry Refusal
cut_entry kind text core rest = and_then (meaning_of (up_to core rest)) (λ meaning. no_sixth rest (behind_fields kind meaning text core rest))

abbrev pub entry_of : Crontab → List ℕ → Result Entry Refusal
entry_of kind text = cut_entry kind text (without_return text) (behind_words (field_count (without_return text)) (without_return text))
