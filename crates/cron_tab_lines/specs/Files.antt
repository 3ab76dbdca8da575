-- The lines of a file.
use Rattle.std.specs.Prelude.{ℕ, Bool, ◌+◌, ◌-◌, ◌==◌, ◌&&◌, List, [], ◌∷◌, Result, Err, nat_eq, length, take, slice_index, if◌then◌else◌}
use Rattle.std.specs.List.{flat_map, starts_with}
use Rattle.cron_tab_lines.specs.Lines.{Meaning, outcome_of}
use Rattle.cron_tab_lines.specs.Refusals.{Refusal, byte_order_mark}
use Rattle.cron_tab_lines.specs.declared.kinds.Crontab.{Crontab}

-- the lines with one more byte in front of the first one
abbrev pub with_byte : ℕ → List (List ℕ) → List (List ℕ)
with_byte c [] = (c ∷ []) ∷ []
with_byte c (line ∷ lines) = (c ∷ line) ∷ lines

-- the lines of a file, which is cut after each line feed
abbrev pub lines_of : List ℕ → List (List ℕ)
lines_of [] = []
lines_of (c ∷ cs) = if c == 10 then (c ∷ []) ∷ lines_of cs else with_byte c (lines_of cs)

abbrev pub without_feed : List ℕ → List ℕ
without_feed bytes = if slice_index bytes (length bytes - 1) == 10 then take (length bytes - 1) bytes else bytes

-- the bytes begin with a byte order mark, U+FEFF
abbrev pub has_mark : List ℕ → Bool
has_mark bytes = starts_with nat_eq bytes (239 ∷ 187 ∷ 191 ∷ [])

-- a line: its number, from 1 on; its bytes, with the line feed; what it is, or why it is refused
pub record FileLine : Type 0 where
  pub number : ℕ
  pub bytes : List ℕ
  pub outcome : Result Meaning Refusal

-- What the line with this number is. A byte order mark at the front of the file is refused.
abbrev pub numbered_outcome : Crontab → ℕ → List ℕ → Result Meaning Refusal
numbered_outcome kind number bytes = if number == 1 && has_mark bytes then Err byte_order_mark else outcome_of kind (without_feed bytes)

abbrev pub numbered : Crontab → ℕ → List (List ℕ) → List FileLine
numbered kind number [] = []
numbered kind number (bytes ∷ more) =
    record { number = number; bytes = bytes; outcome = numbered_outcome kind number bytes } ∷ numbered kind (number + 1) more

abbrev pub file_lines : Crontab → List ℕ → List FileLine
file_lines kind file = numbered kind 1 (lines_of file)

-- the bytes of all lines, joined
abbrev pub written_out : List FileLine → List ℕ
written_out lines = flat_map (λ line. line.bytes) lines
