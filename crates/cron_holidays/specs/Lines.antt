-- The lines of a file that aren't blank.
use Rattle.std.specs.Prelude.{ℕ, ◌+◌, List, [], ◌∷◌, if◌then◌else◌}
use Rattle.std.specs.List.{list_all}
use Rattle.cron_tab_lines.specs.Bytes.{is_blank}
use Rattle.cron_tab_lines.specs.Entries.{without_return}
use Rattle.cron_tab_lines.specs.Files.{lines_of, without_feed}

-- a line: its number, from 1 on, and its bytes without its end
pub record Line : Type 0 where
  pub number : ℕ
  pub text : List ℕ

-- a line without the line feed, or the carriage return and the line feed, at its end
abbrev pub without_end : List ℕ → List ℕ
without_end bytes = without_return (without_feed bytes)

-- a line in front of others, unless it has only spaces and tabs, or nothing
abbrev pub with_line : Line → List Line → List Line
with_line line lines = if list_all is_blank line.text then lines else line ∷ lines

abbrev pub numbered : ℕ → List (List ℕ) → List Line
numbered number [] = []
numbered number (bytes ∷ more) = with_line (record { number = number; text = without_end bytes }) (numbered (number + 1) more)

-- the lines of a file that aren't blank
abbrev pub lines_in : List ℕ → List Line
lines_in file = numbered 1 (lines_of file)
