-- The lines of a file of swaps, with the cells FROM, UNTIL and NAME between tabs.
use Rattle.std.specs.Prelude.{◌==◌, ◌||◌, ℕ, Bool, List, [], ◌∷◌, Option, Some, None, slice_index}
use Rattle.std.specs.List.{list_all}
use Rattle.cron_rota_answers.specs.Cells.{parts}
use Rattle.cron_rota_answers.specs.declared.columns.Columns as code

-- the lines of a file
abbrev pub lines_of : List ℕ → List (List ℕ)
lines_of file = parts 10 file

-- a space, a tab, or a carriage return
abbrev pub is_blank : ℕ → Bool
is_blank c = c == 32 || (c == 9 || c == 13)

abbrev pub is_comment : List ℕ → Bool
is_comment line = slice_index line 0 == 35

-- a line is passed over if it begins with `#`, or is blank
abbrev pub is_passed : List ℕ → Bool
is_passed line = is_comment line || list_all is_blank line

-- the cells of a line that has three
pub record Columns : Type 0 where
  pub from : List ℕ
  pub until : List ℕ
  pub name : List ℕ

abbrev pub view : code.Columns → Columns
view c = record { from = c.from.now; until = c.until.now; name = c.name.now }

abbrev pub columns_in : List (List ℕ) → Option Columns
columns_in (from ∷ until ∷ name ∷ []) = Some (record { from = from; until = until; name = name })
columns_in _ = None
