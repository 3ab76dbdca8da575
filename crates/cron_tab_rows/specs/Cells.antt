-- The cells of a row of text about an entry.
use Rattle.std.specs.Prelude.{◌++◌, ℕ, List, [], ◌∷◌, Option, Some, None}
use Rattle.std.specs.Fmt.{decimal}
use Rattle.cron_tab_rows.specs.Sources.{Source}

-- the file and a colon, if there is a file
abbrev pub file_cell : Option (List ℕ) → List ℕ
file_cell None = []
file_cell (Some file) = file ++ 58 ∷ []

-- where an entry stands: the file and a colon, if there is a file, the number of its line, and a
-- tab
abbrev pub place_cell : Option (List ℕ) → ℕ → List ℕ
place_cell file line = file_cell file ++ (decimal line ++ 9 ∷ [])

-- the user and a tab, if there is a user
abbrev pub user_cell : Option (List ℕ) → List ℕ
user_cell None = []
user_cell (Some user) = user ++ 9 ∷ []

-- a percent sign and the input, if there is input
abbrev pub input_cell : Option (List ℕ) → List ℕ
input_cell None = []
input_cell (Some input) = 37 ∷ input

-- what an entry runs: the user and a tab, if there is a user, the command with its input as they
-- are in the line, and a line feed
abbrev pub task_cell : Source → List ℕ
task_cell s = user_cell s.user ++ (s.command ++ (input_cell s.input ++ 10 ∷ []))
