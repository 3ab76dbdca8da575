-- What is said of a file of swaps that is refused.
use Rattle.std.specs.Prelude.{◌++◌, ℕ, List, codes}
use Rattle.std.specs.Fmt.{decimal}
use Rattle.cron_rota_answers.specs.declared.swap_error.LineFault.{LineFault}
use Rattle.cron_rota_answers.specs.declared.swap_error.LineFault.TheVariants.{NoText, NotThree, NoInstant, Order, NoPerson}
use Rattle.cron_rota_answers.specs.declared.swap_error.SwapsError.{SwapsError}
use Rattle.cron_rota_answers.specs.declared.swap_error.SwapsError.TheVariants.{Line, OutOfMemory}

abbrev pub line_fault_text : LineFault → List ℕ
line_fault_text NoText = codes "the line is no UTF-8"
line_fault_text NotThree = codes "a swap is FROM, UNTIL and NAME, with a tab between each two"
line_fault_text (NoInstant word) = codes "'" ++ (word.now ++ codes "' is no instant")
line_fault_text (Order from until) = codes "UNTIL '" ++ (until.now ++ (codes "' isn't later than FROM '" ++ (from.now ++ codes "'")))
line_fault_text (NoPerson word) = codes "'" ++ (word.now ++ codes "' is none of the people")

-- what is said of the swaps in a file with this name
abbrev pub swaps_error_text : List ℕ → SwapsError → List ℕ
swaps_error_text file (Line wrong) = file ++ (codes ":" ++ (decimal wrong.number ++ (codes ": " ++ line_fault_text wrong.fault)))
swaps_error_text file OutOfMemory = codes "out of memory"
