use Rattle.std.proofs.Common.{◌+◌, ◌≤◌, ◌++◌, List, length}
use Rattle.std.specs.Prelude.{IfSome}
use Rattle.jiff.specs.Words.{plain_zone}
use Rattle.cron_rotas.specs.declared.swap.Swap.{Swap}
use Rattle.cron_rota_answers.specs.Cells.{parts_left}
use Rattle.cron_rota_answers.specs.Lines.{lines_of}
use Rattle.cron_rota_answers.specs.People.{texts}
use Rattle.cron_rota_answers.specs.Swaps.{AreSwaps, IsWrong, given}
use Rattle.cron_rota_answers.specs.declared.swap_error.WrongLine.{WrongLine}
use Rattle.cron_rota_answers.proofs.swaps.swaps_of.Given as goal

-- behind the swaps so far come those of the lines that are left, and the first wrong one of these is the first of all
abbrev pub invariant-lines : goal.invariant-lines
invariant-lines l = record {
  adds : (more : List Swap) → AreSwaps (given (texts l.names) (plain_zone l.zone) l.now.nanosecond) (parts_left 10 l.rest) more
      → AreSwaps (given (texts l.names) (plain_zone l.zone) l.now.nanosecond) (lines_of l.file) (l.swaps.items ++ more);
  wrong : (w : WrongLine) → IsWrong (given (texts l.names) (plain_zone l.zone) l.now.nanosecond) l.number (parts_left 10 l.rest) w
      → IsWrong (given (texts l.names) (plain_zone l.zone) l.now.nanosecond) 1 (lines_of l.file) w;
  bound : IfSome l.rest (λ left. l.number + length left.now ≤ length l.file + 1);
}

abbrev pub decreases-lines : goal.decreases-lines
decreases-lines l = length (parts_left 10 l.rest)
