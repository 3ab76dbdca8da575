use Rattle.std.proofs.Common.{◌≡◌, ◌++◌, length}
use Rattle.cron_shell.specs.Quoted.{words}
use Rattle.cron_shell.specs.Lines.{input_lines}
use Rattle.cron_shell.proofs.lines.push_lines.Given as goal

-- what was pushed, with the lines that are left, is what all of them make
abbrev pub invariant-loop-rest : goal.invariant-loop-rest
invariant-loop-rest l = l.line.items ++ words (input_lines l.rest) ≡ l.initial.line.items ++ words (input_lines l.text)

abbrev pub decreases-loop-rest : goal.decreases-loop-rest
decreases-loop-rest l = length l.rest
