use Rattle.std.proofs.Common.{◌≡◌, ◌++◌, ℕ, List}
use Rattle.cron_checking.specs.Puts.{Puts}
use Rattle.cron_tab_lines.specs.Files.{FileLine}
use Rattle.cron_tab_answers.specs.Checks.{any_refused, TellsLines}
use Rattle.cron_tab_answers.proofs.check.tell_lines.Given as goal

-- the lines so far were told
abbrev pub invariant-loop-line : goal.invariant-loop-line
invariant-loop-line g l =
    (checked : List FileLine) × (report : List ℕ) × (l.fn.lines ≡ checked ++ l.line-iterator) × TellsLines l.wanted checked report
    × (l.refused ≡ any_refused l.wanted checked)
    × Puts g.W.Write.contents g.W.Watchable.writes l.initial.gathered l.initial.out l.gathered l.out report
