use Rattle.std.proofs.Common.{◌≡◌, ◌++◌, [], length}
use Rattle.cron_rota_answers.specs.Cells.{cells_left}
use Rattle.cron_rota_answers.specs.People.{names_of, texts, wrong_name}
use Rattle.cron_rota_answers.proofs.people.names_of.Given as goal

-- behind the names so far come those that are left, and the first wrong one is among these
abbrev pub invariant-names : goal.invariant-names
invariant-names l = record {
  all : texts l.names.items ++ cells_left 44 l.rest ≡ names_of l.fn.text;
  wrong : wrong_name (texts l.names.items) (cells_left 44 l.rest) ≡ wrong_name [] (names_of l.fn.text);
}

abbrev pub decreases-names : goal.decreases-names
decreases-names l = length (cells_left 44 l.rest)
