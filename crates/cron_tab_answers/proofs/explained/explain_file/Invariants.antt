-- the rows of the first lines were appended
use Rattle.std.proofs.Common.{◌≡◌, ◌++◌, Some}
use Rattle.cron_tab_lines.specs.Files.{file_lines}
use Rattle.cron_tab_lines.specs.Views.{bytes_view}
use Rattle.cron_tab_answers.specs.Explained.{given_of, rows_of}
use Rattle.cron_tab_answers.proofs.explained.explain_file.Given as goal

abbrev pub invariant-loop-line : goal.invariant-loop-line
invariant-loop-line l =
    l.initial.rows.items ++ rows_of l.explaining.form (given_of l.explaining) (bytes_view l.file.name) (Some 0) (file_lines l.file.kind l.file.bytes.now)
    ≡ l.rows.items ++ rows_of l.explaining.form (given_of l.explaining) (bytes_view l.file.name) l.here l.line-iterator
