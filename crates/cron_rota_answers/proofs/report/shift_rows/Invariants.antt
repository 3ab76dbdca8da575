use Rattle.std.proofs.Common.{ℕ, ◌++◌, List}
use Rattle.jiff.specs.Words.{plain_zone}
use Rattle.cron_rotas.specs.Rotas.{shifts_between}
use Rattle.cron_stretches.specs.Fires.{second_of}
use Rattle.cron_rota_answers.proofs.RowLemmas.{AreWithin}
use Rattle.cron_rota_answers.specs.People.{texts}
use Rattle.cron_rota_answers.specs.Rows.{AreRows}
use Rattle.cron_rota_answers.proofs.report.shift_rows.Given as goal

-- behind the rows so far come those of the shifts that are left, which begin and end between the instants
abbrev pub invariant-loop-shift : goal.invariant-loop-shift
invariant-loop-shift g l = record {
  adds : (more : List ℕ) → AreRows l.words.form (plain_zone l.words.zone.now) (texts l.words.names.now) l.shift-iterator more
      → AreRows l.words.form (plain_zone l.words.zone.now) (texts l.words.names.now)
      (shifts_between l.fn.rota (second_of l.fn.from.nanosecond) (second_of l.fn.to.nanosecond)) (l.rows.items ++ more);
  within : AreWithin (second_of l.fn.from.nanosecond) (second_of l.fn.to.nanosecond) l.shift-iterator;
}
