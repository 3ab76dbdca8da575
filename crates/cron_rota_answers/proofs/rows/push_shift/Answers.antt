use Rattle.std.proofs.Common.{ℕ, List, subst, sym}
use Rattle.std.proofs.lemmas.Result.{on_ok_weaker}
use Rattle.jiff.specs.Words.{plain_zone}
use Rattle.cron_rota_answers.specs.People.{texts}
use Rattle.cron_rota_answers.specs.Rows.{IsRow}
use Rattle.cron_rota_answers.proofs.rows.push_shift.Goals as goal

pub returns : goal.returns
returns c =
    on_ok_weaker c.push_bytes.result
    (λ added. (
      c.as_slice.result.now,
      added,
      subst (λ (row : List ℕ). IsRow c.args.form (plain_zone c.args.zone.now) (texts c.args.names.now) c.args.shift.now row) (sym c.as_slice.ensures.value) c.in_ok-row.ensures,
    )) c.push_bytes.ensures
