use Rattle.std.proofs.Common.{rules, subst, sym, FitsSigned, w64, to_z-of_z}
use Rattle.std.proofs.lemmas.Result.{IfOk-weaker}
use Rattle.jiff.specs.Words.{plain_zone}
use Rattle.cron_rota_answers.specs.Rows.{IsTime}
use Rattle.cron_rota_answers.proofs.rows.who_row.Goals as goal

pub returns-in_ok-at-in-Json : goal.returns-in_ok-at-in-Json
returns-in_ok-at-in-Json c =
    let fits : FitsSigned w64 c.args.second = search rules in
    let at = rw (to_z-of_z fits) at c.in_ok-at-in-Json.ensures in
    rw c.in-Json.is
    (IfOk-weaker c.who_json.result _ _
    (λ row is. (c.as_str.result.now, subst (IsTime (plain_zone c.args.zone.now) c.args.second) (sym c.as_str.ensures.value) at, is)) c.who_json.ensures)
