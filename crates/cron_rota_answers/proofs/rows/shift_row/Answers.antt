use Rattle.std.proofs.Common.{rules, ap, ◌∙◌, subst, sym, FitsSigned, w64, to_z-of_z}
use Rattle.std.proofs.lemmas.Result.{IfOk-weaker}
use Rattle.jiff.specs.Words.{plain_zone}
use Rattle.cron_rota_answers.specs.Rows.{IsTime, row}
use Rattle.cron_rota_answers.proofs.rows.shift_row.Goals as goal

pub returns : goal.returns
returns c =
    let z = plain_zone c.args.zone.now in
    let fits-first : FitsSigned w64 c.args.shift.now.first = search rules in
    let fits-end : FitsSigned w64 c.args.shift.now.end = search rules in
    let first = rw (to_z-of_z fits-first) at c.in_ok-from.ensures in
    let end = rw (to_z-of_z fits-end) at c.in_ok-until.ensures in
    IfOk-weaker c.row_of.result _ _
    (λ made is. (
      c.as_str.result.now,
      c.as_str-2.result.now,
      subst (IsTime z c.args.shift.now.first) (sym c.as_str.ensures.value) first,
      subst (IsTime z c.args.shift.now.end) (sym c.as_str-2.ensures.value) end,
      is ∙ ap (row c.args.form c.as_str.result.now c.as_str-2.result.now) c.name_of-name.ensures,
    )) c.row_of.ensures
