use Rattle.std.proofs.Common.{rules, ap, ◌∙◌, FitsSigned, w64, to_z-of_z}
use Rattle.std.proofs.lemmas.Result.{IfOk-weaker}
use Rattle.jiff.specs.Words.{plain_zone}
use Rattle.jiff_tz.specs.Zone.{offset_at}
use Rattle.cron_rota_answers.proofs.rows.time_of.Goals as goal

pub returns : goal.returns
returns c =
    let fits : FitsSigned w64 c.args.second = search rules in
    let at = rw (to_z-of_z fits) at c.instant_at.ensures in
    let shown = rw (to_z-of_z fits) at c.shown_at.ensures in
    IfOk-weaker c.shown_at.result _ _
    (λ text is. (c.to_offset-offset.result, c.to_offset-offset.ensures ∙ ap (offset_at (plain_zone c.args.zone.now)) at, is)) shown
