use Rattle.std.proofs.Common.{◌++◌, codes}
use Rattle.std.proofs.lemmas.Result.{IfOk-weaker}
use Rattle.cron_tab_lines.specs.Views.{bytes_view}
use Rattle.cron_tab_rows.proofs.ObjectLemmas.{object_written, written_on}
use Rattle.cron_tab_rows.specs.Members.{string_member}
use Rattle.cron_rota_answers.specs.Rows.{person_member}
use Rattle.cron_rota_answers.proofs.rows.who_json.Goals as goal

pub returns : goal.returns
returns c =
    let at = string_member (codes "at") c.args.at.now in
    let person = person_member (bytes_view c.args.who) in
    let all = written_on at person c.in_ok-object.object c.write_string.new.object c.write_person.new.object c.in_ok-write_string.ensures c.in_ok-write_person.ensures in
    IfOk-weaker c.end.result _ _
    (λ row is. object_written (at ++ person) c.new.result.items c.in_ok-object.object c.write_person.new.object row.items c.new.ensures.items c.in_ok-object.ensures
    all is) c.end.ensures
