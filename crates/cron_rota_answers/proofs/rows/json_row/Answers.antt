use Rattle.std.proofs.Common.{◌++◌, codes}
use Rattle.std.proofs.lemmas.Result.{IfOk-weaker}
use Rattle.cron_tab_rows.proofs.ObjectLemmas.{object_written, written_on}
use Rattle.cron_tab_rows.specs.Members.{string_member}
use Rattle.cron_rota_answers.proofs.rows.json_row.Goals as goal

pub returns : goal.returns
returns c =
    let from = string_member (codes "from") c.args.from.now in
    let until = string_member (codes "until") c.args.until.now in
    let name = string_member (codes "person") c.args.name.now in
    let last = written_on until name c.write_string.new.object c.write_string-2.new.object c.write_string-3.new.object c.in_ok-write_string-2.ensures c.in_ok-write_string-3.ensures in
    let all = written_on from (until ++ name) c.in_ok-object.object c.write_string.new.object c.write_string-3.new.object c.in_ok-write_string.ensures last in
    IfOk-weaker c.end.result _ _
    (λ row is. object_written (from ++ (until ++ name)) c.new.result.items c.in_ok-object.object c.write_string-3.new.object row.items c.new.ensures.items
    c.in_ok-object.ensures all is) c.end.ensures
