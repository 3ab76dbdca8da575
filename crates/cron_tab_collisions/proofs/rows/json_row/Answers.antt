use Rattle.std.proofs.Common.{◌++◌, codes}
use Rattle.std.proofs.lemmas.Result.{IfOk-weaker}
use Rattle.cron_tab_fires.specs.Entries.{view}
use Rattle.cron_tab_rows.proofs.ObjectLemmas.{object_written, written_on}
use Rattle.cron_tab_rows.specs.Members.{fire_members, number_member, place_members}
use Rattle.cron_tab_collisions.proofs.rows.json_row.Goals as goal

pub returns : goal.returns
returns c =
    let a = view c.args.first.now in
    let b = view c.args.second.now in
    let place = place_members (codes "line") (codes "file") a.file a.line in
    let other = place_members (codes "other_line") (codes "other_file") b.file b.line in
    let fire = fire_members (codes "fire") (codes "epoch") c.args.fire.now in
    let number = number_member (codes "collisions") c.args.pairs in
    let last = written_on fire number c.write_place-2.new.object c.write_fire.new.object c.write_number.new.object c.in_ok-write_fire.ensures
    c.in_ok-write_number.ensures in
    let rest = written_on other (fire ++ number) c.write_place.new.object c.write_place-2.new.object c.write_number.new.object c.in_ok-write_place-2.ensures last in
    let all = written_on place (other ++ (fire ++ number)) c.in_ok-object.object c.write_place.new.object c.write_number.new.object c.in_ok-write_place.ensures rest in
    IfOk-weaker c.end.result _ _
    (λ row is. object_written (place ++ (other ++ (fire ++ number))) c.new.result.items c.in_ok-object.object c.write_number.new.object row.items
    c.new.ensures.items c.in_ok-object.ensures all is) c.end.ensures
