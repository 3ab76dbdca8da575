use Rattle.std.proofs.Common.{◌++◌, List, codes, subst}
use Rattle.std.proofs.lemmas.Result.{IfOk-weaker}
use Rattle.cron_agenda.specs.declared.fire.EntryFire.{EntryFire}
use Rattle.cron_tab_rows.proofs.ObjectLemmas.{object_written, written_on}
use Rattle.cron_tab_rows.specs.Members.{number_member, place_members, task_members}
use Rattle.cron_tab_rows.specs.Writing.{Writes}
use Rattle.cron_tab_missed.specs.Entries.{ends_in, view}
use Rattle.cron_tab_missed.specs.Rows.{ends_members}
use Rattle.cron_tab_missed.proofs.rows.json_row.Goals as goal

pub returns : goal.returns
returns c =
    let entry = view c.args.entry.now in
    let count = number_member (codes "missed") entry.missed.count in
    let ends = ends_members entry.missed.ends in
    let place = place_members (codes "line") (codes "file") entry.source.file entry.line in
    let task = task_members entry.source in
    let of_ends = subst (λ (es : List EntryFire). Writes (ends_members (ends_in es)) c.write_number.new.object c.write_ends.new.object) c.as_slice.ensures.value
    c.in_ok-write_ends.ensures in
    let last = written_on place task c.write_ends.new.object c.write_place.new.object c.write_task.new.object c.in_ok-write_place.ensures c.in_ok-write_task.ensures in
    let rest = written_on ends (place ++ task) c.write_number.new.object c.write_ends.new.object c.write_task.new.object of_ends last in
    let all = written_on count (ends ++ (place ++ task)) c.in_ok-object.object c.write_number.new.object c.write_task.new.object c.in_ok-write_number.ensures rest in
    IfOk-weaker c.end.result _ _
    (λ row is. object_written (count ++ (ends ++ (place ++ task))) c.new.result.items c.in_ok-object.object c.write_task.new.object row.items
    c.new.ensures.items c.in_ok-object.ensures all is) c.end.ensures
