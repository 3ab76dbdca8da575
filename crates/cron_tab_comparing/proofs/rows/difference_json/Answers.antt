use Rattle.std.proofs.Common.{◌≡◌, ◌++◌, ℕ, List, codes, subst, ◌∙◌}
use Rattle.std.proofs.lemmas.Result.{IfOk-weaker}
use Rattle.jiff.specs.Names.{iso_datetime_text}
use Rattle.cron_moments.specs.Civil.{civil}
use Rattle.cron_tab_rows.proofs.ObjectLemmas.{object_written, written_on}
use Rattle.cron_tab_rows.specs.Members.{number_member, string_member}
use Rattle.cron_tab_rows.specs.Writing.{Writes}
use Rattle.cron_tab_comparing.specs.Entries.{view}
use Rattle.cron_tab_comparing.proofs.rows.difference_json.Goals as goal

pub returns : goal.returns
returns c =
    let change = string_member (codes "change") (codes "other") in
    let line = number_member (codes "line") (view c.args.one.now).line in
    let other = number_member (codes "other_line") (view c.args.other.now).line in
    let text = iso_datetime_text (civil c.args.second) in
    let same : c.as_str.result.now ≡ text = c.as_str.ensures.value ∙ c.in_ok-at.ensures in
    let at = string_member (codes "at") text in
    let of_at = subst (λ (t : List ℕ). Writes (string_member (codes "at") t) c.write_number-2.new.object c.write_string-2.new.object) same
    c.in_ok-write_string-2.ensures in
    let last = written_on other at c.write_number.new.object c.write_number-2.new.object c.write_string-2.new.object c.in_ok-write_number-2.ensures of_at in
    let rest = written_on line (other ++ at) c.write_string.new.object c.write_number.new.object c.write_string-2.new.object c.in_ok-write_number.ensures last in
    let all = written_on change (line ++ (other ++ at)) c.in_ok-object.object c.write_string.new.object c.write_string-2.new.object c.in_ok-write_string.ensures rest in
    IfOk-weaker c.end.result _ _
    (λ row is. object_written (change ++ (line ++ (other ++ at))) c.new.result.items c.in_ok-object.object c.write_string-2.new.object row.items
    c.new.ensures.items c.in_ok-object.ensures all is) c.end.ensures
