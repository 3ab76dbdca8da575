use Rattle.std.proofs.Common.{map, take, subst}
use Rattle.std.specs.Prelude.{Option}
use Rattle.cron_tab_comparing.specs.Changes.{TellsOfOld}
use Rattle.cron_tab_comparing.specs.Entries.{Entry, view}
use Rattle.cron_replies.specs.Inner.Telling.{AppendsTold}
use Rattle.cron_tab_comparing.proofs.TellLemmas.{front_on, left_from, none_left, told_all, told_on}
use Rattle.cron_tab_comparing.proofs.telling.tell_old.Goals as goal

pub loop-place-preserved : goal.loop-place-preserved
loop-place-preserved c =
    let entries = c.args.entries.now in
    let place = c.loop-place.place in
    let one = c.index-entries-place.result in
    told_on c.args.form (map view c.args.others.now) (map view entries) (map view (take place entries)) _ _ _ (view one) _ _ _ c.loop-place.invariant
    (left_from view entries place one c.loop-place-test.true c.index-entries-place.is)
    (front_on view entries place one c.loop-place-test.true c.index-entries-place.is)
    (subst (λ (other : Option Entry). AppendsTold (TellsOfOld c.args.form (view one) other) c.loop-place.report.items c.tell_of_old.new.report.items) c.other_of-other.ensures
    c.in_ok-tell_of_old.ensures)

pub returns : goal.returns
returns c =
    told_all c.args.form (map view c.args.others.now) (map view c.args.entries.now) _ _ _ _ c.loop-place.invariant
    (none_left view c.args.entries.now c.loop-place.place c.loop-place-test.false)
