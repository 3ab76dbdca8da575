use Rattle.std.proofs.Common.{map, take}
use Rattle.cron_tab_comparing.specs.Entries.{view}
use Rattle.cron_tab_comparing.proofs.TellLemmas.{front_on, left_from, none_left}
use Rattle.cron_tab_comparing.proofs.TwinLemmas.{twin_on, twins_all}
use Rattle.cron_tab_comparing.proofs.twins.twins_among.Goals as goal

pub loop-place-preserved : goal.loop-place-preserved
loop-place-preserved c =
    let entries = c.args.entries.now in
    let place = c.loop-place.place in
    let one = c.index-entries-place.result in
    twin_on (map view entries) (map view (take place entries)) _ _ _ (view one) _ _ _ c.loop-place.invariant
    (left_from view entries place one c.loop-place-test.true c.index-entries-place.is)
    (front_on view entries place one c.loop-place-test.true c.index-entries-place.is)
    c.twin_among-above.ensures c.in_ok-push_twin.ensures

pub returns : goal.returns
returns c =
    twins_all (map view c.args.entries.now) _ _ _ c.loop-place.invariant
    (none_left view c.args.entries.now c.loop-place.place c.loop-place-test.false)
