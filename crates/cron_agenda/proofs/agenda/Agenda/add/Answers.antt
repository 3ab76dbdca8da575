use Rattle.std.proofs.Common.{◌≡◌, Some, ap, ◌∙◌, map}
use Rattle.std.specs.Prelude.{slice_get}
use Rattle.std.specs.Option.{option_map}
use Rattle.std.proofs.lemmas.Option.{slice_get-map}
use Rattle.jiff.specs.Words.{plain_zone}
use Rattle.cron_agenda.specs.Fires.{fires_after}
use Rattle.cron_agenda.proofs.ListLemmas.{get_there}
use Rattle.cron_agenda.proofs.EntryLemmas.{added}
use Rattle.cron_agenda.proofs.agenda.Agenda.add.Goals as goal

pub returns : goal.returns
returns g c =
    let lent : slice_get (map plain_zone c.args.zones.now) c.args.zone ≡ Some (plain_zone c.in-Some.lent.now) =
    slice_get-map plain_zone c.args.zones.now c.args.zone
    ∙ ap (option_map plain_zone) (get_there c.args.zones.now c.args.zone c.in-Some.lent.now c.in-Some.ensures.lookup.3.0 c.in-Some.ensures.lookup.3.1) in
    added g.T.CivilSeconds.has (map plain_zone c.args.zones.now) c.args.table c.args.zone (λ z. fires_after (g.T.CivilSeconds.has c.args.table) z c.args.changes c.args.start.nanosecond) c.args.self.now c.insert.result c.insert.new.self
    (plain_zone c.in-Some.lent.now) c.in-Some-first_after.fire lent c.in-Some-first_after.ensures.0 c.insert.ensures
