use Rattle.std.proofs.lemmas.Option.{slice_get-get_or}
use Rattle.jiff.specs.Words.{plain_zone}
use Rattle.cron_c.proofs.Eras.{first_never}
use Rattle.cron_c.proofs.HistoryFilling.{era_empty, era_says}
use Rattle.cron_c.proofs.history_runs.fill_era.Goals as goal

pub returns-in_default-begin_in : goal.returns-in_default-begin_in
returns-in_default-begin_in g c =
    let none = first_never (g.S.CivilSeconds.has c.args.set.now) c.args.eras.now c.args.at _ c.args.begin.now (slice_get-get_or c.args.eras.now c.args.at _ c.requires)
    c.in_default-begin_in.ensures in
    era_empty (g.S.CivilSeconds.has c.args.set.now) c.args.eras.now c.args.at c.args.begin.now c.args.now.nanosecond c.args.items.now (λ r item beyond by. none r (item, beyond))

pub returns-in_default-until_in : goal.returns-in_default-until_in
returns-in_default-until_in g c =
    era_empty (g.S.CivilSeconds.has c.args.set.now) c.args.eras.now c.args.at c.args.begin.now c.args.now.nanosecond c.args.items.now (λ r item beyond by.
    let (e, here, of, still) = item in
    c.in_default-until_in.ensures r by still)

pub returns : goal.returns
returns g c =
    era_says (g.S.CivilSeconds.has c.args.set.now) c.args.eras.now c.args.at _ (plain_zone c.in-Some.zone) c.args.begin.now c.in-Some-begin_in.there c.args.now.nanosecond
    c.in-Some-until_in.until.nanosecond (slice_get-get_or c.args.eras.now c.args.at _ c.requires) c.in-Some.ensures c.in-Some-begin_in.ensures
    c.in-Some-until_in.ensures c.args.items.now c.list_from.new.items c.list_from.new.count c.list_from.result c.list_from.ensures
