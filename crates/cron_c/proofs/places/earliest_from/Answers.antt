use Rattle.std.proofs.Common.{rules, ◌∙◌, FitsSigned, w64, to_z-of_z}
use Rattle.cron_c.proofs.EraPlaces.{earliest_is, none_from}
use Rattle.cron_c.proofs.places.earliest_from.Goals as goal

pub returns-in_default : goal.returns-in_default
returns-in_default g c =
    let fits : FitsSigned w64 c.args.second = search rules in
    let shown : FitsSigned w64 c.shown_from.result = search rules in
    none_from (g.S.CivilSeconds.has c.args.set.now) c.args.second c.shown_from.result (rw (to_z-of_z fits) at c.shown_from.ensures) (rw (to_z-of_z shown) at c.in_default.ensures.nearest)

pub returns : goal.returns
returns g c =
    let fits : FitsSigned w64 c.args.second = search rules in
    let fits_t : FitsSigned w64 c.first_instant.result = search rules in
    let shown : FitsSigned w64 c.shown_from.result = search rules in
    earliest_is (g.S.CivilSeconds.has c.args.set.now) c.args.second c.shown_from.result _ c.in-Some.next (to_z-of_z fits_t ∙ c.first_instant.ensures) (rw (to_z-of_z fits) at c.shown_from.ensures) (rw (to_z-of_z shown) at c.in-Some.ensures.nearest)
