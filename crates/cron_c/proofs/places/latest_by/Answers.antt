use Rattle.std.proofs.Common.{rules, ◌∙◌, FitsSigned, w64, to_z-of_z}
use Rattle.cron_c.proofs.EraPlaces.{latest_is, none_by}
use Rattle.cron_c.proofs.places.latest_by.Goals as goal

pub returns-in_default : goal.returns-in_default
returns-in_default g c =
    let fits : FitsSigned w64 c.args.second = search rules in
    let shown : FitsSigned w64 c.shown_by.result = search rules in
    none_by (g.S.CivilSeconds.has c.args.set.now) c.args.second c.shown_by.result (rw (to_z-of_z fits) at c.shown_by.ensures) (rw (to_z-of_z shown) at c.in_default.ensures.nearest)

pub returns : goal.returns
returns g c =
    let fits : FitsSigned w64 c.args.second = search rules in
    let fits_t : FitsSigned w64 c.last_instant.result = search rules in
    let shown : FitsSigned w64 c.shown_by.result = search rules in
    latest_is (g.S.CivilSeconds.has c.args.set.now) c.args.second c.shown_by.result _ c.in-Some.next (to_z-of_z fits_t ∙ c.last_instant.ensures) (rw (to_z-of_z fits) at c.shown_by.ensures) (rw (to_z-of_z shown) at c.in-Some.ensures.nearest)
