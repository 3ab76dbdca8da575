use Rattle.std.proofs.Common.{rules, arith, FitsSigned, w64, to_z-of_z}
use Rattle.cron_c.proofs.EraPlaces.{never_past, past_place}
use Rattle.cron_c.proofs.places.place_past.Goals as goal

pub returns-in-Some-clause-passed : goal.returns-in-Some-clause-passed
returns-in-Some-clause-passed g c = λ h i r less item.
    let fits : FitsSigned w64 c.in-Some.second = search rules in
    let starts : FitsSigned w64 c.starts_at.result = search rules in
    let begun = rw (to_z-of_z fits) at c.place_of.ensures.begun in
    let past = past_place (g.S.CivilSeconds.has c.args.set.now) c.args.eras.now c.args.at c.place_of.result c.starts_at.result c.in-Some.second c.starts_at.ensures
    (rw (to_z-of_z starts) at c.in-Some.ensures) begun h i r less item in
    omega (arith, c.max.ensures, past, less)

pub returns-in-None-clause-passed : goal.returns-in-None-clause-passed
returns-in-None-clause-passed g c = λ h i r less item.
    let starts : FitsSigned w64 c.starts_at.result = search rules in
    absurd (never_past (g.S.CivilSeconds.has c.args.set.now) c.args.eras.now c.args.at c.starts_at.result c.starts_at.ensures (rw (to_z-of_z starts) at c.in-None.ensures) h i r less item)
