use Rattle.std.proofs.Common.{rules, sym, ◌∙◌, FitsSigned, w64, to_z-of_z}
use Rattle.std.proofs.lemmas.Option.{slice_get-get_or}
use Rattle.jiff.specs.Words.{plain_zone}
use Rattle.cron_c.proofs.Eras.{first_never, found_here, found_late, none_found}
use Rattle.cron_c.proofs.history.first_in_era.Goals as goal

pub returns-in_default : goal.returns-in_default
returns-in_default g c =
    first_never (g.S.CivilSeconds.has c.args.set.now) c.args.eras.now c.args.at _ c.args.begin.now (slice_get-get_or c.args.eras.now c.args.at _ c.requires.within)
    c.in_default.ensures

pub returns-in_default-first_of_zone : goal.returns-in_default-first_of_zone
returns-in_default-first_of_zone g c =
    none_found (g.S.CivilSeconds.has c.args.set.now) c.args.eras.now c.args.at _ (plain_zone c.args.zone.now) c.args.begin.now c.in-Some.there
    (slice_get-get_or c.args.eras.now c.args.at _ c.requires.within) c.requires.zone c.in-Some.ensures c.in_default-first_of_zone.ensures

pub returns-then-has_come : goal.returns-then-has_come
returns-then-has_come g c =
    let fits : FitsSigned w64 c.instant_of.result = search rules in
    let asked = rw (to_z-of_z fits, c.instant_of.ensures.value) at c.has_come.ensures in
    found_late (g.S.CivilSeconds.has c.args.set.now) c.args.eras.now c.args.at _ (plain_zone c.args.zone.now) c.args.begin.now c.in-Some.there
    (slice_get-get_or c.args.eras.now c.args.at _ c.requires.within) c.requires.zone c.in-Some.ensures c.in-Some-first_of_zone.found
    c.in-Some-first_of_zone.ensures (sym asked ∙ c.if-has_come.true)

pub returns : goal.returns
returns g c =
    let fits : FitsSigned w64 c.instant_of.result = search rules in
    let asked = rw (to_z-of_z fits, c.instant_of.ensures.value) at c.has_come.ensures in
    found_here (g.S.CivilSeconds.has c.args.set.now) c.args.eras.now c.args.at _ (plain_zone c.args.zone.now) c.args.begin.now c.in-Some.there
    (slice_get-get_or c.args.eras.now c.args.at _ c.requires.within) c.requires.zone c.in-Some.ensures c.in-Some-first_of_zone.found
    c.in-Some-first_of_zone.ensures (sym asked ∙ c.if-has_come.false)
