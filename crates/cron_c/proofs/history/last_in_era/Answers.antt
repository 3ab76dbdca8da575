use Rattle.std.proofs.Common.{rules, sym, ◌∙◌, FitsSigned, w64, to_z-of_z}
use Rattle.jiff.specs.Words.{plain_zone}
use Rattle.cron_c.proofs.ErasBack.{found_early, found_here, never_by, none_found}
use Rattle.cron_c.proofs.history.last_in_era.Goals as goal

pub returns-in_default : goal.returns-in_default
returns-in_default g c = never_by (g.S.CivilSeconds.has c.args.set.now) c.args.eras.now c.args.at c.args.now.nanosecond c.in_default.ensures

pub returns-in_default-last_by : goal.returns-in_default-last_by
returns-in_default-last_by g c =
    let (e, here, of) = c.requires.zone in
    none_found (g.S.CivilSeconds.has c.args.set.now) c.args.eras.now c.args.at e (plain_zone c.args.zone.now) c.args.now.nanosecond c.in-Some.until.nanosecond here
    c.requires.zone c.in-Some.ensures c.in_default-last_by.ensures

pub returns-then-not-has_come : goal.returns-then-not-has_come
returns-then-not-has_come g c =
    let (e, here, of) = c.requires.zone in
    let fits : FitsSigned w64 c.instant_of.result = search rules in
    let asked = rw (to_z-of_z fits, c.instant_of.ensures.value) at c.has_come.ensures in
    found_early (g.S.CivilSeconds.has c.args.set.now) c.args.eras.now c.args.at e (plain_zone c.args.zone.now) c.args.now.nanosecond c.in-Some.until.nanosecond here
    c.requires.zone c.in-Some.ensures c.in-Some-last_by.found c.in-Some-last_by.ensures (sym asked ∙ c.if-not-has_come.true)

pub returns : goal.returns
returns g c =
    let (e, here, of) = c.requires.zone in
    let fits : FitsSigned w64 c.instant_of.result = search rules in
    let asked = rw (to_z-of_z fits, c.instant_of.ensures.value) at c.has_come.ensures in
    found_here (g.S.CivilSeconds.has c.args.set.now) c.args.eras.now c.args.at e (plain_zone c.args.zone.now) c.args.now.nanosecond c.in-Some.until.nanosecond here
    c.requires.zone c.in-Some.ensures c.in-Some-last_by.found c.in-Some-last_by.ensures (sym asked ∙ c.if-not-has_come.false)
