use Rattle.std.proofs.Common.{refl}
use Rattle.jiff.specs.Words.{plain_zone}
use Rattle.cron_time.specs.Walk.Inner.Placed.{stand_of}
use Rattle.cron_time.proofs.Walks.ResumeLemmas.{absent_past}
use Rattle.cron_c.specs.Structs.{sets_of}
use Rattle.cron_c.proofs.Filling.{listed_on}
use Rattle.cron_c.proofs.Items.{absent_of, absent_item}
use Rattle.cron_c.proofs.listing.list_on.Goals as goal

pub returns-in_default-moment_of : goal.returns-in_default-moment_of
returns-in_default-moment_of c =
    let zone = plain_zone c.in-Some.zone in
    (zone, c.in-Some.ensures, λ r is. absent_past (sets_of c.args.schedule.now) zone r (λ high. c.in_default-moment_of.ensures r is high), refl, refl)

pub returns-in_default-resume : goal.returns-in_default-resume
returns-in_default-resume c =
    let zone = plain_zone c.in-Some.zone in
    let given = c.in-Some-moment_of.given in
    let absent = absent_of c.fields_of-fields.result (sets_of c.args.schedule.now) zone given c.fields_of-fields.ensures c.in_default-resume.ensures in
    let is_given = c.in-Some-moment_of.ensures.0 in
    (zone, c.in-Some.ensures, λ r is. absent_item (sets_of c.args.schedule.now) zone given r c.args.item.now is_given absent is, refl, refl)

pub returns : goal.returns
returns c =
    let zone = plain_zone c.in-Some.zone in
    let (walk, resumed, listed) = listed_on c.args.way (sets_of c.args.schedule.now) c.fields_of-fields.result zone c.in-Some-moment_of.given
    (stand_of c.in-Some-resume.from) c.args.items.now c.fill.new.items c.fill.result c.fields_of-fields.ensures c.in-Some-resume.ensures.2 c.fill.ensures in
    (zone, walk, c.in-Some.ensures, (c.in-Some-moment_of.given, c.in-Some-moment_of.ensures.0, resumed), listed)
