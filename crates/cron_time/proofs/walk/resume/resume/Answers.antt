use Rattle.std.proofs.Common.{◌≡◌, ◌<◌, Some, ap, ◌∙◌, arith}
use Rattle.std.proofs.lemmas.Int.{ints}
use Rattle.jiff_core.proofs.SignedLemmas.{signed_arith}
use Rattle.jiff.specs.Words.{plain_zone}
use Rattle.cron_moments.specs.Civil.{seconds_in_range}
use Rattle.cron_moments.specs.Found.{found_items}
use Rattle.cron_time.specs.Walk.Inner.Placed.{Knows, reading_of}
use Rattle.cron_time.specs.Search.{items_of}
use Rattle.cron_time.proofs.Walks.ResumeLemmas.{absent_past, absent_among, absent_nowhere, kept_of, at_item}
use Rattle.cron_time.proofs.walk.resume.resume.Goals as goal

pub returns-then-second-ge-SECONDS : goal.returns-then-second-ge-SECONDS
returns-then-second-ge-SECONDS c = absent_past _ _ _ (λ below. omega (arith, ints, signed_arith, c.civil_second-second.ensures, c.if-second-ge-SECONDS.true))

pub returns-in_default : goal.returns-in_default
returns-in_default c =
    let same = ap (items_of c.args.fields.now (plain_zone c.args.zone.now)) c.civil_second-second.ensures in
    absent_nowhere _ _ c.args.moment.now (c.in_default.ensures ∙ same)

pub returns-in_default-is_later : goal.returns-in_default-is_later
returns-in_default-is_later c =
    let same = ap (items_of c.args.fields.now (plain_zone c.args.zone.now)) c.civil_second-second.ensures in
    absent_among _ _ c.args.moment.now (found_items c.in-Some.found) (c.in-Some.ensures ∙ same) c.in_default-is_later.ensures

pub stand_at-requires : goal.stand_at-requires
stand_at-requires c = (c.args.moment.now, c.in-Some-is_later.ensures)

pub returns : goal.returns
returns c =
    let high : c.args.moment.now.second < seconds_in_range = omega (arith, ints, signed_arith, c.civil_second-second.ensures, c.if-second-ge-SECONDS.false) in
    let is : reading_of c.in-Some.found c.in-Some-is_later.later ≡ Some c.args.moment.now = c.in-Some-is_later.ensures in
    let same = ap (items_of c.args.fields.now (plain_zone c.args.zone.now)) c.civil_second-second.ensures in
    let kept = kept_of _ _ c.args.moment.now c.in-Some.found c.in-Some-is_later.later high (c.in-Some.ensures ∙ same) is in
    let s = c.args.fields.now in
    let z = plain_zone c.args.zone.now in
    let begun = c.starting.ensures.known s z in
    let known : Knows s z c.stand_at.result = (rw c.stand_at.ensures.days begun.0, rw c.stand_at.ensures.stretch begun.1) in
    rw c.stand_at.ensures.stand (kept, known, at_item _ _ c.args.moment.now c.in-Some.found c.in-Some-is_later.later kept is)
