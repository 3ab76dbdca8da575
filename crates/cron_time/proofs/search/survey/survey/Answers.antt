use Rattle.std.proofs.Common.{◌≡◌, ◌+◌, ◌<◌, ◌^◌, pos, ℤ, FitsSigned, w64, to_z-of_z, rules, subst, ap, arith}
use Rattle.jiff.specs.Words.{plain_zone}
use Rattle.jiff_core.proofs.SignedLemmas.{signed_arith}
use Rattle.cron_units.specs.declared.way.Way.TheVariants.{Ahead}
use Rattle.cron_units.specs.Nearest.{IsNearestAt}
use Rattle.cron_time.specs.Search.{stands}
use Rattle.cron_time.proofs.Searches.AskedLemmas.{same_on}
use Rattle.cron_time.proofs.Searches.CountLemmas.{answer_second}
use Rattle.cron_time.proofs.Searches.SurveyLemmas.{IsSurveyed, survey_starts, survey_more, survey_full, survey_end, survey_bound}
use Rattle.cron_time.proofs.search.survey.survey.Goals as goal

pub loop-seconds-init : goal.loop-seconds-init
loop-seconds-init c =
    let fits : FitsSigned w64 c.args.from = search rules in
    record {
      same = record { sets = ap (λ q. q.sets) c.new-inquiry.ensures; zone = ap (λ q. q.zone) c.new-inquiry.ensures };
      few = omega arith;
      so_far = rw (to_z-of_z fits, c.new-inquiry.ensures) (survey_starts c.args.fields.now (plain_zone c.args.zone.now) c.args.from);
    }

pub search_from-requires-clause-days_room : goal.search_from-requires-clause-days_room
search_from-requires-clause-days_room c =
    let small : c.loop-seconds.seconds < 2 ^ 32 = omega (arith, c.loop-seconds-test.true, c.ranges.count.fits) in
    (survey_bound _ _ _ _ _ _ _ small c.loop-seconds.invariant.so_far).0

pub search_from-requires-clause-room : goal.search_from-requires-clause-room
search_from-requires-clause-room c =
    let small : c.loop-seconds.seconds < 2 ^ 32 = omega (arith, c.loop-seconds-test.true, c.ranges.count.fits) in
    (survey_bound _ _ _ _ _ _ _ small c.loop-seconds.invariant.so_far).1

pub loop-seconds-preserved : goal.loop-seconds-preserved
loop-seconds-preserved c =
    let s = c.args.fields.now in
    let z = plain_zone c.args.zone.now in
    let kept = c.loop-seconds.invariant in
    let searched = c.search_from.ensures in
    let fits : FitsSigned w64 c.args.from = search rules in
    let so = rw (to_z-of_z fits, c.loop-seconds.next-is) at kept.so_far in
    let found = rw (kept.same.sets, kept.same.zone, c.loop-seconds.next-is) at c.in-Some.ensures.found in
    let nearest : IsNearestAt Ahead (stands s z) c.loop-seconds.next c.in-Some.found.first.second = answer_second Ahead s z c.loop-seconds.next
    c.in-Some.found found in
    let more = survey_more s z c.args.from c.loop-seconds.next c.loop-seconds.seconds c.loop-seconds.inquiry.days c.loop-seconds.inquiry.conversions
    c.in-Some.found.first.second so nearest in
    let days = rw (kept.same.sets, c.loop-seconds.next-is, c.in-Some.is) at searched.days in
    let asked = rw (kept.same.sets, kept.same.zone, c.loop-seconds.next-is, c.in-Some.is) at searched.conversions in
    let past : FitsSigned w64 c.beyond-next.result = search rules in
    let number : pos (c.in-Some.found.first.second + 1) ≡ c.beyond-next.result = omega (arith, signed_arith, c.beyond-next.ensures, c.civil_second.ensures) in
    let P : ℤ → Type 0 = λ n. IsSurveyed s z c.args.from n (c.loop-seconds.seconds + 1) c.search_from.new.inquiry.days c.search_from.new.inquiry.conversions in
    record {
      same = same_on _ _ _ kept.same searched.same;
      few = omega (arith, c.loop-seconds-test.true);
      so_far = rw (to_z-of_z fits, to_z-of_z past) (subst P number (rw (days, asked) more));
    }

pub returns-in-None : goal.returns-in-None
returns-in-None c =
    let s = c.args.fields.now in
    let z = plain_zone c.args.zone.now in
    let kept = c.loop-seconds.invariant in
    let searched = c.search_from.ensures in
    let fits : FitsSigned w64 c.args.from = search rules in
    let so = rw (to_z-of_z fits, c.loop-seconds.next-is) at kept.so_far in
    let none = rw (kept.same.sets, kept.same.zone, c.loop-seconds.next-is) at c.in-None.ensures.found in
    let days = rw (kept.same.sets, c.loop-seconds.next-is, c.in-None.is) at searched.days in
    let asked = rw (kept.same.sets, kept.same.zone, c.loop-seconds.next-is, c.in-None.is) at searched.conversions in
    let end = survey_end s z c.args.from c.loop-seconds.next c.args.count c.loop-seconds.seconds c.loop-seconds.inquiry.days
    c.loop-seconds.inquiry.conversions c.loop-seconds-test.true so none in
    rw (c.survey_of.ensures, days, asked) (record {
      seconds = end.seconds;
      conversions = end.conversions;
      days = end.days;
    })

pub returns : goal.returns
returns c =
    let kept = c.loop-seconds.invariant in
    let fits : FitsSigned w64 c.args.from = search rules in
    let so = rw (to_z-of_z fits, c.loop-seconds.next-is) at kept.so_far in
    let all : c.loop-seconds.seconds ≡ c.args.count = omega (arith, c.loop-seconds-test.false, kept.few) in
    let end = survey_full c.args.fields.now (plain_zone c.args.zone.now) c.args.from c.loop-seconds.next c.args.count c.loop-seconds.seconds
    c.loop-seconds.inquiry.days c.loop-seconds.inquiry.conversions all so in
    rw c.survey_of-2.ensures (record { seconds = end.seconds; conversions = end.conversions; days = end.days })
