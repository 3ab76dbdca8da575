use Rattle.std.proofs.Common.{FitsSigned, w64, to_z-of_z, rules, sym, ◌∙◌}
use Rattle.jiff.specs.Words.{plain_zone}
use Rattle.cron_time.proofs.Walks.RestLemmas.{start_stop, start_ends}
use Rattle.cron_time.proofs.Walks.StepLemmas.{reached}
use Rattle.cron_time.proofs.walk.step.from_bound.Goals as goal

pub returns-in-Some-clause-leads : goal.returns-in-Some-clause-leads
returns-in-Some-clause-leads c =
    let s = c.args.fields.now in
    let z = plain_zone c.args.zone.now in
    let fits : FitsSigned w64 c.in-Some.from = search rules in
    let found = rw (to_z-of_z fits) at c.search_onward-reached.ensures.found in
    let at = sym c.bound.ensures.bound ∙ c.in-Some.is in
    rw c.arrive.ensures.stand (start_stop c.args.way s z _ c.in-Some.from _ (rw c.from_plain.ensures at at)
    (reached c.args.way s z c.in-Some.from c.search_onward-reached.result found))

pub returns-in-None-clause-leads : goal.returns-in-None-clause-leads
returns-in-None-clause-leads c =
    let s = c.args.fields.now in
    let z = plain_zone c.args.zone.now in
    let at = sym c.bound.ensures.bound ∙ c.in-None.is in
    rw c.arrive-in-None.ensures.stand (start_ends c.args.way s z _ (rw c.from_plain.ensures at at))

pub from_plain-requires : goal.from_plain-requires
from_plain-requires c = search rules

pub bound-requires : goal.bound-requires
bound-requires c = search rules

pub search_onward-reached-requires-clause-days : goal.search_onward-reached-requires-clause-days
search_onward-reached-requires-clause-days c = search rules

pub search_onward-reached-requires-clause-known : goal.search_onward-reached-requires-clause-known
search_onward-reached-requires-clause-known c = search rules

pub arrive-requires : goal.arrive-requires
arrive-requires c = search rules

pub arrive-requires-in-None : goal.arrive-requires-in-None
arrive-requires-in-None c = search rules

pub returns-in-Some-clause-known : goal.returns-in-Some-clause-known
returns-in-Some-clause-known c = search rules

pub returns-in-None-clause-known : goal.returns-in-None-clause-known
returns-in-None-clause-known c = search rules
