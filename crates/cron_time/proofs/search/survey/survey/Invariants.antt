use Rattle.std.proofs.Common.{◌≤◌, ◌-◌}
use Rattle.cron_time.specs.Search.Inner.Inquired.{unasked, IsSame}
use Rattle.cron_time.proofs.Searches.SurveyLemmas.{IsSurveyed}
use Rattle.jiff.specs.Words.{plain_zone}
use Rattle.cron_time.proofs.search.survey.survey.Given as goal

abbrev pub invariant-loop-seconds : goal.invariant-loop-seconds
invariant-loop-seconds l = record {
  same : IsSame (unasked l.fields (plain_zone l.fn.zone)) l.inquiry;
  few : l.seconds ≤ l.count;
  so_far : IsSurveyed l.fields (plain_zone l.fn.zone) l.from l.next l.seconds l.inquiry.days l.inquiry.conversions;
}

abbrev pub decreases-loop-seconds : goal.decreases-loop-seconds
decreases-loop-seconds l = l.count - l.seconds
