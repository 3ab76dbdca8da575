use Rattle.std.proofs.Common.{◌<◌, inl, rules}
use Rattle.cron_moments.specs.Civil.{seconds_in_range}
use Rattle.cron_answers.proofs.BackLemmas.{just_before-due}
use Rattle.cron_answers.proofs.span.last_before.Goals as goal

pub returns : goal.returns
returns c =
    let below : c.args.second < seconds_in_range = search rules in
    let before = just_before-due c.due_of.result c.timestamp.result.nanosecond c.just_before.result.nanosecond c.timestamp.ensures c.just_before.ensures in
    inl (below, rw c.due_of.ensures at before)
