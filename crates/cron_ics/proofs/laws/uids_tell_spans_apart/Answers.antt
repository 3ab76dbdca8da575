use Rattle.cron_ics.proofs.SpanLaws.{tell_apart}
use Rattle.cron_ics.proofs.laws.uids_tell_spans_apart.Goals as goal

pub returns : goal.returns
returns c = tell_apart
