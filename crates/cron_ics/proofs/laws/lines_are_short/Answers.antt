use Rattle.cron_ics.proofs.PieceLaws.{is_folded}
use Rattle.cron_ics.proofs.SummaryLaws.{are_lines}
use Rattle.cron_ics.proofs.SpanLines.{are_span_lines}
use Rattle.cron_ics.proofs.laws.lines_are_short.Goals as goal

pub returns-clause-folded : goal.returns-clause-folded
returns-clause-folded c = is_folded

pub returns-clause-summaries : goal.returns-clause-summaries
returns-clause-summaries c = are_lines

pub returns-clause-spans : goal.returns-clause-spans
returns-clause-spans c = are_span_lines
