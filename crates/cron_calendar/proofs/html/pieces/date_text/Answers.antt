use Rattle.std.proofs.Common.{rules}
use Rattle.cron_calendar.specs.Html.{day_text}
use Rattle.cron_calendar.proofs.html.pieces.date_text.Goals as goal

pub returns : goal.returns
unfolding day_text
returns c = search rules
