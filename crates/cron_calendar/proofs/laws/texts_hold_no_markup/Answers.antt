use Rattle.cron_calendar.proofs.HtmlLemmas.{no_markup}
use Rattle.cron_calendar.proofs.laws.texts_hold_no_markup.Goals as goal

pub returns : goal.returns
returns c = no_markup
