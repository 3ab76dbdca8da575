use Rattle.cron_words.proofs.SentencesApart.{forms_are_meant}
use Rattle.cron_words.proofs.laws.forms_are_meant.Goals as goal

pub returns : goal.returns
returns c = forms_are_meant
