use Rattle.cron_words.proofs.SentencesApart.{sentences_differ}
use Rattle.cron_words.proofs.laws.sentences_differ.Goals as goal

pub returns : goal.returns
returns c = sentences_differ
