use Rattle.cron_dues.proofs.ReaderLemmas.{texts-differ}
use Rattle.cron_dues.proofs.laws.texts_differ.Goals as goal

pub returns : goal.returns
returns c = texts-differ
