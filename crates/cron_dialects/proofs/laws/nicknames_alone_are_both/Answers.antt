use Rattle.cron_dialects.proofs.LawLemmas.{meanings_agree, nicknames_alone}
use Rattle.cron_dialects.proofs.laws.nicknames_alone_are_both.Goals as goal

pub returns-clause-nickname : goal.returns-clause-nickname
returns-clause-nickname c = nicknames_alone

pub returns-clause-same : goal.returns-clause-same
returns-clause-same c = meanings_agree
