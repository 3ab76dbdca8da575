use Rattle.cron_clocks.proofs.RuleAgreement.{apart_agree}
use Rattle.cron_clocks.proofs.laws.apart_rules_agree.Goals as goal

pub returns : goal.returns
returns c = apart_agree
