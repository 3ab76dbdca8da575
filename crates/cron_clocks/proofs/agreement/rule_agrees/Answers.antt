use Rattle.cron_clocks.proofs.RuleAgreement.{apart_agree, plain_agree}
use Rattle.cron_clocks.proofs.agreement.rule_agrees.Goals as goal

pub returns-in-Some-clause-agree : goal.returns-in-Some-clause-agree
returns-in-Some-clause-agree c = λ apart. apart_agree c.args.rule c.in-Some.dst c.in-Some.is (c.transitions_apart.ensures apart)

pub returns-in-None-clause-agree : goal.returns-in-None-clause-agree
returns-in-None-clause-agree c = λ _. plain_agree c.args.rule c.in-None.is
