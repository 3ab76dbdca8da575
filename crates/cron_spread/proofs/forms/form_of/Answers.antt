use Rattle.std.proofs.Common.{rules}
use Rattle.cron_spread.specs.Forms.{form_of}
use Rattle.cron_spread.proofs.forms.form_of.Goals as goal

pub returns-in-Some-clause-value : goal.returns-in-Some-clause-value
unfolding form_of
returns-in-Some-clause-value c = search rules

pub returns-in-Some-hashed-clause-value : goal.returns-in-Some-hashed-clause-value
unfolding form_of
returns-in-Some-hashed-clause-value c = search rules

pub returns-in-None-clause-value : goal.returns-in-None-clause-value
unfolding form_of
returns-in-None-clause-value c = search rules
