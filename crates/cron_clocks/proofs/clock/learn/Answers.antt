use Rattle.std.proofs.Common.{rules}
use Rattle.cron_clocks.proofs.clock.learn.Goals as goal

pub returns-then-second-lt0 : goal.returns-then-second-lt0
returns-then-second-lt0 c = search rules

pub has-requires : goal.has-requires
has-requires c = search rules

pub overflow_cast-civil : goal.overflow_cast-civil
overflow_cast-civil c = search rules

pub between_transitions-requires-clause-range : goal.between_transitions-requires-clause-range
between_transitions-requires-clause-range c = search rules

pub between_transitions-requires-clause-saving : goal.between_transitions-requires-clause-saving
between_transitions-requires-clause-saving c = search rules

pub between_transitions-requires-clause-transitions : goal.between_transitions-requires-clause-transitions
between_transitions-requires-clause-transitions c = search rules

pub between_transitions-requires-clause-low : goal.between_transitions-requires-clause-low
between_transitions-requires-clause-low c = search rules

pub between_transitions-requires-clause-high : goal.between_transitions-requires-clause-high
between_transitions-requires-clause-high c = search rules

pub rule_stretch-requires-clause-range : goal.rule_stretch-requires-clause-range
rule_stretch-requires-clause-range c = search rules

pub rule_stretch-requires-clause-alike : goal.rule_stretch-requires-clause-alike
rule_stretch-requires-clause-alike c = search rules

pub rule_stretch-requires-clause-low : goal.rule_stretch-requires-clause-low
rule_stretch-requires-clause-low c = search rules

pub rule_stretch-requires-clause-high : goal.rule_stretch-requires-clause-high
rule_stretch-requires-clause-high c = search rules

pub rule_stretch-requires-clause-narrowed : goal.rule_stretch-requires-clause-narrowed
rule_stretch-requires-clause-narrowed c = search rules

pub rule_stretch-requires-clause-told : goal.rule_stretch-requires-clause-told
rule_stretch-requires-clause-told c = search rules

pub returns-then-has : goal.returns-then-has
returns-then-has c = search rules

pub returns-else-has : goal.returns-else-has
returns-else-has c = search rules
