use Rattle.std.proofs.Common.{ap, arith, List, ℕ, length, rules}
use Rattle.cron_units.proofs.SetLemmas.{length_set}
use Rattle.cron_units.proofs.time_unit.views.AnyTimeUnitSpec.iter.Goals as goal

pub returns-clause-countable : goal.returns-clause-countable
returns-clause-countable g c =
    let u = g.T.TimeUnitField.unit in
    let xs = g.T.TimeUnitField.members c.args.self.now in
    omega (arith, length_set u xs c.state_facts.ensures, ap (λ (ys : List ℕ). length ys) c.iterate.ensures, g.met.T.TimeUnitField.is_unit.countable)

pub returns-clause-members : goal.returns-clause-members
returns-clause-members c = search rules
