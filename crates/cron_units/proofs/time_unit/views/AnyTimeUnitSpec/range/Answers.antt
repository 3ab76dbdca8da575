use Rattle.std.proofs.Common.{◌≡◌, ap, arith, List, ℕ, filter, length, rules}
use Rattle.cron_units.specs.Bounds.{is_within}
use Rattle.cron_units.proofs.SetLemmas.{length_filter, length_set}
use Rattle.cron_units.proofs.time_unit.views.AnyTimeUnitSpec.range.Goals as goal

pub returns-clause-countable : goal.returns-clause-countable
returns-clause-countable g c =
    let u = g.T.TimeUnitField.unit in
    let xs = g.T.TimeUnitField.members c.args.self.now in
    let kept : c.new.result ≡ filter (is_within c.args.range.0 c.args.range.1) c.iterate.result = c.new.ensures in
    omega (
      arith,
      length_filter (is_within c.args.range.0 c.args.range.1) c.iterate.result,
      length_set u xs c.state_facts.ensures,
      ap (λ (ys : List ℕ). length ys) c.iterate.ensures,
      ap (λ (ys : List ℕ). length ys) kept,
      g.met.T.TimeUnitField.is_unit.countable,
    )

pub returns-clause-members : goal.returns-clause-members
returns-clause-members c = search rules
