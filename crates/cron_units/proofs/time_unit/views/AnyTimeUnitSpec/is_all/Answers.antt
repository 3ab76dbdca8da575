use Rattle.std.proofs.Common.{◌≡◌, ◌+◌, ◌-◌, ap, arith, List, ℕ, length}
use Rattle.std.proofs.lemmas.Bool.{eqb-true, eq-eqb}
use Rattle.cron_units.proofs.SetLemmas.{full_set, length_whole}
use Rattle.cron_units.proofs.time_unit.views.AnyTimeUnitSpec.is_all.Goals as goal

pub returns : goal.returns
returns g c =
    let u = g.T.TimeUnitField.unit in
    let xs = g.T.TimeUnitField.members c.args.self.now in
    let least = c.inclusive_min.result in
    let greatest = c.inclusive_max.result in
    let ordered = g.met.T.TimeUnitField.is_unit.ordered in
    let counted : c.len.result ≡ length xs = c.len.ensures in (
      λ t. full_set u xs c.state_facts.ensures (omega (arith, eqb-true (greatest - least + 1) c.len.result t)),
      λ e. eq-eqb (greatest - least + 1) c.len.result (omega (arith, ap (λ (ys : List ℕ). length ys) e, length_whole u)),
    )
