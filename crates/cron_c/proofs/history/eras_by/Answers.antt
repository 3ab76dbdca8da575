use Rattle.std.proofs.Common.{rules, ◌≡◌, pos, FitsSigned, w64, to_z-of_z}
use Rattle.std.specs.Int.{int_div_euclid}
use Rattle.cron_c.proofs.ErasBack.{below_held}
use Rattle.cron_c.proofs.history.eras_by.Goals as goal

pub returns-clause-below : goal.returns-clause-below
returns-clause-below c = λ s.
    let fits : FitsSigned w64 c.floor_second.result = search rules in
    let floor : c.floor_second.result ≡ int_div_euclid c.args.now.nanosecond (pos 1_000_000_000) = rw c.to_plain.ensures at c.floor_second.ensures in
    let ahead = rw (to_z-of_z fits) at c.place_of-held.ensures.lasts in
    below_held s c.args.eras.now c.args.now.nanosecond c.floor_second.result c.place_of-held.result c.min.result floor ahead c.min.ensures
