use Rattle.std.proofs.Common.{rules, ◌≡◌, ◌∙◌, FitsSigned, to_z-of_z, arith}
use Rattle.std.specs.Int.{w128}
use Rattle.jiff_core.proofs.SignedLemmas.{signed_casts}
use Rattle.cron_dues.proofs.DueLemmas.{as_natural}
use Rattle.cron_c.proofs.Dues.{due_is}
use Rattle.cron_c.proofs.due_item.due_of_item.Goals as goal

pub returns : goal.returns
returns c =
    let offset : c.in-Ok.offset.seconds ≡ c.args.item.offset = search rules in
    let fits : FitsSigned w128 c.nominal_second-nominal.result = search rules in
    let low = rw (to_z-of_z fits) at c.if-nominal-lt0.false in
    due_is c.fire_of_parts.result c.args.item c.in-Ok.offset _
    (rw (to_z-of_z fits) (as_natural c.nominal_second-nominal.result (omega (arith, signed_casts, low)) ∙ c.nominal_second-nominal.ensures)) offset
    c.fire_of_parts.ensures
