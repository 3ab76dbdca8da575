use Rattle.std.proofs.Common.{◌≡◌, ◌+◌, ◌∙◌, Some, sym, ap}
use Rattle.std.specs.Prelude.{slice_get}
use Rattle.std.proofs.lemmas.Option.{slice_get-get_or, slice_get_past}
use Rattle.cron_c.proofs.ErasBack.{ends_before, ends_not}
use Rattle.cron_c.proofs.history.until_in.Goals as goal

pub returns-in-Some : goal.returns-in-Some
returns-in-Some c =
    let looked = c.in-Some.ensures.lookup in
    let next : slice_get c.args.eras.now (c.args.at + 1) ≡ Some c.in-Some.next.now =
    slice_get-get_or c.args.eras.now (c.args.at + 1) c.in-Some.next.now looked.3.0 ∙ ap Some (sym looked.1) in
    ends_before c.args.eras.now c.args.at c.in-Some.next.now c.args.now.nanosecond c.until_before.result next c.until_before.ensures

pub returns-in-None : goal.returns-in-None
returns-in-None c =
    let looked = c.in-None.ensures.lookup in
    let none = slice_get_past c.args.eras.now (c.args.at + 1) looked.3 in
    ends_not c.args.eras.now c.args.at c.args.now.nanosecond none
