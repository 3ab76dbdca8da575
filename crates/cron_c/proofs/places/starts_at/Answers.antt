use Rattle.std.proofs.Common.{◌∙◌, Some, rules, sym, ap, arith}
use Rattle.std.proofs.lemmas.Option.{slice_get-get_or}
use Rattle.cron_c.proofs.places.starts_at.Goals as goal

pub returns-in-Some : goal.returns-in-Some
returns-in-Some c =
    let looked = c.in-Some.ensures.lookup in
    let here = slice_get-get_or c.args.eras.now c.args.at c.in-Some.era.now looked.3.0 ∙ ap Some (sym looked.1) in
    (c.in-Some.era.now, here, search rules)

pub returns-in-None : goal.returns-in-None
returns-in-None c = let looked = c.in-None.ensures.lookup in absurd (omega (arith, looked.3, c.requires))
