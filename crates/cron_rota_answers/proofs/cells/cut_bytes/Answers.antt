use Rattle.std.proofs.Common.{sym, arith, length-drop}
use Rattle.std.proofs.lemmas.List.{length-take}
use Rattle.cron_rota_answers.proofs.CellLemmas.{parts-cut, parts-missed}
use Rattle.cron_rota_answers.proofs.cells.cut_bytes.Goals as goal

pub returns-in-None-clause-cut : goal.returns-in-None-clause-cut
returns-in-None-clause-cut c = parts-missed c.args.at c.args.bytes.now (sym c.in-None.ensures.place)

pub returns-in-Some-clause-cut : goal.returns-in-Some-clause-cut
returns-in-Some-clause-cut c = parts-cut c.args.at c.in-Some.place c.args.bytes.now c.in-Some.ensures.place

pub returns-in-Some-clause-shorter : goal.returns-in-Some-clause-shorter
returns-in-Some-clause-shorter c = simp (length-take, length-drop) (omega (arith, c.in-Some.ensures.bound))
