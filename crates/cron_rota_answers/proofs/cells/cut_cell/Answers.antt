use Rattle.std.proofs.Common.{Some, None}
use Rattle.std.proofs.lemmas.Str.Pattern.{split_once_first}
use Rattle.cron_rota_answers.proofs.CellLemmas.{cells-at, cells-none}
use Rattle.cron_rota_answers.proofs.cells.cut_cell.Goals as goal

pub returns-in-Some : goal.returns-in-Some
returns-in-Some c =
    let (within, front, back) = split_once_first c.args.at c.args.text.now (Some (c.in-Some.cell, c.in-Some.rest)) c.in-Some.ensures.cases c.requires in
    cells-at c.args.at c.args.text.now c.in-Some.cell.now c.in-Some.rest.now c.trim.result.now within front back c.trim.ensures.trim

pub returns-in-None : goal.returns-in-None
returns-in-None c =
    let none = split_once_first c.args.at c.args.text.now None c.in-None.ensures.cases c.requires in
    cells-none c.args.at c.args.text.now c.trim-in-None.result.now none c.trim-in-None.ensures.trim
