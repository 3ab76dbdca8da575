use Rattle.std.proofs.Common.{◌≡◌, ◌-◌, length, take, drop, arith}
use Rattle.std.proofs.lemmas.List.{length-drop, take_all}
use Rattle.cron_tab_lines.proofs.FileLemmas.{first-line}
use Rattle.cron_holidays.proofs.lines.cut_line.Goals as goal

pub returns-clause-lines : goal.returns-clause-lines
returns-clause-lines c =
    let text = c.args.text.now in
    let end = c.line_len-end.result in
    let size = length-drop end text in
    let all : take (length text - end) (drop end text) ≡ drop end text = take_all (length text - end) (drop end text) (omega arith) in
    rw (all, c.line_len-end.ensures.is) (first-line text c.requires)
