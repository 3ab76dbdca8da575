use Rattle.std.proofs.Common.{◌≤◌, arith, length, sym}
use Rattle.std.proofs.lemmas.List.{length-take-le, take_all}
use Rattle.cron_tab_tasks.proofs.names.front_of.Goals as goal

pub slice_bounds-result-end : goal.slice_bounds-result-end
slice_bounds-result-end c =
    let line = c.args.line.now in
    let long : 64 ≤ length line = omega (arith, c.if-line-gt-SHOWN.true) in
    sym (length-take-le 64 line long)

pub returns-else-line-gt-SHOWN : goal.returns-else-line-gt-SHOWN
returns-else-line-gt-SHOWN c =
    let line = c.args.line.now in
    let short : length line ≤ 64 = omega (arith, c.if-line-gt-SHOWN.false) in
    sym (take_all 64 line short)
