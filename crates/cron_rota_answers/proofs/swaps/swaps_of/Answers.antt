use Rattle.std.proofs.Common.{◌≡◌, None, arith}
use Rattle.std.proofs.lemmas.Grind.{common_steps}
use Rattle.jiff.specs.Words.{plain_zone}
use Rattle.cron_rota_answers.proofs.SwapLemmas.{bound_step, swaps_end, swaps_step, wrong_step}
use Rattle.cron_rota_answers.specs.Cells.{parts_left}
use Rattle.cron_rota_answers.specs.Lines.{lines_of}
use Rattle.cron_rota_answers.specs.People.{texts}
use Rattle.cron_rota_answers.specs.Swaps.{given}
use Rattle.cron_rota_answers.proofs.swaps.swaps_of.Goals as goal

pub lines-preserved : goal.lines-preserved
lines-preserved c =
    let g = given (texts c.args.names.now) (plain_zone c.args.zone.now) c.args.now.nanosecond in
    let line = c.cut_bytes.result.0.now in
    let more = parts_left 10 c.cut_bytes.result.1 in
    let all = lines_of c.args.file.now in
    record {
      adds = swaps_step g c.lines.rest c.in-Some.left line more all c.lines.swaps.items c.push_line.new.swaps.items c.in-Some.is c.cut_bytes.ensures.cut c.in-Ok.ensures.ok
          c.lines.invariant.adds;
      wrong = wrong_step g c.lines.number c.lines.rest c.in-Some.left line more all c.lines.swaps.items c.push_line.new.swaps.items c.in-Some.is c.cut_bytes.ensures.cut
          c.in-Ok.ensures.ok c.lines.invariant.wrong;
      bound = bound_step c.lines.number _ c.lines.rest c.in-Some.left c.cut_bytes.result.1 c.in-Some.is c.lines.invariant.bound c.cut_bytes.ensures.shorter;
    }

pub returns : goal.returns
returns c =
    let none : c.lines.rest ≡ None = grind (arith, common_steps, c.in_default.not-Some) in
    swaps_end (given (texts c.args.names.now) (plain_zone c.args.zone.now) c.args.now.nanosecond) c.lines.rest (lines_of c.args.file.now) c.lines.swaps.items none
    c.lines.invariant.adds
