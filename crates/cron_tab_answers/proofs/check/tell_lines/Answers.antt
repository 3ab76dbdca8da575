use Rattle.std.proofs.Common.{◌++◌, ◌∷◌, [], sym, ◌∙◌, subst}
use Rattle.cron_checking.proofs.Putting.{put_on}
use Rattle.cron_controls.specs.Controls.{shown_by}
use Rattle.cron_tab_lines.specs.Views.{file_line_view}
use Rattle.cron_writer.proofs.Sending.{both_ways}
use Rattle.cron_tab_answers.specs.Checks.{TellsLine}
use Rattle.cron_tab_answers.proofs.CheckLemmas.{cut_on, line_told, refused_on}
use Rattle.cron_tab_answers.proofs.check.tell_lines.Goals as goal

pub returns-then-has_failed : goal.returns-then-has_failed
returns-then-has_failed g c =
    let (checked, report, cut, told, some, puts) = c.loop-line.invariant in
    let line = file_line_view c.in-Some.line in
    record {
      checked = checked ++ line ∷ [];
      left = c.next.new.self;
      cut = cut_on _ checked _ _ line cut c.in-Some.ensures.steps;
      report = report ++ shown_by c.args.wanted.now.controls c.as_bytes.result.now;
      tells = line_told c.args.wanted.now checked line report c.as_bytes.result.now told (subst (TellsLine c.args.wanted.now line) (sym c.as_bytes.ensures.value) c.in_ok-bad.ensures.told);
      puts = put_on _ _ _ _ _ _ _ _ report _ puts c.in_ok-put_told.ensures.ok;
      whole = λ fine. absurd (both_ways _ (sym c.has_failed.ensures ∙ c.if-has_failed.true) fine);
    }

pub loop-line-preserved : goal.loop-line-preserved
loop-line-preserved g c =
    let (checked, report, cut, told, some, puts) = c.loop-line.invariant in
    let line = file_line_view c.in-Some.line in (
      checked ++ line ∷ [],
      report ++ shown_by c.args.wanted.now.controls c.as_bytes.result.now,
      cut_on _ checked _ _ line cut c.in-Some.ensures.steps,
      line_told c.args.wanted.now checked line report c.as_bytes.result.now told (subst (TellsLine c.args.wanted.now line) (sym c.as_bytes.ensures.value) c.in_ok-bad.ensures.told),
      refused_on c.args.wanted.now checked line _ _ some c.in_ok-bad.ensures.refused,
      put_on _ _ _ _ _ _ _ _ report _ puts c.in_ok-put_told.ensures.ok,
    )
