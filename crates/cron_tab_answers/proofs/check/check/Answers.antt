use Rattle.std.proofs.Common.{ℕ, List, [], sym, ◌∙◌, subst}
use Rattle.cron_writer.specs.Watching.{has_failed, writer_of, IsGathered}
use Rattle.cron_writer.proofs.Calling.{handed_on, writes_on}
use Rattle.cron_writer.proofs.Gathering.{nothing_gathered}
use Rattle.cron_tab_lines.specs.Files.{FileLine}
use Rattle.cron_tab_answers.specs.Checks.{Checks}
use Rattle.cron_tab_answers.proofs.CheckLemmas.{ends_as, if_ok, unfailed}
use Rattle.cron_tab_answers.proofs.check.check.Goals as goal

pub returns-clause-calls : goal.returns-clause-calls
returns-clause-calls g c =
    (_, _, writes_on _ _ _ _ _ _ _ c.tell_lines.ensures.puts.calls (handed_on _ _ _ _ _ _ c.send.ensures.calls), c.finish.ensures.calls)

pub returns-clause-checks : goal.returns-clause-checks
returns-clause-checks g c =
    let told = c.tell_lines.ensures in
    let begun =
    subst (λ (kept : List ℕ). IsGathered (g.W.Write.contents (writer_of c.args.out.now)) (g.W.Write.contents (writer_of c.args.out.now))
    (has_failed c.args.out.now) kept [])
    (sym c.new-gathered.ensures) (nothing_gathered _ _) in
    subst (λ (ls : List FileLine). Checks c.args.wanted.now ls (g.W.Write.contents (writer_of c.args.out.now)) (g.W.Write.contents (writer_of c.finish.new.out))
    c.finish.result) c.of-lines.ensures.lines
    (record {
      checked = told.checked;
      left = told.left;
      cut = told.cut;
      report = told.report;
      tells = told.tells;
      ends =
          ends_as c.args.wanted.now c.tell_lines.result c.end_of-end.result c.finish.result c.of-lines.result told.left told.report _ _ c.end_of-end.ensures
          (c.finish.ensures.ends _ _ (c.send.ensures.sent _ _ (told.puts.gathers _ [] begun)))
          (λ fine refused is.
          if_ok c.tell_lines.result refused _ is told.whole
          (unfailed g.W.Watchable.writes g.W.Watchable.flushes (writer_of c.tell_lines.new.out) (writer_of c.send.new.out) (writer_of c.finish.new.out)
          (has_failed c.tell_lines.new.out) (has_failed c.send.new.out) (has_failed c.finish.new.out) (handed_on _ _ _ _ _ _ c.send.ensures.calls) c.finish.ensures.calls (c.finish.ensures.mark ∙ fine)));
    })
