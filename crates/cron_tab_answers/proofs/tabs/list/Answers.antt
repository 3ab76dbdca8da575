use Rattle.std.proofs.Common.{ℕ, List, [], ap, map, sym, ◌∙◌, subst}
use Rattle.jiff.specs.Words.{plain_zone}
use Rattle.cron_writer.specs.Watching.{has_failed, writer_of, IsGathered}
use Rattle.cron_writer.proofs.Calling.{handed_on, writes_on}
use Rattle.cron_writer.proofs.Gathering.{nothing_gathered}
use Rattle.cron_tab_agenda.proofs.TakenLemmas.{taken-front}
use Rattle.cron_tab_answers.specs.TabRows.{ListEndsAs, is_failed, wanted}
use Rattle.cron_tab_answers.proofs.CheckLemmas.{unfailed}
use Rattle.cron_tab_answers.proofs.TabLemmas.{end_marks, rows_end}
use Rattle.cron_tab_answers.proofs.tabs.list.Goals as goal

pub returns-clause-calls : goal.returns-clause-calls
returns-clause-calls g c =
    (_, _, writes_on _ _ _ _ _ _ _ c.gather_tabs-answer.ensures.puts.calls (handed_on _ _ _ _ _ _ c.send.ensures.calls), c.finish.ensures.calls)

pub returns-clause-lists : goal.returns-clause-lists
returns-clause-lists g c =
    let zones = map plain_zone c.args.zones.now in
    let w = wanted zones c.args.until.nanosecond c.args.limit c.args.sources.now c.args.style.now.times in
    let told = c.gather_tabs-answer.ensures in
    let begun =
    subst (λ (kept : List ℕ). IsGathered (g.W.Write.contents (writer_of c.args.out.now)) (g.W.Write.contents (writer_of c.args.out.now))
    (has_failed c.args.out.now) kept [])
    (sym c.new-gathered.ensures) (nothing_gathered _ _) in
    record {
      fires = told.fires;
      left = told.left;
      taken = told.taken;
      front = taken-front zones c.args.until.nanosecond told.fires c.args.agenda.now told.left told.taken;
      report = told.report;
      rows = told.rows;
      ends =
          subst
          (λ answer. ListEndsAs answer w told.fires told.left told.report (g.W.Write.contents (writer_of c.args.out.now))
          (g.W.Write.contents (writer_of c.finish.new.out))) (sym c.list_end.ensures)
          (rows_end w c.gather_tabs-answer.result c.finish.result told.fires told.left told.report (g.W.Write.contents (writer_of c.args.out.now))
          (g.W.Write.contents (writer_of c.finish.new.out))
          (c.finish.ensures.ends _ _ (c.send.ensures.sent _ _ (told.puts.gathers _ [] begun)))
          (λ fine.
          told.whole
          (unfailed g.W.Watchable.writes g.W.Watchable.flushes (writer_of c.gather_tabs-answer.new.out) (writer_of c.send.new.out) (writer_of c.finish.new.out)
          (has_failed c.gather_tabs-answer.new.out) (has_failed c.send.new.out) (has_failed c.finish.new.out) (handed_on _ _ _ _ _ _ c.send.ensures.calls)
          c.finish.ensures.calls (c.finish.ensures.mark ∙ fine))));
    }

pub returns-clause-mark : goal.returns-clause-mark
returns-clause-mark g c = c.finish.ensures.mark ∙ sym (ap is_failed c.list_end.ensures ∙ end_marks c.gather_tabs-answer.result c.finish.result)
