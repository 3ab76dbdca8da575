use Rattle.std.proofs.Common.{ap, ◌∙◌}
use Rattle.std.specs.Prelude.{map}
use Rattle.cron_time.specs.Walk.Cursor.{Walk}
use Rattle.cron.specs.Turns.{way_of, run_from}
use Rattle.cron_text.proofs.MeaningLemmas.{means_once}
use Rattle.cron.proofs.RunLemmas.{walk_is}
use Rattle.cron.proofs.laws.headline.Goals as goal

pub returns-clause-walked : goal.returns-clause-walked
returns-clause-walked c =
    let sets = c.in_ok-schedule.schedule.sets in
    let same = walk_is c.after-walk.result _ c.after-walk.ensures.sets c.after-walk.ensures.zone c.after-walk.ensures.cursor in
    record {
      sets = sets;
      means = c.in_ok-schedule.ensures.means;
      only = λ other m. means_once c.args.text.now other sets m c.in_ok-schedule.ensures.means;
      run = c.in_ok-play.ensures.ok.answers_are ∙ ap (λ (w : Walk). (run_from w (map way_of c.args.turns.now)).answers) same;
    }
