use Rattle.std.proofs.Common.{[], sym, subst}
use Rattle.cron_writer.proofs.Sending.{nothing_sent}
use Rattle.cron_answers.specs.Lateness.{IsSentence}
use Rattle.cron_answers.proofs.missed.say.Goals as goal

pub returns-clause-says : goal.returns-clause-says
returns-clause-says g c = (
  c.as_slice.result.now,
  subst (IsSentence c.args.form g.F.Told.text g.F.Told.second g.F.Told.offset c.args.missed.now) (sym c.as_slice.ensures.value) c.sentence_of.ensures,
  rw (← c.status_of.ensures) (c.finish.ensures.ends _ _ (c.send.ensures.sent _ [] (nothing_sent _ _))),
)
