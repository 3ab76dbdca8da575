use Rattle.cron_answers.proofs.fires.list.Goals as goal

pub returns-clause-gathers : goal.returns-clause-gathers
returns-clause-gathers g c =
    (_, c.send_fires.ensures.gathers, c.finish.ensures.calls)
