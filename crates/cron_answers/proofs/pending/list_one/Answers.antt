use Rattle.std.proofs.Common.{[], ◌∙◌}
use Rattle.std.proofs.lemmas.List.{append-nil}
use Rattle.cron_writer.proofs.Sending.{nothing_sent}
use Rattle.cron_answers.proofs.pending.list_one.Goals as goal

pub returns-in-Some-clause-lists : goal.returns-in-Some-clause-lists
returns-in-Some-clause-lists g c =
    let line = c.as_slice.ensures.value ∙ c.row_of.ensures in
    let ends = c.finish.ensures.ends _ _ (c.send.ensures.sent _ [] (nothing_sent _ _)) in
    rw (c.in-Some.is, append-nil, ← line) ends
