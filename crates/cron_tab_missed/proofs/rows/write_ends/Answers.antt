use Rattle.std.proofs.Common.{arith}
use Rattle.std.proofs.lemmas.Result.{on_ok_weaker}
use Rattle.cron_tab_missed.proofs.RowLemmas.{ends_written}
use Rattle.cron_tab_missed.proofs.rows.write_ends.Goals as goal

pub returns : goal.returns
returns c =
    on_ok_weaker c.write_fire-2.result
    (λ last. ends_written c.args.ends.now c.first-item.result c.last-item.result c.args.object.now c.write_fire.new.object c.write_fire-2.new.object
    (omega arith) (omega arith) c.first-item.is c.last-item.is c.in_ok-write_fire.ensures last)
    c.write_fire-2.ensures
