use Rattle.std.proofs.Common.{◌∙◌}
use Rattle.std.proofs.lemmas.Result.{on_ok_weaker}
use Rattle.cron_tab_rows.proofs.TextLemmas.{raw_written, text_written}
use Rattle.cron_tab_rows.proofs.members.write_bytes.Goals as goal

pub returns-in-Ok : goal.returns-in-Ok
returns-in-Ok c =
    on_ok_weaker c.string.result
    (λ more. (
      text_written c.args.name.now c.args.raw_name.now c.args.bytes.now c.in-Ok.text.now _ _ _ c.in-Ok.ensures.cases.0 c.in-Ok.ensures.cases.1 c.in_ok-key.ensures.ok more,
      c.string.ensures.room.0 ∙ c.key.ensures.room.0,
    ))
    c.string.ensures.ok

pub returns-in-Err : goal.returns-in-Err
returns-in-Err c =
    on_ok_weaker c.write_lossy.result
    (λ more. (
      raw_written c.args.name.now c.args.raw_name.now c.args.bytes.now _ _ _ c.in-Err.ensures.cases.0 c.in_ok-key.ensures.ok more.0,
      more.1 ∙ c.key.ensures.room.0,
    ))
    c.write_lossy.ensures
