use Rattle.cron_text.specs.FaultText.{fault_text}
use Rattle.cron_text.specs.Inner.Places.{tokens_from}
use Rattle.cron_text.proofs.TextRefusals.{fault_told}
use Rattle.cron_text.proofs.texts.fault_of.Goals as goal

pub returns : goal.returns
returns c =
    let skipped = rw c.as_bytes.ensures.value at c.skip_space-start.ensures in
    let read = c.read_fields-unread in
    fault_told c.args.text.now (tokens_from c.args.text.now c.skip_space-start.result) skipped.same c.requires read.result read.new.fields
    (fault_text read.new.fault) read.ensures.sets read.ensures.refused
