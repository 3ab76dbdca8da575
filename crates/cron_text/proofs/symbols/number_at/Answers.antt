use Rattle.std.proofs.Common.{◌∙◌}
use Rattle.cron_text.proofs.Digits.{number_seen}
use Rattle.cron_text.proofs.symbols.number_at.Goals as goal

pub returns : goal.returns
returns c =
    let text = c.args.text.now in
    let at = c.args.at in
    let read = rw c.as_bytes.ensures.value at c.digits_at-value.ensures in
    record {
      further = read.further;
      within = read.within;
      seen = c.number.ensures _ read.value_is ∙ number_seen text at c.digits_at-value.result.1 read.digits;
      rest = read.rest;
    }
