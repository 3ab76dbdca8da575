use Rattle.std.proofs.Common.{sym, ap, ◌∙◌}
use Rattle.cron_text.specs.Tokens.{number}
use Rattle.cron_text.proofs.Digits.{number_seen, small_seen}
use Rattle.cron_text.proofs.plain.number_from.Goals as goal

pub returns-in-Ok : goal.returns-in-Ok
returns-in-Ok c =
    let read = c.digits_at-value.ensures in
    record {
      further = read.further;
      within = read.within;
      seen = ap number c.in-Ok.ensures.1 ∙ (sym (small_seen _ c.digits_at-value.result.0 read.value_is c.in-Ok.ensures.0)
          ∙ number_seen c.args.text.now c.args.at c.digits_at-value.result.1 read.digits);
      rest = read.rest;
    }
