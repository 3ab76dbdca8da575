use Rattle.std.proofs.Common.{◌∙◌, sym}
use Rattle.cron_crontab.proofs.FieldLemmas.{star_read}
use Rattle.cron_crontab.proofs.fields.star_numbers.Goals as goal

pub returns : goal.returns
returns c =
    let bits = rw (c.least.ensures, c.greatest.ensures) at c.numbers_of.ensures.bits in
    (star_read c.args.field c.args.word.now c.numbers_of.result c.if-word-ne1.false (sym c.begins_with_star.ensures ∙ c.if-not-begins_with_star.false) bits, c.numbers_of.ensures.fit)
