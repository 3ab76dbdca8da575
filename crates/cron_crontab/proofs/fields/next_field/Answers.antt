use Rattle.cron_crontab.specs.Crontab.{words}
use Rattle.cron_crontab.proofs.FieldLemmas.{field_kept}
use Rattle.cron_crontab.proofs.fields.next_field.Goals as goal

pub returns-clause-field : goal.returns-clause-field
returns-clause-field c =
    field_kept c.args.field (words c.args.text.now) c.in-Some.word.now (words c.in-Some.rest.now) (record { numbers = c.in_ok-numbers.numbers; star = c.begins_with_star-star.result })
    c.in-Some.ensures.words c.in_ok-numbers.ensures.items c.begins_with_star-star.ensures
