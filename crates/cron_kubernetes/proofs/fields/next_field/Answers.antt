use Rattle.cron_crontab.specs.Crontab.{words}
use Rattle.cron_kubernetes.proofs.FieldLemmas.{field_kept}
use Rattle.cron_kubernetes.proofs.fields.next_field.Goals as goal

pub returns : goal.returns
returns c =
    field_kept c.args.field (words c.args.text.now) c.in-Some.word.now (words c.in-Some.rest.now) c.in_ok-numbers.numbers c.in-Some.ensures.words c.in_ok-numbers.ensures
