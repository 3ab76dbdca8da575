use Rattle.std.proofs.Common.{◌∙◌, sym}
use Rattle.cron_kubernetes.proofs.TextLemmas.{boundary-every}
use Rattle.cron_kubernetes.proofs.texts.read_descriptor.Goals as goal

pub range_from-duration-requires : goal.range_from-duration-requires
range_from-duration-requires c = λ some. boundary-every c.args.text.now c.utf8.text (sym c.begins_with_every.ensures ∙ c.if-not-begins_with_every.false)
