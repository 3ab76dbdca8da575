use Rattle.std.proofs.Common.{◌∙◌, sym}
use Rattle.cron_kubernetes.proofs.NumberLemmas.{boundary-sign, no_sign, sign_cut}
use Rattle.cron_kubernetes.proofs.numbers.without_sign.Goals as goal

pub range_from-requires : goal.range_from-requires
range_from-requires c = λ some. boundary-sign c.args.text.now c.utf8.text (sym c.begins_with_sign.ensures ∙ c.if-begins_with_sign.true)
