use Rattle.std.proofs.Common.{refl}
use Rattle.cron_kubernetes.proofs.NumberLemmas.{parsed}
use Rattle.cron_kubernetes.proofs.numbers.digits_value.Goals as goal

pub returns : goal.returns
returns c = rw (c.ok.ensures.value) (parsed c.args.digits.now c.parse.result c.requires (c.parse.ensures.value.0))
