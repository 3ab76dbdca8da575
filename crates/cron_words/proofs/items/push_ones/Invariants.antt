-- the first numbers were pushed
use Rattle.std.proofs.Common.{◌≡◌, ◌++◌, map}
use Rattle.cron_words.specs.declared.items.Item.TheVariants.{One}
use Rattle.cron_words.proofs.items.push_ones.Given as goal

abbrev pub invariant-loop-ordinal : goal.invariant-loop-ordinal
invariant-loop-ordinal l =
    l.initial.items.items ++ map One l.initial.ordinal-iterator ≡ l.items.items ++ map One l.ordinal-iterator
