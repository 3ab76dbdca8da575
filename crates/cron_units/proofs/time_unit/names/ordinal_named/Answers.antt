use Rattle.std.proofs.Common.{◌≡◌, false, sym, ◌∙◌}
use Rattle.std.specs.List.{list_all}
use Rattle.cron_units.specs.Keys.{is_letter}
use Rattle.cron_units.proofs.NameLemmas.{named_none, tests}
use Rattle.cron_units.proofs.time_unit.names.ordinal_named.Goals as goal

pub returns-in_err-key_of : goal.returns-in_err-key_of
returns-in_err-key_of c =
    let n = c.args.names in
    let other : list_all is_letter c.args.sought.now ≡ false = rw c.as_bytes.ensures.value at c.in_err-key_of.ensures in
    c.from_residual.ensures ∙ sym (named_none n.slots.now n.spread n.ordinals.now c.args.sought.now (tests n c.requires).1 other)
