use Rattle.std.proofs.Common.{arith}
use Rattle.cron_units.proofs.NameLemmas.{found_by_key, missed_by_key, slot_keyed}
use Rattle.cron_units.proofs.time_unit.names.ordinal_keyed.Goals as goal

pub returns-then-found-key-clause-value : goal.returns-then-found-key-clause-value
returns-then-found-key-clause-value c = λ name letters key.
    found_by_key c.args.names name c.args.key _ c.requires letters key (omega arith) c.if-found-key.true

pub returns-then-found-key-clause-found : goal.returns-then-found-key-clause-found
returns-then-found-key-clause-found c = slot_keyed c.args.names c.args.key _ c.requires (omega arith) c.if-found-key.true

pub returns-else-found-key-clause-value : goal.returns-else-found-key-clause-value
returns-else-found-key-clause-value c = λ name letters key. missed_by_key c.args.names name c.args.key c.requires letters key c.if-found-key.false
