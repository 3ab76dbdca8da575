use Rattle.std.proofs.Common.{refl}
use Rattle.cron_checking.proofs.line.tell_text.Goals as goal

pub fault_of-fault-requires : goal.fault_of-fault-requires
fault_of-fault-requires c = c.if-read_into.ensures.nothing refl
