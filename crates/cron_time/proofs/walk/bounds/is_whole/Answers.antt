use Rattle.std.proofs.Common.{arith, rules}
use Rattle.std.proofs.lemmas.Int.{ints}
use Rattle.cron_time.proofs.walk.bounds.is_whole.Goals as goal

pub as_nanosecond-requires : goal.as_nanosecond-requires
as_nanosecond-requires c = search rules

pub to_plain-requires : goal.to_plain-requires
to_plain-requires c = search rules

pub floor_second-requires : goal.floor_second-requires
floor_second-requires c = search rules

pub overflow_cast-result : goal.overflow_cast-result
overflow_cast-result c = search rules

pub overflow_mul-result : goal.overflow_mul-result
overflow_mul-result c = search rules

pub returns : goal.returns
returns c = grind (arith, ints)
