use Rattle.std.proofs.Common.{◌≡◌, ◌++◌}
use Rattle.std.specs.List.{take_while}
use Rattle.jiff.specs.Words.{plain_zone}
use Rattle.cron.specs.Words.{rest_ahead}
use Rattle.cron_callers.specs.Items.{items_ahead, is_through}
use Rattle.cron_callers.proofs.items.items_of_day.Given as goal

abbrev pub invariant-loop-item : goal.invariant-loop-item
invariant-loop-item l =
    take_while (is_through l.fn.date) (items_ahead l.fn.schedule.sets (plain_zone l.fn.zone) l.fn.eve.nanosecond) ≡ l.listed.items
    ++ take_while (is_through l.fn.date) (rest_ahead l.item-iterator)
