use Rattle.std.proofs.Common.{◌≡◌, ◌-◌, Some, List, length}
use Rattle.cron_units.specs.Denotation.{Denotes}
use Rattle.cron_units.specs.Units.{with_mark}
use Rattle.cron_text.specs.Fields.{Item, is_wildcard}
use Rattle.cron_text.specs.Inner.FieldReading.{field_at, furthest}
use Rattle.cron_text.specs.Inner.Places.{IsPlace, tokens_from}
use Rattle.cron_text.specs.Inner.Views.{state_view}
use Rattle.cron_text.specs.Tokens.{Token, symbol_of}
use Rattle.cron_text.proofs.field_texts.read_items.Given as goal

-- some items are finished and joined into the set, none of them refused, and the field goes on from here
abbrev pub invariant-loop-growth : goal.invariant-loop-growth
invariant-loop-growth g l =
    let field = g.T.TimeUnitField in
    let u = field.unit in
    (done : List Item) × (last : Token)
    × (field_at u (tokens_from l.text l.fn.place) ≡ Some (furthest u (state_view done l.item last) (tokens_from l.text l.next)))
    × Denotes u done (with_mark (field.members l.joined) (field.marked l.joined))
    × (is_wildcard (symbol_of last) ≡ l.wildcard) × IsPlace l.text l.next

abbrev pub decreases-loop-growth : goal.decreases-loop-growth
decreases-loop-growth g l = length l.text - l.next.at
