use Rattle.std.proofs.Common.{◌≡◌, ◌++◌, [], drop}
use Rattle.cron_spread.specs.Texts.{items_from}
use Rattle.cron_spread.proofs.texts.push_field.Given as goal

-- what is made, with the item that has begun and the bytes that are left, is the whole field
abbrev pub invariant-loop-byte : goal.invariant-loop-byte
invariant-loop-byte l =
    l.made.items ++ items_from l.name l.field l.item.items (drop l.byte-index l.word) ≡ l.initial.made.items ++ items_from l.name l.field [] l.word
