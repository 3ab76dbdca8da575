use Rattle.std.proofs.Common.{◌++◌, List, ℕ, ap, refl}
use Rattle.std.specs.String.{string_bytes}
use Rattle.cron_words.proofs.ListLemmas.{all_written, begun, item_on}
use Rattle.cron_words.proofs.lists.push_list.Goals as goal

pub loop-place-init : goal.loop-place-init
loop-place-init c = ap (λ (t : List ℕ). string_bytes c.args.text.now ++ t) (begun c.args.naming c.args.items.now)

pub loop-place-preserved : goal.loop-place-preserved
loop-place-preserved c =
    item_on c.args.naming _ _ _ _ _ c.args.items.now _ _ c.loop-place.place c.loop-place-test.true refl c.separator.ensures c.loop-place.invariant
    c.in_ok-push_str.ensures.bytes c.in_ok-push_item.ensures

pub returns : goal.returns
returns c = all_written c.args.naming _ _ c.args.items.now c.loop-place.place c.loop-place-test.false c.loop-place.invariant
