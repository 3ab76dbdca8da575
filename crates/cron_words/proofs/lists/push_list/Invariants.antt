-- the first items were pushed
use Rattle.std.proofs.Common.{◌≡◌, ◌++◌, drop}
use Rattle.std.specs.String.{string_bytes}
use Rattle.cron_words.specs.Lists.{list_text}
use Rattle.cron_words.proofs.ListLemmas.{left_text}
use Rattle.cron_words.proofs.lists.push_list.Given as goal

abbrev pub invariant-loop-place : goal.invariant-loop-place
invariant-loop-place l =
    string_bytes l.initial.text ++ list_text l.naming l.items ≡ string_bytes l.text ++ left_text l.naming l.place (drop l.place l.items)
