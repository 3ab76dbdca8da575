-- the first schedules were pushed
use Rattle.std.proofs.Common.{◌≡◌, ◌++◌, drop}
use Rattle.std.specs.String.{string_bytes}
use Rattle.cron_words.specs.Schedules.{others_text}
use Rattle.cron_words.proofs.sentence.push_union.Given as goal

abbrev pub invariant-loop-fields : goal.invariant-loop-fields
invariant-loop-fields l =
    string_bytes l.initial.text ++ others_text l.others ≡ string_bytes l.text ++ others_text (drop l.fields-index l.others)
