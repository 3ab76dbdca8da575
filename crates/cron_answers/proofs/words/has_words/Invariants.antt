use Rattle.std.proofs.Common.{◌≡◌, ◌+◌, length}
use Rattle.std.specs.Str.{IsUtf8}
use Rattle.cron_crontab.specs.Crontab.{words}
use Rattle.cron_answers.proofs.words.has_words.Given as goal

-- so many words stand before what is left
abbrev pub invariant-loop-before : goal.invariant-loop-before
invariant-loop-before l = record {
  count : length (words l.text) ≡ l._before + length (words l.rest);
  text : IsUtf8 l.rest;
}
