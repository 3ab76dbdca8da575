use Rattle.std.proofs.Common.{◌≡◌, ◌-◌}
use Rattle.std.specs.Str.{IsUtf8}
use Rattle.cron_crontab.specs.Crontab.{words}
use Rattle.cron_tab_warnings.specs.Written.{word_in}
use Rattle.cron_tab_warnings.proofs.words.word_at.Given as goal

abbrev pub invariant-loop-before : goal.invariant-loop-before
invariant-loop-before l = record {
  left : word_in (words l.rest) (l.place - l._before) ≡ word_in (words l.text) l.place;
  text : IsUtf8 l.rest;
}
