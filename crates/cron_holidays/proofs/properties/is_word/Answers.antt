use Rattle.std.proofs.Common.{map}
use Rattle.std.specs.Bool.{one_answer}
use Rattle.std.specs.Char.{to_ascii_lowercase}
use Rattle.std.proofs.lemmas.Slice.Eq.{bytes_eq-Decides}
use Rattle.cron_holidays.proofs.properties.is_word.Goals as goal

pub returns : goal.returns
returns c = one_answer _ _ c.eq_ignore_ascii_case.ensures.test (bytes_eq-Decides (map to_ascii_lowercase c.args.text.now) (map to_ascii_lowercase c.args.word.now))
