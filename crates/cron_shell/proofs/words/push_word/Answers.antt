use Rattle.std.proofs.Common.{rules, append_assoc}
use Rattle.cron_shell.specs.Quoted.{quoted}
use Rattle.cron_shell.proofs.WordLemmas.{reads-back}
use Rattle.cron_shell.proofs.words.push_word.Goals as goal

pub returns-clause-word : goal.returns-clause-word
returns-clause-word c = (quoted c.args.text.now, search (rules, append_assoc), reads-back c.args.text.now)
