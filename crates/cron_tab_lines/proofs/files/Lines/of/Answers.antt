use Rattle.cron_tab_lines.proofs.FileLemmas.{written-file}
use Rattle.cron_tab_lines.proofs.files.Lines.of.Goals as goal

pub returns-clause-whole : goal.returns-clause-whole
returns-clause-whole c = written-file c.args.kind 1 c.args.file.now
