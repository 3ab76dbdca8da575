use Rattle.cron_c.proofs.canonical_call.cron_c_canonical.Goals as goal

pub returns : goal.returns
returns c = (c.canonical.result, c.canonical.ensures, c.code.ensures)
