use Rattle.std.proofs.Common.{Ok}
use Rattle.cron_answers.proofs.noted.noted_at.Goals as goal

pub returns-in-Ok : goal.returns-in-Ok
returns-in-Ok g c =
    (Ok c.in-Ok.bytes, c.in-Ok.ensures, λ d h. let told = c.in-None.ensures.only d (rw c.as_slice.ensures.value h) in absurd (cc told))
