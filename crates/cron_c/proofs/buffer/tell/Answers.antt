use Rattle.std.proofs.Common.{refl, rules}
use Rattle.cron_c.proofs.Over.{told_if, untold}
use Rattle.cron_c.proofs.buffer.tell.Goals as goal

pub returns-in-Ok : goal.returns-in-Ok
returns-in-Ok g c =
    told_if _ c.write-written.new.self c.write-written.new.self.buffer (g.M.Display.output c.args.message.now) refl refl
    (λ same. search rules) c.in-Ok.ensures.writes

pub returns-in-Err : goal.returns-in-Err
returns-in-Err g c = untold (g.M.Display.output c.args.message.now)
