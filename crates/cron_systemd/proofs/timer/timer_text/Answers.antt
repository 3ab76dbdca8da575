use Rattle.std.proofs.Common.{◌≡◌, ◌<◌, length, subst, sym, arith}
use Rattle.std.proofs.lemmas.Bool.{lt-ltb}
use Rattle.std.proofs.lemmas.Grind.{common_steps}
use Rattle.cron_systemd.specs.Texts as texts
use Rattle.cron_systemd.specs.Timers.{SaysTimer}
use Rattle.cron_systemd.proofs.TimerLemmas.{says_timer}
use Rattle.cron_systemd.proofs.timer.timer_text.Goals as goal

pub returns-clause-ok : goal.returns-clause-ok
returns-clause-ok c =
    let calendars = c.args.calendars.now in
    let persistent = c.args.persistent in
    let is : c.push_timer.new.text.items ≡ texts.timer_text calendars persistent = grind (arith, common_steps) in
    let small : length c.push_timer.new.text.items < 1_048_576 = grind (arith, common_steps) in
    subst (SaysTimer calendars persistent) (sym is)
    (says_timer calendars persistent c.in_ok-push_timer.ensures.taken
    (lt-ltb (length (texts.timer_text calendars persistent)) 1_048_576 (subst (λ t. length t < 1_048_576) is small)))
