use Rattle.std.specs.Prelude.{length}
use Rattle.std.proofs.lemmas.Bool.{lt-ltb}
use Rattle.cron_systemd.specs.Services.{service_text}
use Rattle.cron_systemd.specs.Texts.{timer_text}
use Rattle.cron_systemd.proofs.ServiceLemmas.{says_service}
use Rattle.cron_systemd.proofs.TimerLemmas.{says_timer}
use Rattle.cron_systemd.proofs.laws.texts_are_read_back.Goals as goal

pub returns-clause-services : goal.returns-clause-services
returns-clause-services c = λ s is small. says_service s is (lt-ltb (length (service_text s)) 1_048_576 small)

pub returns-clause-timers : goal.returns-clause-timers
returns-clause-timers c = λ calendars persistent all small. says_timer calendars persistent all (lt-ltb (length (timer_text calendars persistent)) 1_048_576 small)
