use Rattle.std.proofs.Common.{◌≡◌, ◌<◌, length, subst, sym, arith}
use Rattle.std.proofs.lemmas.Bool.{lt-ltb}
use Rattle.std.proofs.lemmas.Grind.{common_steps}
use Rattle.cron_systemd.specs.Services.{SaysService, service_text, service_view}
use Rattle.cron_systemd.proofs.ServiceLemmas.{says_service}
use Rattle.cron_systemd.proofs.service.service_text.Goals as goal

pub returns-clause-ok : goal.returns-clause-ok
returns-clause-ok c =
    let s = service_view c.args.service.now in
    let is : c.in_ok-text.text.items ≡ service_text s = c.in_ok-text.ensures in
    let small : length c.in_ok-text.text.items < 1_048_576 = grind (arith, common_steps) in
    subst (SaysService s) (sym is)
    (says_service s c.in_ok-unsaid.ensures (lt-ltb (length (service_text s)) 1_048_576 (subst (λ t. length t < 1_048_576) is small)))
