use Rattle.std.proofs.Common.{◌<◌, length, Some, arith}
use Rattle.std.specs.Option.{option_map}
use Rattle.cron_tab_systemd.proofs.ZoneLemmas.{zone_read}
use Rattle.cron_tab_systemd.proofs.zones.zone_of.Goals as goal

pub returns-in-Some-clause-zone : goal.returns-in-Some-clause-zone
returns-in-Some-clause-zone c =
    let some : 0 < length c.args.value.now = grind arith in
    zone_read (option_map (λ w. w.now) c.args.asked) (Some c.in-Some.word.now) c.args.value.now c.in-Ok.text.now some c.in-Ok.ensures.cases.0 c.in-Some.ensures.word
