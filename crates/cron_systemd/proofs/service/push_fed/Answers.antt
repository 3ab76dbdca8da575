use Rattle.std.proofs.Common.{◌<◌, length, arith}
use Rattle.cron_systemd.proofs.ChainLemmas.{fed_chain}
use Rattle.cron_systemd.proofs.service.push_fed.Goals as goal

pub returns : goal.returns
returns c =
    let some : 0 < length c.args.input.now = grind arith in
    fed_chain _ _ _ _ c.args.input.now some c.in_ok-extend_from_slice.ensures.items c.in_ok-push_written.ensures c.in_ok-extend_from_slice-2.ensures.items
