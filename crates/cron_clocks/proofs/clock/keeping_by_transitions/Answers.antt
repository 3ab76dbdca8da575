use Rattle.std.proofs.Common.{◌≡◌, pos, unsigned_abs, to_z, of_z, w64, arith, sym}
use Rattle.jiff_core.proofs.SignedLemmas.{signed_casts}
use Rattle.cron_clocks.proofs.clock.keeping_by_transitions.Goals as goal

pub returns : goal.returns
returns c =
    let low = c.if-second-lt0.false in
    let high = c.if-second-ge-SECONDS.false in
    let same : pos (unsigned_abs (to_z w64 (of_z w64 c.args.second))) ≡ c.args.second = omega (arith, signed_casts) in
    rw (sym c.to_plain.ensures, c.in-Posix.is) (record { kept = rw same at c.in_ok-kept.ensures; next = c.kept_if_among.ensures })
