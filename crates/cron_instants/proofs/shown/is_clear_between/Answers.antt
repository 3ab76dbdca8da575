use Rattle.std.proofs.Common.{ℕ, arith, of_z, to_z, w64}
use Rattle.jiff_core.proofs.SignedLemmas.{signed_casts}
use Rattle.cron_instants.proofs.shown.is_clear_between.Goals as goal

pub returns : goal.returns
returns g c clear k low high =
    c.is_clear.ensures clear k
    (omega (arith, signed_casts, low, c.if-from-lt0.false, c.if-end-ge-SECONDS.false, c.if-end-from.false))
    (omega (arith, signed_casts, high, c.if-from-lt0.false, c.if-end-ge-SECONDS.false, c.if-end-from.false))
