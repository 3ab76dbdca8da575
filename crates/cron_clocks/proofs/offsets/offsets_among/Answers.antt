use Rattle.std.proofs.Common.{◌<ℤ◌, ◌≤ℤ◌, refl, arith}
use Rattle.jiff_core.proofs.SignedLemmas.{signed_casts}
use Rattle.cron_clocks.proofs.Windows.{lt_yes, lt_no}
use Rattle.cron_clocks.proofs.offsets.offsets_among.Goals as goal

pub returns-then-placed-lt0 : goal.returns-then-placed-lt0
returns-then-placed-lt0 c w alike k =
    let less : c.args.saving.seconds <ℤ c.args.standard.seconds = omega (arith, signed_casts, c.requires, c.if-placed-lt0.true) in
    rw (lt_yes _ _ less) (c.offsets_behind.ensures w alike k)

pub returns-then-placed-gt0 : goal.returns-then-placed-gt0
returns-then-placed-gt0 c w alike k =
    let more : c.args.standard.seconds <ℤ c.args.saving.seconds = omega (arith, signed_casts, c.requires, c.if-placed-gt0.true) in
    let not_less : c.args.standard.seconds ≤ℤ c.args.saving.seconds = omega (arith, signed_casts, c.requires, c.if-placed-lt0.false) in
    rw (lt_no _ _ not_less, lt_yes _ _ more) (c.offsets_ahead.ensures w alike k)

pub returns-else-placed-gt0 : goal.returns-else-placed-gt0
returns-else-placed-gt0 c w alike k =
    let not_less : c.args.standard.seconds ≤ℤ c.args.saving.seconds = omega (arith, signed_casts, c.requires, c.if-placed-lt0.false) in
    let not_more : c.args.saving.seconds ≤ℤ c.args.standard.seconds = omega (arith, signed_casts, c.requires, c.if-placed-gt0.false) in
    rw (lt_no _ _ not_less, lt_no _ _ not_more) refl
