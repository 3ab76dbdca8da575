use Rattle.std.proofs.Common.{rules, ◌≡◌, pos, ◌≤ℤ◌, ◌-ℤ◌, ◌*ℤ◌, arith, FitsSigned, w64}
use Rattle.std.specs.Int.{int_div_euclid}
use Rattle.jiff_core.proofs.SignedLemmas.{signed_arith}
use Rattle.cron_c.proofs.ErasBack.{before_start}
use Rattle.cron_c.proofs.history.until_before.Goals as goal

pub returns-in-Ok : goal.returns-in-Ok
returns-in-Ok c =
    let fits : FitsSigned w64 c.floor_second.result = search rules in
    let start : FitsSigned w64 c.args.era.now.starts = search rules in
    let floor : c.floor_second.result ≡ int_div_euclid c.args.until.nanosecond (pos 1_000_000_000) = rw c.to_plain.ensures at c.floor_second.ensures in
    let le : c.args.era.now.starts ≤ℤ c.floor_second.result = omega (arith, signed_arith, fits, start, c.if-era-floor_second.false) in
    let at : c.in-Ok.before.nanosecond ≡ (c.args.era.now.starts -ℤ pos 1) *ℤ pos 1_000_000_000 = search rules in
    before_start c.args.era.now c.args.until.nanosecond c.in-Ok.before.nanosecond c.floor_second.result floor le at
