use Rattle.std.proofs.Common.{rules, ◌≡◌, pos, ◌≤ℤ◌, ◌<ℤ◌, ◌-ℤ◌, ◌*ℤ◌, arith, FitsSigned, w64}
use Rattle.jiff_core.proofs.SignedLemmas.{signed_arith}
use Rattle.cron_c.specs.Calls.{IsInstant}
use Rattle.cron_c.proofs.Eras.{begins_here, begins_later, begins_never}
use Rattle.cron_c.proofs.history.begin_in.Goals as goal

pub returns-then-era-least_second : goal.returns-then-era-least_second
returns-then-era-least_second c =
    let fits : FitsSigned w64 c.least_second.result = search rules in
    let start : FitsSigned w64 c.args.era.now.starts = search rules in
    let begun : c.args.era.now.starts ≤ℤ c.least_second.result = omega (arith, signed_arith, fits, start, c.if-era-least_second.true) in
    begins_here c.args.era.now c.args.begin.now c.least_second.result c.least_second.ensures.least begun

pub returns-in-Ok : goal.returns-in-Ok
returns-in-Ok c =
    let fits : FitsSigned w64 c.least_second.result = search rules in
    let start : FitsSigned w64 c.args.era.now.starts = search rules in
    let ahead : c.least_second.result <ℤ c.args.era.now.starts = omega (arith, signed_arith, fits, start, c.if-era-least_second.false) in
    let at : c.in-Ok.before.nanosecond ≡ (c.args.era.now.starts -ℤ pos 1) *ℤ pos 1_000_000_000 = search rules in
    begins_later c.args.era.now c.args.begin.now c.least_second.result c.in-Ok.before c.least_second.ensures.all ahead at

pub returns-in-Err : goal.returns-in-Err
returns-in-Err c =
    let fits : FitsSigned w64 c.least_second.result = search rules in
    let start : FitsSigned w64 c.args.era.now.starts = search rules in
    let ahead : c.least_second.result <ℤ c.args.era.now.starts = omega (arith, signed_arith, fits, start, c.if-era-least_second.false) in
    let never : IsInstant (c.args.era.now.starts -ℤ pos 1) → ⊥ = search rules in
    begins_never c.args.era.now c.least_second.result c.least_second.ensures.low ahead never
