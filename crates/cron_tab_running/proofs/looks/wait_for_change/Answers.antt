use Rattle.std.proofs.Common.{ap, inl, inr, refl, arith, add-one}
use Rattle.std.specs.Prelude.{Err}
use Rattle.cron_tab_running.proofs.looks.wait_for_change.Goals as goal

pub loop-looks-preserved : goal.loop-looks-preserved
loop-looks-preserved g c =
    rw add-one (c.loop-looks.clock, c.loop-looks.invariant, c.in-Ok.ensures)

pub returns-in-Err-Changed : goal.returns-in-Err-Changed
returns-in-Err-Changed g c =
    let changed = rw c.in-Err-Changed.field-0-is at c.in-Err-Changed.ensures in
    (c.loop-looks.looks, c.loop-looks.clock, c.loop-looks.invariant, inl (changed, refl))

pub returns-in-Err : goal.returns-in-Err
returns-in-Err g c =
    (c.loop-looks.looks, c.loop-looks.clock, c.loop-looks.invariant, inr (inl (c.in-Err.stop, c.in-Err.ensures, ap Err c.stopped.ensures)))

pub returns : goal.returns
returns g c =
    (c.loop-looks.looks, c.loop-looks.clock, c.loop-looks.invariant, inr (inr (omega (arith, c.loop-looks-test.false, c.loop-looks.auto.looks-end), refl, refl)))
