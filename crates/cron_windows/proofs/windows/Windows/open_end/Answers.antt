use Rattle.std.proofs.Common.{rules, ◌≡◌, true, ℤ, pos, ◌≤ℤ◌, ◌<ℤ◌, ◌+ℤ◌, ◌-ℤ◌, FitsSigned, w64, to_z, to_z-of_z, inl, inr, sym, subst, ap, ◌∙◌, arith}
use Rattle.std.proofs.lemmas.Int.{ints, by_lt_z}
use Rattle.cron_windows.specs.Windows.{AllAre, LastsSince, LastsUntil, is_open}
use Rattle.cron_windows.proofs.windows.Windows.open_end.Goals as goal

pub loop-end-preserved : goal.loop-end-preserved
loop-end-preserved g c =
    let fits-second : FitsSigned w64 c.args.second = search rules in
    let fits-to : FitsSigned w64 c.args.to = search rules in
    let fits-later : FitsSigned w64 c.in-Some.later = search rules in (
      omega (arith, ints, c.in-Some.ensures.0),
      omega (arith, ints, c.in-Some.ensures.1),
      λ t low high. by_lt_z t (to_z w64 c.loop-end.end-bits)
          (λ early. c.loop-end.invariant.2 t (omega (arith, ints)) (omega (arith, ints)))
          (λ late. c.in-Some.ensures.2 t (omega (arith, ints)) (omega (arith, ints))),
    )
