use Rattle.std.proofs.Common.{rules, ◌≡◌, true, ℤ, pos, ◌≤ℤ◌, ◌<ℤ◌, ◌+ℤ◌, ◌-ℤ◌, FitsSigned, w64, to_z, to_z-of_z, inl, inr, sym, subst, ap, ◌∙◌, arith}
use Rattle.std.proofs.lemmas.Int.{ints, by_lt_z}
use Rattle.cron_windows.specs.Windows.{AllAre, LastsSince, LastsUntil, is_open}
use Rattle.cron_windows.proofs.windows.Windows.open_start.Goals as goal

pub loop-first-preserved : goal.loop-first-preserved
loop-first-preserved g c =
    let fits-second : FitsSigned w64 c.args.second = search rules in
    let fits-from : FitsSigned w64 c.args.from = search rules in
    let fits-earlier : FitsSigned w64 c.in-Some.earlier = search rules in (
      omega (arith, ints, c.in-Some.ensures.0),
      omega (arith, ints, c.in-Some.ensures.1),
      λ t low high. by_lt_z t (to_z w64 c.loop-first.first-bits)
          (λ early. c.in-Some.ensures.2 t (omega (arith, ints)) (omega (arith, ints)))
          (λ late. c.loop-first.invariant.2 t (omega (arith, ints)) (omega (arith, ints))),
    )

pub returns-in-None : goal.returns-in-None
returns-in-None g c =
    let fits-before : FitsSigned w64 (to_z w64 c.loop-first.first-bits -ℤ pos 1) = search rules in
    let closed = rw (to_z-of_z fits-before) at c.in-None.ensures in
    record {
      from_first = omega (arith, ints);
      first_to_t = omega (arith, ints);
      alike = λ t low high. c.loop-first.invariant.2 t (omega (arith, ints)) (omega (arith, ints));
      before = inr closed;
    }
