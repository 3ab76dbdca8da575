use Rattle.std.proofs.Common.{◌≡◌, ap, ◌∙◌, sym, pos, ◌+ℤ◌, ◌-ℤ◌, to_z, of_z, to_z-of_z, FitsSigned, w64, Some, arith, rules}
use Rattle.std.specs.Int.{w128}
use Rattle.std.proofs.lemmas.Int.{ints}
use Rattle.jiff.specs.Words.{plain_zone}
use Rattle.jiff_tz.specs.Zone.{offset_at}
use Rattle.cron_time.specs.Walk.Bounds.{bound_ahead, bound_back, shown_at}
use Rattle.cron_time.proofs.Walks.BoundLemmas.{moved_second}
use Rattle.cron_time.proofs.walk.bounds.bound.Goals as goal

pub returns-in-Ahead-clause-bound : goal.returns-in-Ahead-clause-bound
unfolding bound_ahead
returns-in-Ahead-clause-bound c =
    let later : to_z w128 (of_z w128 (to_z w128 (of_z w128 c.as_nanosecond.result) +ℤ pos 1_000_000_000)) ≡ c.args.start.nanosecond +ℤ pos 1_000_000_000 =
    omega (arith, ints, c.as_nanosecond.ensures, c.args.start.in_range) in
    rw (c.in-Ahead.is, ← later) c.shown_if_any.ensures.shown

pub returns-then-is_whole-clause-bound : goal.returns-then-is_whole-clause-bound
unfolding bound_back
returns-then-is_whole-clause-bound c =
    let earlier : to_z w128 (of_z w128 (to_z w128 (of_z w128 c.as_nanosecond-then-is_whole.result) -ℤ pos 1_000_000_000))
    ≡ c.args.start.nanosecond -ℤ pos 1_000_000_000 =
    omega (arith, ints, c.as_nanosecond-then-is_whole.ensures, c.args.start.in_range) in
    rw (c.in-Back.is, sym c.is_whole.ensures ∙ c.if-is_whole.true, ← earlier) c.shown_if_any-then-is_whole.ensures.shown

pub returns-else-is_whole-clause-bound : goal.returns-else-is_whole-clause-bound
unfolding bound_back
returns-else-is_whole-clause-bound c =
    let fits : FitsSigned w64 c.shown_at.result = search rules in
    let z = plain_zone c.args.zone.now in
    let t = c.args.start.nanosecond in
    let shown : c.shown_at.result ≡ shown_at z t = c.shown_at.ensures.shown ∙ moved_second t (offset_at z t) in
    rw (c.in-Back.is, sym c.is_whole.ensures ∙ c.if-is_whole.false, to_z-of_z fits) (ap Some shown)
