use Rattle.std.proofs.Common.{rules, ◌≡◌, Bool, true, false, ℤ, ◌≤ℤ◌, ◌<ℤ◌, Some, None, FitsSigned, w64, to_z-of_z, sym, subst, ◌∙◌, arith}
use Rattle.std.specs.Prelude.{not}
use Rattle.std.specs.Int.{int_max}
use Rattle.std.proofs.lemmas.Int.{ints, clamps}
use Rattle.cron_windows.specs.Windows.{AllAre, LastsSince, LastsUntil, is_open}
use Rattle.cron_windows.proofs.ClosingLemmas.{closing-by_is}
use Rattle.cron_windows.proofs.WindowLemmas as windows
use Rattle.cron_windows.proofs.windows.Windows.closed_start.Goals as goal

pub returns-in_default : goal.returns-in_default
returns-in_default g c =
    let fits-second : FitsSigned w64 c.args.second = search rules in
    let fits-from : FitsSigned w64 c.args.from = search rules in
    let none = rw (to_z-of_z fits-second) at c.in_default.ensures in
    rw (to_z-of_z fits-from)
    (subst (λ v. LastsSince (is_open v) false c.args.from c.args.second c.args.from) c.self.view_is
    (windows.since-nothing _ (closing-by_is g.R.Rule.at (λ set. g.R.Rule.fires (g.C.CivilSeconds.has set) c.self.inside.clock.now) c.self.inside.closing c.self.invariant) c.args.from c.args.second none c.requires.later))

pub has_closed-requires-clause-instant : goal.has_closed-requires-clause-instant
has_closed-requires-clause-instant g c =
    let fits-second : FitsSigned w64 c.args.second = search rules in
    let fits-from : FitsSigned w64 c.args.from = search rules in
    let fits-opened : FitsSigned w64 c.in-Some.opened = search rules in
    let last = rw (to_z-of_z fits-second) at c.in-Some.ensures in
    let le : c.in-Some.opened ≤ℤ c.args.second = last.1 in
    let since : c.max-since.result ≡ int_max c.in-Some.opened c.args.from = rw (to_z-of_z fits-opened, to_z-of_z fits-from) at c.max-since.ensures.value in
    (omega (arith, ints, clamps), omega (arith, ints, clamps))

pub returns-then-has_closed : goal.returns-then-has_closed
returns-then-has_closed g c =
    let fits-second : FitsSigned w64 c.args.second = search rules in
    let fits-from : FitsSigned w64 c.args.from = search rules in
    let fits-opened : FitsSigned w64 c.in-Some.opened = search rules in
    let last = rw (to_z-of_z fits-second) at c.in-Some.ensures in
    let le : c.in-Some.opened ≤ℤ c.args.second = last.1 in
    let since : c.max-since.result ≡ int_max c.in-Some.opened c.args.from = rw (to_z-of_z fits-opened, to_z-of_z fits-from) at c.max-since.ensures.value in
    let fits-since : FitsSigned w64 c.max-since.result = search rules in
    let closed = rw (to_z-of_z fits-since, to_z-of_z fits-opened) at c.has_closed.ensures in
    rw (to_z-of_z fits-from)
    (subst (λ v. LastsSince (is_open v) false c.args.from c.args.second c.args.from) c.self.view_is
    (windows.since-from _ (closing-by_is g.R.Rule.at (λ set. g.R.Rule.fires (g.C.CivilSeconds.has set) c.self.inside.clock.now) c.self.inside.closing c.self.invariant) c.args.from c.args.second c.in-Some.opened c.max-since.result last
    (windows.max-cases c.in-Some.opened c.args.from c.max-since.result since) c.requires.later (sym closed ∙ c.if-has_closed.true)))

pub end-requires-clause-instant : goal.end-requires-clause-instant
end-requires-clause-instant g c =
    let fits-second : FitsSigned w64 c.args.second = search rules in
    let fits-from : FitsSigned w64 c.args.from = search rules in
    let fits-opened : FitsSigned w64 c.in-Some.opened = search rules in
    let last = rw (to_z-of_z fits-second) at c.in-Some.ensures in
    let le : c.in-Some.opened ≤ℤ c.args.second = last.1 in
    let since : c.max-since.result ≡ int_max c.in-Some.opened c.args.from = rw (to_z-of_z fits-opened, to_z-of_z fits-from) at c.max-since.ensures.value in
    (omega (arith, ints, clamps), omega (arith, ints, clamps))

pub end-requires-clause-later : goal.end-requires-clause-later
end-requires-clause-later g c =
    let fits-second : FitsSigned w64 c.args.second = search rules in
    let fits-from : FitsSigned w64 c.args.from = search rules in
    let fits-opened : FitsSigned w64 c.in-Some.opened = search rules in
    let last = rw (to_z-of_z fits-second) at c.in-Some.ensures in
    let le : c.in-Some.opened ≤ℤ c.args.second = last.1 in
    let since : c.max-since.result ≡ int_max c.in-Some.opened c.args.from = rw (to_z-of_z fits-opened, to_z-of_z fits-from) at c.max-since.ensures.value in
    let fits-since : FitsSigned w64 c.max-since.result = search rules in
    let closed = rw (to_z-of_z fits-since, to_z-of_z fits-opened) at c.has_closed.ensures in
    let none = subst (λ v. is_open v c.args.second ≡ false) (sym c.self.view_is) c.requires.is in
    rw (to_z-of_z fits-since, to_z-of_z fits-second)
    (windows.since-later _ (closing-by_is g.R.Rule.at (λ set. g.R.Rule.fires (g.C.CivilSeconds.has set) c.self.inside.clock.now) c.self.inside.closing c.self.invariant) c.args.second c.in-Some.opened c.max-since.result last none (sym closed ∙ c.if-has_closed.false) (omega (arith, ints, clamps)))

pub returns : goal.returns
returns g c =
    let fits-second : FitsSigned w64 c.args.second = search rules in
    let fits-from : FitsSigned w64 c.args.from = search rules in
    let fits-opened : FitsSigned w64 c.in-Some.opened = search rules in
    let last = rw (to_z-of_z fits-second) at c.in-Some.ensures in
    let le : c.in-Some.opened ≤ℤ c.args.second = last.1 in
    let since : c.max-since.result ≡ int_max c.in-Some.opened c.args.from = rw (to_z-of_z fits-opened, to_z-of_z fits-from) at c.max-since.ensures.value in
    let fits-since : FitsSigned w64 c.max-since.result = search rules in
    let closed = rw (to_z-of_z fits-since, to_z-of_z fits-opened) at c.has_closed.ensures in
    let fits-end : FitsSigned w64 c.end.result = search rules in
    let none = subst (λ v. is_open v c.args.second ≡ false) (sym c.self.view_is) c.requires.is in
    let ends = rw (to_z-of_z fits-since, to_z-of_z fits-opened, to_z-of_z fits-second) at c.end.ensures in
    rw (to_z-of_z fits-end)
    (subst (λ v. LastsSince (is_open v) false c.args.from c.args.second c.end.result) c.self.view_is
    (windows.since-end _ (closing-by_is g.R.Rule.at (λ set. g.R.Rule.fires (g.C.CivilSeconds.has set) c.self.inside.clock.now) c.self.inside.closing c.self.invariant) c.args.from c.max-since.result c.args.second c.in-Some.opened c.end.result last (omega (arith, ints, clamps)) (omega (arith, ints, clamps)) none ends))
