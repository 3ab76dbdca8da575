use Rattle.std.proofs.Common.{rules, ◌≡◌, Bool, true, false, ℤ, pos, ◌+ℤ◌, ◌≤ℤ◌, ◌<ℤ◌, Some, None, FitsSigned, w64, to_z-of_z, sym, subst, ◌∙◌, arith}
use Rattle.std.specs.Prelude.{MatchOption}
use Rattle.std.proofs.lemmas.Int.{ints, clamps}
use Rattle.cron_windows.specs.Windows.{AllAre, behind, closing_by, is_open}
use Rattle.cron_stretches.specs.Fires.{instants}
use Rattle.cron_windows.proofs.ClosingLemmas.{closing-by_is}
use Rattle.cron_windows.proofs.WindowLemmas as windows
use Rattle.cron_windows.proofs.windows.Windows.open_since.Goals as goal

pub returns-in_default : goal.returns-in_default
returns-in_default g c =
    let fits-second : FitsSigned w64 c.args.second = search rules in
    let none = rw (to_z-of_z fits-second) at c.in_default.ensures in
    subst (λ v. is_open v c.args.second ≡ false) c.self.view_is (windows.none-opened _ (closing-by_is g.R.Rule.at (λ set. g.R.Rule.fires (g.C.CivilSeconds.has set) c.self.inside.clock.now) c.self.inside.closing c.self.invariant) c.args.second none c.args.second (omega (arith, ints)))

pub returns-then-has_closed : goal.returns-then-has_closed
returns-then-has_closed g c =
    let fits-second : FitsSigned w64 c.args.second = search rules in
    let fits-opened : FitsSigned w64 c.in-Some.opened = search rules in
    let last = rw (to_z-of_z fits-second) at c.in-Some.ensures in
    let closed = rw (to_z-of_z fits-second, to_z-of_z fits-opened) at c.has_closed.ensures in
    subst (λ v. is_open v c.args.second ≡ false) c.self.view_is (windows.last-closed _ (closing-by_is g.R.Rule.at (λ set. g.R.Rule.fires (g.C.CivilSeconds.has set) c.self.inside.clock.now) c.self.inside.closing c.self.invariant) c.args.second c.in-Some.opened last (sym closed ∙ c.if-has_closed.true))

pub returns-then-opened-from : goal.returns-then-opened-from
returns-then-opened-from g c =
    let fits-second : FitsSigned w64 c.args.second = search rules in
    let fits-from : FitsSigned w64 c.args.from = search rules in
    let fits-opened : FitsSigned w64 c.in-Some.opened = search rules in
    let last = rw (to_z-of_z fits-second) at c.in-Some.ensures in
    let le : c.in-Some.opened ≤ℤ c.args.second = last.1 in
    let closed = rw (to_z-of_z fits-second, to_z-of_z fits-opened) at c.has_closed.ensures in
    rw (to_z-of_z fits-from) (
      omega (arith, ints),
      c.requires.later,
      subst (λ v. AllAre (is_open v) c.args.from (c.args.second +ℤ pos 1) true) c.self.view_is
          (windows.last-open_from _ (closing-by_is g.R.Rule.at (λ set. g.R.Rule.fires (g.C.CivilSeconds.has set) c.self.inside.clock.now) c.self.inside.closing c.self.invariant) c.args.from c.args.second c.in-Some.opened last (sym closed ∙ c.if-has_closed.false) (omega (arith, ints, c.if-opened-from.true))),
    )

pub next_fire-requires : goal.next_fire-requires
next_fire-requires g c =
    let fits-second : FitsSigned w64 c.args.second = search rules in
    let fits-from : FitsSigned w64 c.args.from = search rules in
    let fits-opened : FitsSigned w64 c.in-Some.opened = search rules in
    let last = rw (to_z-of_z fits-second) at c.in-Some.ensures in
    let le : c.in-Some.opened ≤ℤ c.args.second = last.1 in
    let closed = rw (to_z-of_z fits-second, to_z-of_z fits-opened) at c.has_closed.ensures in
    let fits-behind : FitsSigned w64 c.behind-behind.result = search rules in
    let place : c.behind-behind.result ≡ behind c.args.from c.reach.result = rw (to_z-of_z fits-from) at c.behind-behind.ensures in
    let low = windows.behind-low c.args.from c.reach.result in
    let all = rw (to_z-of_z fits-second) at c.reach.ensures in
    let later : c.args.from <ℤ c.in-Some.opened = omega (arith, ints, c.if-opened-from.false) in
    let early = windows.behind-opened
    (record {
      opens = instants g.R.Rule.at (g.R.Rule.fires (g.S.CivilSeconds.has c.self.inside.opens) c.self.inside.clock.now);
      closing = closing_by g.R.Rule.at (λ set. g.R.Rule.fires (g.C.CivilSeconds.has set) c.self.inside.clock.now) c.self.inside.closing;
    })
    (closing-by_is g.R.Rule.at (λ set. g.R.Rule.fires (g.C.CivilSeconds.has set) c.self.inside.clock.now) c.self.inside.closing c.self.invariant) c.args.from c.args.second c.in-Some.opened c.reach.result all later le (sym closed ∙ c.if-has_closed.false) in
    (omega (arith, ints, place, low), omega (arith, ints, place, early))

pub returns : goal.returns
returns g c =
    let fits-second : FitsSigned w64 c.args.second = search rules in
    let fits-from : FitsSigned w64 c.args.from = search rules in
    let fits-opened : FitsSigned w64 c.in-Some.opened = search rules in
    let last = rw (to_z-of_z fits-second) at c.in-Some.ensures in
    let le : c.in-Some.opened ≤ℤ c.args.second = last.1 in
    let closed = rw (to_z-of_z fits-second, to_z-of_z fits-opened) at c.has_closed.ensures in
    let fits-behind : FitsSigned w64 c.behind-behind.result = search rules in
    let place : c.behind-behind.result ≡ behind c.args.from c.reach.result = rw (to_z-of_z fits-from) at c.behind-behind.ensures in
    let low = windows.behind-low c.args.from c.reach.result in
    let all = rw (to_z-of_z fits-second) at c.reach.ensures in
    let later : c.args.from <ℤ c.in-Some.opened = omega (arith, ints, c.if-opened-from.false) in
    let next = rw (to_z-of_z fits-behind, place) at c.next_fire.ensures in
    subst (λ v. MatchOption c.next_fire.result (is_open v c.args.second ≡ false)
    (λ first. (c.args.from ≤ℤ first) × (first ≤ℤ c.args.second) × AllAre (is_open v) first (c.args.second +ℤ pos 1) true)) c.self.view_is
    (windows.since-found _ (closing-by_is g.R.Rule.at (λ set. g.R.Rule.fires (g.C.CivilSeconds.has set) c.self.inside.clock.now) c.self.inside.closing c.self.invariant) c.args.from c.args.second c.in-Some.opened c.reach.result c.next_fire.result last (sym closed ∙ c.if-has_closed.false) all later low next)
