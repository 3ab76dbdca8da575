use Rattle.std.proofs.Common.{rules, ◌≡◌, pos, ◌+ℤ◌, ◌∷◌, Some, None, refl, sym, ap, ◌∙◌, FitsSigned, w64, to_z-of_z}
use Rattle.cron_dues.proofs.StandLemmas.{left-end, left-first, left-past}
use Rattle.cron_dues.proofs.once.OnceRule.next.Goals as goal

pub returns-in_default-clause-first : goal.returns-in_default-clause-first
returns-in_default-clause-first g c =
    let fits : FitsSigned w64 c.args.stand.now.from = search rules in
    let none = rw (to_z-of_z fits, c.in_default.is) at c.next_due.ensures.next.nearest in (
      left-first (g.S.CivilSeconds.has c.args.set.now) (g.C.Clock.offsets c.args.clock.now) c.args.stand.now.from None none,
      left-end (g.S.CivilSeconds.has c.args.set.now) (g.C.Clock.offsets c.args.clock.now) (pos 4_133_980_800) refl,
    )

pub returns-clause-first : goal.returns-clause-first
returns-clause-first g c =
    let s = g.S.CivilSeconds.has c.args.set.now in
    let clock = g.C.Clock.offsets c.args.clock.now in
    let fire = c.in-Some.fire in
    let fits : FitsSigned w64 c.args.stand.now.from = search rules in
    let fits-second : FitsSigned w64 c.from.result = search rules in
    let fits-next : FitsSigned w64 (c.from.result +ℤ pos 1) = search rules in
    let second : c.from.result ≡ pos fire.second = rw c.nominal_second.ensures at c.from.ensures in
    let found = rw (to_z-of_z fits, c.in-Some.is) at c.next_due.ensures.next.nearest in
    rw (to_z-of_z fits-second, to_z-of_z fits-next) (left-first s clock c.args.stand.now.from (Some fire) found
    ∙ ap (λ l. fire ∷ l) (sym (left-past s clock (c.from.result +ℤ pos 1) fire (ap (λ k. k +ℤ pos 1) second))))
