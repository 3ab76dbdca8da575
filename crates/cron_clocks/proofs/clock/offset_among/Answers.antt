use Rattle.std.proofs.Common.{rules, ◌≡◌, ◌∙◌, sym, ap, pos, cond, FitsSigned, w64, to_z, of_z, to_z-of_z}
use Rattle.cron_clocks.proofs.ClockLemmas.{fits_utc, in_utc, shown_among, stays_near}
use Rattle.cron_clocks.proofs.clock.offset_among.Goals as goal
use Rattle.cron_clocks.proofs.clock.offset_among.Goals.{then-lasts, else-lasts}

pub overflow_sub-placed : goal.overflow_sub-placed
overflow_sub-placed c = fits_utc _ _ _ c.args.transitions.start_near c.args.rule.std_offset.in_range c.from-2.ensures

pub overflow_sub-placed-2 : goal.overflow_sub-placed-2
overflow_sub-placed-2 c = fits_utc _ _ _ c.args.transitions.end_near c.args.dst.offset.in_range c.from-3.ensures

pub invariant_of-placed-clause-start_near : goal.invariant_of-placed-clause-start_near
invariant_of-placed-clause-start_near c =
    let far = c.are_far_inside.ensures.start c.if-not-are_far_inside.false in
    let near = c.args.transitions.start_near in
    rw (in_utc c.args.transitions.start c.args.rule.std_offset.seconds c.from-2.result near c.args.rule.std_offset.in_range c.from-2.ensures)
    (stays_near c.args.transitions.start _ _ _ near c.args.rule.std_offset.in_range c.args.transitions.first_near c.args.transitions.last_near far)

pub invariant_of-placed-clause-end_near : goal.invariant_of-placed-clause-end_near
invariant_of-placed-clause-end_near c =
    let far = c.are_far_inside.ensures.end c.if-not-are_far_inside.false in
    let near = c.args.transitions.end_near in
    rw (in_utc c.args.transitions.end c.args.dst.offset.seconds c.from-3.result near c.args.dst.offset.in_range c.from-3.ensures)
    (stays_near c.args.transitions.end _ _ _ near c.args.dst.offset.in_range c.args.transitions.first_near c.args.transitions.last_near far)

pub returns-clause-far : goal.returns-clause-far
returns-clause-far c =
    (c.are_far_inside.ensures.start c.if-not-are_far_inside.false, c.are_far_inside.ensures.end c.if-not-are_far_inside.false)

pub returns-clause-shown : goal.returns-clause-shown
returns-clause-shown c =
    λ t e.
    let start_far = c.are_far_inside.ensures.start c.if-not-are_far_inside.false in
    let end_far = c.are_far_inside.ensures.end c.if-not-are_far_inside.false in
    let fits : FitsSigned w64 c.from.result = search rules in
    let at : to_z w64 (of_z w64 c.from.result) ≡ pos c.args.second = to_z-of_z fits ∙ c.from.ensures in
    let lasts = rw (
      in_utc c.args.transitions.start c.args.rule.std_offset.seconds c.from-2.result c.args.transitions.start_near c.args.rule.std_offset.in_range c.from-2.ensures,
      in_utc c.args.transitions.end c.args.dst.offset.seconds c.from-3.result c.args.transitions.end_near c.args.dst.offset.in_range c.from-3.ensures,
      at,
    )
    at c.lasts.ensures in
    let picked : cond c.lasts.result c.args.dst.offset.seconds c.args.rule.std_offset.seconds ≡ c.from_plain.result.seconds =
    elim c.if-lasts.branch [
      | then-lasts w ↦
          ap (λ b. cond b c.args.dst.offset.seconds c.args.rule.std_offset.seconds) w.if-lasts.true
          ∙ sym (ap (λ o. o.seconds) (c.from_plain.ensures ∙ w.shown-is))
      | else-lasts w ↦
          ap (λ b. cond b c.args.dst.offset.seconds c.args.rule.std_offset.seconds) w.if-lasts.false
          ∙ sym (ap (λ o. o.seconds) (c.from_plain.ensures ∙ w.shown-is))
    ] in
    let shown = shown_among c.args.rule c.args.dst _ _ c.args.transitions.start c.args.transitions.end (pos c.args.second) c.requires.saving c.requires.transitions
    start_far end_far c.requires.low c.requires.high t e in
    shown ∙ ap (λ w. cond w c.args.dst.offset.seconds c.args.rule.std_offset.seconds) (sym lasts) ∙ picked
