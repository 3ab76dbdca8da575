use Rattle.std.proofs.Common.{◌≡◌, Bool, true, inl, inr, rules}
use Rattle.std.specs.Bool.{IsTrue}
use Rattle.cron_clocks.proofs.RuleTransitions.{in_order}
use Rattle.cron_clocks.proofs.transitions.transitions_apart.Goals as goal

is_true : (b : Bool) → b ≡ true → IsTrue b
is_true b h = search rules

pub returns-then-is_week_before : goal.returns-then-is_week_before
returns-then-is_week_before c =
    λ before.
    let start = c.is_week_inside.ensures (is_true c.is_week_inside.result c.if-not-is_week_inside.false) in
    let end = c.is_week_inside-else-not-is_week_inside.ensures (is_true c.is_week_inside-else-not-is_week_inside.result c.if-not-is_week_inside-2.false) in
    inl (in_order _ _ _ _ _ _ (c.seconds_of-start.ensures.transitions start) (c.seconds_of-end.ensures.transitions end) start.0 (c.is_week_before.ensures before) end.1)

pub returns-else-is_week_before : goal.returns-else-is_week_before
returns-else-is_week_before c =
    λ before.
    let start = c.is_week_inside.ensures (is_true c.is_week_inside.result c.if-not-is_week_inside.false) in
    let end = c.is_week_inside-else-not-is_week_inside.ensures (is_true c.is_week_inside-else-not-is_week_inside.result c.if-not-is_week_inside-2.false) in
    inr (in_order _ _ _ _ _ _ (c.seconds_of-end.ensures.transitions end) (c.seconds_of-start.ensures.transitions start) end.0
    (c.is_week_before-else-is_week_before.ensures before) start.1)
