use Rattle.std.proofs.Common.{◌≡◌, Bool, true, inl, inr, rules}
use Rattle.std.specs.Bool.{IsTrue}
use Rattle.cron_clocks.proofs.SeasonBoundsLemmas.{season_bounds_within, season_bounds_across}
use Rattle.cron_clocks.proofs.RuleTransitions.{in_order}
use Rattle.cron_clocks.proofs.season.season_bounds_of.Goals as goal

is_true : (b : Bool) → b ≡ true → IsTrue b
is_true b h = search rules

pub returns-then-is_week_before-clause-apart : goal.returns-then-is_week_before-clause-apart
returns-then-is_week_before-clause-apart c =
    let start = c.is_week_inside.ensures (is_true c.is_week_inside.result c.if-not-is_week_inside.false) in
    let end = c.is_week_inside-else-not-is_week_inside.ensures (is_true c.is_week_inside-else-not-is_week_inside.result c.if-not-is_week_inside-2.false) in
    let before = c.is_week_before.ensures (is_true c.is_week_before.result c.if-is_week_before.true) in
    inl (in_order _ _ _ _ _ _ (c.seconds_of-start.ensures.transitions start) (c.seconds_of-end.ensures.transitions end) start.0 before end.1)

pub returns-then-is_week_before-clause-bounds : goal.returns-then-is_week_before-clause-bounds
returns-then-is_week_before-clause-bounds c =
    let start = c.is_week_inside.ensures (is_true c.is_week_inside.result c.if-not-is_week_inside.false) in
    let end = c.is_week_inside-else-not-is_week_inside.ensures (is_true c.is_week_inside-else-not-is_week_inside.result c.if-not-is_week_inside-2.false) in
    let made = c.season_bounds_among.ensures in
    rw (made.outer, made.inner, c.from_plain-standard.ensures, c.from_plain-saving.ensures)
    (season_bounds_within c.args.rule c.args.dst c.requires _ _ _ _ _ _ _ _
    (record {
      order = record {
        low = start.0;
        one = c.seconds_of-start.ensures.order;
        apart = c.is_week_before.ensures (is_true c.is_week_before.result c.if-is_week_before.true);
        other = c.seconds_of-end.ensures.order;
        high = end.1;
      };
      outer_end_is = made.outer_end;
      inner_first_is = made.inner_first;
      inner_end_is = made.inner_end;
      outer_first_is = made.outer_first;
    })
    (c.seconds_of-start.ensures.transitions start) (c.seconds_of-end.ensures.transitions end))

pub returns-then-is_week_before-2-clause-apart : goal.returns-then-is_week_before-2-clause-apart
returns-then-is_week_before-2-clause-apart c =
    let start = c.is_week_inside.ensures (is_true c.is_week_inside.result c.if-not-is_week_inside.false) in
    let end = c.is_week_inside-else-not-is_week_inside.ensures (is_true c.is_week_inside-else-not-is_week_inside.result c.if-not-is_week_inside-2.false) in
    let before = c.is_week_before-else-is_week_before.ensures (is_true c.is_week_before-else-is_week_before.result c.if-is_week_before-2.true) in
    inr (in_order _ _ _ _ _ _ (c.seconds_of-end.ensures.transitions end) (c.seconds_of-start.ensures.transitions start) end.0 before start.1)

pub returns-then-is_week_before-2-clause-bounds : goal.returns-then-is_week_before-2-clause-bounds
returns-then-is_week_before-2-clause-bounds c =
    let start = c.is_week_inside.ensures (is_true c.is_week_inside.result c.if-not-is_week_inside.false) in
    let end = c.is_week_inside-else-not-is_week_inside.ensures (is_true c.is_week_inside-else-not-is_week_inside.result c.if-not-is_week_inside-2.false) in
    let made = c.season_bounds_among-then-is_week_before-2.ensures in
    rw (made.outer, made.inner, c.from_plain-standard.ensures, c.from_plain-saving.ensures)
    (season_bounds_across c.args.rule c.args.dst c.requires _ _ _ _ _ _ _ _
    (record {
      order = record {
        low = end.0;
        one = c.seconds_of-end.ensures.order;
        apart = c.is_week_before-else-is_week_before.ensures (is_true c.is_week_before-else-is_week_before.result c.if-is_week_before-2.true);
        other = c.seconds_of-start.ensures.order;
        high = start.1;
      };
      outer_end_is = made.outer_end;
      inner_first_is = made.inner_first;
      inner_end_is = made.inner_end;
      outer_first_is = made.outer_first;
    })
    (c.seconds_of-end.ensures.transitions end) (c.seconds_of-start.ensures.transitions start))
