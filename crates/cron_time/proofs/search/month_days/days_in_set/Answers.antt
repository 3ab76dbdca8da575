use Rattle.std.proofs.Common.{◌≡◌, ◌+◌, true, false, sym, ap, ◌∙◌, arith}
use Rattle.cron_units.specs.Sets.{Sets}
use Rattle.cron_units.specs.Units.{contains}
use Rattle.cron_time.proofs.Searches.MonthDayLemmas.{cut_bit, marked_bit, short_bit, shortest_28}
use Rattle.cron_time.proofs.search.month_days.days_in_set.Goals as goal

pub returns-then-last_day : goal.returns-then-last_day
returns-then-last_day c = λ k.
    let s : Sets = c.args.fields.now in
    let marked : s.days_of_month.last_day ≡ true =
    sym (ap (λ (t : Sets). t.days_of_month.last_day) c.fields.view_is) ∙ (sym c.last_day.ensures ∙ c.if-last_day.true) in
    marked_bit s c.args.month c.length_of-last.result k c.bits_of_days-numbered.result c.below.result c.with.result
    c.length_of-last.ensures.value (omega (arith, c.length_of-last.ensures.bound)) marked
    (λ j. c.bits_of_days-numbered.ensures.bits j ∙ ap (λ (t : Sets). contains t.days_of_month.ordinals (1 + j)) c.fields.view_is)
    c.below.ensures.bits c.with.ensures.bits

pub returns-then-at_least-eq0 : goal.returns-then-at_least-eq0
returns-then-at_least-eq0 c = λ k.
    let s : Sets = c.args.fields.now in
    let unmarked : s.days_of_month.last_day ≡ false =
    sym (ap (λ (t : Sets). t.days_of_month.last_day) c.fields.view_is) ∙ (sym c.last_day.ensures ∙ c.if-last_day.false) in
    short_bit s c.args.month k c.bits_of_days-numbered.result c.at_least.result unmarked (shortest_28 c.args.month)
    (λ j. c.bits_of_days-numbered.ensures.bits j ∙ ap (λ (t : Sets). contains t.days_of_month.ordinals (1 + j)) c.fields.view_is)
    c.at_least.ensures.bits c.if-at_least-eq0.true

pub returns : goal.returns
returns c = λ k.
    let s : Sets = c.args.fields.now in
    let unmarked : s.days_of_month.last_day ≡ false =
    sym (ap (λ (t : Sets). t.days_of_month.last_day) c.fields.view_is) ∙ (sym c.last_day.ensures ∙ c.if-last_day.false) in
    cut_bit s c.args.month c.length_of.result k c.bits_of_days-numbered.result c.below-2.result c.length_of.ensures.value unmarked
    (λ j. c.bits_of_days-numbered.ensures.bits j ∙ ap (λ (t : Sets). contains t.days_of_month.ordinals (1 + j)) c.fields.view_is)
    c.below-2.ensures.bits
