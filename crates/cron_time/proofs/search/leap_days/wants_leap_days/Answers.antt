use Rattle.std.proofs.Common.{◌≡◌, Bool, true, false, sym, subst, ◌∙◌}
use Rattle.std.specs.Prelude.{not}
use Rattle.cron_units.specs.Sets.{Sets}
use Rattle.cron_time.specs.Search.Inner.LeapDays.{WantsLeapDays}
use Rattle.cron_time.proofs.Searches.LeapLemmas.{february_alone, late_alone}
use Rattle.cron_time.proofs.search.leap_days.wants_leap_days.Goals as goal

not_true : (b : Bool) → not b ≡ true → b ≡ false
not_true true h = cc
not_true false h = cc

pub returns : goal.returns
returns c = λ unmarked.
    let P : Sets → Type 0 = WantsLeapDays in
    subst P c.fields.view_is (record {
      months = λ m h. february_alone _ _ _ m c.bits.ensures.set c.bits.ensures.bits c.without-others.ensures.bits c.if-others-ne0.false h;
      days = λ d less. late_alone _ _ _ d c.bits_of_days.ensures.set c.bits_of_days.ensures.bits c.below-early.ensures.bits c.if-early-ne0.false less;
      unmarked = sym c.last_day.ensures ∙ not_true c.last_day.result unmarked;
    })
