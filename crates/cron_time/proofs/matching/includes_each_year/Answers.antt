use Rattle.std.proofs.Common.{◌+◌, refl, ap, sym, ◌∙◌, rules}
use Rattle.cron_units.specs.Sets.{Sets}
use Rattle.cron_units.specs.Units.{contains}
use Rattle.cron_time.proofs.Searches.EachDateLemmas.{each_bit}
use Rattle.cron_time.proofs.matching.includes_each_year.Goals as goal

pub three-first-requires : goal.three-first-requires
three-first-requires c κs = search rules

pub is_full-requires : goal.is_full-requires
is_full-requires c = search rules

pub returns-then-not-is_full : goal.returns-then-not-is_full
returns-then-not-is_full c = search rules

pub is_full-requires-2 : goal.is_full-requires-2
is_full-requires-2 c = search rules

pub returns-then-not-is_full-2 : goal.returns-then-not-is_full-2
returns-then-not-is_full-2 c = search rules

pub is_full-requires-3 : goal.is_full-requires-3
is_full-requires-3 c = search rules

pub returns : goal.returns
returns c = λ full k less.
    sym (c.three-first.ensures.bits k ∙ ap (λ (t : Sets). contains t.years (1970 + k)) c.fields.view_is)
    ∙ each_bit _ _ _ k (c.if-not-is_full.ensures refl) (c.if-not-is_full-2.ensures refl) (c.is_full-3.ensures full) less
