-- The definitions on written examples, by computation.
use Rattle.std.proofs.Common.{inr, refl, arith}
use Rattle.jiff_core.specs.Calendar.{days_from_civil, day_count, days_of_years, days_of_months}
use Rattle.std.specs.Fmt.{digits}
use Rattle.cron_units.specs.Laws.{is_unit-seconds, is_unit-days_of_month, is_unit-days_of_week}
use Rattle.cron_units.specs.Refusals.{below, above, no_range, first_unknown, turned, by_base, by_zero, by_step, unknown}
use Rattle.cron_units.specs.Units.{whole}
use Rattle.cron_units.proofs.DenotedSets.{denotes_union}
use Rattle.cron.specs.Examples.{TextsAreCut, ItemsDenote, ItemsAreRefused, CursorsStep, DaysAreNumbered}
use Rattle.cron_text.specs.Tokens.{tokens, symbol_of}
use Rattle.cron_moments.proofs.CivilLemmas.{civil_seconds-civil}

pub texts_are_cut : TextsAreCut
unfolding tokens symbol_of
texts_are_cut = record {
  steps_tokens = refl;
  steps_field = record { written = refl; nonempty = λ h. (cc); spaced = refl; wildcards_allowed = refl };
  list_tokens = refl;
  list_field = record { written = refl; nonempty = λ h. (cc); spaced = refl; wildcards_allowed = refl };
  names_tokens = refl;
  names_field = record { written = refl; nonempty = λ h. (cc); spaced = refl; wildcards_allowed = refl };
  apart = refl;
}

pub items_denote : ItemsDenote
unfolding whole
items_denote = record {
  steps = denotes_union _ _ _ is_unit-seconds refl refl;
  names = denotes_union _ _ _ is_unit-days_of_week refl refl;
  last_day = denotes_union _ _ _ is_unit-days_of_month refl refl;
  last_day_first = denotes_union _ _ _ is_unit-days_of_month refl refl;
}

pub items_are_refused : ItemsAreRefused
unfolding digits
items_are_refused = record {
  small = record { refusal = _; refused = by_base (below (omega arith)); told = refl };
  large = record { refusal = _; refused = by_base (above (omega arith)); told = refl };
  unknown = record { refusal = _; refused = unknown refl refl; told = refl };
  unnamed = record { refusal = _; refused = unknown refl refl; told = refl };
  lone = record { refusal = _; refused = unknown refl refl; told = refl };
  longer = record { refusal = _; refused = unknown refl refl; told = refl };
  last_days = record { refusal = _; refused = by_base (first_unknown refl); told = refl };
  range = record { refusal = _; refused = by_base (no_range (inr (inr (omega arith)))); told = refl };
  names = record { refusal = _; refused = by_base (turned refl refl (omega arith)); told = refl };
  zero = record { refusal = _; refused = by_zero refl; told = refl };
  step = record { refusal = _; refused = by_step (omega arith); told = refl };
}

pub cursors_step : CursorsStep
cursors_step = record {
  ahead = λ a b c d z. refl;
  back = λ a b c d z. refl;
  past_the_last = λ a b c d z. refl;
  before_the_first = λ a b c d z. refl;
  ended = λ a b c d z. refl;
}

pub days_are_numbered : DaysAreNumbered
unfolding days_from_civil day_count days_of_years days_of_months
days_are_numbered = record {
  numbered = λ c h. civil_seconds-civil c (omega arith);
  first_day = refl;
  last_day = refl;
  last_second = refl;
  leap_day = refl;
}
