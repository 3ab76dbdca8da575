use Rattle.std.proofs.Common.{ℕ, ℤ, ◌/◌, List, inl, inr, arith}
use Rattle.std.proofs.lemmas.Int.{ints}
use Rattle.cron_answers.specs.Days.{AreDays, IsTimeOfDay}
use Rattle.cron_answers.specs.Instants.{IsSaid}
use Rattle.cron_answers.specs.Shifts.{IsDaysAway}
use Rattle.cron_answers.proofs.said.said.Goals as goal

none_said : (text : List ℕ) (shown : ℕ) (c : ℤ) → ((first end : ℕ) → AreDays text (shown / 86_400) first end → ⊥)
    → ((n : ℕ) → IsTimeOfDay text n → ⊥) → ((n : ℤ) → IsDaysAway text n → ⊥) → IsSaid text shown c → ⊥
none_said text shown c days time away (inl h) = days h.0 h.1 h.2
none_said text shown c days time away (inr (inl h)) = time h.0 h.1
none_said text shown c days time away (inr (inr h)) = away h.0 h.1

pub returns-in-Some-days_away-clause-second : goal.returns-in-Some-days_away-clause-second
returns-in-Some-days_away-clause-second c =
    inr (inr (c.in-Some-days_away.days, c.in-Some-days_away.ensures.amount, omega (arith, ints, c.from-in-Some-days_away.ensures, c.in-Some-days_away.ensures.bound, c.ranges.shown.fits)))

pub returns-in-None-clause-second : goal.returns-in-None-clause-second
returns-in-None-clause-second c = λ t h.
    none_said c.args.text.now c.args.shown t c.in_default.ensures.names c.in_default-time_of_day.ensures.time c.in-None.ensures.amount h
