use Rattle.std.proofs.Common.{◌≡◌, ◌+◌, ◌∙◌, ℕ, Bool, true, false, cond, List, ap, refl, rules}
use mir.Val.{bool_byte}
use Rattle.cron_units.specs.Sets.{Sets}
use Rattle.cron_units.specs.Units.{contains}
use Rattle.cron_c.proofs.schedule.schedule_of.Goals as goal

-- the members of one of the sets
held : (a b : Sets) (part : Sets → List ℕ) (x : ℕ) → a ≡ b → contains (part a) x ≡ contains (part b) x
held a b part x same = ap (λ (s : Sets). contains (part s) x) same

-- 1 where a test is true, and 0 where it isn't
abbrev number : Bool → ℕ
number b = cond b 1 0

byte_is : (b : Bool) → bool_byte b ≡ cond b 1 0
byte_is true = refl
byte_is false = refl

pub returns-clause-sets : goal.returns-clause-sets
returns-clause-sets c = search rules

pub returns-clause-exact : goal.returns-clause-exact
returns-clause-exact c = record {
  seconds = λ k. c.bits.ensures.bits k ∙ held _ _ (λ s. s.seconds) (0 + k) c.fields.view_is;
  minutes = λ k. c.bits-2.ensures.bits k ∙ held _ _ (λ s. s.minutes) (0 + k) c.fields.view_is;
  hours = λ k. c.bits-3.ensures.bits k ∙ held _ _ (λ s. s.hours) (0 + k) c.fields.view_is;
  days_of_month = λ k. c.bits_of_days.ensures.bits k ∙ held _ _ (λ s. s.days_of_month.ordinals) (1 + k) c.fields.view_is;
  last_day = c.from.ensures ∙ (byte_is c.last_day.result ∙ (ap (λ (b : Bool). number b) c.last_day.ensures
      ∙ ap (λ (s : Sets). number s.days_of_month.last_day) c.fields.view_is));
  months = λ k. c.bits-4.ensures.bits k ∙ held _ _ (λ s. s.months) (1 + k) c.fields.view_is;
  days_of_week = λ k. c.bits-5.ensures.bits k ∙ held _ _ (λ s. s.days_of_week) (1 + k) c.fields.view_is;
  years = λ k. c.three-years_from_1970.ensures.bits k ∙ held _ _ (λ s. s.years) (1970 + k) c.fields.view_is;
  reserved = refl;
}
