-- What is told of texts.
use Rattle.std.proofs.Common.{◌≡◌, ℕ, List, inl, inr, refl, sym, subst}
use Rattle.std.specs.Prelude.{Result, Ok, Err}
use Rattle.cron_units.specs.Sets.{Sets}
use Rattle.cron_units.specs.Units.{unmarked, whole}
use Rattle.cron_units.specs.Units as units
use Rattle.cron_crontab.specs.Crontab.{words}
use Rattle.cron_crontab.specs.Items.{and_then}
use Rattle.cron_quartz.specs.Refusals.{Fault}
use Rattle.cron_quartz.specs.Items.{set_read}
use Rattle.cron_quartz.specs.Days.{schedules_of}
use Rattle.cron_quartz.specs.Quartz.{Texts, days_of, outcome_of, texts_of, times_of, years_of}
use Rattle.cron_quartz_days.specs.Runs.{HasAllDays}
use Rattle.cron_quartz_days.specs.Texts.{EachIsToldOnce, IsToldOnce, MeaningsHaveDays}

told_by : (text : List ℕ) (r : Result (List Sets) Fault) → outcome_of (words text) ≡ r → IsToldOnce text
told_by text (Ok schedules) is = record {
  told = inl (schedules, is);
  apart = λ a f means refuses. cc;
  one_meaning = λ a b x y. cc;
  one_fault = λ f g x y. cc;
}
told_by text (Err fault) is = record {
  told = inr (fault, is);
  apart = λ a f means refuses. cc;
  one_meaning = λ a b x y. cc;
  one_fault = λ f g x y. cc;
}

pub each_is_told_once : EachIsToldOnce
each_is_told_once text = told_by text (outcome_of (words text)) refl

-- ---- what is read one after another

record WasRead {A B : Type 0} (r : Result A Fault) (next : A → Result B Fault) (b : B) : Type 0 where
  read : A
  is : r ≡ Ok read
  then : next read ≡ Ok b

was_read : {A B : Type 0} (r : Result A Fault) (next : A → Result B Fault) (b : B) → and_then r next ≡ Ok b → WasRead r next b
was_read (Ok a) next b is = record { read = a; is = refl; then = is }
was_read (Err fault) next b is = absurd (cc)

-- ---- the schedule of an expression but for its days

abbrev sets : List ℕ → List ℕ → List ℕ → List ℕ → List ℕ → Sets
sets seconds minutes hours months years = record {
  seconds = seconds;
  minutes = minutes;
  hours = hours;
  days_of_month = unmarked (whole units.days_of_month);
  months = months;
  days_of_week = whole units.days_of_week;
  years = years;
}

abbrev from_months : Texts → List ℕ → List ℕ → List ℕ → List ℕ → Result Sets Fault
from_months t seconds minutes hours months = and_then (years_of t.year) (λ years. Ok (sets seconds minutes hours months years))

abbrev from_hours : Texts → List ℕ → List ℕ → List ℕ → Result Sets Fault
from_hours t seconds minutes hours = and_then (set_read units.months t.month) (from_months t seconds minutes hours)

abbrev from_minutes : Texts → List ℕ → List ℕ → Result Sets Fault
from_minutes t seconds minutes = and_then (set_read units.hours t.hour) (from_hours t seconds minutes)

abbrev from_seconds : Texts → List ℕ → Result Sets Fault
from_seconds t seconds = and_then (set_read units.minutes t.minute) (from_minutes t seconds)

same_ok : {A : Type 0} (r : Result A Fault) (a b : A) → r ≡ Ok a → r ≡ Ok b → a ≡ b
same_ok r a b is other = cc

all_days : (a b c d e : List ℕ) (s : Sets) (r : Result Sets Fault) → r ≡ Ok (sets a b c d e) → r ≡ Ok s → HasAllDays s
all_days a b c d e s r is other = let same = same_ok r (sets a b c d e) s is other in subst HasAllDays same (record { days_of_month = refl; days_of_week = refl })

times_all : (t : Texts) (s : Sets) → times_of t ≡ Ok s → HasAllDays s
times_all t s is =
    let a = was_read (set_read units.seconds t.second) (λ seconds. from_seconds t seconds) s is in
    let b = was_read (set_read units.minutes t.minute) (λ minutes. from_minutes t a.read minutes) s a.then in
    let c = was_read (set_read units.hours t.hour) (λ hours. from_hours t a.read b.read hours) s b.then in
    let d = was_read (set_read units.months t.month) (λ months. from_months t a.read b.read c.read months) s c.then in
    let e = was_read (years_of t.year) (λ years. Ok (sets a.read b.read c.read d.read years)) s d.then in
    all_days a.read b.read c.read d.read e.read s (Ok (sets a.read b.read c.read d.read e.read)) refl e.then

pub meanings_have_days : MeaningsHaveDays
meanings_have_days text schedules is =
    let a = was_read (texts_of (words text)) (λ texts. and_then (times_of texts) (λ times. and_then (days_of texts.day_of_month texts.day_of_week) (λ days. Ok (schedules_of days times)))) schedules is in
    let b = was_read (times_of a.read) (λ times. and_then (days_of a.read.day_of_month a.read.day_of_week) (λ days. Ok (schedules_of days times))) schedules a.then in
    let c = was_read (days_of a.read.day_of_month a.read.day_of_week) (λ days. Ok (schedules_of days b.read)) schedules b.then in
    (c.read, b.read, times_all a.read b.read b.is, sym (same_ok (Ok (schedules_of c.read b.read)) (schedules_of c.read b.read) schedules refl c.then))
