-- The words of schedules as they are pushed.
use Rattle.std.proofs.Common.{◌≡◌, ℕ, Bool, true, false, cond, List, ◌++◌, codes, refl, sym, ap, ◌∙◌, append_assoc}
use Rattle.cron_units.specs.Sets.{Sets}
use Rattle.cron_units.specs.Units as units
use Rattle.cron_words.specs.Progressions.{first, last}
use Rattle.cron_words.specs.Sentence.{shape_text, shaped_text}
use Rattle.cron_words.specs.declared.shapes.Shape.{Shape}
use Rattle.cron_words.specs.Schedules.{dates_text, days_text, goes_on, hours_text, is_nth_weekday, is_stretch, later_text, months_text, next_unit, nth_weekday_text, only, place, schedule_text, stretch_text, times_text, weekdays_text, years_text}

-- a piece, and then more
pushed_on : (old mid new p q : List ℕ) → mid ≡ old ++ p → new ≡ mid ++ q → new ≡ old ++ (p ++ q)
pushed_on old mid new p q e f = f ∙ (ap (λ (t : List ℕ). t ++ q) e ∙ append_assoc old p q)

pub stretch_on : (s : Sets) (f l m : ℕ) → is_stretch s ≡ true → f ≡ first s.hours → l ≡ last s.hours → m ≡ last s.minutes
    → hours_text s ≡ stretch_text f l m
stretch_on s f l m h a b c = rw (h, a, b, c) refl

pub hours_on : (s t : Sets) (round : Bool) → s ≡ t → is_stretch t ≡ false → round ≡ goes_on t
    → hours_text t ≡ next_unit round (codes "hour") units.hours s.hours
hours_on s t round same h a = rw (h, a, same) refl

pub dates_on : (s t : Sets) (old weekly new : List ℕ) → s ≡ t → is_nth_weekday t ≡ false → weekly ≡ old ++ weekdays_text s.days_of_week
    → new ≡ weekly ++ days_text s.days_of_month → new ≡ old ++ dates_text t
dates_on s t old weekly new same plain a b =
    pushed_on old weekly new (weekdays_text s.days_of_week) (days_text s.days_of_month) a b
    ∙ (ap (λ (x : Sets). old ++ (weekdays_text x.days_of_week ++ days_text x.days_of_month)) same
    ∙ ap (λ (x : Bool). old ++ cond x (nth_weekday_text (place (first t.days_of_month.ordinals)) (only t.days_of_week)) (weekdays_text t.days_of_week ++ days_text t.days_of_month))
    (sym plain))

pub later_on : (s t : Sets) (old monthly new : List ℕ) → s ≡ t → monthly ≡ old ++ months_text s.months → new ≡ monthly ++ years_text s.years
    → new ≡ old ++ later_text t
later_on s t old monthly new same a b =
    pushed_on old monthly new (months_text s.months) (years_text s.years) a b ∙ ap (λ (x : Sets). old ++ later_text x) same

pub schedule_on : (capital : Bool) (s : Sets) (old timed dated new : List ℕ) → timed ≡ old ++ times_text capital s → dated ≡ timed ++ dates_text s
    → new ≡ dated ++ later_text s → new ≡ old ++ schedule_text capital s
unfolding schedule_text
schedule_on capital s old timed dated new a b c =
    pushed_on old timed new (times_text capital s) (dates_text s ++ later_text s) a (pushed_on timed dated new (dates_text s) (later_text s) b c)

pub shaped_on : (shape : Shape) (s : Sets) (old timed dated new : List ℕ) → timed ≡ old ++ times_text true s → dated ≡ timed ++ shape_text shape
    → new ≡ dated ++ later_text s → new ≡ old ++ shaped_text shape s
unfolding shaped_text
shaped_on shape s old timed dated new a b c =
    pushed_on old timed new (times_text true s) (shape_text shape ++ later_text s) a (pushed_on timed dated new (shape_text shape) (later_text s) b c)
