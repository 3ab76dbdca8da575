-- The sentence of a union of schedules, and its laws.
use Rattle.std.specs.Prelude.{◌≡◌, ℕ, true, List, [], ◌∷◌, ◌++◌, Option, Some, None, codes}
use Rattle.std.specs.List.{AllByRecursion}
use Rattle.cron_quartz.specs.Days.{schedules_of}
use Rattle.cron_units.specs.Sets.{Sets}
use Rattle.cron_units.specs.Units.{IsSet}
use Rattle.cron_units.specs.Units as units
use Rattle.cron_words.specs.Lists.{name_text, weekday_text}
use Rattle.cron_words.specs.Schedules.{later_text, times_text, union_text}
use Rattle.cron_words.specs.Shapes.{base, days_of, shape_of}
use Rattle.cron_words.specs.declared.lists.Naming.TheVariants.{Ordinals}
use Rattle.cron_words.specs.declared.shapes.Shape.{Shape}
use Rattle.cron_words.specs.declared.shapes.Shape.TheVariants.{LastWeekday, NearestWorkday, LastWorkday}

abbrev pub shape_text : Shape → List ℕ
shape_text (LastWeekday w) = codes ", on the last " ++ (weekday_text w ++ codes " of the month")
shape_text (NearestWorkday n) = codes ", on the workday nearest to the " ++ name_text Ordinals n
shape_text LastWorkday = codes ", on the last workday of the month"

-- the words of schedules of a form; s is the schedule of the other fields
unfoldable pub shaped_text : Shape → Sets → List ℕ
shaped_text shape s = times_text true s ++ (shape_text shape ++ later_text s)

abbrev pub text_from : Option Shape → Sets → List Sets → List ℕ
text_from None s ss = union_text ss
text_from (Some shape) s ss = shaped_text shape (base s ss)

-- the sentence of a union: of a form of days of Quartz, or of one schedule after another
abbrev pub sentence : List Sets → List ℕ
sentence [] = codes "Never"
sentence (s ∷ ss) = text_from (shape_of (s ∷ ss)) s (s ∷ ss)

-- ---- laws

-- each list is a set of its unit, which may be empty
pub record InUnits (s : Sets) : Type 0 where
  pub seconds : IsSet units.seconds s.seconds
  pub minutes : IsSet units.minutes s.minutes
  pub hours : IsSet units.hours s.hours
  pub days_of_month : IsSet units.days_of_month s.days_of_month.ordinals
  pub months : IsSet units.months s.months
  pub days_of_week : IsSet units.days_of_week s.days_of_week
  pub years : IsSet units.years s.years

-- lists of schedules with the same sentence are equal
abbrev pub SentencesDiffer : Type 0
SentencesDiffer = (ss ts : List Sets) → AllByRecursion InUnits ss → AllByRecursion InUnits ts → sentence ss ≡ sentence ts → ss ≡ ts

-- schedules that are told as a form of days are those of that form, in the months and years that are told
abbrev pub FormsAreMeant : Type 0
FormsAreMeant =
    (s : Sets) (ss : List Sets) (shape : Shape) → InUnits s → shape_of (s ∷ ss) ≡ Some shape
    → schedules_of (days_of shape) (base s (s ∷ ss)) ≡ s ∷ ss
