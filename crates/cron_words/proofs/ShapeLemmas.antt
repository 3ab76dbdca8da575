-- Schedules with the same sets, and the forms that they mean.
use Rattle.std.proofs.Common.{◌≡◌, ◌↔◌, IsTrue, ℕ, Bool, true, false, List, [], ◌∷◌, None, length, refl, sym, ap, ◌∙◌}
use Rattle.std.proofs.lemmas.Bool.{false≢true}
use Rattle.std.proofs.lemmas.Slice.Eq.{bytes_eq-Decides}
use Rattle.std.specs.Str.{bytes_eq}
use Rattle.cron_text.proofs.TokenRuns.{and_parts}
use Rattle.cron_quartz.specs.Days.{Days, schedules_of}
use Rattle.cron_units.specs.Laws.{is_unit-days_of_month, is_unit-days_of_week}
use Rattle.cron_units.specs.Sets.{Sets}
use Rattle.cron_units.specs.Units.{IsSet}
use Rattle.cron_units.specs.Units as units
use Rattle.cron_words.specs.Schedules.{is_one}
use Rattle.cron_words.specs.Shapes.{IsShape, all_same, are_same, base, days_of, have_shape, if_shaped, same_mark, shape_from, workday_of}
use Rattle.cron_words.specs.declared.shapes.Shape.{Shape}
use Rattle.cron_words.specs.declared.shapes.Shape.TheVariants.{LastWeekday, NearestWorkday, LastWorkday}
use Rattle.cron_words.proofs.ListLemmas.{false_from}
use Rattle.cron_words.proofs.NumberLemmas.{between}
use Rattle.cron_words.proofs.TimesApart.{not_none}

-- ---- schedules with the same sets

pub other_sets : (a b : Sets) (rest others ss ts : List Sets) → ss ≡ a ∷ rest → ts ≡ b ∷ others → (a ≡ b → ⊥) → ss ≡ ts → ⊥
other_sets a b rest others ss ts e f differ g = let h : a ∷ rest ≡ b ∷ others = sym e ∙ (g ∙ f) in differ (cc)

-- lists that begin with the same sets are the same exactly if the rests are
pub sets_on : (a b : Sets) (rest others ss ts : List Sets) (r : Bool) → ss ≡ a ∷ rest → ts ≡ b ∷ others → a ≡ b → IsTrue r ↔ (rest ≡ others) → IsTrue r ↔ (ss ≡ ts)
sets_on a b rest others ss ts r e f is h = (
  λ yes. let same : rest ≡ others = h.0 yes in e ∙ (rw (is, same) (sym f)),
  λ g. let both : a ∷ rest ≡ b ∷ others = sym e ∙ (g ∙ f) in h.1 (cc),
)

marks_same : (a b : Bool) → same_mark a b ≡ true → a ≡ b
marks_same true true h = refl
marks_same true false h = absurd (false≢true h)
marks_same false true h = absurd (false≢true h)
marks_same false false h = refl

mark_itself : (a : Bool) → same_mark a a ≡ true
mark_itself true = refl
mark_itself false = refl

lists_same : (ns ms : List ℕ) → bytes_eq ns ms ≡ true → ns ≡ ms
lists_same ns ms h = (bytes_eq-Decides ns ms).0 h

list_itself : (ns : List ℕ) → bytes_eq ns ns ≡ true
list_itself ns = (bytes_eq-Decides ns ns).1 refl

same_is : (s t : Sets) → are_same s t ≡ true → s ≡ t
same_is s t h =
    let a = and_parts (bytes_eq s.seconds t.seconds) _ h in
    let b = and_parts (bytes_eq s.minutes t.minutes) _ a.1 in
    let c = and_parts (bytes_eq s.hours t.hours) _ b.1 in
    let d = and_parts (bytes_eq s.days_of_month.ordinals t.days_of_month.ordinals) _ c.1 in
    let e = and_parts (same_mark s.days_of_month.last_day t.days_of_month.last_day) _ d.1 in
    let f = and_parts (bytes_eq s.months t.months) _ e.1 in
    let g = and_parts (bytes_eq s.days_of_week t.days_of_week) (bytes_eq s.years t.years) f.1 in
    rw (
      lists_same s.seconds t.seconds a.0,
      lists_same s.minutes t.minutes b.0,
      lists_same s.hours t.hours c.0,
      lists_same s.days_of_month.ordinals t.days_of_month.ordinals d.0,
      marks_same s.days_of_month.last_day t.days_of_month.last_day e.0,
      lists_same s.months t.months f.0,
      lists_same s.days_of_week t.days_of_week g.0,
      lists_same s.years t.years g.1,
    ) refl

is_itself : (s : Sets) → are_same s s ≡ true
is_itself s =
    rw (
      list_itself s.seconds,
      list_itself s.minutes,
      list_itself s.hours,
      list_itself s.days_of_month.ordinals,
      mark_itself s.days_of_month.last_day,
      list_itself s.months,
      list_itself s.days_of_week,
      list_itself s.years,
    ) refl

pub all_are : (ss ts : List Sets) → all_same ss ts ≡ true → ss ≡ ts
all_are [] [] h = refl
all_are [] (t ∷ ts) h = absurd (false≢true h)
all_are (s ∷ ss) [] h = absurd (false≢true h)
all_are (s ∷ ss) (t ∷ ts) h =
    let p = and_parts (are_same s t) (all_same ss ts) h in
    rw (same_is s t p.0, all_are ss ts p.1) refl

all_itself : (ss : List Sets) → all_same ss ss ≡ true
all_itself [] = refl
all_itself (s ∷ ss) = rw (is_itself s, all_itself ss) refl

same_by : (ss ts : List Sets) (r : Bool) → IsTrue r ↔ (ss ≡ ts) → r ≡ all_same ss ts
same_by ss ts true h = sym (ap (λ (o : List Sets). all_same o ts) (h.0 refl) ∙ all_itself ts)
same_by ss ts false h = sym (false_from (all_same ss ts) (λ t. false≢true (h.1 (all_are ss ts t))))

-- ---- forms

pub shape_by : (shape : Shape) (s : Sets) (ss made : List Sets) (days : Days) (r : Bool) → IsTrue r ↔ (made ≡ ss) → made ≡ schedules_of days (base s ss)
    → days ≡ days_of shape → r ≡ have_shape shape s ss
unfolding have_shape
shape_by shape s ss made days r h m d =
    same_by made ss r h ∙ ap (λ (o : List Sets). all_same o ss) (m ∙ ap (λ (o : Days). schedules_of o (base s ss)) d)

pub day_within : (ns ms : List ℕ) (n : ℕ) → IsSet units.days_of_month ns → ns ≡ n ∷ ms → IsShape (NearestWorkday n)
day_within ns ms n s e =
    let w = between units.days_of_month (n ∷ ms) is_unit-days_of_month (rw e at s) in
    w.0

pub weekday_within : (ns : List ℕ) (n : ℕ) → IsSet units.days_of_week ns → ns ≡ n ∷ [] → IsShape (LastWeekday n)
weekday_within ns n s e =
    let w = between units.days_of_week (n ∷ []) is_unit-days_of_week (rw e at s) in
    w.0

pub no_days : (s : Sets) (ss : List Sets) → s.days_of_month.ordinals ≡ [] → workday_of s ss ≡ None
no_days s ss e = rw e refl

pub some_days : (s : Sets) (ss : List Sets) (n : ℕ) (ns : List ℕ) → s.days_of_month.ordinals ≡ n ∷ ns
    → workday_of s ss ≡ if_shaped (have_shape (NearestWorkday n) s ss) (NearestWorkday n) None
some_days s ss n ns e = rw (e, not_none (length ns)) refl

pub one_weekday : (s : Sets) (ss : List Sets) (n : ℕ) → s.days_of_week ≡ n ∷ [] → shape_from s ss ≡ if_shaped (have_shape (LastWeekday n) s ss) (LastWeekday n) None
one_weekday s ss n e = rw e refl

pub other_weekdays : (s : Sets) (ss : List Sets) → is_one s.days_of_week ≡ false
    → shape_from s ss ≡ if_shaped (have_shape LastWorkday s ss) LastWorkday (workday_of s ss)
other_weekdays s ss e = rw e refl

pub shaped_list : (shape : Shape) (s : Sets) (ss : List Sets) → have_shape shape s ss ≡ true → schedules_of (days_of shape) (base s ss) ≡ ss
unfolding have_shape
shaped_list shape s ss h = all_are (schedules_of (days_of shape) (base s ss)) ss h
