-- The short form of sets means them.
use Rattle.std.proofs.Common.{ℕ, Bool, true, false, List, [], ◌∷◌, inl, inr, refl, subst, arith}
use Rattle.std.proofs.lemmas.Str.{IsAscii-append}
use Rattle.std.specs.Str.{IsAscii}
use Rattle.cron_units.specs.Laws.{is_unit-seconds, is_unit-minutes, is_unit-hours, is_unit-days_of_month, is_unit-months, is_unit-days_of_week, is_unit-years}
use Rattle.cron_units.specs.Sets.{AreSets, IsFilled, IsFilledOrMarked, Sets}
use Rattle.cron_units.specs.Units.{TimeUnit, FieldSet, IsUnit, unmarked}
use Rattle.cron_units.specs.Units as units
use Rattle.cron_text.specs.Meaning.{DenoteSets, six_units, field_sets, Means}
use Rattle.cron_text.specs.Tokens.{tokens, after_gap}
use Rattle.cron_text.proofs.MeaningLemmas.{means_once}
use Rattle.cron_canonical.specs.Short.{items_text, short_items, fields_text, sets_text, ShortFormsAreAscii, ShortFormsMean, ShortFormsDiffer}
use Rattle.cron_canonical.proofs.ShortAscii.{cons_ascii, items_ascii}
use Rattle.cron_canonical.proofs.ShortTokens.{sets_before, last_field}
use Rattle.cron_canonical.proofs.ShortSets.{AreShortItems, short_items_are}

-- a field of numbers alone
numbers_are : (u : TimeUnit) (xs : List ℕ) → IsUnit u → IsFilled u xs → AreShortItems u (unmarked xs) (short_items u (unmarked xs))
numbers_are u xs h f = short_items_are u (unmarked xs) h f.is_set (λ e. absurd (f.nonempty e)) (λ e. absurd (cc))

days_are : (s : FieldSet) → IsFilledOrMarked units.days_of_month s → AreShortItems units.days_of_month s (short_items units.days_of_month s)
days_are s f = short_items_are units.days_of_month s is_unit-days_of_month f.is_set f.nonempty (λ e. refl)

-- each of these sets has a short form as a field of its unit
abbrev HaveShortForms : List TimeUnit → List FieldSet → Type 0
HaveShortForms [] (xs ∷ []) = AreShortItems units.years xs (short_items units.years xs)
HaveShortForms (u ∷ us) (xs ∷ xss) = AreShortItems u xs (short_items u xs) × HaveShortForms us xss
HaveShortForms _ _ = ⊥

fields_mean : (us : List TimeUnit) (xss : List FieldSet) (b : Bool) → HaveShortForms us xss
    → DenoteSets us (after_gap b (tokens (fields_text us xss))) xss
fields_mean [] [] b h = absurd h
fields_mean [] (xs ∷ []) b h = inr (short_items units.years xs, last_field units.years b (short_items units.years xs) h.short h.some, h.denotes)
fields_mean [] (xs ∷ ys ∷ xss) b h = absurd h
fields_mean (u ∷ us) [] b h = absurd h
fields_mean (u ∷ us) (xs ∷ xss) b h =
    sets_before u us xs xss b (short_items u xs) (fields_text us xss) h.0.short h.0.some h.0.denotes (fields_mean us xss true h.1)

have_short_forms : (s : Sets) → AreSets s → HaveShortForms six_units (field_sets s)
have_short_forms s a = (
  numbers_are units.seconds s.seconds is_unit-seconds a.seconds,
  (
    numbers_are units.minutes s.minutes is_unit-minutes a.minutes,
    (
      numbers_are units.hours s.hours is_unit-hours a.hours,
      (
        days_are s.days_of_month a.days_of_month,
        (
          numbers_are units.months s.months is_unit-months a.months,
          (
            numbers_are units.days_of_week s.days_of_week is_unit-days_of_week a.days_of_week,
            numbers_are units.years s.years is_unit-years a.years,
          ),
        ),
      ),
    ),
  ),
)

pub short_forms_mean : ShortFormsMean
unfolding sets_text
short_forms_mean s a = inl (fields_mean six_units (field_sets s) false (have_short_forms s a))

fields_ascii : (us : List TimeUnit) (xss : List FieldSet) → HaveShortForms us xss → IsAscii (fields_text us xss)
fields_ascii [] [] h = absurd h
fields_ascii [] (xs ∷ []) h = items_ascii (short_items units.years xs) h.short
fields_ascii [] (xs ∷ ys ∷ xss) h = absurd h
fields_ascii (u ∷ us) [] h = absurd h
fields_ascii (u ∷ us) (xs ∷ xss) h =
    IsAscii-append (items_text (short_items u xs)) (32 ∷ fields_text us xss) (items_ascii (short_items u xs) h.0.short)
    (cons_ascii 32 (fields_text us xss) (omega arith) (fields_ascii us xss h.1))

pub short_forms_are_ascii : ShortFormsAreAscii
unfolding sets_text
short_forms_are_ascii s a = fields_ascii six_units (field_sets s) (have_short_forms s a)

-- two short forms that are one text are of one list of sets
pub short_forms_differ : ShortFormsDiffer
short_forms_differ s t a b e = means_once (sets_text t) s t (subst (λ (text : List ℕ). Means text s) e (short_forms_mean s a)) (short_forms_mean t b)
