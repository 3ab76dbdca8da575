-- What a text means are sets of the units, and none of them is empty.
use Rattle.std.proofs.Common.{◌≡◌, ℕ, Bool, true, false, cond, inl, inr, Option, Some, List, [], ◌∷◌, codes, refl, sym, ap, ◌∙◌, subst, arith, le_refl}
use Rattle.std.specs.List.{AllByRecursion}
use Rattle.std.specs.Str.{bytes_eq}
use Rattle.std.proofs.lemmas.Bool.{false≢true}
use Rattle.cron_units.specs.Denotation.{IsBetween}
use Rattle.cron_units.specs.Laws.{is_unit-hours, is_unit-days_of_month, is_unit-months, is_unit-days_of_week, is_unit-years}
use Rattle.cron_units.specs.Units.{TimeUnit, FieldSet, unmarked, IsUnit, whole, contains, set_of}
use Rattle.cron_units.specs.Units as units
use Rattle.cron_units.proofs.SetLemmas.{is_set_from, contains_set, whole_is_all}
use Rattle.cron_units.proofs.DenotedSets.{denotes_some}
use Rattle.cron_text.specs.Meaning.{DenoteYears, DenoteSets, six_units, field_sets, shorthand_of, IsLonghand, trimmed_front, trimmed_end, yearly, monthly, weekly, daily, hourly}
use Rattle.cron_units.specs.Sets.{Sets, IsFilled, IsFilledOrMarked, AreSets}
use Rattle.cron_text.specs.TextLaws.{MeansSets}
use Rattle.cron_text.specs.Tokens.{Token, tokens}
use Rattle.cron_text.proofs.FieldStates.{some_same}
use Rattle.cron_text.proofs.TextLemmas.{are_units}

-- ---- a list with a member is not empty

-- What passes a test is a set, and not the empty one if an ordinal of the unit passes.
filled : (u : TimeUnit) (p : ℕ → Bool) (xs : List ℕ) (x : ℕ) → xs ≡ set_of u p → IsBetween u.least u.greatest x → p x ≡ true → IsFilled u xs
filled u p xs x h w t =
    record {
      is_set = is_set_from u p xs h;
      nonempty = λ e. false≢true (ap (λ (ys : List ℕ). contains ys x) (sym e ∙ h) ∙ (contains_set u p x w.0 w.1 ∙ t));
    }

whole_filled : (u : TimeUnit) → IsUnit u → IsFilled u (whole u)
whole_filled u h = filled u (λ x. true) (whole u) u.least (sym (whole_is_all u)) (le_refl u.least, h.ordered) refl

-- numbers alone, and not none
plain_filled : (u : TimeUnit) (xs : List ℕ) → IsFilled u xs → IsFilledOrMarked u (unmarked xs)
plain_filled u xs h = record { is_set = h.is_set; nonempty = λ e. absurd (h.nonempty e) }

-- without a mark there are numbers
numbered : (u : TimeUnit) (xs : List ℕ) → IsFilledOrMarked u (unmarked xs) → IsFilled u xs
numbered u xs h = record { is_set = h.is_set; nonempty = λ e. false≢true (h.nonempty e) }

-- ---- a longhand

years_filled : (ts : List Token) (xs : FieldSet) → DenoteYears ts xs → IsFilledOrMarked units.years xs
years_filled ts xs (inl h) = subst (IsFilledOrMarked units.years) (sym h.1) (plain_filled units.years _ (whole_filled units.years is_unit-years))
years_filled ts xs (inr h) = denotes_some units.years h.0 xs is_unit-years h.1.nonempty h.2

-- each is a set of its unit, and so is the last one of the years
abbrev AreFilled : List TimeUnit → List FieldSet → Type 0
AreFilled [] (xs ∷ []) = IsFilledOrMarked units.years xs
AreFilled (u ∷ us) (xs ∷ xss) = IsFilledOrMarked u xs × AreFilled us xss
AreFilled _ _ = ⊥

lists_filled : (us : List TimeUnit) (ts : List Token) (xss : List FieldSet) → AllByRecursion IsUnit us → DenoteSets us ts xss → AreFilled us xss
lists_filled [] ts [] k h = h
lists_filled [] ts (xs ∷ []) k h = years_filled ts xs h
lists_filled [] ts (xs ∷ ys ∷ xss) k h = h
lists_filled (u ∷ us) ts [] k h = h
lists_filled (u ∷ us) ts (xs ∷ xss) k h = (denotes_some u h.2 xs k.0 h.4.nonempty h.5, lists_filled us h.1 xss k.1 h.6)

longhand_filled : (text : List ℕ) (s : Sets) → IsLonghand text s → AreSets s
longhand_filled text s h =
    let all = lists_filled six_units (tokens text) (field_sets s) are_units h in
    let from_hours = all.1.1 in
    let from_months = from_hours.1.1 in
    record {
      seconds = numbered units.seconds s.seconds all.0;
      minutes = numbered units.minutes s.minutes all.1.0;
      hours = numbered units.hours s.hours from_hours.0;
      days_of_month = from_hours.1.0;
      months = numbered units.months s.months from_months.0;
      days_of_week = numbered units.days_of_week s.days_of_week from_months.1.0;
      years = numbered units.years s.years from_months.1.1;
    }

-- ---- a shorthand

-- the second 0 of the minute 0 of these hours and days, in every year
at_minute_zero : (hours : List ℕ) (days_of_month : FieldSet) (months days_of_week : List ℕ) → IsFilled units.hours hours
    → IsFilledOrMarked units.days_of_month days_of_month → IsFilled units.months months → IsFilled units.days_of_week days_of_week
    → AreSets (record {
      seconds = 0 ∷ [];
      minutes = 0 ∷ [];
      hours = hours;
      days_of_month = days_of_month;
      months = months;
      days_of_week = days_of_week;
      years = whole units.years;
    })
unfolding whole
at_minute_zero hours days_of_month months days_of_week h d m w =
    record {
      seconds = filled units.seconds (contains (0 ∷ [])) (0 ∷ []) 0 refl (omega arith, omega arith) refl;
      minutes = filled units.minutes (contains (0 ∷ [])) (0 ∷ []) 0 refl (omega arith, omega arith) refl;
      hours = h;
      days_of_month = d;
      months = m;
      days_of_week = w;
      years = whole_filled units.years is_unit-years;
    }

midnight : IsFilled units.hours (0 ∷ [])
unfolding whole
midnight = filled units.hours (contains (0 ∷ [])) (0 ∷ []) 0 refl (omega arith, omega arith) refl

first_day : IsFilledOrMarked units.days_of_month (unmarked (1 ∷ []))
unfolding whole
first_day = plain_filled units.days_of_month _ (filled units.days_of_month (contains (1 ∷ [])) (1 ∷ []) 1 refl (omega arith, omega arith) refl)

january : IsFilled units.months (1 ∷ [])
unfolding whole
january = filled units.months (contains (1 ∷ [])) (1 ∷ []) 1 refl (omega arith, omega arith) refl

sunday : IsFilled units.days_of_week (1 ∷ [])
unfolding whole
sunday = filled units.days_of_week (contains (1 ∷ [])) (1 ∷ []) 1 refl (omega arith, omega arith) refl

all_hours : IsFilled units.hours (whole units.hours)
all_hours = whole_filled units.hours is_unit-hours

all_days : IsFilledOrMarked units.days_of_month (unmarked (whole units.days_of_month))
all_days = plain_filled units.days_of_month _ (whole_filled units.days_of_month is_unit-days_of_month)

all_months : IsFilled units.months (whole units.months)
all_months = whole_filled units.months is_unit-months

all_week : IsFilled units.days_of_week (whole units.days_of_week)
all_week = whole_filled units.days_of_week is_unit-days_of_week

-- one word is tried
one_shorthand : (b : Bool) (s t : Sets) (r : Option Sets) → AreSets t → (r ≡ Some s → AreSets s) → cond b (Some t) r ≡ Some s → AreSets s
one_shorthand true s t r a more h = subst AreSets (some_same t s h) a
one_shorthand false s t r a more h = more h

shorthand_filled : (word : List ℕ) (s : Sets) → shorthand_of word ≡ Some s → AreSets s
shorthand_filled word s =
    one_shorthand (bytes_eq word (codes "@yearly")) s yearly _ (at_minute_zero _ _ _ _ midnight first_day january all_week)
    (one_shorthand (bytes_eq word (codes "@monthly")) s monthly _ (at_minute_zero _ _ _ _ midnight first_day all_months all_week)
    (one_shorthand (bytes_eq word (codes "@weekly")) s weekly _ (at_minute_zero _ _ _ _ midnight all_days all_months sunday)
    (one_shorthand (bytes_eq word (codes "@daily")) s daily _ (at_minute_zero _ _ _ _ midnight all_days all_months all_week)
    (one_shorthand (bytes_eq word (codes "@hourly")) s hourly _ (at_minute_zero _ _ _ _ all_hours all_days all_months all_week)
    (one_shorthand (bytes_eq word (codes "@annually")) s yearly _ (at_minute_zero _ _ _ _ midnight first_day january all_week)
    (one_shorthand (bytes_eq word (codes "@midnight")) s daily _ (at_minute_zero _ _ _ _ midnight all_days all_months all_week)
    (λ h. absurd (cc))))))))

pub means_sets : MeansSets
means_sets text s (inl h) = longhand_filled text s h
means_sets text s (inr h) = shorthand_filled (trimmed_end (trimmed_front text)) s h
