-- Schedules for months of each length.
use Rattle.std.proofs.Common.{◌≡◌, ◌≤◌, ◌++◌, ◌==◌, ◌&&◌, ◌||◌, ℕ, ℤ, pos, negsuc, Bool, true, false, not, cond, List, [], ◌∷◌, ◌⊎◌, inl, inr, refl, sym, ap, ◌∙◌, subst, arith, nat_eq}
use Rattle.std.specs.Prelude.{filter, if◌then◌else◌}
use Rattle.std.proofs.lemmas.Bool.Decides.{nat_tests}
use Rattle.std.proofs.lemmas.Bool.{and_parts, cases_eq, eq-eqb, eqb-true}
use Rattle.jiff_core.specs.declared.civil.datetime.DateTime.{DateTime}
use Rattle.jiff_core.specs.Calendar.{days_in_month, is_leap_year}
use Rattle.cron_units.specs.Sets.{Sets}
use Rattle.cron_units.specs.Units.{contains}
use Rattle.cron_time.specs.Matches.{contains_year, matches_time}
use Rattle.cron_tabs.specs.DayRule.{matches_one}
use Rattle.cron_quartz.specs.Days.{by_length, has_length, in_length, year_fits}
use Rattle.cron_quartz_days.specs.Runs.{matches_but_days}
use Rattle.cron_quartz_days.proofs.MatchLemmas.{any_cases, any_first, any_second}

-- ---- filters

contains_by : (p : ℕ → Bool) (x y : ℕ) (ys : List ℕ) (e b : Bool) → nat_eq x y ≡ e → p y ≡ b → contains (filter p ys) x ≡ (contains ys x && p x)
    → contains (cond b (y ∷ filter p ys) (filter p ys)) x ≡ ((e || contains ys x) && p x)
contains_by p x y ys true true e is below = let same : x ≡ y = grind (arith, nat_tests) in rw (e, same, is) refl
contains_by p x y ys true false e is below =
    let same : x ≡ y = grind (arith, nat_tests) in let fails : p x ≡ false = ap p same ∙ is in below ∙ rw fails (none_of (contains ys x))
  where
    none_of : (v : Bool) → (v && false) ≡ false
    none_of true = refl
    none_of false = refl
contains_by p x y ys false true e is below = rw e below
contains_by p x y ys false false e is below = below

contains_filter : (p : ℕ → Bool) (xs : List ℕ) (x : ℕ) → contains (filter p xs) x ≡ (contains xs x && p x)
contains_filter p [] x = refl
contains_filter p (y ∷ ys) x = contains_by p x y ys (nat_eq x y) (p y) refl refl (contains_filter p ys x)

-- ---- a month's length by three tests: whether it is February, whether it has thirty days, whether the year is a leap year

abbrev length_by : Bool → Bool → Bool → ℕ
length_by february thirty leap = cond february (cond leap 29 28) (cond thirty 30 31)

-- whether the year fits a length, by whether it is a leap year
abbrev year_by : ℕ → Bool → Bool
year_by n leap = if n == 29 then leap else if n == 28 then not leap else true

-- the tests of the sets at a length are those of the length
fits_28 : (a b leap : Bool) → ((length_by a b false == 28) && year_by 28 leap) ≡ (length_by a b leap == 28)
fits_28 true b true = refl
fits_28 true b false = refl
fits_28 false true leap = refl
fits_28 false false leap = refl

fits_29 : (a b leap : Bool) → ((length_by a b true == 29) && year_by 29 leap) ≡ (length_by a b leap == 29)
fits_29 true b true = refl
fits_29 true b false = refl
fits_29 false true leap = refl
fits_29 false false leap = refl

fits_30 : (a b leap : Bool) → ((length_by a b false == 30) && year_by 30 leap) ≡ (length_by a b leap == 30)
fits_30 true b true = refl
fits_30 true b false = refl
fits_30 false true leap = refl
fits_30 false false leap = refl

fits_31 : (a b leap : Bool) → ((length_by a b false == 31) && year_by 31 leap) ≡ (length_by a b leap == 31)
fits_31 true b true = refl
fits_31 true b false = refl
fits_31 false true leap = refl
fits_31 false false leap = refl

year_part : (n : ℕ) (ys : List ℕ) (y : ℤ) → contains_year (filter (year_fits n) ys) y ≡ (contains_year ys y && year_by n (is_leap_year y))
year_part n ys (pos k) = contains_filter (year_fits n) ys k
year_part n ys (negsuc k) = refl

shape : (y yf m mf t : Bool) → ((y && yf) && (m && mf) && t) ≡ ((y && m && t) && (mf && yf))
shape false yf m mf t = refl
shape true yf false mf t = grind arith
shape true false true true false = refl
shape true false true true true = refl
shape true false true false t = grind arith
shape true true true mf false = grind arith
shape true true true true true = refl
shape true true true false true = refl

-- ---- lengths

pub long_by : (a b leap : Bool) → (28 ≤ length_by a b leap) × (length_by a b leap ≤ 31)
long_by true b true = (omega arith, omega arith)
long_by true b false = (omega arith, omega arith)
long_by false true leap = (omega arith, omega arith)
long_by false false leap = (omega arith, omega arith)

module _ (s : Sets) (dt : DateTime) where
  abbrev pub len : ℕ
  len = days_in_month dt.date.year dt.date.month

  abbrev february : Bool
  february = dt.date.month == 2

  abbrev thirty : Bool
  thirty = (dt.date.month == 4) || (dt.date.month == 6) || (dt.date.month == 9) || (dt.date.month == 11)

  abbrev leap : Bool
  leap = is_leap_year dt.date.year

  pub long : (28 ≤ len) × (len ≤ 31)
  long = long_by february thirty leap

  rest_in : (n : ℕ) → (has_length n dt.date.month && year_by n leap) ≡ (length_by february thirty leap == n)
      → matches_but_days (in_length n s) dt ≡ (matches_but_days s dt && (len == n))
  rest_in n fits =
      ap (λ b. b && contains (filter (has_length n) s.months) dt.date.month && matches_time s dt.time) (year_part n s.years dt.date.year)
      ∙ ap (λ b. (contains_year s.years dt.date.year && year_by n leap) && b && matches_time s dt.time) (contains_filter (has_length n) s.months dt.date.month)
      ∙ shape (contains_year s.years dt.date.year) (year_by n leap) (contains s.months dt.date.month) (has_length n dt.date.month) (matches_time s dt.time)
      ∙ ap (λ b. matches_but_days s dt && b) fits

  rest_28 : matches_but_days (in_length 28 s) dt ≡ (matches_but_days s dt && (len == 28))
  rest_28 = rest_in 28 (fits_28 february thirty leap)

  rest_29 : matches_but_days (in_length 29 s) dt ≡ (matches_but_days s dt && (len == 29))
  rest_29 = rest_in 29 (fits_29 february thirty leap)

  rest_30 : matches_but_days (in_length 30 s) dt ≡ (matches_but_days s dt && (len == 30))
  rest_30 = rest_in 30 (fits_30 february thirty leap)

  rest_31 : matches_but_days (in_length 31 s) dt ≡ (matches_but_days s dt && (len == 31))
  rest_31 = rest_in 31 (fits_31 february thirty leap)

  module _ (form : ℕ → Sets → List Sets) (IsSo : ℕ → Type 0) where
    abbrev at : ℕ → List Sets
    at n = form n (in_length n s)

    abbrev pub To : ℕ → Type 0
    To n = matches_one (at n) dt ≡ true → (matches_but_days (in_length n s) dt ≡ true) × IsSo n

    abbrev pub From : ℕ → Type 0
    From n = len ≡ n → matches_but_days (in_length n s) dt ≡ true → IsSo n → matches_one (at n) dt ≡ true

    one_to : (n : ℕ) → matches_but_days (in_length n s) dt ≡ (matches_but_days s dt && (len == n)) → To n → matches_one (at n) dt ≡ true
        → (matches_but_days s dt ≡ true) × IsSo len
    one_to n rest to h =
        let found = to h in
        let both = and_parts (matches_but_days s dt) (len == n) (sym rest ∙ found.0) in
        (both.0, subst IsSo (sym (eqb-true len n both.1)) (found.1))

    one_from : (n : ℕ) → matches_but_days (in_length n s) dt ≡ (matches_but_days s dt && (len == n)) → From n → len ≡ n → matches_but_days s dt ≡ true → IsSo len
        → matches_one (at n) dt ≡ true
    one_from n rest from e all so = from e (rest ∙ rw (all, eq-eqb len n e) refl) (subst IsSo e so)

    -- the schedules for the months of each length match as that of the month's own length does
    pub by_length_to : To 28 → To 29 → To 30 → To 31 → matches_one (by_length form s) dt ≡ true → (matches_but_days s dt ≡ true) × IsSo len
    by_length_to a b c d h = elim (any_cases ((at 28 ++ at 29) ++ at 30) (at 31) dt h) [
      | inl more ↦ elim (any_cases (at 28 ++ at 29) (at 30) dt more) [
        | inl two ↦ elim (any_cases (at 28) (at 29) dt two) [ inl x ↦ one_to 28 rest_28 a x | inr x ↦ one_to 29 rest_29 b x ]
        | inr x ↦ one_to 30 rest_30 c x
      ]
      | inr x ↦ one_to 31 rest_31 d x
    ]

    four : (len ≡ 28) ⊎ ((len ≡ 29) ⊎ ((len ≡ 30) ⊎ (len ≡ 31)))
    four = by_value len (long.0) (long.1)
      where
        by_value : (n : ℕ) → 28 ≤ n → n ≤ 31 → (n ≡ 28) ⊎ ((n ≡ 29) ⊎ ((n ≡ 30) ⊎ (n ≡ 31)))
        by_value n low high = elim (cases_eq n 28) [
          | inl e ↦ inl e
          | inr p ↦ elim (cases_eq n 29) [
            | inl e ↦ inr (inl e)
            | inr q ↦ elim (cases_eq n 30) [ inl e ↦ inr (inr (inl e)) | inr r ↦ inr (inr (inr (omega (arith, p, q, r)))) ]
          ]
        ]

    pub by_length_from : From 28 → From 29 → From 30 → From 31 → matches_but_days s dt ≡ true → IsSo len → matches_one (by_length form s) dt ≡ true
    by_length_from a b c d all so = elim four [
      | inl e ↦ any_first ((at 28 ++ at 29) ++ at 30) (at 31) dt (any_first (at 28 ++ at 29) (at 30) dt (any_first (at 28) (at 29) dt (one_from 28 rest_28 a e all so)))
      | inr (inl e) ↦
          any_first ((at 28 ++ at 29) ++ at 30) (at 31) dt (any_first (at 28 ++ at 29) (at 30) dt (any_second (at 28) (at 29) dt (one_from 29 rest_29 b e all so)))
      | inr (inr (inl e)) ↦ any_first ((at 28 ++ at 29) ++ at 30) (at 31) dt (any_second (at 28 ++ at 29) (at 30) dt (one_from 30 rest_30 c e all so))
      | inr (inr (inr e)) ↦ any_second ((at 28 ++ at 29) ++ at 30) (at 31) dt (one_from 31 rest_31 d e all so)
    ]
