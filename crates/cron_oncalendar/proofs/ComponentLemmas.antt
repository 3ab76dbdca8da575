-- Components that were written, as they are read.
use Rattle.std.proofs.Common.{◌≡◌, ◌≢◌, ◌==◌, ◌+◌, ◌-◌, ◌≤◌, ◌<◌, ℕ, suc, Bool, true, false, ◌&&◌, nat_le, nat_lt, Option, Some, None, List, [], ◌∷◌, length, map, refl, sym, ap, ◌∙◌, subst, inl, inr, codes, arith}
use Rattle.std.proofs.lemmas.Bool.{and_parts, cases_lt, cases_eq, eqb-false, eqb-true, false≢true, le-leb, leb-true, lt-ltb, ltb-true, ne_eqb}
use Rattle.std.proofs.lemmas.Fmt.{decimal_is_IsNumeral}
use Rattle.std.proofs.lemmas.Slice.Eq.{bytes_eq-Decides}
use Rattle.std.proofs.lemmas.Str.Parse.{digit_from_value}
use Rattle.std.specs.Char.{is_ascii_digit}
use Rattle.std.specs.Fmt.{decimal}
use Rattle.std.specs.List.{AllByRecursion, list_all}
use Rattle.std.specs.Str.{bytes_eq}
use Rattle.std.specs.Str.Parse.{AllDigits, IsNumeral, digits_value}
use Rattle.cron_units.specs.Units.{TimeUnit, IsSet, contains, days_of_week, set_of, whole}
use Rattle.cron_units.proofs.SetLemmas.{contains_after, contains_before, contains_set, length_set, whole_is_all}
use Rattle.cron_oncalendar.specs.Calendars.{any, ranges, number_of, parts, range_of, ranges_in, ranges_of, weekday_named}
use Rattle.cron_oncalendar.specs.Inner.Pieces.{level, is_listable, is_under, IsComponent}
use Rattle.cron_oncalendar.specs.Inner.Written.{word_text, range_text, IsRangeOf, AreRangesText}
use Rattle.cron_oncalendar.specs.declared.components.Spelling.{Spelling}
use Rattle.cron_oncalendar.specs.declared.components.Spelling.TheVariants.{Digits, Names}
use Rattle.cron_oncalendar.proofs.PartLemmas.{both_true, first_part, joined_parts, joined_under, one_part, under_append, under_more}

-- ---- words

-- a word is read as its number
record IsRead (word : List ℕ → Option ℕ) (w : Spelling) (n : ℕ) : Type 0 where
  read : word (word_text w n) ≡ Some n
  under : is_under 1 (word_text w n) ≡ true

digit_under : (c : ℕ) → 48 ≤ c → c ≤ 57 → nat_lt (level c) 1 ≡ true
unfolding level
digit_under c l g =
    rw (
      ne_eqb c 46 (λ e. omega arith),
      ne_eqb c 44 (λ e. omega arith),
      ne_eqb c 58 (λ e. omega arith),
      ne_eqb c 126 (λ e. omega arith),
      ne_eqb c 45 (λ e. omega arith),
      ne_eqb c 32 (λ e. omega arith),
      ne_eqb c 10 (λ e. omega arith),
    ) refl

digits_under : (ds : List ℕ) → AllDigits 10 ds → is_under 1 ds ≡ true
digits_under [] a = refl
digits_under (c ∷ ds) a =
    let within = digit_from_value c a.0 in both_true _ _ (digit_under c within.0 within.1) (digits_under ds a.1)

digits_are : (ds : List ℕ) → AllDigits 10 ds → list_all is_ascii_digit ds ≡ true
digits_are [] a = refl
digits_are (c ∷ ds) a =
    let within = digit_from_value c a.0 in rw (le-leb 48 c within.0, le-leb c 57 within.1) (digits_are ds a.1)

digits_read : (least most n : ℕ) (ds : List ℕ) → 0 < length ds → AllDigits 10 ds → digits_value 10 ds ≡ n → least ≤ n → n ≤ most
    → number_of least most ds ≡ Some n
digits_read least most n ds some a e l g =
    rw (e, lt-ltb 0 (length ds) some, digits_are ds a, le-leb least n l, le-leb n most g) refl

digit_zero : AllDigits 10 (48 ∷ [])
digit_zero = (omega arith, tt)

number_read : (least most n : ℕ) → least ≤ n → n ≤ most → n < 4294967296 → IsRead (number_of least most) Digits n
number_read least most n l g small = by_test (nat_lt n 10) refl where
  numeral : IsNumeral 10 (decimal n) × (digits_value 10 (decimal n) ≡ n)
  numeral = decimal_is_IsNumeral n (omega arith)

  by_test : (short : Bool) → nat_lt n 10 ≡ short → IsRead (number_of least most) Digits n
  by_test true e =
      record {
        read = rw e (digits_read least most n (48 ∷ decimal n) (omega arith) (omega arith, numeral.0.1) numeral.1 l g);
        under = rw e (digits_under (48 ∷ decimal n) (omega arith, numeral.0.1));
      }
  by_test false e =
      record {
        read = rw e (digits_read least most n (decimal n) numeral.0.0 numeral.0.1 numeral.1 l g);
        under = rw e (digits_under (decimal n) numeral.0.1);
      }

this_or_later : (P : ℕ → Type 0) (n k : ℕ) → P k → (k < n → P n) → k ≤ n → P n
this_or_later P n k here later l = elim (cases_eq n k) [
  | inl e ↦ subst P (sym e) here
  | inr d ↦ later (omega (arith, d))
]

abbrev IsWeekday : ℕ → Type 0
IsWeekday n = IsRead weekday_named Names n

weekday_read : (n : ℕ) → 1 ≤ n → n ≤ 7 → IsWeekday n
unfolding level
weekday_read n l g =
    this_or_later IsWeekday n 1 (record { read = refl; under = refl })
    (λ l1. this_or_later IsWeekday n 2 (record { read = refl; under = refl })
    (λ l2. this_or_later IsWeekday n 3 (record { read = refl; under = refl })
    (λ l3. this_or_later IsWeekday n 4 (record { read = refl; under = refl })
    (λ l4. this_or_later IsWeekday n 5 (record { read = refl; under = refl })
    (λ l5. this_or_later IsWeekday n 6 (record { read = refl; under = refl })
    (λ l6. this_or_later IsWeekday n 7 (record { read = refl; under = refl })
    (λ l7. absurd (omega arith)) (omega arith)) (omega arith)) (omega arith)) (omega arith)) (omega arith)) (omega arith)) l

-- ---- ranges

read_range : (word : List ℕ → Option ℕ) (w : Spelling) (r : ℕ × ℕ) → IsRead word w r.0 → IsRead word w r.1 → r.0 ≤ r.1
    → (range_of word (parts 46 (range_text w r)) ≡ Some r) × (is_under 2 (range_text w r) ≡ true)
unfolding level
read_range word w r a b l = by_test (r.0 == r.1) refl where
  by_test : (same : Bool) → (r.0 == r.1) ≡ same → (range_of word (parts 46 (range_text w r)) ≡ Some r) × (is_under 2 (range_text w r) ≡ true)
  by_test true e =
      let one : r.0 ≡ r.1 = eqb-true r.0 r.1 e in
      rw e (
        rw (one_part 46 1 (word_text w r.0) (omega arith) a.under, a.read) (ap (λ (k : ℕ). Some (r.0, k)) one),
        under_more 1 2 (word_text w r.0) (omega arith) a.under,
      )
  by_test false e =
      let apart : r.0 ≢ r.1 = eqb-false r.0 r.1 e in
      rw e (
        rw (
          first_part 46 1 (word_text w r.0) (46 ∷ word_text w r.1) (omega arith) a.under,
          one_part 46 1 (word_text w r.1) (omega arith) b.under,
          a.read,
          b.read,
          lt-ltb r.0 r.1 (omega (arith, apart, l)),
        ) refl,
        under_append 2 (word_text w r.0) (46 ∷ 46 ∷ word_text w r.1) (under_more 1 2 (word_text w r.0) (omega arith) a.under)
            (under_more 1 2 (word_text w r.1) (omega arith) b.under),
      )

-- the words of numbers are read
abbrev AreRead : (List ℕ → Option ℕ) → Spelling → List ℕ → Type 0
AreRead word w xs = (n : ℕ) → contains xs n ≡ true → IsRead word w n

texts_under : (word : List ℕ → Option ℕ) (w : Spelling) (xs : List ℕ) (rs : List (ℕ × ℕ)) → AreRead word w xs → AllByRecursion (IsRangeOf xs) rs
    → AllByRecursion (λ text. is_under 2 text ≡ true) (map (range_text w) rs)
texts_under word w xs [] read a = tt
texts_under word w xs (r ∷ rs) read a =
    ((read_range word w r (read r.0 a.0.first) (read r.1 a.0.last) a.0.ordered).1, texts_under word w xs rs read a.1)

each_read : (word : List ℕ → Option ℕ) (w : Spelling) (xs : List ℕ) (rs : List (ℕ × ℕ)) → AreRead word w xs → AllByRecursion (IsRangeOf xs) rs
    → ranges_of word (map (range_text w) rs) ≡ Some rs
each_read word w xs [] read a = refl
each_read word w xs (r ∷ rs) read a =
    rw ((read_range word w r (read r.0 a.0.first) (read r.1 a.0.last) a.0.ordered).0, each_read word w xs rs read a.1) refl

no_texts : (w : Spelling) (rs : List (ℕ × ℕ)) → (rs ≡ [] → ⊥) → map (range_text w) rs ≡ [] → ⊥
no_texts w [] some e = some refl
no_texts w (r ∷ rs) some e = absurd (cc)

length_texts : (w : Spelling) (rs : List (ℕ × ℕ)) → length (map (range_text w) rs) ≡ length rs
length_texts w [] = refl
length_texts w (r ∷ rs) = ap suc (length_texts w rs)

-- the text of ranges is read as these ranges
pub record AreReadBack (word : List ℕ → Option ℕ) (piece : List ℕ) (rs : List (ℕ × ℕ)) : Type 0 where
  pub under : is_under 3 piece ≡ true
  pub read : ranges_in word piece ≡ Some (ranges rs)

ranges_read : (word : List ℕ → Option ℕ) (w : Spelling) (xs piece : List ℕ) → AreRead word w xs → length xs ≤ 240 → (h : AreRangesText w xs piece)
    → AreReadBack word piece h.ranges
unfolding level
ranges_read word w xs piece read short h =
    let rs = h.ranges in
    let under = texts_under word w xs rs read h.are.each in
    let cut = joined_parts 44 2 (map (range_text w) rs) (omega arith) (no_texts w rs h.are.some) under in
    record {
      under = rw h.text (joined_under 44 2 3 (map (range_text w) rs) (omega arith) (omega arith) under);
      read = rw (h.text, cut, length_texts w rs, le-leb (length rs) 240 (omega (arith, h.are.few)), each_read word w xs rs read h.are.each) refl;
    }

-- ---- components

member_within : (u : TimeUnit) (xs : List ℕ) (x : ℕ) → u.least ≤ u.greatest → IsSet u xs → contains xs x ≡ true → (u.least ≤ x) × (x ≤ u.greatest)
member_within u xs x ordered set c =
    let there : contains (set_of u (contains xs)) x ≡ true = ap (λ (ys : List ℕ). contains ys x) (sym set) ∙ c in
    elim (cases_lt x u.least) [
      | inl l ↦ absurd (false≢true (sym (contains_before u (contains xs) x l) ∙ there))
      | inr low ↦ elim (cases_lt u.greatest x) [
        | inl l ↦ absurd (false≢true (sym (contains_after u (contains xs) x ordered l) ∙ there))
        | inr high ↦ (low, high)
      ]
    ]

record IsListable (u : TimeUnit) : Type 0 where
  ordered : u.least ≤ u.greatest
  short : u.greatest + 1 - u.least ≤ 240
  small : u.greatest < 4294967296

listable : (u : TimeUnit) → is_listable u ≡ true → IsListable u
listable u h =
    let front = and_parts (nat_le u.least u.greatest && nat_le (u.greatest + 1 - u.least) 240) (nat_lt u.greatest 4294967296) h in
    let two = and_parts (nat_le u.least u.greatest) (nat_le (u.greatest + 1 - u.least) 240) front.0 in
    record {
      ordered = leb-true u.least u.greatest two.0;
      short = leb-true (u.greatest + 1 - u.least) 240 two.1;
      small = ltb-true u.greatest 4294967296 front.1;
    }

-- the text of days of the week
pub weekdays_read : (xs piece : List ℕ) → IsSet days_of_week xs → (h : AreRangesText Names xs piece) → AreReadBack weekday_named piece h.ranges
weekdays_read xs piece set h =
    ranges_read weekday_named Names xs piece
    (λ n c. let within = member_within days_of_week xs n (omega arith) set c in weekday_read n within.0 within.1)
    (omega (arith, length_set days_of_week xs set)) h

pub star_component : (u : TimeUnit) (xs : List ℕ) → xs ≡ whole u → IsComponent u xs (codes "*")
unfolding level
star_component u xs e =
    record {
      says = any;
      under = refl;
      read = λ most l. refl;
      same = λ x l g. sym (ap (λ (ys : List ℕ). contains ys x) (e ∙ sym (whole_is_all u)) ∙ contains_set u (λ y. true) x l g);
    }

not_star : (least most : ℕ) (piece : List ℕ) (rs : List (ℕ × ℕ)) → ranges_in (number_of least most) piece ≡ Some (ranges rs) → bytes_eq piece (codes "*") ≡ false
not_star least most piece rs h = by_test (bytes_eq piece (codes "*")) refl where
  by_test : (star : Bool) → bytes_eq piece (codes "*") ≡ star → bytes_eq piece (codes "*") ≡ false
  by_test true e =
      let none : None ≡ Some (ranges rs) = subst (λ (p : List ℕ). ranges_in (number_of least most) p ≡ Some (ranges rs)) ((bytes_eq-Decides piece (codes "*")).0 e) h in
      absurd (cc)
  by_test false e = e

pub ranges_component : (u : TimeUnit) (xs piece : List ℕ) → is_listable u ≡ true → IsSet u xs → AreRangesText Digits xs piece → IsComponent u xs piece
ranges_component u xs piece fits set h =
    let can = listable u fits in
    let read = λ (most : ℕ) (l : u.greatest ≤ most). ranges_read (number_of u.least most) Digits xs piece
    (λ n c. let within = member_within u xs n can.ordered set c in number_read u.least most n within.0 (omega (arith, within.1, l)) (omega (arith, within.1, can.small)))
    (omega (arith, length_set u xs set, can.short)) h in
    let own = read u.greatest (omega arith) in
    record {
      says = ranges h.ranges;
      under = own.under;
      read = λ most l. rw (not_star u.least most piece h.ranges (read most l).read) (read most l).read;
      same = λ x l g. h.are.same x;
    }
