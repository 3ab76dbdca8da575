-- The days of a schedule are told apart, with what stands behind them.
use Rattle.std.proofs.Common.{◌≡◌, ◌==◌, ◌≤◌, ◌+◌, ◌%◌, ℕ, zero, suc, Bool, true, false, ◌&&◌, cond, nat_lt, List, [], ◌∷◌, ◌++◌, codes, drop, get_or, if◌then◌else◌, length, refl, sym, ap, subst, ◌∙◌, append_assoc, arith}
use Rattle.std.proofs.lemmas.Bool.{eqb-true, false≢true}
use Rattle.std.proofs.lemmas.List.{append_cancel_left}
use Rattle.cron_text.proofs.TokenRuns.{and_parts}
use Rattle.cron_text.specs.Tokens.{is_digit}
use Rattle.cron_units.specs.Laws.{is_unit-days_of_month, is_unit-days_of_week}
use Rattle.cron_units.specs.Sets.{Sets}
use Rattle.cron_units.specs.Units.{FieldSet, IsSet}
use Rattle.cron_units.specs.Units as units
use Rattle.cron_words.specs.Lists.{is_whole, items_of, list_text, weekday_text}
use Rattle.cron_words.specs.Progressions.{first, is_progression, last, step}
use Rattle.cron_words.specs.Sentence.{InUnits}
use Rattle.cron_words.specs.Schedules.{dates_text, days_text, is_nth_weekday, is_one, is_week, last_day_text, led_text, nth_weekday_text, only, place, place_text, weekdays_text}
use Rattle.cron_words.specs.declared.lists.Naming.TheVariants.{Ordinals, Weekdays}
use Rattle.cron_words.proofs.BehindTimes.{IsBehindTimes, on_stops, weekdays_behind}
use Rattle.cron_words.proofs.DatesApart.{IsTail, kind, told_kind}
use Rattle.cron_words.proofs.DigitLemmas.{cut, is_word}
use Rattle.cron_words.proofs.HoursApart.{one_same}
use Rattle.cron_words.proofs.ListsApart.{unlike_at}
use Rattle.cron_words.proofs.NameLemmas.{Fits, name_is, name_same}
use Rattle.cron_words.proofs.NumberLemmas.{between}
use Rattle.cron_words.proofs.PhrasesApart.{days_apart, days_by, days_tail, none_by, none_text, numbered_first, numbered_on, numbered_text, omitted, same_days, weekdays_apart, weekdays_are}
use Rattle.cron_words.proofs.ProgressionLemmas.{progressions_same}

-- ---- places

pub record IsPlace (n : ℕ) : Type 0 where
  pub low : 1 ≤ n
  pub high : n ≤ 5

five : (P : ℕ → Type 0) → P 1 → P 2 → P 3 → P 4 → P 5 → (n : ℕ) → IsPlace n → P n
five P a b c d e zero p = absurd (omega arith)
five P a b c d e (suc zero) p = a
five P a b c d e (suc (suc zero)) p = b
five P a b c d e (suc (suc (suc zero))) p = c
five P a b c d e (suc (suc (suc (suc zero)))) p = d
five P a b c d e (suc (suc (suc (suc (suc zero))))) p = e
five P a b c d e (suc (suc (suc (suc (suc (suc n)))))) p = absurd (omega arith)

-- the place that a text begins with
place_read : List ℕ → ℕ
place_read t =
    if get_or t 0 0 == 115 then 2 else if get_or t 0 0 == 116 then 3 else if get_or t 1 0 == 111 then 4 else if get_or t 2 0 == 114 then 1 else 5

read_back : (n : ℕ) → IsPlace n → (r : List ℕ) → place_read (place_text n ++ r) ≡ n
unfolding place_read
read_back n p = five (λ k. (r : List ℕ) → place_read (place_text k ++ r) ≡ k) (λ r. refl) (λ r. refl) (λ r. refl) (λ r. refl) (λ r. refl) n p

-- its first letter, which is neither a digit nor that of `last`
place_digit : (n : ℕ) → IsPlace n → (r : List ℕ) → is_digit (get_or (place_text n ++ r) 0 0) ≡ false
place_digit n p =
    five (λ k. (r : List ℕ) → is_digit (get_or (place_text k ++ r) 0 0) ≡ false) (λ r. refl) (λ r. refl) (λ r. refl) (λ r. refl) (λ r. refl) n p

pub place_last : (n : ℕ) → IsPlace n → (r : List ℕ) → (get_or (place_text n ++ r) 0 0 == 108) ≡ false
place_last n p =
    five (λ k. (r : List ℕ) → (get_or (place_text k ++ r) 0 0 == 108) ≡ false) (λ r. refl) (λ r. refl) (λ r. refl) (λ r. refl) (λ r. refl) n p

-- nor is it that of `workday`
pub place_work : (n : ℕ) → IsPlace n → (r : List ℕ) → (get_or (place_text n ++ r) 0 0 == 119) ≡ false
place_work n p =
    five (λ k. (r : List ℕ) → (get_or (place_text k ++ r) 0 0 == 119) ≡ false) (λ r. refl) (λ r. refl) (λ r. refl) (λ r. refl) (λ r. refl) n p

pub first_place : (ns : List ℕ) → IsSet units.days_of_month ns → IsPlace (place (first ns))
first_place [] s = record { low = omega arith; high = omega arith }
first_place (n ∷ ns) s =
    let w = between units.days_of_month (n ∷ ns) is_unit-days_of_month s in
    record { low = omega arith; high = omega (arith, w.0.1) }

pub weekday_fits : (ns : List ℕ) → IsSet units.days_of_week ns → is_one ns ≡ true → Fits Weekdays (only ns)
weekday_fits [] s h = absurd (false≢true h)
weekday_fits (n ∷ ns) s h = (between units.days_of_week (n ∷ ns) is_unit-days_of_week s).0

-- ---- one day of the week in one week of the month

-- behind the place
pub weekday_end : ℕ → List ℕ → List ℕ
weekday_end v r = 32 ∷ (weekday_text v ++ (codes " of the month" ++ r))

pub nth_on : (n v : ℕ) (r : List ℕ) → nth_weekday_text n v ++ r ≡ codes ", on the " ++ (place_text n ++ weekday_end v r)
unfolding weekday_end
nth_on n v r =
    ap (λ (t : List ℕ). codes ", on the " ++ t) (append_assoc (place_text n) (32 ∷ (weekday_text v ++ codes " of the month")) r
    ∙ ap (λ (t : List ℕ). place_text n ++ 32 ∷ t) (append_assoc (weekday_text v) (codes " of the month") r))

nth_apart : (n m v w : ℕ) (r q : List ℕ) → IsPlace n → IsPlace m → Fits Weekdays v → Fits Weekdays w → nth_weekday_text n v ++ r ≡ nth_weekday_text m w ++ q
    → (n ≡ m) × (v ≡ w) × (r ≡ q)
unfolding weekday_end
nth_apart n m v w r q a b f g e =
    let told : place_text n ++ weekday_end v r ≡ place_text m ++ weekday_end w q =
    append_cancel_left (codes ", on the ") _ _ (sym (nth_on n v r) ∙ (e ∙ nth_on m w q)) in
    let same : n ≡ m = sym (read_back n a (weekday_end v r)) ∙ (ap place_read told ∙ read_back m b (weekday_end w q)) in
    let rest = append_cancel_left (place_text m) (weekday_end v r) (weekday_end w q) (ap (λ (k : ℕ). place_text k ++ weekday_end v r) (sym same) ∙ told) in
    let c = cut is_word (weekday_text v) (weekday_text w) (codes " of the month" ++ r) (codes " of the month" ++ q) (name_is Weekdays v f).word
    (name_is Weekdays w g).word refl refl (ap (drop 1) rest) in
    (same, name_same Weekdays v w f g c.0, append_cancel_left (codes " of the month") r q c.1)

-- ---- other days

-- a phrase of days that isn't a list of them: ` the ` stands behind `, on`, and neither a digit nor `last day` behind that
pub record IsDayPhrase (x : List ℕ) : Type 0 where
  pub kind_is : kind x ≡ 2
  pub article : get_or x 5 0 ≡ 116
  pub word : is_digit (get_or x 9 0) ≡ false
  pub other : (get_or x 9 0 == 108 && get_or x 14 0 == 100) ≡ false

none_differs : (x : List ℕ) (last_day : Bool) (q : List ℕ) → IsDayPhrase x → x ≡ none_text last_day ++ q → ⊥
unfolding none_text
none_differs x true q p e = false≢true (sym p.other ∙ ap (λ (t : List ℕ). get_or t 9 0 == 108 && get_or t 14 0 == 100) e)
none_differs x false q p e =
    let both : 116 ≡ 110 = sym p.article ∙ ap (λ (t : List ℕ). get_or t 5 0) e in
    absurd (omega (arith, both))

-- a text behind ` on the `
numbered_ninth : (d : FieldSet) (k : ℕ) (ks q : List ℕ) → d.ordinals ≡ k ∷ ks → IsSet units.days_of_month (k ∷ ks)
    → is_digit (get_or (list_text Ordinals (items_of d.ordinals) ++ (last_day_text d.last_day ++ q)) 0 0) ≡ true
numbered_ninth d k ks q x z = rw x (numbered_first k ks (last_day_text d.last_day ++ q) z)

days_differ : (x : List ℕ) (d : FieldSet) (q : List ℕ) → IsDayPhrase x → IsSet units.days_of_month d.ordinals → IsTail 2 q → x ≡ days_text d ++ q → ⊥
days_differ x d q p s t e = by_list d.ordinals refl s where
  by_test : (a : Bool) (k : ℕ) (ks : List ℕ) → d.ordinals ≡ k ∷ ks → IsSet units.days_of_month (k ∷ ks) → x ≡ (cond a [] (numbered_text d)) ++ q → ⊥
  by_test true k ks y z g = omega (arith, sym p.kind_is ∙ ap kind g, t.later)
  by_test false k ks y z g = unlike_at is_digit 9 _ _ p.word (numbered_ninth d k ks q y z) (g ∙ numbered_on d q)

  by_list : (ks : List ℕ) → d.ordinals ≡ ks → IsSet units.days_of_month ks → ⊥
  by_list [] y z = none_differs x d.last_day q p (e ∙ ap (λ (o : List ℕ). o ++ q) (none_by d y))
  by_list (k ∷ ks) y z = by_test (omitted d) k ks y z (e ∙ ap (λ (o : List ℕ). o ++ q) (days_by d k ks y))

pub plain_differs : (x : List ℕ) (t : Sets) (q : List ℕ) → IsDayPhrase x → InUnits t → IsTail 2 q
    → x ≡ weekdays_text t.days_of_week ++ (days_text t.days_of_month ++ q) → ⊥
plain_differs x t q p b w e = by_test (is_whole units.days_of_week t.days_of_week) e where
  by_test : (a : Bool)
      → x ≡ (cond a [] (cond (length t.days_of_week == 0) (codes ", on no weekday") (led_text (codes ", on ") (codes ", ") Weekdays t.days_of_week)))
      ++ (days_text t.days_of_month ++ q) → ⊥
  by_test true g = days_differ x t.days_of_month q p b.days_of_month w g
  by_test false g =
      let one = told_kind 1 _ _ _ Weekdays units.days_of_week weekdays_are t.days_of_week (days_text t.days_of_month ++ q) b.days_of_week in
      let both : 2 ≡ 1 = sym p.kind_is ∙ (ap kind g ∙ one) in
      omega (arith, both)

nth_phrase : (n v : ℕ) (r : List ℕ) → IsPlace n → IsDayPhrase (nth_weekday_text n v ++ r)
nth_phrase n v r p =
    subst IsDayPhrase (sym (nth_on n v r))
    (record { kind_is = refl; article = refl; word = place_digit n p (weekday_end v r); other = rw (place_last n p (weekday_end v r)) refl })

-- ---- days

abbrev Dates : Sets → Sets → Type 0
Dates s t = (s.days_of_week ≡ t.days_of_week) × (s.days_of_month ≡ t.days_of_month)

weeks_same : (ns ms : List ℕ) → is_week ns ≡ true → is_week ms ≡ true → place (first ns) ≡ place (first ms) → ns ≡ ms
weeks_same ns ms h g e =
    let a = week_parts ns h in
    let b = week_parts ms g in
    let begin : first ns ≡ first ms = omega (arith, a.2, b.2, e) in
    progressions_same ns ms a.0 b.0 begin (a.1 ∙ sym b.1) (a.3 ∙ (ap (λ (k : ℕ). if nat_lt k 29 then k + 6 else 31) begin ∙ sym b.3)) where
      week_parts : (ks : List ℕ) → is_week ks ≡ true
          → (is_progression ks ≡ true) × (step ks ≡ 1) × (first ks % 7 ≡ 1) × (last ks ≡ (if nat_lt (first ks) 29 then first ks + 6 else 31))
      week_parts ks x =
          let p = and_parts (is_progression ks) _ x in
          let o = and_parts (step ks == 1) _ p.1 in
          let q = and_parts (first ks % 7 == 1) _ o.1 in
          (p.0, eqb-true (step ks) 1 o.0, eqb-true (first ks % 7) 1 q.0, eqb-true (last ks) (if nat_lt (first ks) 29 then first ks + 6 else 31) q.1)

record IsNth (s : Sets) : Type 0 where
  one : is_one s.days_of_week ≡ true
  week : is_week s.days_of_month.ordinals ≡ true
  plain : s.days_of_month.last_day ≡ false

nth_is : (s : Sets) → is_nth_weekday s ≡ true → IsNth s
nth_is s h = by_mark s.days_of_month.last_day refl where
  parts : (is_one s.days_of_week ≡ true) × ((is_week s.days_of_month.ordinals && (if s.days_of_month.last_day then false else true)) ≡ true)
  parts = and_parts (is_one s.days_of_week) _ h

  inner : (is_week s.days_of_month.ordinals ≡ true) × ((if s.days_of_month.last_day then false else true) ≡ true)
  inner = and_parts (is_week s.days_of_month.ordinals) _ parts.1

  by_mark : (a : Bool) → s.days_of_month.last_day ≡ a → IsNth s
  by_mark true x = absurd (false≢true (rw x at inner.1))
  by_mark false x = record { one = parts.0; week = inner.0; plain = x }

both_nth : (s t : Sets) (r q : List ℕ) → InUnits s → InUnits t → IsNth s → IsNth t
    → nth_weekday_text (place (first s.days_of_month.ordinals)) (only s.days_of_week) ++ r
    ≡ nth_weekday_text (place (first t.days_of_month.ordinals)) (only t.days_of_week) ++ q → Dates s t × (r ≡ q)
both_nth s t r q a b x y e =
    let c = nth_apart _ _ (only s.days_of_week) (only t.days_of_week) r q (first_place s.days_of_month.ordinals a.days_of_month)
    (first_place t.days_of_month.ordinals b.days_of_month) (weekday_fits s.days_of_week a.days_of_week x.one)
    (weekday_fits t.days_of_week b.days_of_week y.one) e in (
      (
        one_same s.days_of_week t.days_of_week x.one y.one c.1,
        same_days s.days_of_month t.days_of_month (weeks_same s.days_of_month.ordinals t.days_of_month.ordinals x.week y.week c.0) (x.plain ∙ sym y.plain),
      ),
      c.2,
    )

abbrev pub nth : Sets → List ℕ
nth s = nth_weekday_text (place (first s.days_of_month.ordinals)) (only s.days_of_week)

abbrev pub plain : Sets → List ℕ
plain s = weekdays_text s.days_of_week ++ days_text s.days_of_month

pub plain_on : (s : Sets) (r : List ℕ) → plain s ++ r ≡ weekdays_text s.days_of_week ++ (days_text s.days_of_month ++ r)
plain_on s r = append_assoc (weekdays_text s.days_of_week) (days_text s.days_of_month) r

pub dates_apart : (s t : Sets) (r q : List ℕ) → InUnits s → InUnits t → IsTail 2 r → IsTail 2 q → dates_text s ++ r ≡ dates_text t ++ q → Dates s t × (r ≡ q)
dates_apart s t r q a b v w e = by_test (is_nth_weekday s) (is_nth_weekday t) refl refl e where
  by_test : (x y : Bool) → is_nth_weekday s ≡ x → is_nth_weekday t ≡ y → (cond x (nth s) (plain s)) ++ r ≡ (cond y (nth t) (plain t)) ++ q → Dates s t × (r ≡ q)
  by_test true true x y g = both_nth s t r q a b (nth_is s x) (nth_is t y) g
  by_test true false x y g = absurd (plain_differs _ t q (nth_phrase (place (first s.days_of_month.ordinals)) (only s.days_of_week) r (first_place s.days_of_month.ordinals a.days_of_month)) b w (g ∙ plain_on t q))
  by_test false true x y g = absurd (plain_differs _ s r (nth_phrase (place (first t.days_of_month.ordinals)) (only t.days_of_week) q (first_place t.days_of_month.ordinals b.days_of_month)) a v (sym g ∙ plain_on s r))
  by_test false false x y g =
      let c = weekdays_apart s.days_of_week t.days_of_week _ _ a.days_of_week b.days_of_week (days_tail s.days_of_month r v) (days_tail t.days_of_month q w)
      (sym (plain_on s r) ∙ (g ∙ plain_on t q)) in
      let d = days_apart s.days_of_month t.days_of_month r q a.days_of_month b.days_of_month v w c.1 in
      ((c.0, d.0), d.1)

pub dates_behind : (s : Sets) (r : List ℕ) → InUnits s → IsTail 2 r → IsBehindTimes (dates_text s ++ r)
dates_behind s r a v = by_test (is_nth_weekday s) where
  by_test : (x : Bool) → IsBehindTimes ((cond x (nth s) (plain s)) ++ r)
  by_test true = record { stop = on_stops _; space = refl }
  by_test false =
      subst IsBehindTimes (sym (plain_on s r)) (weekdays_behind s.days_of_week _ a.days_of_week (days_tail s.days_of_month r v))
