-- Forms of days are told apart, from each other and from other days.
use Rattle.std.proofs.Common.{◌≡◌, ◌==◌, ◌<◌, ◌^◌, ℕ, Bool, true, false, cond, nat_le, List, [], ◌∷◌, ◌++◌, Option, Some, None, codes, drop, get_or, length, refl, sym, ap, subst, ◌∙◌, append_assoc, arith}
use Rattle.std.proofs.lemmas.Bool.Decides.{nat_tests}
use Rattle.std.proofs.lemmas.List.{append_cancel_left}
use Rattle.cron_text.proofs.TokenRuns.{and_parts}
use Rattle.cron_units.proofs.SetLemmas.{is_set_from, set_is_set, whole_is_all}
use Rattle.cron_units.specs.Laws.{is_unit-days_of_month}
use Rattle.cron_units.specs.Sets.{Sets}
use Rattle.cron_units.specs.Units.{IsSet, TimeUnit, whole}
use Rattle.cron_units.specs.Units as units
use Rattle.cron_words.specs.Lists.{name_text, weekday_text}
use Rattle.cron_words.specs.Progressions.{first}
use Rattle.cron_words.specs.Schedules.{dates_text, is_nth_weekday, is_one, only, place, nth_weekday_text}
use Rattle.cron_words.specs.Shapes.{IsShape, base, have_shape, if_shaped, last_weekday_of, shape_from, workday_of}
use Rattle.cron_words.specs.Sentence.{InUnits, shape_text}
use Rattle.cron_words.specs.declared.lists.Naming.TheVariants.{Ordinals, Weekdays}
use Rattle.cron_words.specs.declared.shapes.Shape.{Shape}
use Rattle.cron_words.specs.declared.shapes.Shape.TheVariants.{LastWeekday, NearestWorkday, LastWorkday}
use Rattle.cron_words.proofs.BehindTimes.{IsBehindTimes, on_stops}
use Rattle.cron_words.proofs.DatesApart.{IsTail}
use Rattle.cron_words.proofs.DigitLemmas.{cut, is_word}
use Rattle.cron_words.proofs.ListsApart.{stops_word, unlike, unlike_at}
use Rattle.cron_words.proofs.NameLemmas.{is_capital, name_is, name_same}
use Rattle.cron_words.proofs.NthApart.{IsDayPhrase, IsPlace, first_place, nth, nth_on, place_last, place_work, plain, plain_differs, plain_on, weekday_end, weekday_fits}
use Rattle.cron_words.proofs.NumberLemmas.{between}
use Rattle.cron_words.proofs.TimesApart.{not_none}

-- ---- two forms

weekday_on : (w : ℕ) (r : List ℕ) → shape_text (LastWeekday w) ++ r ≡ codes ", on the last " ++ (weekday_text w ++ (codes " of the month" ++ r))
weekday_on w r = ap (λ (t : List ℕ). codes ", on the last " ++ t) (append_assoc (weekday_text w) (codes " of the month") r)

weekday_capital : (w : ℕ) (r : List ℕ) → IsShape (LastWeekday w) → is_capital (get_or (weekday_text w ++ (codes " of the month" ++ r)) 0 0) ≡ true
weekday_capital w r f = (name_is Weekdays w f).first (codes " of the month" ++ r)

day_fits : (n : ℕ) → IsShape (NearestWorkday n) → n < 2 ^ 32
day_fits n f = omega (arith, f.1)

pub shape_apart : (x y : Shape) (r q : List ℕ) → IsShape x → IsShape y → IsTail 2 r → IsTail 2 q → shape_text x ++ r ≡ shape_text y ++ q → (x ≡ y) × (r ≡ q)
shape_apart (LastWeekday v) (LastWeekday w) r q f g h k e =
    let c = cut is_word (weekday_text v) (weekday_text w) (codes " of the month" ++ r) (codes " of the month" ++ q) (name_is Weekdays v f).word
    (name_is Weekdays w g).word refl refl (append_cancel_left (codes ", on the last ") _ _ (sym (weekday_on v r) ∙ (e ∙ weekday_on w q))) in
    (ap LastWeekday (name_same Weekdays v w f g c.0), append_cancel_left (codes " of the month") r q c.1)
shape_apart (LastWeekday v) (NearestWorkday n) r q f g h k e = absurd (unlike 108 119 _ _ refl (ap (drop 9) (sym (weekday_on v r) ∙ e)))
shape_apart (LastWeekday v) LastWorkday r q f g h k e = absurd (unlike_at is_capital 14 _ _ refl (weekday_capital v r f) (sym e ∙ weekday_on v r))
shape_apart (NearestWorkday n) (LastWeekday w) r q f g h k e = absurd (unlike 119 108 _ _ refl (ap (drop 9) (e ∙ weekday_on w q)))
shape_apart (NearestWorkday n) (NearestWorkday m) r q f g h k e =
    let c = cut is_word (name_text Ordinals n) (name_text Ordinals m) r q (name_is Ordinals n (day_fits n f)).word (name_is Ordinals m (day_fits m g)).word
    (stops_word Ordinals r (h.stop Ordinals)) (stops_word Ordinals q (k.stop Ordinals))
    (append_cancel_left (codes ", on the workday nearest to the ") (name_text Ordinals n ++ r) (name_text Ordinals m ++ q) e) in
    (ap NearestWorkday (name_same Ordinals n m (day_fits n f) (day_fits m g) c.0), c.1)
shape_apart (NearestWorkday n) LastWorkday r q f g h k e = absurd (unlike 119 108 _ _ refl (ap (drop 9) e))
shape_apart LastWorkday (LastWeekday w) r q f g h k e = absurd (unlike_at is_capital 14 _ _ refl (weekday_capital w q g) (e ∙ weekday_on w q))
shape_apart LastWorkday (NearestWorkday m) r q f g h k e = absurd (unlike 108 119 _ _ refl (ap (drop 9) e))
shape_apart LastWorkday LastWorkday r q f g h k e = (refl, append_cancel_left (codes ", on the last workday of the month") r q e)

-- ---- a form and other days

capital_no_d : (c : ℕ) → is_capital c ≡ true → (c == 100) ≡ false
capital_no_d c h = let p = and_parts (nat_le 65 c) (nat_le c 90) h in grind (arith, nat_tests, p.1)

shape_phrase : (x : Shape) (r : List ℕ) → IsShape x → IsDayPhrase (shape_text x ++ r)
shape_phrase (LastWeekday w) r f =
    subst IsDayPhrase (sym (weekday_on w r))
    (record { kind_is = refl; article = refl; word = refl; other = capital_no_d _ (weekday_capital w r f) })
shape_phrase (NearestWorkday n) r f = record { kind_is = refl; article = refl; word = refl; other = refl }
shape_phrase LastWorkday r f = record { kind_is = refl; article = refl; word = refl; other = refl }

nth_shape : (x : Shape) (n v : ℕ) (r q : List ℕ) → IsPlace n → nth_weekday_text n v ++ r ≡ shape_text x ++ q → ⊥
nth_shape (LastWeekday w) n v r q p e = unlike_at (λ c. c == 108) 9 _ _ (place_last n p (weekday_end v r)) refl (sym (nth_on n v r) ∙ e)
nth_shape (NearestWorkday m) n v r q p e = unlike_at (λ c. c == 119) 9 _ _ (place_work n p (weekday_end v r)) refl (sym (nth_on n v r) ∙ e)
nth_shape LastWorkday n v r q p e = unlike_at (λ c. c == 108) 9 _ _ (place_last n p (weekday_end v r)) refl (sym (nth_on n v r) ∙ e)

pub shape_dates : (x : Shape) (t : Sets) (r q : List ℕ) → IsShape x → InUnits t → IsTail 2 q → shape_text x ++ r ≡ dates_text t ++ q → ⊥
shape_dates x t r q f b w e = by_test (is_nth_weekday t) e where
  by_test : (a : Bool) → shape_text x ++ r ≡ (cond a (nth t) (plain t)) ++ q → ⊥
  by_test true g =
      nth_shape x (place (first t.days_of_month.ordinals)) (only t.days_of_week) q r (first_place t.days_of_month.ordinals b.days_of_month) (sym g)
  by_test false g = plain_differs (shape_text x ++ r) t q (shape_phrase x r f) b w (g ∙ plain_on t q)

pub shape_behind : (x : Shape) (r : List ℕ) → IsBehindTimes (shape_text x ++ r)
shape_behind (LastWeekday w) r = record { stop = on_stops _; space = refl }
shape_behind (NearestWorkday n) r = record { stop = on_stops _; space = refl }
shape_behind LastWorkday r = record { stop = on_stops _; space = refl }

-- ---- the form of schedules

pub record IsFound (shape : Shape) (s : Sets) (ss : List Sets) : Type 0 where
  pub fits : have_shape shape s ss ≡ true
  pub bounds : IsShape shape

if_found : (fits : Bool) (y : Shape) (o : Option Shape) (s : Sets) (ss : List Sets) → (fits ≡ true → IsFound y s ss)
    → ((z : Shape) → o ≡ Some z → IsFound z s ss) → (z : Shape) → if_shaped fits y o ≡ Some z → IsFound z s ss
if_found true y o s ss f g z e = let same : y ≡ z = cc in subst (λ (w : Shape). IsFound w s ss) same (f refl)
if_found false y o s ss f g z e = g z e

not_found : (s : Sets) (ss : List Sets) (z : Shape) → None ≡ Some z → IsFound z s ss
not_found s ss z e = absurd (cc)

workday_found : (s : Sets) (ss : List Sets) → InUnits s → (z : Shape) → workday_of s ss ≡ Some z → IsFound z s ss
workday_found s ss a z e = by_list s.days_of_month.ordinals refl a.days_of_month e where
  by_list : (ns : List ℕ) → s.days_of_month.ordinals ≡ ns → IsSet units.days_of_month ns
      → cond (length ns == 0) None (if_shaped (have_shape (NearestWorkday (first ns)) s ss) (NearestWorkday (first ns)) None) ≡ Some z → IsFound z s ss
  by_list [] x i g = not_found s ss z g
  by_list (n ∷ ns) x i g =
      let w = between units.days_of_month (n ∷ ns) is_unit-days_of_month i in
      if_found (have_shape (NearestWorkday n) s ss) (NearestWorkday n) None s ss (λ f. record { fits = f; bounds = w.0 }) (not_found s ss) z
      (rw (not_none (length ns)) at g)

pub found : (s : Sets) (ss : List Sets) → InUnits s → (z : Shape) → shape_from s ss ≡ Some z → IsFound z s ss
found s ss a z e = by_test (is_one s.days_of_week) refl e where
  by_test : (one : Bool) → is_one s.days_of_week ≡ one
      → cond one (last_weekday_of s ss) (if_shaped (have_shape LastWorkday s ss) LastWorkday (workday_of s ss)) ≡ Some z → IsFound z s ss
  by_test true x g =
      if_found (have_shape (LastWeekday (only s.days_of_week)) s ss) (LastWeekday (only s.days_of_week)) None s ss
      (λ f. record { fits = f; bounds = weekday_fits s.days_of_week a.days_of_week x }) (not_found s ss) z g
  by_test false x g =
      if_found (have_shape LastWorkday s ss) LastWorkday (workday_of s ss) s ss (λ f. record { fits = f; bounds = tt }) (workday_found s ss a) z g

whole_set : (u : TimeUnit) → IsSet u (whole u)
whole_set u = is_set_from u (λ x. true) (whole u) (sym (whole_is_all u))

pub base_in : (s : Sets) (ss : List Sets) → InUnits s → InUnits (base s ss)
base_in s ss a =
    record {
      seconds = a.seconds;
      minutes = a.minutes;
      hours = a.hours;
      days_of_month = whole_set units.days_of_month;
      months = set_is_set units.months _;
      days_of_week = whole_set units.days_of_week;
      years = set_is_set units.years _;
    }
