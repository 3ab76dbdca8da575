-- The phrases of a schedule's days, months and years.
use Rattle.std.proofs.Common.{◌≡◌, ◌<◌, ◌≤◌, ◌^◌, ℕ, Bool, true, false, ◌&&◌, cond, nat_le, List, [], ◌∷◌, ◌++◌, codes, drop, get_or, if◌then◌else◌, length, refl, sym, ap, subst, ◌∙◌, append_assoc, arith}
use Rattle.std.proofs.lemmas.Bool.{false≢true}
use Rattle.std.proofs.lemmas.Bool.Decides.{nat_tests}
use Rattle.std.proofs.lemmas.List.{append_cancel_left}
use Rattle.cron_text.proofs.TokenRuns.{and_parts}
use Rattle.cron_text.specs.Tokens.{is_digit}
use Rattle.cron_units.specs.Laws.{is_unit-days_of_month, is_unit-months, is_unit-days_of_week, is_unit-years}
use Rattle.cron_units.specs.Units.{FieldSet, IsSet}
use Rattle.cron_units.specs.Units as units
use Rattle.cron_words.specs.Lists.{is_whole, items_of, list_text}
use Rattle.cron_words.specs.Schedules.{days_text, last_day_text, months_text, weekdays_text, years_text}
use Rattle.cron_words.specs.declared.lists.Naming.{Naming}
use Rattle.cron_words.specs.declared.lists.Naming.TheVariants.{Numbers, Ordinals, Weekdays, Months, Clocks}
use Rattle.cron_words.proofs.DatesApart.{IsPhrase, IsTail, first_of, kind, phrase_apart, phrase_tail}
use Rattle.cron_words.proofs.ListsApart.{stops, unlike, unlike_at}
use Rattle.cron_words.proofs.NameLemmas.{is_capital}
use Rattle.cron_words.proofs.NumberLemmas.{items_some}
use Rattle.cron_words.proofs.TimesApart.{NoSpace, no_space, not_none, set_fits, sets_apart, whole_same}

-- ---- days of the week, months and years

lone_weekdays : (alone : Bool) (x q : List ℕ) → is_capital (get_or x 0 0) ≡ true
    → codes ", on no weekday" ++ q ≡ cond alone (codes ", on ") (codes ", ") ++ x → ⊥
lone_weekdays true x q b e = unlike_at is_capital 5 _ _ refl b e
lone_weekdays false x q b e = unlike_at is_capital 2 _ _ refl b e

kind_weekdays : (alone : Bool) (x : List ℕ) → is_capital (get_or x 0 0) ≡ true → kind (cond alone (codes ", on ") (codes ", ") ++ x) ≡ 1
kind_weekdays true x b = rw b refl
kind_weekdays false x b = rw b refl

pub weekdays_are : IsPhrase 1 (codes ", on no weekday") (codes ", on ") (codes ", ") Weekdays units.days_of_week
weekdays_are =
    record {
      unit = is_unit-days_of_week;
      fits = λ x w. w;
      mixed = λ x y b e. unlike_at is_capital 2 _ _ refl b e;
      lone = lone_weekdays;
      none_kind = λ r. refl;
      some_kind = kind_weekdays;
    }

lone_months : (alone : Bool) (x q : List ℕ) → is_capital (get_or x 0 0) ≡ true
    → codes ", in no month" ++ q ≡ cond alone (codes ", in ") (codes ", from ") ++ x → ⊥
lone_months true x q b e = unlike_at is_capital 5 _ _ refl b e
lone_months false x q b e = unlike 105 102 _ _ refl (ap (drop 2) e)

kind_months : (alone : Bool) (x : List ℕ) → is_capital (get_or x 0 0) ≡ true → kind (cond alone (codes ", in ") (codes ", from ") ++ x) ≡ 3
kind_months true x b = rw b refl
kind_months false x b = rw b refl

months_are : IsPhrase 3 (codes ", in no month") (codes ", in ") (codes ", from ") Months units.months
months_are =
    record {
      unit = is_unit-months;
      fits = λ x w. w;
      mixed = λ x y b e. unlike 105 102 _ _ refl (ap (drop 2) e);
      lone = lone_months;
      none_kind = λ r. refl;
      some_kind = kind_months;
    }

no_capital : (c : ℕ) → is_digit c ≡ true → is_capital c ≡ false
no_capital c h = let p = and_parts (nat_le 48 c) (nat_le c 57) h in grind (arith, nat_tests, p.1)

lone_years : (alone : Bool) (x q : List ℕ) → is_digit (get_or x 0 0) ≡ true
    → codes ", in no year" ++ q ≡ cond alone (codes ", in ") (codes ", from ") ++ x → ⊥
lone_years true x q b e = unlike_at is_digit 5 _ _ refl b e
lone_years false x q b e = unlike 105 102 _ _ refl (ap (drop 2) e)

kind_years : (alone : Bool) (x : List ℕ) → is_digit (get_or x 0 0) ≡ true → kind (cond alone (codes ", in ") (codes ", from ") ++ x) ≡ 4
kind_years true x b = rw (no_capital (get_or x 0 0) b, b) refl
kind_years false x b = rw (no_capital (get_or x 0 0) b) refl

years_are : IsPhrase 4 (codes ", in no year") (codes ", in ") (codes ", from ") Numbers units.years
years_are =
    record {
      unit = is_unit-years;
      fits = λ x w. omega (arith, w.1);
      mixed = λ x y b e. unlike 105 102 _ _ refl (ap (drop 2) e);
      lone = lone_years;
      none_kind = λ r. refl;
      some_kind = kind_years;
    }

stop_in : (v : Naming) (x : List ℕ) → stops v (44 ∷ 32 ∷ 105 ∷ x) ≡ true
unfolding stops
stop_in Numbers x = refl
stop_in Ordinals x = refl
stop_in Weekdays x = refl
stop_in Months x = refl
stop_in (Clocks m s) x = refl

stop_from : (v : Naming) (x : List ℕ) → stops v (44 ∷ 32 ∷ 102 ∷ x) ≡ true
unfolding stops
stop_from Numbers x = refl
stop_from Ordinals x = refl
stop_from Weekdays x = refl
stop_from Months x = refl
stop_from (Clocks m s) x = refl

pub stop_on : (v : Naming) (x : List ℕ) → stops v (44 ∷ 32 ∷ 111 ∷ x) ≡ true
unfolding stops
stop_on Numbers x = refl
stop_on Ordinals x = refl
stop_on Weekdays x = refl
stop_on Months x = refl
stop_on (Clocks m s) x = refl

in_or_from : (v : Naming) (alone : Bool) (x : List ℕ) → stops v (cond alone (codes ", in ") (codes ", from ") ++ x) ≡ true
in_or_from v true x = stop_in v _
in_or_from v false x = stop_from v _

in_space : (alone : Bool) (x : List ℕ) → NoSpace (cond alone (codes ", in ") (codes ", from ") ++ x)
in_space true x = refl
in_space false x = refl

pub years_tail : (ns r : List ℕ) → IsSet units.years ns → IsTail 4 r → IsTail 3 (years_text ns ++ r)
years_tail ns r s t = phrase_tail 4 _ _ _ Numbers units.years years_are 3 ns r s (omega arith) (λ v x. stop_in v _) in_or_from (λ x. refl) in_space t

pub months_tail : (ns r : List ℕ) → IsSet units.months ns → IsTail 3 r → IsTail 2 (months_text ns ++ r)
months_tail ns r s t = phrase_tail 3 _ _ _ Months units.months months_are 2 ns r s (omega arith) (λ v x. stop_in v _) in_or_from (λ x. refl) in_space t

pub years_apart : (ns ms r q : List ℕ) → IsSet units.years ns → IsSet units.years ms → IsTail 4 r → IsTail 4 q
    → years_text ns ++ r ≡ years_text ms ++ q → (ns ≡ ms) × (r ≡ q)
years_apart ns ms r q s t h g e =
    phrase_apart 4 _ _ _ Numbers units.years years_are ns ms r q s t (h.stop Numbers) (g.stop Numbers) h.later g.later e

pub months_apart : (ns ms r q : List ℕ) → IsSet units.months ns → IsSet units.months ms → IsTail 3 r → IsTail 3 q
    → months_text ns ++ r ≡ months_text ms ++ q → (ns ≡ ms) × (r ≡ q)
months_apart ns ms r q s t h g e =
    phrase_apart 3 _ _ _ Months units.months months_are ns ms r q s t (h.stop Months) (g.stop Months) h.later g.later e

pub weekdays_apart : (ns ms r q : List ℕ) → IsSet units.days_of_week ns → IsSet units.days_of_week ms → IsTail 1 r → IsTail 1 q
    → weekdays_text ns ++ r ≡ weekdays_text ms ++ q → (ns ≡ ms) × (r ≡ q)
weekdays_apart ns ms r q s t h g e =
    phrase_apart 1 _ _ _ Weekdays units.days_of_week weekdays_are ns ms r q s t (h.stop Weekdays) (g.stop Weekdays) h.later g.later e

-- ---- days of the month

days_fit : (x : ℕ) → (1 ≤ x) × (x ≤ 31) → x < 2 ^ 32
days_fit x w = omega (arith, w.1)

last_stops : (last : Bool) (r : List ℕ) → stops Ordinals r ≡ true → stops Ordinals (last_day_text last ++ r) ≡ true
unfolding stops
last_stops true r h = refl
last_stops false r h = h

last_apart : (a b : Bool) (r q : List ℕ) → NoSpace r → NoSpace q → last_day_text a ++ r ≡ last_day_text b ++ q → (a ≡ b) × (r ≡ q)
last_apart true true r q v w e = (refl, append_cancel_left (codes " and on the last day of the month") r q e)
last_apart true false r q v w e = absurd (no_space q _ w (sym e))
last_apart false true r q v w e = absurd (no_space r _ v e)
last_apart false false r q v w e = (refl, e)

unfoldable pub none_text : Bool → List ℕ
none_text last = cond last (codes ", on the last day of the month") (codes ", on no day")

-- all days by number, and no mark
unfoldable pub omitted : FieldSet → Bool
omitted s = is_whole units.days_of_month s.ordinals && (if s.last_day then false else true)

unfoldable pub numbered_text : FieldSet → List ℕ
numbered_text s = codes ", on the " ++ (list_text Ordinals (items_of s.ordinals) ++ last_day_text s.last_day)

pub days_by : (s : FieldSet) (n : ℕ) (ns : List ℕ) → s.ordinals ≡ n ∷ ns → days_text s ≡ cond (omitted s) [] (numbered_text s)
unfolding omitted numbered_text
days_by s n ns e = rw (e, not_none (length ns)) refl

pub none_by : (s : FieldSet) → s.ordinals ≡ [] → days_text s ≡ none_text s.last_day
unfolding none_text
none_by s e = rw e refl

none_days_kind : (last : Bool) (r : List ℕ) → kind (none_text last ++ r) ≡ 2
unfolding none_text
none_days_kind true r = refl
none_days_kind false r = refl

numbered_kind : (s : FieldSet) (r : List ℕ) → kind (numbered_text s ++ r) ≡ 2
unfolding numbered_text
numbered_kind s r = refl

none_apart : (a b : Bool) (r q : List ℕ) → none_text a ++ r ≡ none_text b ++ q → (a ≡ b) × (r ≡ q)
unfolding none_text
none_apart true true r q e = (refl, append_cancel_left (codes ", on the last day of the month") r q e)
none_apart true false r q e = absurd (unlike 116 110 _ _ refl (ap (drop 5) e))
none_apart false true r q e = absurd (unlike 110 116 _ _ refl (ap (drop 5) e))
none_apart false false r q e = (refl, append_cancel_left (codes ", on no day") r q e)

pub numbered_on : (s : FieldSet) (r : List ℕ) → numbered_text s ++ r ≡ codes ", on the " ++ (list_text Ordinals (items_of s.ordinals) ++ (last_day_text s.last_day ++ r))
unfolding numbered_text
numbered_on s r = ap (λ (t : List ℕ). codes ", on the " ++ t) (append_assoc (list_text Ordinals (items_of s.ordinals)) (last_day_text s.last_day) r)

-- the first number
pub numbered_first : (n : ℕ) (ns r : List ℕ) → IsSet units.days_of_month (n ∷ ns) → is_digit (get_or (list_text Ordinals (items_of (n ∷ ns)) ++ r) 0 0) ≡ true
numbered_first n ns r s =
    first_of Ordinals (items_of (n ∷ ns)) r (items_some n ns) (set_fits Ordinals units.days_of_month (n ∷ ns) is_unit-days_of_month s days_fit)

none_numbered : (a : Bool) (n : ℕ) (ns : List ℕ) (t : FieldSet) (r q : List ℕ) → t.ordinals ≡ n ∷ ns → IsSet units.days_of_month (n ∷ ns)
    → none_text a ++ r ≡ numbered_text t ++ q → ⊥
unfolding none_text
none_numbered true n ns t r q is s e =
    unlike_at is_digit 9 _ _ refl (rw is (numbered_first n ns (last_day_text t.last_day ++ q) s)) (e ∙ numbered_on t q)
none_numbered false n ns t r q is s e = unlike 110 116 _ _ refl (ap (drop 5) (e ∙ numbered_on t q))

-- days that are told, and an omission before a later phrase
pub told_omitted : (text r q : List ℕ) → kind (text ++ r) ≡ 2 → IsTail 2 q → text ++ r ≡ q → ⊥
told_omitted text r q k t e = omega (arith, sym k ∙ ap kind e, t.later)

omitted_is : (s : FieldSet) → omitted s ≡ true → (is_whole units.days_of_month s.ordinals ≡ true) × (s.last_day ≡ false)
unfolding omitted
omitted_is s h = by_mark s.last_day refl (and_parts (is_whole units.days_of_month s.ordinals) (if s.last_day then false else true) h) where
  by_mark : (a : Bool) → s.last_day ≡ a → (is_whole units.days_of_month s.ordinals ≡ true) × ((if s.last_day then false else true) ≡ true)
      → (is_whole units.days_of_month s.ordinals ≡ true) × (s.last_day ≡ false)
  by_mark true e p = absurd (false≢true (rw e at p.1))
  by_mark false e p = (p.0, e)

pub same_days : (s t : FieldSet) → s.ordinals ≡ t.ordinals → s.last_day ≡ t.last_day → s ≡ t
same_days s t n m = rw (n, m) refl

numbered_apart : (s t : FieldSet) (n m : ℕ) (ns ms r q : List ℕ) → s.ordinals ≡ n ∷ ns → t.ordinals ≡ m ∷ ms → IsSet units.days_of_month (n ∷ ns)
    → IsSet units.days_of_month (m ∷ ms) → IsTail 2 r → IsTail 2 q → numbered_text s ++ r ≡ numbered_text t ++ q → (s ≡ t) × (r ≡ q)
numbered_apart s t n m ns ms r q x y k l h g e =
    let c = sets_apart Ordinals units.days_of_month n m ns ms (last_day_text s.last_day ++ r) (last_day_text t.last_day ++ q) is_unit-days_of_month days_fit k l
    (last_stops s.last_day r (h.stop Ordinals)) (last_stops t.last_day q (g.stop Ordinals))
    (append_cancel_left (codes ", on the ") _ _ (rw (x, y) at (sym (numbered_on s r) ∙ (e ∙ numbered_on t q)))) in
    let d = last_apart s.last_day t.last_day r q h.space g.space c.1 in
    (same_days s t (x ∙ (c.0 ∙ sym y)) d.0, d.1)

some_days_apart : (s t : FieldSet) (n m : ℕ) (ns ms r q : List ℕ) → s.ordinals ≡ n ∷ ns → t.ordinals ≡ m ∷ ms → IsSet units.days_of_month (n ∷ ns)
    → IsSet units.days_of_month (m ∷ ms) → IsTail 2 r → IsTail 2 q
    → (cond (omitted s) [] (numbered_text s)) ++ r ≡ (cond (omitted t) [] (numbered_text t)) ++ q → (s ≡ t) × (r ≡ q)
some_days_apart s t n m ns ms r q x y k l h g e = by_test (omitted s) (omitted t) refl refl e where
  by_test : (a b : Bool) → omitted s ≡ a → omitted t ≡ b → (cond a [] (numbered_text s)) ++ r ≡ (cond b [] (numbered_text t)) ++ q → (s ≡ t) × (r ≡ q)
  by_test true true v w i =
      let c = omitted_is s v in
      let d = omitted_is t w in
      (same_days s t (whole_same units.days_of_month s.ordinals t.ordinals c.0 d.0) (c.1 ∙ sym d.1), i)
  by_test true false v w i = absurd (told_omitted (numbered_text t) q r (numbered_kind t q) h (sym i))
  by_test false true v w i = absurd (told_omitted (numbered_text s) r q (numbered_kind s r) g i)
  by_test false false v w i = numbered_apart s t n m ns ms r q x y k l h g i

none_some : (s t : FieldSet) (m : ℕ) (ms r q : List ℕ) → t.ordinals ≡ m ∷ ms → IsSet units.days_of_month (m ∷ ms) → IsTail 2 q
    → none_text s.last_day ++ r ≡ (cond (omitted t) [] (numbered_text t)) ++ q → ⊥
none_some s t m ms r q y l g e = by_test (omitted t) e where
  by_test : (b : Bool) → none_text s.last_day ++ r ≡ (cond b [] (numbered_text t)) ++ q → ⊥
  by_test true i = told_omitted (none_text s.last_day) r q (none_days_kind s.last_day r) g i
  by_test false i = none_numbered s.last_day m ms t r q y l i

pub days_apart : (s t : FieldSet) (r q : List ℕ) → IsSet units.days_of_month s.ordinals → IsSet units.days_of_month t.ordinals → IsTail 2 r → IsTail 2 q
    → days_text s ++ r ≡ days_text t ++ q → (s ≡ t) × (r ≡ q)
days_apart s t r q k l h g e = by_lists s.ordinals t.ordinals refl refl k l where
  by_lists : (ns ms : List ℕ) → s.ordinals ≡ ns → t.ordinals ≡ ms → IsSet units.days_of_month ns → IsSet units.days_of_month ms → (s ≡ t) × (r ≡ q)
  by_lists [] [] x y v w =
      let c = none_apart s.last_day t.last_day r q (sym (ap (λ (z : List ℕ). z ++ r) (none_by s x)) ∙ (e ∙ ap (λ (z : List ℕ). z ++ q) (none_by t y))) in
      (same_days s t (x ∙ sym y) c.0, c.1)
  by_lists [] (m ∷ ms) x y v w =
      absurd (none_some s t m ms r q y w g (sym (ap (λ (z : List ℕ). z ++ r) (none_by s x)) ∙ (e ∙ ap (λ (z : List ℕ). z ++ q) (days_by t m ms y))))
  by_lists (n ∷ ns) [] x y v w =
      absurd (none_some t s n ns q r x v h (sym (ap (λ (z : List ℕ). z ++ q) (none_by t y)) ∙ (sym e ∙ ap (λ (z : List ℕ). z ++ r) (days_by s n ns x))))
  by_lists (n ∷ ns) (m ∷ ms) x y v w =
      some_days_apart s t n m ns ms r q x y v w h g
      (sym (ap (λ (z : List ℕ). z ++ r) (days_by s n ns x)) ∙ (e ∙ ap (λ (z : List ℕ). z ++ q) (days_by t m ms y)))

pub days_tail : (s : FieldSet) (r : List ℕ) → IsTail 2 r → IsTail 1 (days_text s ++ r)
unfolding none_text numbered_text
days_tail s r t = by_list s.ordinals refl where
  told : (last : Bool) → IsTail 1 (none_text last ++ r)
  told true = record { later = omega (arith, none_days_kind true r); stop = λ v. stop_on v _; space = refl }
  told false = record { later = omega (arith, none_days_kind false r); stop = λ v. stop_on v _; space = refl }

  by_test : (a : Bool) → IsTail 1 ((cond a [] (numbered_text s)) ++ r)
  by_test true = record { later = omega (arith, t.later); stop = t.stop; space = t.space }
  by_test false = record { later = omega (arith, numbered_kind s r); stop = λ v. stop_on v _; space = refl }

  by_list : (ns : List ℕ) → s.ordinals ≡ ns → IsTail 1 (days_text s ++ r)
  by_list [] x = subst (λ (z : List ℕ). IsTail 1 (z ++ r)) (sym (none_by s x)) (told s.last_day)
  by_list (n ∷ ns) x = subst (λ (z : List ℕ). IsTail 1 (z ++ r)) (sym (days_by s n ns x)) (by_test (omitted s))
