-- A schedule that another one covers adds nothing to a union.
use Rattle.std.proofs.Common.{◌≡◌, ℕ, ◌+◌, ◌-◌, ◌<◌, ◌≤◌, pos, negsuc, ℤ, Bool, true, false, ◌&&◌, ◌||◌, cond, List, [], ◌∷◌, inl, inr, refl, sym, ap, ◌∙◌, subst, length, get_or, arith, bit_and}
use Rattle.std.specs.Prelude.{◌==◌, map, nat_eq, nat_lt}
use Rattle.std.proofs.lemmas.Bool.{cases_lt}
use Rattle.jiff_core.specs.declared.civil.date.Date.{Date}
use Rattle.jiff_core.specs.declared.civil.time.Time.{Time}
use Rattle.jiff_core.specs.declared.civil.datetime.DateTime.{DateTime}
use Rattle.jiff_core.specs.Calendar.{days_in_month}
use Rattle.cron_bits.specs.Words.{bit_of_three, has_bit}
use Rattle.cron_bits.proofs.WordLemmas.{bit_and_test}
use Rattle.cron_moments.specs.Calendar.{weekday_number}
use Rattle.cron_moments.specs.Civil.{civil}
use Rattle.cron_units.specs.Sets.{Sets}
use Rattle.cron_units.specs.Units.{FieldSet, TimeUnit, contains, set_of}
use Rattle.cron_units.proofs.SetLemmas.{contains_before}
use Rattle.cron_time.specs.Matches.{contains_year, has_day, is_candidate, matches, matches_date, matches_day_of_month, matches_time}
use Rattle.cron_unions.specs.Inner.Covers.{Covers, HasAll}
use Rattle.cron_unions.specs.Unions.{any_of}
use Rattle.cron_unions.proofs.UnionLemmas.{same_sets}

-- ---- sets by their bits

-- where the bits of one word are among those of another
pub kept_bits : (n m k : ℕ) → bit_and n m ≡ n → has_bit n k ≡ true → has_bit m k ≡ true
kept_bits n m k same one = second (has_bit n k) (has_bit m k) (sym (bit_and_test n m k) ∙ ap (λ (w : ℕ). has_bit w k) same ∙ one)
  where
    second : (a b : Bool) → (a && b) ≡ true → b ≡ true
    second true b h = h
    second false b h = cc

pub kept_three : (a b c d e g k : ℕ) → bit_and a d ≡ a → bit_and b e ≡ b → bit_and c g ≡ c → bit_of_three a b c k ≡ true → bit_of_three d e g k ≡ true
kept_three a b c d e g k first second third one =
    by_place (nat_lt k 64) (nat_lt (k - 64) 64) (kept_bits a d k first) (kept_bits b e (k - 64) second) (kept_bits c g (k - 64 - 64) third) one
  where
    by_place : (s t : Bool) {p q r x y z : Bool} → (p ≡ true → x ≡ true) → (q ≡ true → y ≡ true) → (r ≡ true → z ≡ true)
        → cond s p (cond t q r) ≡ true → cond s x (cond t y z) ≡ true
    by_place true t f g h one = f one
    by_place false true f g h one = g one
    by_place false false f g h one = h one

-- members by their places among the bits
pub has_all_by : (u : TimeUnit) (p f g : ℕ → Bool) (xs ys : List ℕ) → set_of u p ≡ xs → ((k : ℕ) → f k ≡ contains xs (u.least + k))
    → ((k : ℕ) → g k ≡ contains ys (u.least + k)) → ((k : ℕ) → f k ≡ true → g k ≡ true) → HasAll ys xs
has_all_by u p f g xs ys made one two kept x h = elim (cases_lt x u.least) [
  | inl l ↦ let none : contains xs x ≡ false = ap (λ zs. contains zs x) (sym made) ∙ contains_before u p x l in cc
  | inr ge ↦
      let at : u.least + (x - u.least) ≡ x = omega arith in
      let is : contains xs (u.least + (x - u.least)) ≡ true = subst (λ (n : ℕ). contains xs n ≡ true) (sym at) h in
      subst (λ (n : ℕ). contains ys n ≡ true) at (sym (two (x - u.least)) ∙ kept (x - u.least) (one (x - u.least) ∙ is))
]

-- ---- matches

by_or : (a b c d : Bool) → (a ≡ true → c ≡ true) → (b ≡ true → d ≡ true) → (a || b) ≡ true → (c || d) ≡ true
by_or true b true d f g h = refl
by_or true b false d f g h = let e = f refl in cc
by_or false b true d f g h = refl
by_or false b false d f g h = g h

by_and : (a b c d : Bool) → (a ≡ true → c ≡ true) → (b ≡ true → d ≡ true) → (a && b) ≡ true → (c && d) ≡ true
by_and true b true d f g h = g h
by_and true b false d f g h = let e = f refl in cc
by_and false b c d f g h = cc

year_in : (xs ys : List ℕ) → HasAll ys xs → (y : ℤ) → contains_year xs y ≡ true → contains_year ys y ≡ true
year_in xs ys all (pos y) h = all y h
year_in xs ys all (negsuc y) h = h

day_in : (s t : FieldSet) → HasAll t.ordinals s.ordinals → (s.last_day ≡ true → t.last_day ≡ true) → (length day : ℕ)
    → has_day s length day ≡ true → has_day t length day ≡ true
day_in s t all mark length day =
    by_or (contains s.ordinals day) (s.last_day && day == length) (contains t.ordinals day) (t.last_day && day == length) (all day)
    (by_and s.last_day (day == length) t.last_day (day == length) mark (λ same. same))

candidate_in : (t s : Sets) → Covers t s → (d : Date) → is_candidate s d ≡ true → is_candidate t d ≡ true
candidate_in t s covers d =
    by_and (contains_year s.years d.year && contains s.months d.month) (matches_day_of_month s d) (contains_year t.years d.year && contains t.months d.month) (matches_day_of_month t d)
    (by_and (contains_year s.years d.year) (contains s.months d.month) (contains_year t.years d.year) (contains t.months d.month)
    (year_in s.years t.years covers.years d.year) (covers.months d.month))
    (day_in s.days_of_month t.days_of_month covers.days covers.last_day (days_in_month d.year d.month) d.day)

date_in : (t s : Sets) → Covers t s → (d : Date) → matches_date s d ≡ true → matches_date t d ≡ true
date_in t s covers d =
    by_and (is_candidate s d) (contains s.days_of_week (weekday_number d)) (is_candidate t d) (contains t.days_of_week (weekday_number d))
    (candidate_in t s covers d) (covers.weekdays (weekday_number d))

time_in : (t s : Sets) → Covers t s → (time : Time) → matches_time s time ≡ true → matches_time t time ≡ true
time_in t s covers time =
    by_and (contains s.hours time.hour && contains s.minutes time.minute) (contains s.seconds time.second) (contains t.hours time.hour && contains t.minutes time.minute) (contains t.seconds time.second)
    (by_and (contains s.hours time.hour) (contains s.minutes time.minute) (contains t.hours time.hour) (contains t.minutes time.minute)
    (covers.hours time.hour) (covers.minutes time.minute))
    (covers.seconds time.second)

pub match_in : (t s : Sets) → Covers t s → (dt : DateTime) → matches s dt ≡ true → matches t dt ≡ true
unfolding matches
match_in t s covers dt =
    by_and (matches_date s dt.date) (matches_time s dt.time) (matches_date t dt.date) (matches_time t dt.time) (date_in t s covers dt.date) (time_in t s covers dt.time)

-- ---- unions

first_alone : (a b : Bool) → (b ≡ true → a ≡ true) → (a || false) ≡ (a || (b || false))
first_alone true b f = refl
first_alone false true f = let e = f refl in cc
first_alone false false f = refl

second_alone : (a b : Bool) → (b ≡ true → a ≡ true) → (a || false) ≡ (b || (a || false))
second_alone a false f = refl
second_alone true true f = refl
second_alone false true f = let e = f refl in cc

pub without_second : (t s : Sets) → Covers t s → any_of (t ∷ []) ≡ any_of (t ∷ s ∷ [])
without_second t s covers =
    same_sets (any_of (t ∷ [])) (any_of (t ∷ s ∷ []))
    (λ c. first_alone (matches t (civil c)) (matches s (civil c)) (match_in t s covers (civil c)))

pub without_first : (t s : Sets) → Covers t s → any_of (t ∷ []) ≡ any_of (s ∷ t ∷ [])
without_first t s covers =
    same_sets (any_of (t ∷ [])) (any_of (s ∷ t ∷ []))
    (λ c. second_alone (matches t (civil c)) (matches s (civil c)) (match_in t s covers (civil c)))

-- ---- lists of two

pub two_items : (ss : List Sets) (t s : Sets) → 2 ≤ length ss → length ss < 3 → t ≡ get_or ss 0 t → s ≡ get_or ss 1 s → ss ≡ t ∷ s ∷ []
two_items [] t s low high one two = absurd (omega arith)
two_items (a ∷ []) t s low high one two = absurd (omega arith)
two_items (a ∷ b ∷ []) t s low high one two = ap (λ v. v ∷ b ∷ []) (sym one) ∙ ap (λ v. t ∷ v ∷ []) (sym two)
two_items (a ∷ b ∷ c ∷ ss) t s low high one two = absurd (omega arith)

pub same_words : (a b : ℕ) → nat_eq a b ≡ true → a ≡ b
same_words a b h = grind arith
