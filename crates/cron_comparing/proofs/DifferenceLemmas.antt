-- The first civil second that one of two unions matches and the other doesn't, found schedule by schedule.
use Rattle.std.proofs.Common.{◌≡◌, ℕ, ◌+◌, ◌<◌, ◌≤◌, ◌-◌, nat_lt, Bool, true, false, ◌&&◌, ◌||◌, not, List, [], ◌∷◌, Option, Some, None, refl, sym, ap, ◌∙◌, subst, length, take, get_or, arith, eqb-true}
use Rattle.std.specs.Prelude.{nat_eq}
use Rattle.std.proofs.Math.Bool.{and-true}
use Rattle.std.proofs.lemmas.Bool.{and_left, and_parts, and_right}
use Rattle.std.proofs.lemmas.List.Folds.{list_all_more}
use Rattle.jiff_core.specs.declared.civil.datetime.DateTime.{DateTime}
use Rattle.jiff_core.specs.Calendar.{days_in_month}
use Rattle.jiff_core.proofs.SignedLemmas.{signed_arith}
use Rattle.cron_units.specs.declared.way.Way.TheVariants.{Ahead}
use Rattle.cron_units.specs.Sets.{Sets}
use Rattle.cron_moments.specs.Civil.{civil, seconds_in_range}
use Rattle.cron_moments.specs.Calendar.{weekday_number}
use Rattle.cron_bits.specs.Words.{has_bit}
use Rattle.cron_bits.proofs.WordLemmas.{bit_none}
use Rattle.cron_units.specs.Units.{contains, days_of_week, set_of, whole}
use Rattle.cron_units.proofs.SetLemmas.{filter_none}
use Rattle.cron_time.specs.Matches.{contains_year, is_candidate, is_match, matches, matches_time}
use Rattle.cron_time.proofs.Searches.DayLemmas.{by_number_alone}
use Rattle.cron_unions.specs.Unions.{matches_any}
use Rattle.cron_unions.specs.Nearest.{is_match_any, nearer_second}
use Rattle.cron_unions.specs.declared.units.Unit.{Unit}
use Rattle.cron_unions.specs.declared.units.Unit.TheVariants.{Year, Month, Day, Weekday, Hour, Minute, Second}
use Rattle.cron_comparing.specs.Comparisons.{IsFirst, differ, is_difference}
use Rattle.cron_comparing.specs.Inner.Common.{IsLeast, in_shorter, month_length}
use Rattle.cron_comparing.specs.Inner.Differences.{AreInMonthsOf, NoneBefore, matches_alone, matches_outside, matches_without}
use Rattle.cron_unions.specs.Units.{has_unit, has_units}
use Rattle.cron_comparing.proofs.CommonLemmas.{either_least, first_of_least, longer, match-more, match-none, none_least, or_and, same_least, take-whole}

-- ---- where nothing comes before the first one so far

or_none : (a b : Bool) → a ≡ false → b ≡ false → (a || b) ≡ false
or_none true b h g = cc
or_none false b h g = g

or_one : (a b : Bool) → a ≡ true → (a || b) ≡ true
or_one true b h = refl
or_one false b h = cc

kept_least : (p r either : ℕ → Bool) (s : Sets) (found : Option ℕ) → ((c : ℕ) → either c ≡ (p c || (is_match s c && r c))) → NoneBefore s found
    → IsLeast p found → IsLeast either found
kept_least p r either s None e none h =
    λ c lies. e c ∙ or_none (p c) (is_match s c && r c) (h c lies) (and_left (is_match s c) (r c) (none c))
kept_least p r either s (Some n) e none h = record {
  passes = e n ∙ or_one (p n) (is_match s n && r n) h.passes;
  lies = h.lies;
  nearest = λ c lies less. e c ∙ or_none (p c) (is_match s c && r c) (h.nearest c lies less) (and_left (is_match s c) (r c) (none c less));
}

-- ---- all units

seven : (y m d w h n s : Bool) → (y && (m && (d && (w && (h && (n && (s && true))))))) ≡ ((((y && m) && d) && w) && ((h && n) && s))
seven false m d w h n s = refl
seven true false d w h n s = refl
seven true true false w h n s = refl
seven true true true false h n s = refl
seven true true true true false n s = refl
seven true true true true true false s = refl
seven true true true true true true s = and-true s

abbrev pub all_units : List Unit
all_units = Year ∷ Month ∷ Day ∷ Weekday ∷ Hour ∷ Minute ∷ Second ∷ []

pub units_match : (t : Sets) (dt : DateTime) → t.days_of_month.last_day ≡ false → has_units t dt all_units ≡ matches t dt
unfolding matches
units_match t dt unmarked =
    rw (by_number_alone t.days_of_month (days_in_month dt.date.year dt.date.month) dt.date.day unmarked)
    (seven (contains_year t.years dt.date.year) (contains t.months dt.date.month) (contains t.days_of_month.ordinals dt.date.day)
    (contains t.days_of_week (weekday_number dt.date)) (contains t.hours dt.time.hour) (contains t.minutes dt.time.minute)
    (contains t.seconds dt.time.second))

-- ---- one schedule after another: what is shared with one so far

-- the schedule that has the units so far in the sets of another, and the first one outside it
pub record IsSharing (s t : Sets) (ts : List Sets) (us : List Unit) (shared : Sets) (first : Option ℕ) : Type 0 where
  pub unmarked : shared.days_of_month.last_day ≡ false
  pub matching : (dt : DateTime) → matches shared dt ≡ (matches s dt && has_units t dt us)
  pub least : IsLeast (matches_outside s shared ts) first

none_outside : (m r : Bool) → ((m && not m) && r) ≡ false
none_outside true r = refl
none_outside false r = refl

pub sharing_none : (s t : Sets) (ts : List Sets) → s.days_of_month.last_day ≡ false → IsSharing s t ts [] s None
sharing_none s t ts unmarked = record {
  unmarked = unmarked;
  matching = λ dt. sym (and-true (matches s dt));
  least = none_least (matches_outside s s ts) (λ c. none_outside (is_match s c) (not (is_match_any ts c)));
}

more_outside : (r m h u n : Bool)
    → (((r && m) && not (r && ((m && h) && u))) && n) ≡ ((((r && m) && not (r && (m && h))) && n) || ((r && ((m && h) && not u)) && n))
more_outside false m h u n = refl
more_outside true false h u n = refl
more_outside true true true u n = refl
more_outside true true false u true = refl
more_outside true true false u false = refl

outside_more : (s t shared part next : Sets) (ts : List Sets) (us : List Unit) (u : Unit)
    → ((dt : DateTime) → matches shared dt ≡ (matches s dt && has_units t dt us))
    → ((dt : DateTime) → matches part dt ≡ (matches shared dt && not (has_unit t dt u)))
    → ((dt : DateTime) → matches next dt ≡ (matches shared dt && has_unit t dt u)) → (c : ℕ)
    → matches_outside s next ts c ≡ (matches_outside s shared ts c || matches_without part ts c)
outside_more s t shared part next ts us u so_far apart together c =
    rw (together (civil c), apart (civil c), so_far (civil c))
    (more_outside (nat_lt c seconds_in_range) (matches s (civil c)) (has_units t (civil c) us) (has_unit t (civil c) u) (not (is_match_any ts c)))

next_matching : (s t shared next : Sets) (us : List Unit) (i : ℕ) (u d : Unit) → i < length us → u ≡ get_or us i d
    → ((dt : DateTime) → matches shared dt ≡ (matches s dt && has_units t dt (take i us)))
    → ((dt : DateTime) → matches next dt ≡ (matches shared dt && has_unit t dt u)) → (dt : DateTime)
    → matches next dt ≡ (matches s dt && has_units t dt (take (i + 1) us))
next_matching s t shared next us i u d less at so_far together dt =
    together dt ∙ (ap (λ (v : Bool). v && has_unit t dt u) (so_far dt)
    ∙ (and_assoc (matches s dt) (has_units t dt (take i us)) (has_unit t dt u)
    ∙ ap (λ (v : Bool). matches s dt && v)
    (ap (λ (v : Unit). has_units t dt (take i us) && has_unit t dt v) at ∙ sym (list_all_more (has_unit t dt) us i d less))))
  where
    and_assoc : (a b c : Bool) → ((a && b) && c) ≡ (a && (b && c))
    and_assoc true b c = refl
    and_assoc false b c = refl

pub sharing_more : (s t shared part next : Sets) (ts : List Sets) (us : List Unit) (i : ℕ) (u d : Unit) (first other found : Option ℕ) → i < length us
    → u ≡ get_or us i d → next.days_of_month.last_day ≡ false → ((dt : DateTime) → matches part dt ≡ (matches shared dt && not (has_unit t dt u)))
    → ((dt : DateTime) → matches next dt ≡ (matches shared dt && has_unit t dt u)) → found ≡ nearer_second Ahead first other
    → IsSharing s t ts (take i us) shared first → IsLeast (matches_without part ts) other → IsSharing s t ts (take (i + 1) us) next found
sharing_more s t shared part next ts us i u d first other found less at unmarked apart together is before here = record {
  unmarked = unmarked;
  matching = next_matching s t shared next us i u d less at before.matching together;
  least = either_least (matches_outside s shared ts) (matches_without part ts) (matches_outside s next ts) first other found
      (outside_more s t shared part next ts (take i us) u before.matching apart together) is before.least here;
}

pub sharing_kept : (s t shared part next : Sets) (ts : List Sets) (us : List Unit) (i : ℕ) (u d : Unit) (first : Option ℕ) → i < length us
    → u ≡ get_or us i d → next.days_of_month.last_day ≡ false → ((dt : DateTime) → matches part dt ≡ (matches shared dt && not (has_unit t dt u)))
    → ((dt : DateTime) → matches next dt ≡ (matches shared dt && has_unit t dt u)) → NoneBefore part first
    → IsSharing s t ts (take i us) shared first → IsSharing s t ts (take (i + 1) us) next first
sharing_kept s t shared part next ts us i u d first less at unmarked apart together none before = record {
  unmarked = unmarked;
  matching = next_matching s t shared next us i u d less at before.matching together;
  least = kept_least (matches_outside s shared ts) (λ c. not (is_match_any ts c)) (matches_outside s next ts) part first
      (outside_more s t shared part next ts (take i us) u before.matching apart together) none before.least;
}

-- the part lies in the same months
pub part_in_months : (length : ℕ) (s t shared part : Sets) (us : List Unit) (u : Unit) → AreInMonthsOf length s
    → ((dt : DateTime) → matches shared dt ≡ (matches s dt && has_units t dt us))
    → ((dt : DateTime) → matches part dt ≡ (matches shared dt && not (has_unit t dt u))) → AreInMonthsOf length part
part_in_months length s t shared part us u in_months so_far apart = λ dt h.
    let here = (and_parts (matches shared dt) (not (has_unit t dt u)) (sym (apart dt) ∙ h)).0 in
    in_months dt (and_parts (matches s dt) (has_units t dt us) (sym (so_far dt) ∙ here)).0

and_or : (r a b : Bool) → (r && (a || b)) ≡ ((r && a) || (r && b))
and_or true a b = refl
and_or false a b = refl

without_first : (r m o e n : Bool) → (m ≡ true → e ≡ true) → (((r && m) && not (r && (m && (o && e)))) && not (r && n)) ≡ ((r && m) && not (r && (o || n)))
without_first false m o e n h = refl
without_first true false o e n h = refl
without_first true true true true n h = refl
without_first true true true false n h = let f : false ≡ true = h refl in cc
without_first true true false e n h = refl

-- with all units what is shared is all that both match
pub sharing_all : (s t o shared : Sets) (ts us : List Sets) (length i : ℕ) (first : Option ℕ) → AreInMonthsOf length s
    → ((dt : DateTime) → matches t dt ≡ (matches o dt && nat_eq (days_in_month dt.date.year dt.date.month) length)) → t.days_of_month.last_day ≡ false
    → us ≡ o ∷ ts → IsSharing s t ts (take i all_units) shared first → i ≡ 7 → IsLeast (matches_without s us) first
sharing_all s t o shared ts us length i first in_months narrowed unmarked e h seven_units =
    subst (λ (l : List Sets). IsLeast (matches_without s l) first) (sym e)
    (same_least (matches_outside s shared ts) (matches_without s (o ∷ ts)) first (λ c.
    rw (h.matching (civil c), ap (λ (n : ℕ). has_units t (civil c) (take n all_units)) seven_units, units_match t (civil c) unmarked, narrowed (civil c))
    (without_first (nat_lt c seconds_in_range) (matches s (civil c)) (matches o (civil c)) (nat_eq (month_length c) length)
    (matches_any ts (civil c)) (λ m. eqb_of (month_length c) length (in_months (civil c) m)))) h.least)
  where
    eqb_of : (a b : ℕ) → a ≡ b → nat_eq a b ≡ true
    eqb_of a b e = grind (arith)

pub without_none : (s : Sets) (us : List Sets) (found : Option ℕ) → us ≡ [] → IsLeast (is_match s) found → IsLeast (matches_without s us) found
without_none s us found e h =
    subst (λ (l : List Sets). IsLeast (matches_without s l) found) (sym e)
    (same_least (is_match s) (matches_without s []) found (λ c. sym (ap (λ (v : Bool). is_match s c && not v) (match-none c) ∙ and-true (is_match s c))) h)

-- ---- month by month

in_longer : (r m n shorter equal more : Bool) → more ≡ (shorter || equal)
    → (((r && m) && n) && more) ≡ ((((r && m) && n) && shorter) || ((r && (m && equal)) && n))
in_longer r m n shorter equal more e = rw e (by_cases r m n shorter equal)
  where
    by_cases : (r m n shorter equal : Bool)
        → (((r && m) && n) && (shorter || equal)) ≡ ((((r && m) && n) && shorter) || ((r && (m && equal)) && n))
    by_cases false m n shorter equal = refl
    by_cases true false n shorter equal = refl
    by_cases true true true shorter true = refl
    by_cases true true true shorter false = refl
    by_cases true true false shorter true = refl
    by_cases true true false shorter false = refl

pub without_longer : (s days : Sets) (ts : List Sets) (i n : ℕ) (first next found : Option ℕ) → n ≡ i + 1
    → ((dt : DateTime) → matches days dt ≡ (matches s dt && nat_eq (days_in_month dt.date.year dt.date.month) i)) → found ≡ nearer_second Ahead first next
    → IsLeast (in_shorter (matches_without s ts) i) first → IsLeast (matches_without days ts) next → IsLeast (in_shorter (matches_without s ts) n) found
without_longer s days ts i n first next found e narrowed is before here =
    either_least (in_shorter (matches_without s ts) i) (matches_without days ts) (in_shorter (matches_without s ts) n) first next found (λ c.
    rw (narrowed (civil c))
    (in_longer (nat_lt c seconds_in_range) (matches s (civil c)) (not (is_match_any ts c)) (nat_lt (month_length c) i) (nat_eq (month_length c) i)
    (nat_lt (month_length c) n) (ap (nat_lt (month_length c)) e ∙ longer (month_length c) i)))
    is before here

pub narrowed_in_months : (length : ℕ) (s days : Sets)
    → ((dt : DateTime) → matches days dt ≡ (matches s dt && nat_eq (days_in_month dt.date.year dt.date.month) length)) → AreInMonthsOf length days
narrowed_in_months length s days narrowed = λ dt h.
    eqb-true (days_in_month dt.date.year dt.date.month) length
    (and_parts (matches s dt) (nat_eq (days_in_month dt.date.year dt.date.month) length) (sym (narrowed dt) ∙ h)).1

-- ---- a schedule more

pub alone_none : (ts : List Sets) → IsLeast (matches_alone [] ts) None
alone_none ts = none_least (matches_alone [] ts) (λ c. ap (λ (v : Bool). v && not (is_match_any ts c)) (match-none c))

pub alone_more : (ss ts : List Sets) (s : Sets) (i : ℕ) (first next found : Option ℕ) → i < length ss → s ≡ get_or ss i s
    → found ≡ nearer_second Ahead first next → IsLeast (matches_alone (take i ss) ts) first → IsLeast (matches_without s ts) next
    → IsLeast (matches_alone (take (i + 1) ss) ts) found
alone_more ss ts s i first next found less at is before here =
    either_least (matches_alone (take i ss) ts) (matches_without s ts) (matches_alone (take (i + 1) ss) ts) first next found
    (λ c. ap (λ (v : Bool). v && not (is_match_any ts c)) (match-more ss i s c less at)
    ∙ or_and (not (is_match_any ts c)) (is_match_any (take i ss) c) (is_match s c)) is before here

pub alone_all : (ss ts : List Sets) (i : ℕ) (found : Option ℕ) → i ≡ length ss → IsLeast (matches_alone (take i ss) ts) found
    → IsLeast (matches_alone ss ts) found
alone_all ss ts i found e h = subst (λ (us : List Sets). IsLeast (matches_alone us ts) found) (take-whole ss i e) h

either_alone : (r a b : Bool) → (r && differ a b) ≡ (((r && a) && not (r && b)) || ((r && b) && not (r && a)))
either_alone false a b = refl
either_alone true true true = refl
either_alone true true false = refl
either_alone true false true = refl
either_alone true false false = refl

pub first_of_either : (ss ts : List Sets) (first other found : Option ℕ) → found ≡ nearer_second Ahead first other → IsLeast (matches_alone ss ts) first
    → IsLeast (matches_alone ts ss) other → IsFirst (is_difference ss ts) found
first_of_either ss ts first other found is one two =
    first_of_least (is_difference ss ts) found
    (either_least (matches_alone ss ts) (matches_alone ts ss) (λ c. nat_lt c seconds_in_range && is_difference ss ts c) first other found
    (λ c. either_alone (nat_lt c seconds_in_range) (matches_any ss (civil c)) (matches_any ts (civil c))) is one two)

-- ---- a start

pub none_from : (s : Sets) (first : Option ℕ) → IsLeast (is_match s) None → NoneBefore s first
none_from s None h = λ c. h c (omega (arith, signed_arith))
none_from s (Some n) h = λ c less. h c (omega (arith, signed_arith))

pub none_before : (s : Sets) (start n : ℕ) → IsLeast (is_match s) (Some start) → n ≤ start → NoneBefore s (Some n)
none_before s start n h le = λ c less. h.nearest c (omega (arith, signed_arith)) (omega arith)

no_weekday : (s : Sets) (dt : DateTime) → s.days_of_week ≡ [] → matches s dt ≡ false
unfolding matches
no_weekday s dt e =
    ap (λ (xs : List ℕ). (is_candidate s dt.date && contains xs (weekday_number dt.date)) && matches_time s dt.time) e
    ∙ and_left (is_candidate s dt.date && false) (matches_time s dt.time) (and_right (is_candidate s dt.date) false refl)

no_match : (s : Sets) (c : ℕ) → s.days_of_week ≡ [] → is_match s c ≡ false
no_match s c e = and_right (nat_lt c seconds_in_range) (matches s (civil c)) (no_weekday s (civil c) e)

none_ever : (s : Sets) (first : Option ℕ) → ((c : ℕ) → is_match s c ≡ false) → NoneBefore s first
none_ever s None h = h
none_ever s (Some n) h = λ c less. h c

pub none_of_week : (a s : Sets) (word : ℕ) (first : Option ℕ) → s ≡ a → word ≡ 0 → set_of days_of_week (λ x. has_bit word (x - 1)) ≡ s.days_of_week
    → NoneBefore a first
none_of_week a s word first e zero from =
    let empty : s.days_of_week ≡ [] =
    sym from ∙ filter_none (λ x. has_bit word (x - 1)) (whole days_of_week) (λ x. ap (λ (w : ℕ). has_bit w (x - 1)) zero ∙ bit_none (x - 1)) in
    none_ever a first (λ c. no_match a c (sym (ap (λ (v : Sets). v.days_of_week) e) ∙ empty))
