-- The first civil second that both of two unions match, found schedule by schedule.
use Rattle.std.proofs.Common.{◌≡◌, ℕ, ◌+◌, ◌<◌, ◌≤◌, pos, nat_lt, Bool, true, false, ◌&&◌, ◌||◌, List, [], Option, Some, None, refl, sym, ap, ◌∙◌, subst, length, take, get_or, arith}
use Rattle.std.specs.Prelude.{nat_eq}
use Rattle.std.proofs.Math.Bool.{and-true}
use Rattle.std.proofs.lemmas.Bool.{and_right, lt-ltb, le-ltb}
use Rattle.std.proofs.lemmas.Bool.Decides.{nat_tests}
use Rattle.std.proofs.lemmas.List.{take_all}
use Rattle.std.proofs.lemmas.List.Folds.{list_any_more}
use Rattle.jiff_core.specs.declared.civil.datetime.DateTime.{DateTime}
use Rattle.jiff_core.specs.Calendar.{days_in_month}
use Rattle.jiff_core.proofs.CalendarLemmas.{days_in_month_bounds}
use Rattle.jiff_core.proofs.SignedLemmas.{signed_arith}
use Rattle.cron_units.specs.declared.way.Way.TheVariants.{Ahead}
use Rattle.cron_units.specs.Sets.{Sets}
use Rattle.cron_moments.specs.Civil.{civil, seconds_in_range}
use Rattle.cron_time.specs.Matches.{is_match, matches}
use Rattle.cron_time.proofs.Searches.LastDayLemmas.{same_nearest}
use Rattle.cron_unions.specs.Unions.{matches_any}
use Rattle.cron_unions.specs.Nearest.{is_match_any, nearer_second}
use Rattle.cron_unions.proofs.NearestLemmas.{nearest-of_both}
use Rattle.cron_comparing.specs.Comparisons.{IsFirst, is_common}
use Rattle.cron_comparing.specs.Inner.Common.{IsLeast, both_match, both_match_any, in_shorter, matches_with, month_length}

-- ---- the least number that passes a test

pub same_least : (p r : ℕ → Bool) (found : Option ℕ) → ((c : ℕ) → p c ≡ r c) → IsLeast p found → IsLeast r found
same_least p r found e h = same_nearest Ahead p r (pos 0) found e h

pub none_least : (p : ℕ → Bool) → ((c : ℕ) → p c ≡ false) → IsLeast p None
none_least p none = λ c lies. none c

pub either_least : (p r either : ℕ → Bool) (a b found : Option ℕ) → ((c : ℕ) → either c ≡ (p c || r c)) → found ≡ nearer_second Ahead a b → IsLeast p a
    → IsLeast r b → IsLeast either found
either_least p r either a b found e is first second =
    subst (IsLeast either) (sym is) (nearest-of_both Ahead p r either (pos 0) e a b first second)

in_range : (test : ℕ → Bool) (c : ℕ) → c < seconds_in_range → (nat_lt c seconds_in_range && test c) ≡ test c
in_range test c l = rw (lt-ltb c seconds_in_range l) refl

of_range : (t m : Bool) → (t && m) ≡ true → m ≡ true
of_range true m h = h
of_range false m h = absurd cc

range_of : (c : ℕ) (m : Bool) → (nat_lt c seconds_in_range && m) ≡ true → c < seconds_in_range
range_of c true h = grind arith
range_of c false h = grind arith

-- the least number of the range is the first one
pub first_of_least : (test : ℕ → Bool) (found : Option ℕ) → IsLeast (λ c. nat_lt c seconds_in_range && test c) found → IsFirst test found
first_of_least test None none = λ c l. sym (in_range test c l) ∙ none c (omega (arith, signed_arith))
first_of_least test (Some n) h =
    let below = range_of n (test n) h.passes in record {
      in_range = below;
      passes = of_range (nat_lt n seconds_in_range) (test n) h.passes;
      first = λ c l. sym (in_range test c (omega arith)) ∙ h.nearest c (omega (arith, signed_arith)) l;
    }

-- ---- month by month

pub longer : (length i : ℕ) → nat_lt length (i + 1) ≡ (nat_lt length i || nat_eq length i)
longer length i = grind (arith, nat_tests)

both_more : (r s t shorter equal more : Bool) → more ≡ (shorter || equal)
    → (((r && s) && (r && t)) && more) ≡ ((((r && s) && (r && t)) && shorter) || (r && ((s && equal) && (t && equal))))
both_more r s t shorter true more e = rw e (by_cases r s t shorter)
  where
    by_cases : (r s t shorter : Bool)
        → (((r && s) && (r && t)) && (shorter || true)) ≡ ((((r && s) && (r && t)) && shorter) || (r && ((s && true) && (t && true))))
    by_cases false s t shorter = refl
    by_cases true false t shorter = refl
    by_cases true true false shorter = refl
    by_cases true true true true = refl
    by_cases true true true false = refl
both_more r s t shorter false more e = rw e (by_cases r s t shorter)
  where
    by_cases : (r s t shorter : Bool)
        → (((r && s) && (r && t)) && (shorter || false)) ≡ ((((r && s) && (r && t)) && shorter) || (r && ((s && false) && (t && false))))
    by_cases false s t shorter = refl
    by_cases true false t shorter = refl
    by_cases true true false true = refl
    by_cases true true false false = refl
    by_cases true true true true = refl
    by_cases true true true false = refl

pub none_shorter : (test : ℕ → Bool) → IsLeast (in_shorter test 28) None
none_shorter test = none_least (in_shorter test 28) (λ c.
    let long : 28 ≤ month_length c = omega (arith, days_in_month_bounds (civil c).date.year (civil c).date.month) in
    and_right (test c) (nat_lt (month_length c) 28) (le-ltb (month_length c) 28 long))

pub all_shorter : (test : ℕ → Bool) (length : ℕ) (found : Option ℕ) → length ≡ 32 → IsLeast (in_shorter test length) found → IsLeast test found
all_shorter test length found e h =
    same_least (in_shorter test length) test found (λ c.
    let less : month_length c < length = omega (arith, days_in_month_bounds (civil c).date.year (civil c).date.month) in
    rw (lt-ltb (month_length c) length less) (and-true (test c))) h

pub one_longer : (s t p a b : Sets) (i n : ℕ) (first next found : Option ℕ) → n ≡ i + 1
    → ((dt : DateTime) → matches a dt ≡ (matches s dt && nat_eq (days_in_month dt.date.year dt.date.month) i))
    → ((dt : DateTime) → matches b dt ≡ (matches t dt && nat_eq (days_in_month dt.date.year dt.date.month) i))
    → ((dt : DateTime) → matches p dt ≡ (matches a dt && matches b dt)) → found ≡ nearer_second Ahead first next
    → IsLeast (in_shorter (both_match s t) i) first → IsLeast (is_match p) next → IsLeast (in_shorter (both_match s t) n) found
one_longer s t p a b i n first next found e in_s in_t in_both is before here =
    either_least (in_shorter (both_match s t) i) (is_match p) (in_shorter (both_match s t) n) first next found (λ c.
    rw (in_both (civil c), in_s (civil c), in_t (civil c))
    (both_more (nat_lt c seconds_in_range) (matches s (civil c)) (matches t (civil c)) (nat_lt (month_length c) i) (nat_eq (month_length c) i)
    (nat_lt (month_length c) n) (ap (nat_lt (month_length c)) e ∙ longer (month_length c) i)))
    is before here

-- ---- two schedules without a mark

pub both_in_range : (r s t : Bool) → (r && (s && t)) ≡ ((r && s) && (r && t))
both_in_range true s t = refl
both_in_range false s t = refl

pub least_product : (s t p : Sets) (found : Option ℕ) → ((dt : DateTime) → matches p dt ≡ (matches s dt && matches t dt)) → IsLeast (is_match p) found
    → IsLeast (both_match s t) found
least_product s t p found in_both h =
    same_least (is_match p) (both_match s t) found
    (λ c. rw (in_both (civil c)) (both_in_range (nat_lt c seconds_in_range) (matches s (civil c)) (matches t (civil c)))) h

-- ---- a schedule more

and_or : (r a b : Bool) → (r && (a || b)) ≡ ((r && a) || (r && b))
and_or true a b = refl
and_or false a b = refl

pub or_and : (r a b : Bool) → ((a || b) && r) ≡ ((a && r) || (b && r))
or_and true a b = and-true (a || b) ∙ (ap (λ (v : Bool). v || b) (sym (and-true a)) ∙ ap (λ (v : Bool). (a && true) || v) (sym (and-true b)))
or_and false a b = and_right (a || b) false refl
    ∙ (ap (λ (v : Bool). v || false) (sym (and_right a false refl)) ∙ ap (λ (v : Bool). (a && false) || v) (sym (and_right b false refl)))

pub match-more : (ss : List Sets) (i : ℕ) (s : Sets) (c : ℕ) → i < length ss → s ≡ get_or ss i s
    → is_match_any (take (i + 1) ss) c ≡ (is_match_any (take i ss) c || is_match s c)
match-more ss i s c less is =
    let more = list_any_more (λ (t : Sets). matches t (civil c)) ss i s less in
    ap (λ v. nat_lt c seconds_in_range && v) (more ∙ ap (λ v. matches_any (take i ss) (civil c) || matches v (civil c)) (sym is))
    ∙ and_or (nat_lt c seconds_in_range) (matches_any (take i ss) (civil c)) (matches s (civil c))

pub match-none : (c : ℕ) → is_match_any [] c ≡ false
match-none c = and_right (nat_lt c seconds_in_range) false refl

pub take-whole : (ss : List Sets) (i : ℕ) → i ≡ length ss → take i ss ≡ ss
take-whole ss i e = ap (λ n. take n ss) e ∙ take_all (length ss) ss (omega arith)

pub with_none : (s : Sets) → IsLeast (matches_with s []) None
with_none s = none_least (matches_with s []) (λ c. and_right (is_match s c) (is_match_any [] c) (match-none c))

pub with_more : (s t : Sets) (ts : List Sets) (i : ℕ) (first next found : Option ℕ) → i < length ts → t ≡ get_or ts i t
    → found ≡ nearer_second Ahead first next → IsLeast (matches_with s (take i ts)) first → IsLeast (both_match s t) next
    → IsLeast (matches_with s (take (i + 1) ts)) found
with_more s t ts i first next found less at is before here =
    either_least (matches_with s (take i ts)) (both_match s t) (matches_with s (take (i + 1) ts)) first next found
    (λ c. ap (λ (v : Bool). is_match s c && v) (match-more ts i t c less at) ∙ and_or (is_match s c) (is_match_any (take i ts) c) (is_match t c))
    is before here

pub with_all : (s : Sets) (ts : List Sets) (i : ℕ) (found : Option ℕ) → i ≡ length ts → IsLeast (matches_with s (take i ts)) found
    → IsLeast (matches_with s ts) found
with_all s ts i found e h = subst (λ (us : List Sets). IsLeast (matches_with s us) found) (take-whole ts i e) h

pub any_none : (ts : List Sets) → IsLeast (both_match_any [] ts) None
any_none ts = none_least (both_match_any [] ts) (λ c. ap (λ (v : Bool). v && is_match_any ts c) (match-none c))

pub any_more : (ss ts : List Sets) (s : Sets) (i : ℕ) (first next found : Option ℕ) → i < length ss → s ≡ get_or ss i s
    → found ≡ nearer_second Ahead first next → IsLeast (both_match_any (take i ss) ts) first → IsLeast (matches_with s ts) next
    → IsLeast (both_match_any (take (i + 1) ss) ts) found
any_more ss ts s i first next found less at is before here =
    either_least (both_match_any (take i ss) ts) (matches_with s ts) (both_match_any (take (i + 1) ss) ts) first next found
    (λ c. ap (λ (v : Bool). v && is_match_any ts c) (match-more ss i s c less at) ∙ or_and (is_match_any ts c) (is_match_any (take i ss) c) (is_match s c))
    is before here

pub any_all : (ss ts : List Sets) (i : ℕ) (found : Option ℕ) → i ≡ length ss → IsLeast (both_match_any (take i ss) ts) found
    → IsLeast (both_match_any ss ts) found
any_all ss ts i found e h = subst (λ (us : List Sets). IsLeast (both_match_any us ts) found) (take-whole ss i e) h

pub first_of_any : (ss ts : List Sets) (found : Option ℕ) → IsLeast (both_match_any ss ts) found → IsFirst (is_common ss ts) found
first_of_any ss ts found h =
    first_of_least (is_common ss ts) found
    (same_least (both_match_any ss ts) (λ c. nat_lt c seconds_in_range && is_common ss ts c) found
    (λ c. sym (both_in_range (nat_lt c seconds_in_range) (matches_any ss (civil c)) (matches_any ts (civil c)))) h)
