-- Times of day are told apart, with what stands behind them.
use Rattle.std.proofs.Common.{◌≡◌, ◌==◌, ◌<◌, ◌^◌, ℕ, Bool, true, false, ◌&&◌, cond, List, [], ◌∷◌, ◌++◌, codes, get_or, length, map, refl, sym, ap, ◌∙◌, append_assoc, arith, subst}
use Rattle.std.proofs.lemmas.Bool.{eqb-true, false≢true}
use Rattle.std.proofs.lemmas.List.{append_cancel_left}
use Rattle.std.specs.List.{AllByRecursion}
use Rattle.cron_text.proofs.TokenRuns.{and_parts}
use Rattle.cron_text.specs.Tokens.{is_digit}
use Rattle.cron_units.specs.Denotation.{IsBetween}
use Rattle.cron_units.specs.Laws.{is_unit-seconds, is_unit-minutes, is_unit-hours}
use Rattle.cron_units.specs.Sets.{Sets}
use Rattle.cron_units.specs.Units.{IsSet, IsUnit, TimeUnit}
use Rattle.cron_units.specs.Units as units
use Rattle.cron_words.specs.Clocks.{clock_text}
use Rattle.cron_words.specs.Lists.{list_text, more_text}
use Rattle.cron_words.specs.Progressions.{first, goes_round, is_progression, last, progression, step}
use Rattle.cron_words.specs.Sentence.{InUnits}
use Rattle.cron_words.specs.Schedules.{are_few, at_text, counted_text, every_text, first_unit, hours_text, is_hourly, is_on_the_minute, is_one, is_span, minutes_text, next_unit, only, span_text, steps_text, times_text, units_text}
use Rattle.cron_words.specs.declared.items.Item.{Item}
use Rattle.cron_words.specs.declared.items.Item.TheVariants.{One}
use Rattle.cron_words.specs.declared.lists.Naming.TheVariants.{Clocks, Numbers}
use Rattle.cron_words.proofs.BehindTimes.{IsBehindTimes}
use Rattle.cron_words.proofs.ClockLemmas.{IsBehindClock, Small, clock_first, clocks_apart}
use Rattle.cron_words.proofs.ListsApart.{FitsItem, more_apart, stops, unlike_at}
use Rattle.cron_words.proofs.NumberLemmas.{between, first_small, last_small, step_small}
use Rattle.cron_words.proofs.ProgressionLemmas.{progressions_same, rounds_same}
use Rattle.cron_words.proofs.TimesApart.{IsNoun, every_at, no_space, some_counted, step_fits, steps_text_apart, steps_text_differ}
use Rattle.cron_words.proofs.UnitsApart.{SameTimes, behind_clock, hour_noun, minute_noun, second_noun, two_many, units_apart}

-- ---- one minute and one second

one_list : (ns : List ℕ) → is_one ns ≡ true → ns ≡ only ns ∷ []
one_list [] h = absurd (false≢true h)
one_list (n ∷ []) h = refl
one_list (n ∷ m ∷ ns) h = absurd (false≢true (rw (two_many (length ns)) at h))

pub one_same : (ns ms : List ℕ) → is_one ns ≡ true → is_one ms ≡ true → only ns ≡ only ms → ns ≡ ms
one_same ns ms h g e = one_list ns h ∙ (ap (λ (k : ℕ). k ∷ []) e ∙ sym (one_list ms g))

clocked : Sets → Bool
clocked s = is_one s.minutes && is_one s.seconds

minute : Sets → ℕ
minute s = only s.minutes

second : Sets → ℕ
second s = only s.seconds

small : (s : Sets) (h : ℕ) → InUnits s → h < 2 ^ 32 → Small h (minute s) (second s)
unfolding minute second
small s h a l = (l, first_small units.minutes s.minutes is_unit-minutes a.minutes, first_small units.seconds s.seconds is_unit-seconds a.seconds)

same_ones : (s t : Sets) → clocked s ≡ true → clocked t ≡ true → minute s ≡ minute t → second s ≡ second t → (s.seconds ≡ t.seconds) × (s.minutes ≡ t.minutes)
unfolding clocked minute second
same_ones s t h g m x =
    let a = and_parts (is_one s.minutes) (is_one s.seconds) h in
    let b = and_parts (is_one t.minutes) (is_one t.seconds) g in
    (one_same s.seconds t.seconds a.1 b.1 x, one_same s.minutes t.minutes a.0 b.0 m)

-- a time of day isn't numbers of a unit
clock_counted : (h m s c : ℕ) (cs ns r q : List ℕ) → Small h m s → is_digit c ≡ false → counted_text (c ∷ cs) ns ++ q ≡ clock_text h m s ++ r → ⊥
clock_counted h m s c cs [] r q f n e = unlike_at is_digit 0 _ _ refl (clock_first h m s r f.0) e
clock_counted h m s c cs (k ∷ ns) r q f n e = unlike_at is_digit 0 _ _ n (clock_first h m s r f.0) (sym (some_counted (c ∷ cs) k ns q) ∙ e)

clock_first_unit : (capital : Bool) (h m s c : ℕ) (cs ns r q : List ℕ) (u : TimeUnit) → Small h m s → is_digit c ≡ false
    → first_unit capital (c ∷ cs) u ns ++ q ≡ at_text capital ++ (clock_text h m s ++ r) → ⊥
clock_first_unit capital h m s c cs ns r q u f n e = by_test (goes_round u ns) e where
  by_test : (a : Bool)
      → (cond a (every_text capital ++ steps_text (c ∷ cs) (step ns)) (at_text capital ++ counted_text (c ∷ cs) ns)) ++ q ≡ at_text capital ++ (clock_text h m s ++ r) → ⊥
  by_test true g = every_at capital _ _ (sym (append_assoc (every_text capital) (steps_text (c ∷ cs) (step ns)) q) ∙ g)
  by_test false g =
      clock_counted h m s c cs ns r q f n (append_cancel_left (at_text capital) _ _ (sym (append_assoc (at_text capital) (counted_text (c ∷ cs) ns) q) ∙ g))

clock_units : (capital : Bool) (h m s : ℕ) (t : Sets) (r q : List ℕ) → Small h m s → units_text capital t ++ q ≡ at_text capital ++ (clock_text h m s ++ r) → ⊥
clock_units capital h m s t r q f e = by_test (is_on_the_minute t) (sym (append_assoc (minutes_text capital t) (hours_text t) q) ∙ e) where
  second : List ℕ
  second = first_unit capital (codes "second") units.seconds t.seconds

  later : List ℕ
  later = next_unit (goes_round units.seconds t.seconds) (codes "minute") units.minutes t.minutes

  by_test : (a : Bool) → (cond a (first_unit capital (codes "minute") units.minutes t.minutes) (second ++ later)) ++ (hours_text t ++ q)
      ≡ at_text capital ++ (clock_text h m s ++ r) → ⊥
  by_test true g = clock_first_unit capital h m s 109 (codes "inute") t.minutes r (hours_text t ++ q) units.minutes f refl g
  by_test false g =
      clock_first_unit capital h m s 115 (codes "econd") t.seconds r (later ++ (hours_text t ++ q)) units.seconds f refl
      (sym (append_assoc second later (hours_text t ++ q)) ∙ g)

-- ---- how times are told

-- each hour, hours from a first to a last, each hour by itself, or by units
data How : Type 0 where
  hourly : How
  spanned : How
  listed : How
  united : How

clocks : Sets → List ℕ
clocks s = list_text (Clocks (minute s) (second s)) (map One s.hours)

hour_steps : Sets → List ℕ
hour_steps s = steps_text (codes "hour") (step s.hours)

told : How → Bool → Sets → List ℕ
told hourly capital s = every_text capital ++ hour_steps s
told spanned capital s = span_text capital (minute s) (second s) (progression s.hours)
told listed capital s = at_text capital ++ clocks s
told united capital s = units_text capital s

-- what is known of a schedule whose times are told so
Knows : How → Sets → Type 0
Knows hourly s = (clocked s ≡ true) × ((minute s ≡ 0) × (second s ≡ 0)) × (goes_round units.hours s.hours ≡ true)
Knows spanned s = (clocked s ≡ true) × (is_progression s.hours ≡ true)
Knows listed s = (clocked s ≡ true) × (are_few s.hours ≡ true)
Knows united s = Unit {0}

record IsTold (capital : Bool) (s : Sets) : Type 0 where
  how : How
  knows : Knows how s
  text : times_text capital s ≡ told how capital s

how_told : (capital : Bool) (s : Sets) → IsTold capital s
unfolding clocked minute second clocks hour_steps told Knows
how_told capital s = by_test (clocked s) (is_hourly (minute s) (second s) s.hours) (is_span s.hours) (are_few s.hours) refl refl refl refl where
  by_test : (a b c d : Bool) → clocked s ≡ a → is_hourly (minute s) (second s) s.hours ≡ b → is_span s.hours ≡ c → are_few s.hours ≡ d → IsTold capital s
  by_test false b c d e f g h = record { how = united; knows = tt; text = rw e refl }
  by_test true true c d e f g h =
      let p = and_parts (minute s == 0) (second s == 0 && goes_round units.hours s.hours) f in
      let q = and_parts (second s == 0) (goes_round units.hours s.hours) p.1 in
      record {
        how = hourly;
        knows = (e, (eqb-true (minute s) 0 p.0, eqb-true (second s) 0 q.0), q.1);
        text = rw (e, f) refl;
      }
  by_test true false true d e f g h = record { how = spanned; knows = (e, (and_parts (is_progression s.hours) _ g).0); text = rw (e, f, g) refl }
  by_test true false false true e f g h = record { how = listed; knows = (e, h); text = rw (e, f, g, h) refl }
  by_test true false false false e f g h = record { how = united; knows = tt; text = rw (e, f, g, h) refl }

-- ---- two ways to tell times

hours_fit : (s : Sets) → InUnits s → step s.hours < 2 ^ 32
hours_fit s a = step_small units.hours s.hours is_unit-hours a.hours

-- hours aren't minutes or seconds
every_first : (capital : Bool) (k d : ℕ) (ds ns x y : List ℕ) (u : TimeUnit) → k < 2 ^ 32 → IsUnit u → IsNoun d → (104 == d) ≡ false
    → every_text capital ++ (steps_text (codes "hour") k ++ x) ≡ first_unit capital (d ∷ ds) u ns ++ y → ⊥
every_first capital k d ds ns x y u l h n differ e = by_test (goes_round u ns) refl e where
  by_test : (a : Bool) → goes_round u ns ≡ a → every_text capital ++ (steps_text (codes "hour") k ++ x)
      ≡ (cond a (every_text capital ++ steps_text (d ∷ ds) (step ns)) (at_text capital ++ counted_text (d ∷ ds) ns)) ++ y → ⊥
  by_test true w g =
      steps_text_differ k (step ns) 104 d (codes "our") ds x y hour_noun n differ l (step_fits u ns h w)
      (append_cancel_left (every_text capital) _ _ (g ∙ append_assoc (every_text capital) (steps_text (d ∷ ds) (step ns)) y))
  by_test false w g = every_at capital _ _ (g ∙ append_assoc (at_text capital) (counted_text (d ∷ ds) ns) y)

every_units : (capital : Bool) (k : ℕ) (t : Sets) (x q : List ℕ) → k < 2 ^ 32
    → every_text capital ++ (steps_text (codes "hour") k ++ x) ≡ units_text capital t ++ q → ⊥
every_units capital k t x q l e = by_test (is_on_the_minute t) (e ∙ append_assoc (minutes_text capital t) (hours_text t) q) where
  first_second : List ℕ
  first_second = first_unit capital (codes "second") units.seconds t.seconds

  later : List ℕ
  later = next_unit (goes_round units.seconds t.seconds) (codes "minute") units.minutes t.minutes

  by_test : (a : Bool) → every_text capital ++ (steps_text (codes "hour") k ++ x)
      ≡ (cond a (first_unit capital (codes "minute") units.minutes t.minutes) (first_second ++ later)) ++ (hours_text t ++ q) → ⊥
  by_test true g = every_first capital k 109 (codes "inute") t.minutes x (hours_text t ++ q) units.minutes l is_unit-minutes minute_noun refl g
  by_test false g =
      every_first capital k 115 (codes "econd") t.seconds x (later ++ (hours_text t ++ q)) units.seconds l is_unit-seconds second_noun refl
      (g ∙ append_assoc first_second later (hours_text t ++ q))

abbrev first_clock : Sets → List ℕ
first_clock s = clock_text (first s.hours) (minute s) (second s)

abbrev last_clock : Sets → List ℕ
last_clock s = clock_text (last s.hours) (minute s) (second s)

-- behind the step of a span
span_end : Sets → List ℕ → List ℕ
span_end s r = codes " from " ++ (first_clock s ++ (codes " to " ++ (last_clock s ++ r)))

span_on : (capital : Bool) (s : Sets) (r : List ℕ) → told spanned capital s ++ r ≡ every_text capital ++ (hour_steps s ++ span_end s r)
unfolding told span_end hour_steps
span_on capital s r =
    append_assoc (every_text capital) (hour_steps s ++ (codes " from " ++ (first_clock s ++ (codes " to " ++ last_clock s)))) r
    ∙ ap (λ (t : List ℕ). every_text capital ++ t) (append_assoc (hour_steps s) (codes " from " ++ (first_clock s ++ (codes " to " ++ last_clock s))) r
    ∙ ap (λ (t : List ℕ). hour_steps s ++ (codes " from " ++ t)) (append_assoc (first_clock s) (codes " to " ++ last_clock s) r))

hourly_on : (capital : Bool) (s : Sets) (r : List ℕ) → told hourly capital s ++ r ≡ every_text capital ++ (hour_steps s ++ r)
unfolding told
hourly_on capital s r = append_assoc (every_text capital) (hour_steps s) r

listed_on : (capital : Bool) (s : Sets) (r : List ℕ) → told listed capital s ++ r ≡ at_text capital ++ (clocks s ++ r)
unfolding told
listed_on capital s r = append_assoc (at_text capital) (clocks s) r

span_ends : (s t : Sets) (r q : List ℕ) → InUnits s → InUnits t → IsBehindTimes r → IsBehindTimes q → span_end s r ≡ span_end t q
    → ((minute s ≡ minute t) × (second s ≡ second t)) × ((first s.hours ≡ first t.hours) × (last s.hours ≡ last t.hours)) × (r ≡ q)
unfolding span_end
span_ends s t r q a b v w e =
    let f = λ (x : Sets) (i : InUnits x). small x (first x.hours) i (first_small units.hours x.hours is_unit-hours i.hours) in
    let l = λ (x : Sets) (i : InUnits x). small x (last x.hours) i (last_small units.hours x.hours is_unit-hours i.hours) in
    let c = clocks_apart _ _ _ _ _ _ (codes " to " ++ (last_clock s ++ r)) (codes " to " ++ (last_clock t ++ q)) (f s a) (f t b)
    (record { digit = refl; colon = refl }) (record { digit = refl; colon = refl }) (append_cancel_left (codes " from ") _ _ e) in
    let d = clocks_apart _ _ _ _ _ _ r q (l s a) (l t b) (behind_clock r v.stop) (behind_clock q w.stop) (append_cancel_left (codes " to ") _ _ c.1) in
    ((c.0.1, c.0.2), (c.0.0, d.0.0), d.1)

-- ---- hours by themselves

abbrev ones : List ℕ → List Item
ones ns = map One ns

ones_same : (ns ms : List ℕ) → ones ns ≡ ones ms → ns ≡ ms
ones_same [] [] e = refl
ones_same [] (m ∷ ms) e = absurd (cc)
ones_same (n ∷ ns) [] e = absurd (cc)
ones_same (n ∷ ns) (m ∷ ms) e =
    let head : n ≡ m = cc in
    let tail : ones ns ≡ ones ms = cc in
    rw (head, ones_same ns ms tail) refl

ones_fit : (m x : ℕ) (ns : List ℕ) → m < 2 ^ 32 → x < 2 ^ 32 → AllByRecursion (IsBetween units.hours.least units.hours.greatest) ns
    → AllByRecursion (FitsItem (Clocks m x)) (ones ns)
ones_fit m x [] f g a = tt
ones_fit m x (n ∷ ns) f g a = ((omega (arith, a.0.1), f, g), ones_fit m x ns f g a.1)

stops_clocks : (m x : ℕ) (r : List ℕ) → stops Numbers r ≡ true → stops (Clocks m x) r ≡ true
unfolding stops
stops_clocks m x [] h = refl
stops_clocks m x (b ∷ r) h = h

more_clock : (m x : ℕ) (ns r : List ℕ) → IsBehindTimes r → IsBehindClock (more_text (Clocks m x) (ones ns) ++ r)
more_clock m x [] r v = behind_clock r v.stop
more_clock m x (n ∷ []) r v = record { digit = refl; colon = refl }
more_clock m x (n ∷ k ∷ ns) r v = record { digit = refl; colon = refl }

clocks_on : (s : Sets) (n : ℕ) (ns r : List ℕ) → s.hours ≡ n ∷ ns
    → clocks s ++ r ≡ clock_text n (minute s) (second s) ++ (more_text (Clocks (minute s) (second s)) (ones ns) ++ r)
unfolding clocks minute second
clocks_on s n ns r e =
    rw e (append_assoc (clock_text n (minute s) (second s)) (more_text (Clocks (minute s) (second s)) (ones ns)) r)

few_some : (ns : List ℕ) → are_few ns ≡ true → (n : ℕ) × (ms : List ℕ) × (ns ≡ n ∷ ms)
few_some [] h = absurd (false≢true h)
few_some (n ∷ ns) h = (n, ns, refl)

clocks_same : (s t : Sets) (n k : ℕ) (ns ks r q : List ℕ) → InUnits s → InUnits t → s.hours ≡ n ∷ ns → t.hours ≡ k ∷ ks → IsBehindTimes r → IsBehindTimes q
    → clocks s ++ r ≡ clocks t ++ q → ((minute s ≡ minute t) × (second s ≡ second t)) × (s.hours ≡ t.hours) × (r ≡ q)
clocks_same s t n k ns ks r q a b i j v w e =
    let x = between units.hours (n ∷ ns) is_unit-hours (subst (IsSet units.hours) i a.hours) in
    let y = between units.hours (k ∷ ks) is_unit-hours (subst (IsSet units.hours) j b.hours) in
    let f = small s n a (omega (arith, x.0.1)) in
    let g = small t k b (omega (arith, y.0.1)) in
    let c = clocks_apart n (minute s) (second s) k (minute t) (second t) _ _ f g (more_clock (minute s) (second s) ns r v)
    (more_clock (minute t) (second t) ks q w) (sym (clocks_on s n ns r i) ∙ (e ∙ clocks_on t k ks q j)) in
    let more : more_text (Clocks (minute t) (second t)) (ones ns) ++ r ≡ more_text (Clocks (minute t) (second t)) (ones ks) ++ q =
    sym (ap (λ (o : ℕ). more_text (Clocks o (second s)) (ones ns) ++ r) c.0.1
    ∙ ap (λ (o : ℕ). more_text (Clocks (minute t) o) (ones ns) ++ r) c.0.2) ∙ c.1 in
    let d = more_apart (Clocks (minute t) (second t)) (ones ns) (ones ks) r q (ones_fit (minute t) (second t) ns g.1 g.2 x.1)
    (ones_fit (minute t) (second t) ks g.1 g.2 y.1) (stops_clocks (minute t) (second t) r v.stop) (stops_clocks (minute t) (second t) q w.stop) more in
    let head : n ≡ k = c.0.0 in
    let tail : ns ≡ ks = ones_same ns ks d.0 in
    ((c.0.1, c.0.2), (i ∙ (ap (λ (o : ℕ). o ∷ ns) head ∙ (ap (λ (o : List ℕ). k ∷ o) tail ∙ sym j))), d.1)

-- ---- the four ways

with_times : (s t : Sets) (r q : List ℕ) → clocked s ≡ true → clocked t ≡ true → minute s ≡ minute t → second s ≡ second t → s.hours ≡ t.hours → r ≡ q
    → SameTimes s t × (r ≡ q)
with_times s t r q a b m x h e = let o = same_ones s t a b m x in ((o.0, o.1, h), e)

-- `every hour` and times of day
hourly_spanned : (capital : Bool) (s t : Sets) (r q : List ℕ) → InUnits s → InUnits t → IsBehindTimes r
    → told hourly capital s ++ r ≡ told spanned capital t ++ q → ⊥
unfolding hour_steps span_end
hourly_spanned capital s t r q a b v e =
    let c = steps_text_apart (step s.hours) (step t.hours) 104 (codes "our") r (span_end t q) hour_noun (hours_fit s a) (hours_fit t b)
    (append_cancel_left (every_text capital) _ _ (sym (hourly_on capital s r) ∙ (e ∙ span_on capital t q))) in
    no_space r _ v.space c.1

clocks_units : (capital : Bool) (s t : Sets) (r q : List ℕ) → InUnits s → Knows listed s → units_text capital t ++ q ≡ told listed capital s ++ r → ⊥
unfolding Knows
clocks_units capital s t r q a k e =
    let n = few_some s.hours k.1 in
    let x = between units.hours (n.0 ∷ n.1) is_unit-hours (subst (IsSet units.hours) n.2 a.hours) in
    clock_units capital n.0 (minute s) (second s) t _ q (small s n.0 a (omega (arith, x.0.1)))
    (e ∙ (listed_on capital s r ∙ ap (λ (o : List ℕ). at_text capital ++ o) (clocks_on s n.0 n.1 r n.2)))

-- one way
same_way : (h : How) (capital : Bool) (s t : Sets) (r q : List ℕ) → InUnits s → InUnits t → IsBehindTimes r → IsBehindTimes q → Knows h s → Knows h t
    → told h capital s ++ r ≡ told h capital t ++ q → SameTimes s t × (r ≡ q)
unfolding Knows hour_steps told
same_way hourly capital s t r q a b v w x y e =
    let c = steps_text_apart (step s.hours) (step t.hours) 104 (codes "our") r q hour_noun (hours_fit s a) (hours_fit t b)
    (append_cancel_left (every_text capital) _ _ (sym (hourly_on capital s r) ∙ (e ∙ hourly_on capital t q))) in
    with_times s t r q x.0 y.0 (x.1.0 ∙ sym y.1.0) (x.1.1 ∙ sym y.1.1) (rounds_same units.hours s.hours t.hours x.2 y.2 c.0) c.1
same_way spanned capital s t r q a b v w x y e =
    let c = steps_text_apart (step s.hours) (step t.hours) 104 (codes "our") (span_end s r) (span_end t q) hour_noun (hours_fit s a) (hours_fit t b)
    (append_cancel_left (every_text capital) _ _ (sym (span_on capital s r) ∙ (e ∙ span_on capital t q))) in
    let d = span_ends s t r q a b v w c.1 in
    with_times s t r q x.0 y.0 d.0.0 d.0.1 (progressions_same s.hours t.hours x.1 y.1 d.1.0 c.0 d.1.1) d.2
same_way listed capital s t r q a b v w x y e =
    let n = few_some s.hours x.1 in
    let k = few_some t.hours y.1 in
    let c = clocks_same s t n.0 k.0 n.1 k.1 r q a b n.2 k.2 v w
    (append_cancel_left (at_text capital) _ _ (sym (listed_on capital s r) ∙ (e ∙ listed_on capital t q))) in
    with_times s t r q x.0 y.0 c.0.0 c.0.1 c.1 c.2
same_way united capital s t r q a b v w x y e = units_apart capital s t r q a b v.stop w.stop v.space w.space e

-- by units, and another way
hourly_united : (capital : Bool) (s t : Sets) (r q : List ℕ) → InUnits s → told hourly capital s ++ r ≡ told united capital t ++ q → ⊥
unfolding hour_steps told
hourly_united capital s t r q a e = every_units capital (step s.hours) t r q (hours_fit s a) (sym (hourly_on capital s r) ∙ e)

spanned_united : (capital : Bool) (s t : Sets) (r q : List ℕ) → InUnits s → told spanned capital s ++ r ≡ told united capital t ++ q → ⊥
unfolding hour_steps told
spanned_united capital s t r q a e = every_units capital (step s.hours) t (span_end s r) q (hours_fit s a) (sym (span_on capital s r) ∙ e)

listed_united : (capital : Bool) (s t : Sets) (r q : List ℕ) → InUnits s → Knows listed s → told listed capital s ++ r ≡ told united capital t ++ q → ⊥
unfolding told
listed_united capital s t r q a k e = clocks_units capital s t r q a k (sym e)

-- any two ways
ways_apart : (h k : How) (capital : Bool) (s t : Sets) (r q : List ℕ) → InUnits s → InUnits t → IsBehindTimes r → IsBehindTimes q → Knows h s → Knows k t
    → told h capital s ++ r ≡ told k capital t ++ q → SameTimes s t × (r ≡ q)
ways_apart hourly hourly capital s t r q a b v w x y e = same_way hourly capital s t r q a b v w x y e
ways_apart hourly spanned capital s t r q a b v w x y e = absurd (hourly_spanned capital s t r q a b v e)
ways_apart hourly listed capital s t r q a b v w x y e = absurd (every_at capital _ _ (sym (hourly_on capital s r) ∙ (e ∙ listed_on capital t q)))
ways_apart hourly united capital s t r q a b v w x y e = absurd (hourly_united capital s t r q a e)
ways_apart spanned hourly capital s t r q a b v w x y e = absurd (hourly_spanned capital t s q r b a w (sym e))
ways_apart spanned spanned capital s t r q a b v w x y e = same_way spanned capital s t r q a b v w x y e
ways_apart spanned listed capital s t r q a b v w x y e = absurd (every_at capital _ _ (sym (span_on capital s r) ∙ (e ∙ listed_on capital t q)))
ways_apart spanned united capital s t r q a b v w x y e = absurd (spanned_united capital s t r q a e)
ways_apart listed hourly capital s t r q a b v w x y e = absurd (every_at capital _ _ (sym (hourly_on capital t q) ∙ (sym e ∙ listed_on capital s r)))
ways_apart listed spanned capital s t r q a b v w x y e = absurd (every_at capital _ _ (sym (span_on capital t q) ∙ (sym e ∙ listed_on capital s r)))
ways_apart listed listed capital s t r q a b v w x y e = same_way listed capital s t r q a b v w x y e
ways_apart listed united capital s t r q a b v w x y e = absurd (listed_united capital s t r q a x e)
ways_apart united hourly capital s t r q a b v w x y e = absurd (hourly_united capital t s q r b (sym e))
ways_apart united spanned capital s t r q a b v w x y e = absurd (spanned_united capital t s q r b (sym e))
ways_apart united listed capital s t r q a b v w x y e = absurd (listed_united capital t s q r b y (sym e))
ways_apart united united capital s t r q a b v w x y e = same_way united capital s t r q a b v w x y e

pub times_apart : (capital : Bool) (s t : Sets) (r q : List ℕ) → InUnits s → InUnits t → IsBehindTimes r → IsBehindTimes q
    → times_text capital s ++ r ≡ times_text capital t ++ q → SameTimes s t × (r ≡ q)
times_apart capital s t r q a b v w e =
    let x = how_told capital s in
    let y = how_told capital t in
    ways_apart x.how y.how capital s t r q a b v w x.knows y.knows
    (ap (λ (o : List ℕ). o ++ r) (sym x.text) ∙ (e ∙ ap (λ (o : List ℕ). o ++ q) y.text))

-- ---- the first byte, which isn't that of `Never`

abbrev pub is_n : ℕ → Bool
is_n c = c == 78

first_unit_n : (noun : List ℕ) (u : TimeUnit) (ns r : List ℕ) → is_n (get_or (first_unit true noun u ns ++ r) 0 0) ≡ false
first_unit_n noun u ns r = by_test (goes_round u ns) where
  by_test : (a : Bool) → (get_or ((cond a (every_text true ++ steps_text noun (step ns)) (at_text true ++ counted_text noun ns)) ++ r) 0 0 == 78) ≡ false
  by_test true = refl
  by_test false = refl

units_n : (s : Sets) (r : List ℕ) → is_n (get_or (units_text true s ++ r) 0 0) ≡ false
units_n s r = ap (λ (x : List ℕ). is_n (get_or x 0 0)) (append_assoc (minutes_text true s) (hours_text s) r) ∙ by_test (is_on_the_minute s) where
  second : List ℕ
  second = first_unit true (codes "second") units.seconds s.seconds

  later : List ℕ
  later = next_unit (goes_round units.seconds s.seconds) (codes "minute") units.minutes s.minutes

  by_test : (a : Bool) → is_n (get_or ((cond a (first_unit true (codes "minute") units.minutes s.minutes) (second ++ later)) ++ (hours_text s ++ r)) 0 0) ≡ false
  by_test true = first_unit_n (codes "minute") units.minutes s.minutes (hours_text s ++ r)
  by_test false =
      ap (λ (x : List ℕ). is_n (get_or x 0 0)) (append_assoc second later (hours_text s ++ r))
      ∙ first_unit_n (codes "second") units.seconds s.seconds (later ++ (hours_text s ++ r))

told_n : (h : How) (s : Sets) (r : List ℕ) → is_n (get_or (told h true s ++ r) 0 0) ≡ false
unfolding told
told_n hourly s r = refl
told_n spanned s r = refl
told_n listed s r = refl
told_n united s r = units_n s r

pub times_n : (s : Sets) (r : List ℕ) → is_n (get_or (times_text true s ++ r) 0 0) ≡ false
times_n s r = let x = how_told true s in ap (λ (o : List ℕ). is_n (get_or (o ++ r) 0 0)) x.text ∙ told_n x.how s r
