-- Seconds, minutes and hours are told apart, with what stands behind them.
use Rattle.std.proofs.Common.{◌≡◌, ◌==◌, ℕ, suc, Bool, true, false, ◌&&◌, ◌||◌, cond, List, [], ◌∷◌, ◌++◌, codes, drop, get_or, length, refl, sym, ap, ◌∙◌, append_assoc, arith}
use Rattle.std.proofs.lemmas.Bool.{eqb-true, false≢true}
use Rattle.std.proofs.lemmas.Bool.Decides.{nat_tests}
use Rattle.std.proofs.lemmas.List.{append_cancel_left}
use Rattle.cron_text.proofs.TokenRuns.{and_parts}
use Rattle.cron_units.specs.Laws.{is_unit-seconds, is_unit-minutes, is_unit-hours}
use Rattle.cron_units.specs.Sets.{Sets}
use Rattle.cron_units.specs.Units.{TimeUnit}
use Rattle.cron_units.specs.Units as units
use Rattle.cron_words.specs.Clocks.{clock_text}
use Rattle.cron_words.specs.Progressions.{first, follow_on, goes_round, last, step}
use Rattle.cron_words.specs.Sentence.{InUnits}
use Rattle.cron_words.specs.Schedules.{at_text, counted_text, every_text, first_unit, goes_on, hours_text, is_on_the_minute, is_one, is_stretch, minutes_text, next_unit, nth_text, only, steps_text, stretch_text, units_text}
use Rattle.cron_words.specs.declared.lists.Naming.TheVariants.{Numbers}
use Rattle.cron_words.proofs.ClockLemmas.{IsBehindClock, clocks_apart}
use Rattle.cron_words.proofs.ListsApart.{stops, stops_digit, unlike}
use Rattle.cron_words.proofs.NumberLemmas.{first_small, last_small}
use Rattle.cron_words.proofs.ProgressionLemmas.{followers_same}
use Rattle.cron_words.proofs.TimesApart.{Digital, IsNoun, NoSpace, counted_apart, every_at, every_counted, first_apart, hidden_same, is_hidden, next_apart, nexts_apart, no_space, nouns_apart, nth_apart, step_fits, steps_text_differ}

-- ---- seconds, minutes and hours

digital_seconds : Digital units.seconds
digital_seconds x w = omega (arith, w.1)

digital_minutes : Digital units.minutes
digital_minutes x w = omega (arith, w.1)

digital_hours : Digital units.hours
digital_hours x w = omega (arith, w.1)

abbrev minutes_round : Sets → Bool
minutes_round s = goes_round units.minutes s.minutes

next_stops : (round : Bool) (noun : List ℕ) (u : TimeUnit) (ns r : List ℕ) → stops Numbers r ≡ true → stops Numbers (next_unit round noun u ns ++ r) ≡ true
unfolding stops
next_stops round noun u ns r h = by_test (goes_round u ns) (is_hidden round ns) where
  by_test : (a b : Bool) → stops Numbers ((cond a (cond b [] (codes " of every " ++ nth_text noun (step ns))) (codes " of " ++ counted_text noun ns)) ++ r) ≡ true
  by_test true true = h
  by_test true false = refl
  by_test false b = refl

pub hour_noun : IsNoun 104
hour_noun = record { plain = refl; other = refl; letter = refl }

pub minute_noun : IsNoun 109
minute_noun = record { plain = refl; other = refl; letter = refl }

pub second_noun : IsNoun 115
second_noun = record { plain = refl; other = refl; letter = refl }

abbrev our : List ℕ
our = codes "our"

abbrev inute : List ℕ
inute = codes "inute"

-- the hours as numbers
abbrev plain_hours : Sets → List ℕ
plain_hours s = next_unit (goes_on s) (codes "hour") units.hours s.hours

-- hours, behind the same seconds and minutes
plain_apart : (s t : Sets) (r q : List ℕ) → InUnits s → InUnits t → s.seconds ≡ t.seconds → s.minutes ≡ t.minutes → stops Numbers r ≡ true
    → stops Numbers q ≡ true → NoSpace r → NoSpace q → plain_hours s ++ r ≡ plain_hours t ++ q → (s.hours ≡ t.hours) × (r ≡ q)
plain_apart s t r q a b x m h k v w e =
    let same : goes_on s ≡ goes_on t =
    ap (λ (n : List ℕ). goes_round units.seconds n || goes_round units.minutes s.minutes) x
    ∙ ap (λ (n : List ℕ). goes_round units.seconds t.seconds || goes_round units.minutes n) m in
    next_apart (goes_on t) units.hours 104 our s.hours t.hours r q hour_noun is_unit-hours digital_hours a.hours b.hours h k v w
    (ap (λ (round : Bool). next_unit round (codes "hour") units.hours s.hours ++ r) (sym same) ∙ e)

-- hours behind minutes that aren't told aren't minutes by a step
hours_every : (ns ms r q : List ℕ) → NoSpace r → goes_round units.minutes ms ≡ true
    → next_unit true (codes "hour") units.hours ns ++ r ≡ codes " of every " ++ (nth_text (codes "minute") (step ms) ++ q) → ⊥
hours_every ns ms r q v y e = by_test (goes_round units.hours ns) (is_hidden true ns) refl e where
  by_test : (a b : Bool) → goes_round units.hours ns ≡ a
      → (cond a (cond b [] (codes " of every " ++ nth_text (codes "hour") (step ns))) (codes " of " ++ counted_text (codes "hour") ns)) ++ r
      ≡ codes " of every " ++ (nth_text (codes "minute") (step ms) ++ q) → ⊥
  by_test true true x g = no_space r _ v g
  by_test true false x g =
      nexts_apart units.hours units.minutes 104 109 our inute ns ms r q hour_noun minute_noun refl is_unit-hours is_unit-minutes x y
      (append_cancel_left (codes " of every ") _ _ g)
  by_test false b x g = every_counted 104 our ns _ r refl (append_cancel_left (codes " of ") _ _ (sym g))

-- nor are they numbers of minutes
hours_counted : (ns ms r q : List ℕ) → NoSpace r
    → next_unit true (codes "hour") units.hours ns ++ r ≡ codes " of " ++ (counted_text (codes "minute") ms ++ q) → ⊥
hours_counted ns ms r q v e = by_test (goes_round units.hours ns) (is_hidden true ns) e where
  by_test : (a b : Bool) → (cond a (cond b [] (codes " of every " ++ nth_text (codes "hour") (step ns))) (codes " of " ++ counted_text (codes "hour") ns)) ++ r
      ≡ codes " of " ++ (counted_text (codes "minute") ms ++ q) → ⊥
  by_test true true g = no_space r _ v g
  by_test true false g = every_counted 109 inute ms _ q refl (append_cancel_left (codes " of ") _ _ g)
  by_test false b g = nouns_apart 104 109 our inute ns ms r q refl refl refl (append_cancel_left (codes " of ") _ _ g)

abbrev minutes_then : Bool → Sets → List ℕ → List ℕ
minutes_then round s r = next_unit round (codes "minute") units.minutes s.minutes ++ r

abbrev minutes_every : Sets → List ℕ
minutes_every s = codes " of every " ++ nth_text (codes "minute") (step s.minutes)

abbrev minutes_counted : Sets → List ℕ
minutes_counted s = codes " of " ++ counted_text (codes "minute") s.minutes

either_round : (a b : Bool) → b ≡ true → (a || b) ≡ true
either_round true b h = refl
either_round false b h = h

hours_round : (s : Sets) (r : List ℕ) → minutes_round s ≡ true → next_unit true (codes "hour") units.hours s.hours ++ r ≡ plain_hours s ++ r
hours_round s r x =
    ap (λ (round : Bool). next_unit round (codes "hour") units.hours s.hours ++ r)
    (sym (either_round (goes_round units.seconds s.seconds) (goes_round units.minutes s.minutes) x))

-- minutes that go round, and others
minutes_mixed : (round : Bool) (s t : Sets) (r q : List ℕ) → minutes_round s ≡ true → NoSpace r
    → (cond (is_hidden round s.minutes) [] (minutes_every s)) ++ (plain_hours s ++ r) ≡ minutes_counted t ++ q → ⊥
minutes_mixed round s t r q x v e = by_test (is_hidden round s.minutes) e where
  by_test : (a : Bool) → (cond a [] (minutes_every s)) ++ (plain_hours s ++ r) ≡ minutes_counted t ++ q → ⊥
  by_test true g = hours_counted s.hours t.minutes r q v (hours_round s r x ∙ g)
  by_test false g = every_counted 109 inute t.minutes _ q refl (append_cancel_left (codes " of ") _ _ g)

pub minutes_apart : (round : Bool) (s t : Sets) (r q : List ℕ) → InUnits s → InUnits t → stops Numbers r ≡ true → stops Numbers q ≡ true
    → NoSpace r → NoSpace q → minutes_then round s (plain_hours s ++ r) ≡ minutes_then round t (plain_hours t ++ q)
    → (s.minutes ≡ t.minutes) × (plain_hours s ++ r ≡ plain_hours t ++ q)
minutes_apart round s t r q a b h k v w e = by_test (minutes_round s) (minutes_round t) refl refl e where
  by_hidden : (i j : Bool) → minutes_round s ≡ true → minutes_round t ≡ true → is_hidden round s.minutes ≡ i → is_hidden round t.minutes ≡ j
      → (cond i [] (minutes_every s)) ++ (plain_hours s ++ r) ≡ (cond j [] (minutes_every t)) ++ (plain_hours t ++ q)
      → (s.minutes ≡ t.minutes) × (plain_hours s ++ r ≡ plain_hours t ++ q)
  by_hidden true true x y i j g = (hidden_same round units.minutes s.minutes t.minutes x y i j, g)
  by_hidden true false x y i j g = absurd (hours_every s.hours t.minutes r (plain_hours t ++ q) v y (hours_round s r x ∙ g))
  by_hidden false true x y i j g = absurd (hours_every t.hours s.minutes q (plain_hours s ++ r) w x (hours_round t q y ∙ sym g))
  by_hidden false false x y i j g =
      nth_apart units.minutes 109 inute s.minutes t.minutes (plain_hours s ++ r) (plain_hours t ++ q) minute_noun is_unit-minutes x y g

  by_test : (x y : Bool) → minutes_round s ≡ x → minutes_round t ≡ y
      → (cond x (cond (is_hidden round s.minutes) [] (minutes_every s)) (minutes_counted s)) ++ (plain_hours s ++ r)
      ≡ (cond y (cond (is_hidden round t.minutes) [] (minutes_every t)) (minutes_counted t)) ++ (plain_hours t ++ q)
      → (s.minutes ≡ t.minutes) × (plain_hours s ++ r ≡ plain_hours t ++ q)
  by_test true true x y g = by_hidden (is_hidden round s.minutes) (is_hidden round t.minutes) x y refl refl g
  by_test true false x y g = absurd (minutes_mixed round s t r (plain_hours t ++ q) x v g)
  by_test false true x y g = absurd (minutes_mixed round t s q (plain_hours s ++ r) y w (sym g))
  by_test false false x y g =
      counted_apart units.minutes 109 inute s.minutes t.minutes (plain_hours s ++ r) (plain_hours t ++ q) refl is_unit-minutes digital_minutes a.minutes b.minutes
      (next_stops (goes_on s) (codes "hour") units.hours s.hours r h) (next_stops (goes_on t) (codes "hour") units.hours t.hours q k)
      (append_cancel_left (codes " of ") _ _ g)

-- ---- the units of a schedule

units_then : Bool → Sets → List ℕ → List ℕ
units_then capital s r = minutes_text capital s ++ (hours_text s ++ r)

pub two_many : (k : ℕ) → (suc (suc k) == 1) ≡ false
two_many k = grind (arith, nat_tests)

-- second 0 alone
zero_alone : (ns : List ℕ) → (is_one ns && only ns == 0) ≡ true → ns ≡ 0 ∷ []
zero_alone [] h = absurd (false≢true h)
zero_alone (n ∷ []) h = ap (λ (k : ℕ). k ∷ []) (eqb-true n 0 h)
zero_alone (n ∷ m ∷ ns) h =
    absurd (false≢true (rw (two_many (length ns)) at h))

abbrev second_text : Bool → Sets → List ℕ
second_text capital s = first_unit capital (codes "second") units.seconds s.seconds

-- a first unit is either minutes or seconds
firsts_differ : (capital : Bool) (ns ms r q : List ℕ)
    → first_unit capital (codes "minute") units.minutes ns ++ r ≡ first_unit capital (codes "second") units.seconds ms ++ q → ⊥
firsts_differ capital ns ms r q e = by_test (goes_round units.minutes ns) (goes_round units.seconds ms) refl refl e where
  every_on : (noun xs z : List ℕ) → (every_text capital ++ steps_text noun (step xs)) ++ z ≡ every_text capital ++ (steps_text noun (step xs) ++ z)
  every_on noun xs z = append_assoc (every_text capital) (steps_text noun (step xs)) z

  at_on : (noun xs z : List ℕ) → (at_text capital ++ counted_text noun xs) ++ z ≡ at_text capital ++ (counted_text noun xs ++ z)
  at_on noun xs z = append_assoc (at_text capital) (counted_text noun xs) z

  by_test : (a b : Bool) → goes_round units.minutes ns ≡ a → goes_round units.seconds ms ≡ b
      → (cond a (every_text capital ++ steps_text (codes "minute") (step ns)) (at_text capital ++ counted_text (codes "minute") ns)) ++ r
      ≡ (cond b (every_text capital ++ steps_text (codes "second") (step ms)) (at_text capital ++ counted_text (codes "second") ms)) ++ q → ⊥
  by_test true true x y g =
      steps_text_differ (step ns) (step ms) 109 115 inute (codes "econd") r q minute_noun second_noun refl (step_fits units.minutes ns is_unit-minutes x)
      (step_fits units.seconds ms is_unit-seconds y)
      (append_cancel_left (every_text capital) _ _ (sym (every_on (codes "minute") ns r) ∙ (g ∙ every_on (codes "second") ms q)))
  by_test true false x y g = every_at capital _ _ (sym (every_on (codes "minute") ns r) ∙ (g ∙ at_on (codes "second") ms q))
  by_test false true x y g = every_at capital _ _ (sym (every_on (codes "second") ms q) ∙ (sym g ∙ at_on (codes "minute") ns r))
  by_test false false x y g =
      nouns_apart 109 115 inute (codes "econd") ns ms r q refl refl refl
      (append_cancel_left (at_text capital) _ _ (sym (at_on (codes "minute") ns r) ∙ (g ∙ at_on (codes "second") ms q)))

-- seconds, minutes and hours that are the same
abbrev pub SameTimes : Sets → Sets → Type 0
SameTimes s t = (s.seconds ≡ t.seconds) × (s.minutes ≡ t.minutes) × (s.hours ≡ t.hours)

-- ---- a stretch of hours

abbrev stretch : Sets → List ℕ
stretch s = stretch_text (first s.hours) (last s.hours) (last s.minutes)

stretch_on : (s : Sets) (r : List ℕ)
    → stretch s ++ r ≡ codes " from " ++ (clock_text (first s.hours) 0 0 ++ (codes " to " ++ (clock_text (last s.hours) (last s.minutes) 0 ++ r)))
stretch_on s r =
    ap (λ (t : List ℕ). codes " from " ++ t)
    (append_assoc (clock_text (first s.hours) 0 0) (codes " to " ++ clock_text (last s.hours) (last s.minutes) 0) r)

-- a stretch isn't hours as numbers
stretch_plain : (s t : Sets) (r q : List ℕ) → NoSpace q → stretch s ++ r ≡ plain_hours t ++ q → ⊥
stretch_plain s t r q w e = by_test (goes_round units.hours t.hours) (is_hidden (goes_on t) t.hours) e where
  by_test : (a b : Bool)
      → stretch s ++ r ≡ (cond a (cond b [] (codes " of every " ++ nth_text (codes "hour") (step t.hours))) (codes " of " ++ counted_text (codes "hour") t.hours)) ++ q → ⊥
  by_test true true g = no_space q _ w (sym g)
  by_test true false g = unlike 102 111 _ _ refl (ap (drop 1) g)
  by_test false b g = unlike 102 111 _ _ refl (ap (drop 1) g)

no_colon : (r : List ℕ) → stops Numbers r ≡ true → (get_or r 0 0 == 58) ≡ false
unfolding stops
no_colon [] h = refl
no_colon (b ∷ r) h = by_test (b == 58) refl where
  by_test : (colon : Bool) → (b == 58) ≡ colon → (b == 58) ≡ false
  by_test false e = e
  by_test true e = absurd (false≢true (rw (eqb-true b 58 e) at h))

-- what stands behind numbers may stand behind a clock
pub behind_clock : (r : List ℕ) → stops Numbers r ≡ true → IsBehindClock r
behind_clock r h = record { digit = stops_digit Numbers r h; colon = no_colon r h }

follows : (s : Sets) → is_stretch s ≡ true → follow_on s.hours ≡ true
follows s x =
    let p = and_parts (is_on_the_minute s) _ x in
    let o = and_parts (goes_round units.minutes s.minutes) _ p.1 in
    (and_parts (follow_on s.hours) _ o.1).0

stretches_apart : (s t : Sets) (r q : List ℕ) → InUnits s → InUnits t → stops Numbers r ≡ true → stops Numbers q ≡ true
    → is_stretch s ≡ true → is_stretch t ≡ true → stretch s ++ r ≡ stretch t ++ q → (s.hours ≡ t.hours) × (r ≡ q)
stretches_apart s t r q a b h k x y e =
    let f = λ (z : Sets) (i : InUnits z). first_small units.hours z.hours is_unit-hours i.hours in
    let l = λ (z : Sets) (i : InUnits z). last_small units.hours z.hours is_unit-hours i.hours in
    let m = λ (z : Sets) (i : InUnits z). last_small units.minutes z.minutes is_unit-minutes i.minutes in
    let c = clocks_apart (first s.hours) 0 0 (first t.hours) 0 0 (codes " to " ++ (clock_text (last s.hours) (last s.minutes) 0 ++ r))
    (codes " to " ++ (clock_text (last t.hours) (last t.minutes) 0 ++ q)) (f s a, omega arith, omega arith) (f t b, omega arith, omega arith)
    (record { digit = refl; colon = refl }) (record { digit = refl; colon = refl })
    (append_cancel_left (codes " from ") _ _ (sym (stretch_on s r) ∙ (e ∙ stretch_on t q))) in
    let d = clocks_apart (last s.hours) (last s.minutes) 0 (last t.hours) (last t.minutes) 0 r q (l s a, m s a, omega arith) (l t b, m t b, omega arith)
    (behind_clock r h) (behind_clock q k) (append_cancel_left (codes " to ") _ _ c.1) in
    (followers_same s.hours t.hours (follows s x) (follows t y) c.0.0 d.0.0, d.1)

hours_apart : (s t : Sets) (r q : List ℕ) → InUnits s → InUnits t → s.seconds ≡ t.seconds → s.minutes ≡ t.minutes → stops Numbers r ≡ true
    → stops Numbers q ≡ true → NoSpace r → NoSpace q → hours_text s ++ r ≡ hours_text t ++ q → (s.hours ≡ t.hours) × (r ≡ q)
hours_apart s t r q a b o m h k v w e = by_test (is_stretch s) (is_stretch t) refl refl e where
  by_test : (x y : Bool) → is_stretch s ≡ x → is_stretch t ≡ y → (cond x (stretch s) (plain_hours s)) ++ r ≡ (cond y (stretch t) (plain_hours t)) ++ q
      → (s.hours ≡ t.hours) × (r ≡ q)
  by_test true true x y g = stretches_apart s t r q a b h k x y g
  by_test true false x y g = absurd (stretch_plain s t r q w g)
  by_test false true x y g = absurd (stretch_plain t s q r v (sym g))
  by_test false false x y g = plain_apart s t r q a b o m h k v w g

hours_stop : (s : Sets) (r : List ℕ) → stops Numbers r ≡ true → stops Numbers (hours_text s ++ r) ≡ true
unfolding stops
hours_stop s r h = by_test (is_stretch s) where
  by_test : (x : Bool) → stops Numbers ((cond x (stretch s) (plain_hours s)) ++ r) ≡ true
  by_test true = refl
  by_test false = next_stops (goes_on s) (codes "hour") units.hours s.hours r h

-- only minutes of second 0 are told in a stretch
hours_plain : (s : Sets) → is_on_the_minute s ≡ false → hours_text s ≡ plain_hours s
hours_plain s x = by_test (is_stretch s) refl where
  by_test : (y : Bool) → is_stretch s ≡ y → cond y (stretch s) (plain_hours s) ≡ plain_hours s
  by_test false y = refl
  by_test true y = absurd (false≢true (sym x ∙ (and_parts (is_on_the_minute s) _ y).0))

pub units_apart : (capital : Bool) (s t : Sets) (r q : List ℕ) → InUnits s → InUnits t → stops Numbers r ≡ true → stops Numbers q ≡ true → NoSpace r → NoSpace q
    → units_text capital s ++ r ≡ units_text capital t ++ q → SameTimes s t × (r ≡ q)
units_apart capital s t r q a b h k v w e =
    by_test (is_on_the_minute s) (is_on_the_minute t) refl refl
    (sym (append_assoc (minutes_text capital s) (hours_text s) r) ∙ (e ∙ append_assoc (minutes_text capital t) (hours_text t) q)) where
      later : (x : Sets) → List ℕ
      later x = next_unit (goes_round units.seconds x.seconds) (codes "minute") units.minutes x.minutes

      minute_text : Sets → List ℕ
      minute_text x = first_unit capital (codes "minute") units.minutes x.minutes

      plain_stop : (x : Sets) (y : List ℕ) → stops Numbers y ≡ true → stops Numbers (plain_hours x ++ y) ≡ true
      plain_stop x y z = next_stops (goes_on x) (codes "hour") units.hours x.hours y z

      end : s.seconds ≡ t.seconds → s.minutes ≡ t.minutes → hours_text s ++ r ≡ hours_text t ++ q → SameTimes s t × (r ≡ q)
      end x y g = let c = hours_apart s t r q a b x y h k v w g in ((x, y, c.0), c.1)

      by_test : (x y : Bool) → is_on_the_minute s ≡ x → is_on_the_minute t ≡ y
          → (cond x (minute_text s) (second_text capital s ++ later s)) ++ (hours_text s ++ r)
          ≡ (cond y (minute_text t) (second_text capital t ++ later t)) ++ (hours_text t ++ q) → SameTimes s t × (r ≡ q)
      by_test true true x y g =
          let c = first_apart capital units.minutes 109 inute s.minutes t.minutes (hours_text s ++ r) (hours_text t ++ q) minute_noun is_unit-minutes
          digital_minutes a.minutes b.minutes (hours_stop s r h) (hours_stop t q k) g in
          end (zero_alone s.seconds x ∙ sym (zero_alone t.seconds y)) c.0 c.1
      by_test true false x y g =
          absurd (firsts_differ capital s.minutes t.seconds _ _ (g ∙ append_assoc (second_text capital t) (later t) (hours_text t ++ q)))
      by_test false true x y g =
          absurd (firsts_differ capital t.minutes s.seconds _ _
          (sym g ∙ append_assoc (second_text capital s) (later s) (hours_text s ++ r)))
      by_test false false x y g =
          let c = first_apart capital units.seconds 115 (codes "econd") s.seconds t.seconds (later s ++ (plain_hours s ++ r)) (later t ++ (plain_hours t ++ q)) second_noun
          is_unit-seconds digital_seconds a.seconds b.seconds
          (next_stops (goes_round units.seconds s.seconds) (codes "minute") units.minutes s.minutes (plain_hours s ++ r) (plain_stop s r h))
          (next_stops (goes_round units.seconds t.seconds) (codes "minute") units.minutes t.minutes (plain_hours t ++ q) (plain_stop t q k))
          (sym (append_assoc (second_text capital s) (later s) (plain_hours s ++ r))
          ∙ (ap (λ (z : List ℕ). (second_text capital s ++ later s) ++ (z ++ r)) (sym (hours_plain s x))
          ∙ (g ∙ (ap (λ (z : List ℕ). (second_text capital t ++ later t) ++ (z ++ q)) (hours_plain t y)
          ∙ append_assoc (second_text capital t) (later t) (plain_hours t ++ q))))) in
          let d = minutes_apart (goes_round units.seconds t.seconds) s t r q a b h k v w
          (ap (λ (ns : List ℕ). next_unit (goes_round units.seconds ns) (codes "minute") units.minutes s.minutes ++ (plain_hours s ++ r)) (sym c.0) ∙ c.1) in
          let e = plain_apart s t r q a b c.0 d.0 h k v w d.1 in
          ((c.0, d.0, e.0), e.1)
