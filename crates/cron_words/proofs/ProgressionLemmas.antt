-- Progressions as they are read, and sets that are one.
use Rattle.std.proofs.Common.{◌≡◌, ◌==◌, ◌<◌, ◌≤◌, ◌+◌, ◌-◌, ◌^◌, ◌&&◌, nat_lt, ℕ, Bool, true, false, List, [], ◌∷◌, refl, sym, ap, ◌∙◌, arith}
use Rattle.std.proofs.lemmas.Bool.{eqb-true, false≢true, ltb-true}
use Rattle.cron_text.proofs.TokenRuns.{and_parts}
use Rattle.cron_units.specs.Units.{TimeUnit}
use Rattle.cron_words.specs.Progressions.{first, follow_on, goes_by, goes_round, is_progression, last, last_from, step}

-- the numbers before `a` were read
pub record Going (k start : ℕ) (all : List ℕ) (a : ℕ) (left : List ℕ) : Type 0 where
  pub steady : goes_by k start all ≡ goes_by k a left
  pub end : last_from start all ≡ last_from a left

pub going_on : (k start a n : ℕ) (all old rest : List ℕ) → (a + k == n) ≡ true → old ≡ n ∷ rest → Going k start all a old → Going k start all n rest
going_on k start a n all old rest next is g =
    record {
      steady = g.steady ∙ (ap (goes_by k a) is ∙ ap (λ (b : Bool). b && goes_by k n rest) next);
      end = g.end ∙ ap (last_from a) is;
    }

pub going_off : (k start a n : ℕ) (all old rest : List ℕ) → (a + k == n) ≡ false → old ≡ n ∷ rest → Going k start all a old → goes_by k start all ≡ false
going_off k start a n all old rest next is g = g.steady ∙ (ap (goes_by k a) is ∙ ap (λ (b : Bool). b && goes_by k n rest) next)

pub gone : (k start a : ℕ) (all begun rest : List ℕ) → begun ≡ all → rest ≡ [] → Going k start begun a rest
    → (goes_by k start all ≡ true) × (a ≡ last_from start all)
gone k start a all begun rest same none g =
    (ap (goes_by k start) (sym same) ∙ (g.steady ∙ ap (goes_by k a) none), sym (ap (last_from start) (sym same) ∙ (g.end ∙ ap (last_from a) none)))

-- ---- what goes round

pub no_round : (u : TimeUnit) (ns : List ℕ) → is_progression ns ≡ false → goes_round u ns ≡ false
unfolding goes_round
no_round u ns h = rw h refl

pub round_is : (u : TimeUnit) (ns : List ℕ) (f s l : ℕ) → is_progression ns ≡ true → f ≡ first ns → s ≡ step ns → l ≡ last ns
    → goes_round u ns ≡ (f == u.least && l + s == u.greatest + 1)
unfolding goes_round
round_is u ns f s l h begin stride end = rw (h, begin, stride, end) refl

-- ---- lists with the same numbers

last_above : (k n : ℕ) (ns : List ℕ) → goes_by k n ns ≡ true → n ≤ last_from n ns
last_above k n [] h = omega arith
last_above k n (m ∷ ns) h =
    let p = and_parts (n + k == m) (goes_by k m ns) h in
    let next : n + k ≡ m = eqb-true (n + k) m p.0 in
    let above = last_above k m ns p.1 in
    omega (arith, next, above)

-- numbers that begin alike, ascend by the same step and end alike
steps_same : (k n : ℕ) (ns ms : List ℕ) → 0 < k → goes_by k n ns ≡ true → goes_by k n ms ≡ true → last_from n ns ≡ last_from n ms → ns ≡ ms
steps_same k n [] [] l h g e = refl
steps_same k n [] (m ∷ ms) l h g e =
    let p = and_parts (n + k == m) (goes_by k m ms) g in
    let next : n + k ≡ m = eqb-true (n + k) m p.0 in
    absurd (omega (arith, next, last_above k m ms p.1, e, l))
steps_same k n (m ∷ ns) [] l h g e =
    let p = and_parts (n + k == m) (goes_by k m ns) h in
    let next : n + k ≡ m = eqb-true (n + k) m p.0 in
    absurd (omega (arith, next, last_above k m ns p.1, e, l))
steps_same k n (x ∷ ns) (y ∷ ms) l h g e =
    let p = and_parts (n + k == x) (goes_by k x ns) h in
    let q = and_parts (n + k == y) (goes_by k y ms) g in
    let same : x ≡ y = sym (eqb-true (n + k) x p.0) ∙ eqb-true (n + k) y q.0 in
    let rest : ns ≡ ms = steps_same k x ns ms l p.1 (rw same q.1) (e ∙ ap (λ (z : ℕ). last_from z ms) (sym same)) in
    rw (same, rest) refl

-- progressions with the same step and the same ends
pub progressions_same : (ns ms : List ℕ) → is_progression ns ≡ true → is_progression ms ≡ true → first ns ≡ first ms → step ns ≡ step ms
    → last ns ≡ last ms → ns ≡ ms
progressions_same [] ms h g f s e = absurd (false≢true h)
progressions_same (n ∷ []) ms h g f s e = absurd (false≢true h)
progressions_same (n ∷ a ∷ ns) [] h g f s e = absurd (false≢true g)
progressions_same (n ∷ a ∷ ns) (m ∷ []) h g f s e = absurd (false≢true g)
progressions_same (n ∷ a ∷ ns) (m ∷ b ∷ ms) h g f s e =
    let p = and_parts (nat_lt n a) (goes_by (a - n) a ns) h in
    let q = and_parts (nat_lt m b) (goes_by (b - m) b ms) g in
    let above : n < a = ltb-true n a p.0 in
    let begin : n ≡ m = f in
    let stride : a - n ≡ b - m = s in
    let same : a ≡ b = omega arith in
    let rest : ns ≡ ms = steps_same (a - n) a ns ms (omega arith) p.1 (rw (stride, same) q.1) (e ∙ ap (λ (z : ℕ). last_from z ms) (sym same)) in
    rw (begin, same, rest) refl

-- sets of a unit that go round it by the same step
pub rounds_same : (u : TimeUnit) (ns ms : List ℕ) → goes_round u ns ≡ true → goes_round u ms ≡ true → step ns ≡ step ms → ns ≡ ms
unfolding goes_round
rounds_same u ns ms h g s =
    let p = and_parts (is_progression ns) (first ns == u.least && last ns + step ns == u.greatest + 1) h in
    let q = and_parts (is_progression ms) (first ms == u.least && last ms + step ms == u.greatest + 1) g in
    let a = and_parts (first ns == u.least) (last ns + step ns == u.greatest + 1) p.1 in
    let b = and_parts (first ms == u.least) (last ms + step ms == u.greatest + 1) q.1 in
    let begin : first ns ≡ first ms = eqb-true (first ns) u.least a.0 ∙ sym (eqb-true (first ms) u.least b.0) in
    let end_ns : last ns + step ns ≡ u.greatest + 1 = eqb-true (last ns + step ns) (u.greatest + 1) a.1 in
    let end_ms : last ms + step ms ≡ u.greatest + 1 = eqb-true (last ms + step ms) (u.greatest + 1) b.1 in
    progressions_same ns ms p.0 q.0 begin s (omega (arith, end_ns, end_ms, s))

-- the step of such a set is at most the number that comes round
pub round_step_fits : (u : TimeUnit) (ns : List ℕ) → u.greatest + 1 < 2 ^ 32 → goes_round u ns ≡ true → step ns < 2 ^ 32
unfolding goes_round
round_step_fits u ns l h =
    let p = and_parts (is_progression ns) (first ns == u.least && last ns + step ns == u.greatest + 1) h in
    let a = and_parts (first ns == u.least) (last ns + step ns == u.greatest + 1) p.1 in
    let end : last ns + step ns ≡ u.greatest + 1 = eqb-true (last ns + step ns) (u.greatest + 1) a.1 in
    omega (arith, end, l)

-- numbers that follow one another, with the same ends
pub followers_same : (ns ms : List ℕ) → follow_on ns ≡ true → follow_on ms ≡ true → first ns ≡ first ms → last ns ≡ last ms → ns ≡ ms
followers_same [] ms h g f e = absurd (false≢true h)
followers_same (n ∷ ns) [] h g f e = absurd (false≢true g)
followers_same (n ∷ ns) (m ∷ ms) h g f e =
    let begin : n ≡ m = f in
    let rest : ns ≡ ms = steps_same 1 n ns ms (omega arith) h (rw begin g) (e ∙ ap (λ (z : ℕ). last_from z ms) (sym begin)) in
    rw (begin, rest) refl
