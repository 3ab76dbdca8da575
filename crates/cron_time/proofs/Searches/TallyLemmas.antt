-- Counting the numbers of a kind below a limit.
use Rattle.std.proofs.Common.{◌≡◌, ℕ, zero, suc, ◌+◌, ◌-◌, ◌*◌, ◌/◌, ◌%◌, ◌<◌, ◌≤◌, ◌⊎◌, ◌↔◌, Bool, true, false, ◌&&◌, ◌||◌, cond, nat_eq, nat_lt, nat_le, ℤ, Option, Some, None, subst, add-zero, refl, sym, ◌∙◌, inl, inr, arith}
use Rattle.std.specs.Prelude.{count_by}
use Rattle.std.proofs.lemmas.Bool.{lt-ltb, le-ltb, ltb-true, le-leb, leb-true, and_parts, and_from, and_left, both_ways, eqb-true, ne_eqb, or_cases, or_left, or_right, eq-eqb, cases_eq}
use Rattle.std.proofs.lemmas.List.Sums.{sum_by_push}
use Rattle.cron_units.specs.declared.way.Way.{Way}
use Rattle.cron_units.specs.declared.way.Way.TheVariants.{Ahead, Back}
use Rattle.cron_units.specs.Nearest.{LiesFrom, Precedes, IsNearest}
use Rattle.cron_time.specs.Search.Inner.Numbers.{beyond}
use Rattle.cron_time.specs.Search.Inner.Tally.{IsTally, Adds, IsPassedBefore, IsPassedTo}
use Rattle.std.proofs.lemmas.Nat.{div-add-mod'}
use Rattle.cron_time.proofs.Searches.BlockLemmas.{div_of, mod_of}
use Rattle.cron_time.proofs.Searches.WayLemmas.{side, before, same, after, after_beyond, precedes_along}
use Rattle.cron_time.specs.Search.Counts.{Stretch, count_within}
use Rattle.cron_time.specs.Seconds.{numbers_below}

pub count_step : (p : ℕ → Bool) (n : ℕ) → count_by p (numbers_below (suc n)) ≡ count_by p (numbers_below n) + cond (p n) 1 0
unfolding numbers_below
count_step p n = sum_by_push (λ k. cond (p k) 1 0) (numbers_below n) n

count_zero : (p : ℕ → Bool) → count_by p (numbers_below zero) ≡ 0
unfolding numbers_below
count_zero p = refl

pub count_same : (p q : ℕ → Bool) (n : ℕ) → ((k : ℕ) → k < n → p k ≡ q k) → count_by p (numbers_below n) ≡ count_by q (numbers_below n)
count_same p q zero h = count_zero p ∙ sym (count_zero q)
count_same p q (suc n) h =
    let below = count_same p q n (λ k lt. h k (omega arith)) in
    let here : p n ≡ q n = h n (omega arith) in
    count_step p n ∙ (rw (below, here) (sym (count_step q n)))

count_sum : (p q r : ℕ → Bool) (n : ℕ) → ((k : ℕ) → k < n → cond (p k) 1 0 + cond (q k) 1 0 ≡ cond (r k) 1 0)
    → count_by p (numbers_below n) + count_by q (numbers_below n) ≡ count_by r (numbers_below n)
count_sum p q r zero h = rw (count_zero p, count_zero q, count_zero r) refl
count_sum p q r (suc n) h =
    omega (arith, count_sum p q r n (λ k lt. h k (omega arith)), h n (omega arith), count_step p n, count_step q n, count_step r n)

count_none : (n : ℕ) → count_by (λ k. false) (numbers_below n) ≡ 0
count_none zero = count_zero (λ k. false)
count_none (suc n) = count_step (λ k. false) n ∙ rw (count_none n) refl

count_bound : (p : ℕ → Bool) (n : ℕ) → count_by p (numbers_below n) ≤ n
count_bound p zero = rw (count_zero p) (omega arith)
count_bound p (suc n) =
    let here : cond (p n) 1 0 ≤ 1 = grind arith in
    omega (arith, count_bound p n, count_step p n, here)

count_one_past : (a n : ℕ) → n ≤ a → count_by (λ k. nat_eq k a) (numbers_below n) ≡ 0
count_one_past a n h = count_same (λ k. nat_eq k a) (λ k. false) n (λ k lt. ne_eqb k a (λ e. omega arith)) ∙ count_none n

count_one : (a n : ℕ) → a < n → count_by (λ k. nat_eq k a) (numbers_below n) ≡ 1
count_one a zero h = absurd (omega arith)
count_one a (suc n) h =
    elim (cases_eq n a) [
      | inl e ↦ count_step (λ k. nat_eq k a) n ∙ rw (count_one_past a n (omega arith), eq-eqb n a e) refl
      | inr ne ↦ count_step (λ k. nat_eq k a) n ∙ rw (count_one a n (omega (arith, ne)), ne_eqb n a ne) refl
    ]

-- two tests that tell the same agree
same_tests : (p q : Bool) → ((p ≡ true) ↔ (q ≡ true)) → p ≡ q
same_tests true q h = sym (h.0 refl)
same_tests false true h = h.1 refl
same_tests false false h = refl

pub kind_same : (limit : ℕ) (P Q : ℕ → Type 0) (count : ℕ) → ((k : ℕ) → k < limit → P k → Q k) → ((k : ℕ) → k < limit → Q k → P k) → IsTally limit P count
    → IsTally limit Q count
kind_same limit P Q count to back h = record {
  test = h.test;
  tells = λ k lt. (λ e. to k lt ((h.tells k lt).0 e), λ q. (h.tells k lt).1 (back k lt q));
  total = h.total;
}

pub kind_none : (limit : ℕ) (P : ℕ → Type 0) → ((k : ℕ) → k < limit → P k → ⊥) → IsTally limit P 0
kind_none limit P none = record {
  test = λ k. false;
  tells = λ k lt. (λ e. cc, λ p. absurd (none k lt p));
  total = sym (count_none limit);
}

pub kind_one : (limit : ℕ) (P : ℕ → Type 0) (a : ℕ) → a < limit → P a → ((k : ℕ) → k < limit → P k → k ≡ a) → IsTally limit P 1
kind_one limit P a lt here only = record {
  test = λ k. nat_eq k a;
  tells = λ k below. (λ e. rw (eqb-true k a e) here, λ p. eq-eqb k a (only k below p));
  total = sym (count_one a limit lt);
}

either : (p q : Bool) → ((p ≡ true) → (q ≡ true) → ⊥) → cond p 1 0 + cond q 1 0 ≡ cond (p || q) 1 0
either true true h = absurd (h refl refl)
either true false h = refl
either false true h = refl
either false false h = refl

pub kind_joined : (limit : ℕ) (P Q R : ℕ → Type 0) (a b : ℕ) → IsTally limit P a → IsTally limit Q b → ((k : ℕ) → k < limit → P k → Q k → ⊥)
    → ((k : ℕ) → k < limit → P k ⊎ Q k → R k) → ((k : ℕ) → k < limit → R k → P k ⊎ Q k) → IsTally limit R (a + b)
kind_joined limit P Q R a b p q apart to back = record {
  test = λ k. p.test k || q.test k;
  tells = λ k lt. (
    λ e. to k lt (elim (or_cases (p.test k) (q.test k) e) [ inl x ↦ inl ((p.tells k lt).0 x) | inr y ↦ inr ((q.tells k lt).0 y) ]),
    λ r. elim (back k lt r) [ inl x ↦ or_left (p.test k) (q.test k) ((p.tells k lt).1 x) | inr y ↦ or_right (p.test k) (q.test k) ((q.tells k lt).1 y) ],
  );
  total = rw (p.total, q.total) (count_sum p.test q.test (λ k. p.test k || q.test k) limit
      (λ k lt. either (p.test k) (q.test k) (λ x y. apart k lt ((p.tells k lt).0 x) ((q.tells k lt).0 y))));
}

pub kind_bound : (limit : ℕ) (P : ℕ → Type 0) (a : ℕ) → IsTally limit P a → a ≤ limit
kind_bound limit P a h = rw h.total (count_bound h.test limit)

pub kind_total : (limit : ℕ) (P : ℕ → Type 0) (a : ℕ) (test : ℕ → Bool) → IsTally limit P a → ((k : ℕ) → k < limit → (test k ≡ true) ↔ P k)
    → a ≡ count_by test (numbers_below limit)
kind_total limit P a test h tells =
    h.total ∙ count_same h.test test limit (λ k lt. same_tests (h.test k) (test k) (
      λ e. (tells k lt).1 ((h.tells k lt).0 e),
      λ e. (h.tells k lt).1 ((tells k lt).0 e),
    ))

-- what a search has passed before the first number, the next one, the answer and the end
pub passed_start : (way : Way) (limit : ℕ) (test : ℕ → Bool) (start : ℤ) (next : Option ℕ) → IsNearest way test start next
    → IsTally limit (IsPassedBefore way test start next) 0
passed_start way limit test start None h = kind_none limit _ (λ k lt p. both_ways (test k) (h k p.lies) p.passes)
passed_start way limit test start (Some n) h = kind_none limit _ (λ k lt p. both_ways (test k) (h.nearest k p.lies p.until) p.passes)

passed_one : (limit n : ℕ) → n < limit → IsTally limit (λ k. k ≡ n) 1
passed_one limit n lt = kind_one limit (λ k. k ≡ n) n lt refl (λ k below e. e)

not_itself : (way : Way) (n : ℕ) → Precedes way n n → ⊥
not_itself Ahead n h = omega arith
not_itself Back n h = omega arith

apart_from : (way : Way) (test : ℕ → Bool) (start : ℤ) (n k : ℕ) → IsPassedBefore way test start (Some n) k → k ≡ n → ⊥
apart_from way test start n k p e =
    let P : ℕ → Type 0 = λ x. Precedes way x n in not_itself way n (subst P e p.until)

-- the number itself is passed
pub itself : (way : Way) (test : ℕ → Bool) (start : ℤ) (n : ℕ) (next : Option ℕ) → test n ≡ true → LiesFrom way start n
    → IsNearest way test (beyond way n) next → IsPassedBefore way test start next n
itself way test start n None passes lies h = record { passes = passes; lies = lies; until = tt }
itself way test start n (Some m) passes lies h = record { passes = passes; lies = lies; until = after_beyond way n m h.lies }

earlier : (way : Way) (test : ℕ → Bool) (start : ℤ) (n k : ℕ) (next : Option ℕ) → IsNearest way test (beyond way n) next
    → IsPassedBefore way test start (Some n) k → IsPassedBefore way test start next k
earlier way test start n k None h p = record { passes = p.passes; lies = p.lies; until = tt }
earlier way test start n k (Some m) h p = record { passes = p.passes; lies = p.lies; until = precedes_along way k n m p.until (after_beyond way n m h.lies) }

no_other : (way : Way) (test : ℕ → Bool) (start : ℤ) (n k : ℕ) (next : Option ℕ) → IsNearest way test (beyond way n) next
    → IsPassedBefore way test start next k → LiesFrom way (beyond way n) k → ⊥
no_other way test start n k None h p lies = both_ways (test k) (h k lies) p.passes
no_other way test start n k (Some m) h p lies = both_ways (test k) (h.nearest k lies p.until) p.passes

pub passed_next : (way : Way) (limit : ℕ) (test : ℕ → Bool) (start : ℤ) (n count : ℕ) (next : Option ℕ) → n < limit → test n ≡ true → LiesFrom way start n
    → IsNearest way test (beyond way n) next → IsTally limit (IsPassedBefore way test start (Some n)) count
    → IsTally limit (IsPassedBefore way test start next) (count + 1)
passed_next way limit test start n count next lt passes lies h counted =
    kind_joined limit (IsPassedBefore way test start (Some n)) (λ k. k ≡ n) (IsPassedBefore way test start next) count 1 counted (passed_one limit n lt)
    (λ k below p e. apart_from way test start n k p e)
    (λ k below e. elim e [
      | inl p ↦ earlier way test start n k next h p
      | inr same_n ↦ let P : ℕ → Type 0 = IsPassedBefore way test start next in subst P (sym same_n) (itself way test start n next passes lies h)
    ])
    (λ k below p. elim (side way n k) [
      | before early ↦ inl (record { passes = p.passes; lies = p.lies; until = early })
      | same e ↦ inr e
      | after past gt ↦ absurd (no_other way test start n k next h p past)
    ])

pub passed_found : (way : Way) (limit : ℕ) (test : ℕ → Bool) (start : ℤ) (n count : ℕ) → n < limit → test n ≡ true → LiesFrom way start n
    → IsTally limit (IsPassedBefore way test start (Some n)) count → IsTally limit (IsPassedTo way test start (Some n)) (count + 1)
passed_found way limit test start n count lt passes lies counted =
    kind_joined limit (IsPassedBefore way test start (Some n)) (λ k. k ≡ n) (IsPassedTo way test start (Some n)) count 1 counted (passed_one limit n lt)
    (λ k below p e. apart_from way test start n k p e)
    (λ k below e. elim e [
      | inl p ↦ record { passes = p.passes; lies = p.lies; until = inl p.until }
      | inr same_n ↦ let P : ℕ → Type 0 = IsPassedTo way test start (Some n) in subst P (sym same_n) (record { passes = passes; lies = lies; until = inr refl })
    ])
    (λ k below p. elim p.until [
      | inl early ↦ inl (record { passes = p.passes; lies = p.lies; until = early })
      | inr e ↦ inr e
    ])

-- the numbers of one block, counted by their rests
pub count_add : (p : ℕ → Bool) (a n : ℕ) → count_by p (numbers_below (a + n)) ≡ count_by p (numbers_below a) + count_by (λ r. p (a + r)) (numbers_below n)
count_add p a zero = rw (count_zero (λ r. p (a + r))) (rw (add-zero a) (sym (add-zero _)))
count_add p a (suc n) =
    let e : a + suc n ≡ suc (a + n) = omega arith in
    let P : ℕ → Type 0 = λ m. count_by p (numbers_below m) ≡ count_by p (numbers_below a) + count_by (λ r. p (a + r)) (numbers_below (suc n)) in
    subst P (sym e) (omega (arith, count_add p a n, count_step p (a + n), count_step (λ r. p (a + r)) n))

past_block : (w day r : ℕ) → 0 < w → (day * w + (w + r)) / w * w ≡ day * w → ⊥
past_block w day r h q = omega (arith, div-add-mod' (day * w + (w + r)) w)

count_block : (w day rest : ℕ) (p : ℕ → Bool) → 0 < w → count_by (λ k. nat_eq (k / w) day && p (k % w)) (numbers_below (day * w + (w + rest)))
    ≡ count_by p (numbers_below w)
count_block w day rest p positive =
    let t : ℕ → Bool = λ k. nat_eq (k / w) day && p (k % w) in
    let below : count_by t (numbers_below (day * w)) ≡ 0 = count_same t (λ k. false) (day * w)
    (λ k lt. and_left (nat_eq (k / w) day) (p (k % w)) (ne_eqb (k / w) day (λ e. let q : k / w * w ≡ day * w = rw e refl in
    omega (arith, div-add-mod' k w, q)))) ∙ count_none (day * w) in
    let here : count_by (λ r. t (day * w + r)) (numbers_below w)
    ≡ count_by p (numbers_below w) = count_same (λ r. t (day * w + r)) p w
    (λ r lt. rw (div_of w day r lt, mod_of w day r lt) (rw (eq-eqb day day refl) refl)) in
    let past : count_by (λ r. t (day * w + (w + r))) (numbers_below rest)
    ≡ 0 = count_same (λ r. t (day * w + (w + r))) (λ k. false) rest
    (λ r lt. and_left (nat_eq ((day * w + (w + r)) / w) day) (p ((day * w + (w + r)) % w))
    (ne_eqb ((day * w + (w + r)) / w) day (λ e. let q : (day * w + (w + r)) / w * w ≡ day * w = rw e refl in past_block w day r positive q)))
    ∙ count_none rest in
    omega (arith, count_add t (day * w) (w + rest), count_add (λ r. t (day * w + r)) w rest, below, here, past)

pub kind_block : (limit w day : ℕ) (P : ℕ → Type 0) (count : ℕ) → day * w + w ≤ limit → 0 < w → IsTally w P count
    → IsTally limit (λ k. (k / w ≡ day) × P (k % w)) count
kind_block limit w day P count fits positive h = record {
  test = λ k. nat_eq (k / w) day && h.test (k % w);
  tells = λ k lt. (
    λ e. let both = and_parts (nat_eq (k / w) day) (h.test (k % w)) e in (eqb-true (k / w) day both.0, (h.tells (k % w) (omega arith)).0 both.1),
    λ p. and_from (nat_eq (k / w) day) (h.test (k % w)) (eq-eqb (k / w) day p.0) ((h.tells (k % w) (omega arith)).1 p.1),
  );
  total =
      let e : day * w + (w + (limit - (day * w + w))) ≡ limit = omega arith in
      let Q : ℕ → Type 0 = λ n. count ≡ count_by (λ k. nat_eq (k / w) day && h.test (k % w)) (numbers_below n) in
      subst Q e (h.total ∙ sym (count_block w day (limit - (day * w + w)) h.test positive));
}

-- there is one count of a kind
pub kind_unique : (limit : ℕ) (P : ℕ → Type 0) (a b : ℕ) → IsTally limit P a → IsTally limit P b → a ≡ b
kind_unique limit P a b h g = kind_total limit P a g.test h g.tells ∙ sym g.total

-- the count of a stretch counts the numbers of the stretch that pass
count_cut : (test : ℕ → Bool) (to rest : ℕ) → count_by (λ k. nat_lt k to && test k) (numbers_below (to + rest)) ≡ count_by test (numbers_below to)
count_cut test to rest =
    let t : ℕ → Bool = λ k. nat_lt k to && test k in
    let inside : count_by t (numbers_below to) ≡ count_by test (numbers_below to) = count_same t test to (λ k lt. rw (lt-ltb k to lt) refl) in
    let outside : count_by (λ r. t (to + r)) (numbers_below rest)
    ≡ 0 = count_same (λ r. t (to + r)) (λ k. false) rest (λ r lt. and_left (nat_lt (to + r) to) (test (to + r)) (le-ltb (to + r) to (omega arith)))
    ∙ count_none rest in
    omega (arith, count_add t to rest, inside, outside)

pub within_kind : (limit : ℕ) (test : ℕ → Bool) (s : Stretch) → s.to ≤ limit
    → IsTally limit (λ k. (s.from ≤ k) × (k < s.to) × (test k ≡ true)) (count_within test s)
unfolding count_within
within_kind limit test s fits = record {
  test = λ k. nat_lt k s.to && (nat_le s.from k && test k);
  tells = λ k lt. (
    λ e. let both = and_parts (nat_lt k s.to) (nat_le s.from k && test k) e in
        let more = and_parts (nat_le s.from k) (test k) both.1 in (leb-true s.from k more.0, ltb-true k s.to both.0, more.1),
    λ p. and_from (nat_lt k s.to) (nat_le s.from k && test k) (lt-ltb k s.to p.1) (and_from (nat_le s.from k) (test k) (le-leb s.from k p.0) p.2),
  );
  total =
      let inner : ℕ → Bool = λ n. nat_le s.from n && test n in
      let e : s.to + (limit - s.to) ≡ limit = omega arith in
      let Q : ℕ → Type 0 = λ n. count_by inner (numbers_below s.to) ≡ count_by (λ k. nat_lt k s.to && inner k) (numbers_below n) in
      subst Q e (sym (count_cut inner s.to (limit - s.to)));
}

-- a count that stayed, and one that went on by one
pub adds_none : (limit : ℕ) (Kind : ℕ → Type 0) (old new : ℕ) → new ≡ old → IsTally limit Kind 0 → Adds limit Kind old new
adds_none limit Kind old new e h = record { count = 0; is = e ∙ sym (add-zero old); tally = h }

pub adds_more : (limit : ℕ) (P Q : ℕ → Type 0) (old mid new : ℕ) (h : Adds limit P old mid) → new ≡ mid + 1 → IsTally limit Q (h.count + 1)
    → Adds limit Q old new
adds_more limit P Q old mid new h e t = record { count = h.count + 1; is = omega (arith, h.is, e); tally = t }

-- a count is one of another kind too
pub adds_as : (limit more : ℕ) (P Q : ℕ → Type 0) (old mid new : ℕ) (h : Adds limit P mid new) → mid ≡ old → IsTally more Q h.count → Adds more Q old new
adds_as limit more P Q old mid new h e t = record { count = h.count; is = omega (arith, h.is, e); tally = t }

-- two counts one after the other
pub adds_on : (limit : ℕ) (P Q R : ℕ → Type 0) (old mid new : ℕ) (h : Adds limit P old mid) (k : Adds limit Q mid new)
    → IsTally limit R (h.count + k.count) → Adds limit R old new
adds_on limit P Q R old mid new h k t = record { count = h.count + k.count; is = omega (arith, h.is, k.is); tally = t }

-- what was passed before the end was passed as far as no answer
pub passed_none : (way : Way) (test : ℕ → Bool) (start : ℤ) (count : ℕ) {limit : ℕ} → IsTally limit (IsPassedBefore way test start None) count
    → IsTally limit (IsPassedTo way test start None) count
passed_none way test start count {limit} h =
    kind_same limit _ _ count (λ k lt p. record { passes = p.passes; lies = p.lies; until = tt })
    (λ k lt p. record { passes = p.passes; lies = p.lies; until = tt }) h
