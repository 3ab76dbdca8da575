-- Where a stretch of one offset lies far enough from the others, its civil seconds are in order.
use Rattle.std.proofs.Common.{◌≡◌, ℕ, zero, suc, ◌+◌, ◌<◌, ◌≤◌, ℤ, pos, negsuc, ◌+ℤ◌, ◌≤ℤ◌, ◌<ℤ◌, int_lt, Bool, true, false, [], ◌∷◌, Some, None, ◌⊎◌, inl, inr, refl, sym, ap, subst, ◌∙◌, arith}
use Rattle.std.specs.Prelude.{slice_get}
use Rattle.std.specs.Int.{int_min}
use Rattle.std.proofs.lemmas.Bool.{cases_lt}
use Rattle.std.proofs.lemmas.Int.{clamps, ints}
use borrow.Author.Differences.{lt-true, lt-false}
use Rattle.jiff_core.proofs.SignedLemmas.{signed_arith}
use Rattle.jiff_core.specs.declared.Offset.{Offset}
use Rattle.jiff_tz.specs.declared.timezone.TimeZone.{TimeZone}
use Rattle.cron_clocks.specs.Steady.{IsKnown, readings_at}
use Rattle.cron_clocks.specs.declared.stretch.Stretch.{Stretch}
use Rattle.cron_moments.specs.Civil.{seconds_in_range}
use Rattle.cron_moments.specs.Readings.{Reading, reading, readings}
use Rattle.cron_time.proofs.PlaceLemmas.{nothing_in_nil}
use Rattle.cron_instants.specs.Monotone.{IsMonotone, IsInOrder, IsSettled}
use Rattle.cron_instants.specs.OffsetRange.{IsRead, IsOffsetRange, width}
use Rattle.cron_instants.specs.declared.monotone.Monotone.{Monotone}
use Rattle.cron_instants.specs.declared.offset_range.OffsetRange.{OffsetRange}

pub only_reading : (q r : Reading) (i : ℕ) → slice_get (q ∷ []) i ≡ Some r → r ≡ q
only_reading q r zero e = cc
only_reading q r (suc i) e = absurd (nothing_in_nil i r e)

-- what is at most each of two numbers is at most the lesser
pub at_most_lesser : (n x y r : ℤ) → r ≡ int_min x y → n ≤ℤ x → n ≤ℤ y → n ≤ℤ r
at_most_lesser n x y r e h k = rw e (omega (arith, ints, clamps))

pub sides : (x y : ℤ) → (x <ℤ y) ⊎ (y ≤ℤ x)
sides x y = by_test (int_lt x y) refl
  where
    by_test : (t : Bool) → int_lt x y ≡ t → (x <ℤ y) ⊎ (y ≤ℤ x)
    by_test true is = let less = lt-true x y is in inl (omega (arith, signed_arith))
    by_test false is = let more = lt-false x y is in inr (omega (arith, signed_arith))

module _ (z : TimeZone) (p : OffsetRange) (st : Stretch) (o : Offset) (offset_range : IsOffsetRange z p) (known : IsKnown z st) (one : st.earlier ≡ Some o)
    (alone : st.later ≡ None) where
  once : (k : ℕ) → st.first ≤ k → k < st.end → readings z k ≡ reading k o ∷ []
  once k low high = known k low high ∙ ap (λ v. readings_at k v st.later) one ∙ ap (readings_at k (Some o)) alone

  read : (k : ℕ) → k < seconds_in_range → st.first ≤ k → k < st.end → IsRead z (reading k o)
  read k range low high = record { in_range = range; place = 0; here = ap (λ l. slice_get l 0) (once k low high) }

  -- a reading of the stretch is at its offset
  at_offset : (q : Reading) → IsRead z q → st.first ≤ q.second → q.second < st.end → q.offset.seconds ≡ o.seconds
  at_offset q h low high =
      ap (λ (r : Reading). r.offset.seconds) (only_reading (reading q.second o) q h.place (ap (λ l. slice_get l h.place) (sym
      (once q.second low high)) ∙ h.here))

  module _ (c : ℕ) (range : c < seconds_in_range) (low : st.first ≤ c) (high : c < st.end) where
    -- before the edge those before it are read earlier
    settled_before : pos c <ℤ p.edge → IsSettled z c o
    settled_before short = record {
      once = once c low high;
      behind = λ q h less. offset_range.ordered q (reading c o) h (read c range low high) less short (inr (once c low high));
    }

    -- and those after it later, where the stretch goes on far enough
    ordered_before : (k : ℕ) → pos k ≡ pos c +ℤ width p → k < st.end → k < seconds_in_range → pos k <ℤ p.edge → IsInOrder z c o
    ordered_before k far inside within short =
        let some = offset_range.some in record {
          settled = settled_before (omega (arith, signed_arith));
          ahead = λ q h more. elim (sides (pos q.second) p.edge) [
            | inl less ↦ offset_range.ordered (reading c o) q (read c range low high) h more less (inl (once c low high))
            | inr past ↦
                let late = offset_range.upto (reading k o) q (read k within (omega (arith, signed_arith)) inside) h short past (once k (omega
                (arith, signed_arith)) inside) in
                omega (arith, signed_arith)
          ];
        }

    -- and where the edge lies so far ahead that what is read behind it is read later
    ordered_far : (pos c +ℤ pos 187_200) ≤ℤ p.edge → IsInOrder z c o
    ordered_far far = record {
      settled = settled_before (omega (arith, signed_arith));
      ahead = λ q h more. elim (sides (pos q.second) p.edge) [
        | inl less ↦ offset_range.ordered (reading c o) q (read c range low high) h more less (inl (once c low high))
        | inr past ↦
            let near = q.offset.in_range in
            let own = o.in_range in
            omega (arith, signed_arith, near, own)
      ];
    }

    -- past the edge they are, where the stretch begins long enough before
    settled_past : (pos st.first +ℤ width p) ≤ℤ pos c → (p.edge +ℤ width p) ≤ℤ pos c → IsSettled z c o
    settled_past begun over = record {
      once = once c low high;
      behind = λ q h less. elim (cases_lt q.second st.first) [
        | inl out ↦ elim (sides (pos q.second) p.edge) [
          | inl short ↦ offset_range.past q (reading c o) h (read c range low high) short over
          | inr past ↦
              let one_end = offset_range.among q h past in
              let some = offset_range.some in
              let other = offset_range.among (reading c o) (read c range low high) (omega (arith, signed_arith)) in
              omega (arith, signed_arith, one_end.0, one_end.1, other.0, other.1)
        ]
        | inr inside ↦ let same = at_offset q h inside (omega arith) in omega (arith, signed_arith)
      ];
    }

    -- and those after it later, where it ends long enough after
    ordered_past : (pos st.first +ℤ width p) ≤ℤ pos c → (p.edge +ℤ width p) ≤ℤ pos c → (pos c +ℤ width p) <ℤ pos st.end → IsInOrder z c o
    ordered_past begun over far = record {
      settled = settled_past begun over;
      ahead = λ q h more. elim (cases_lt q.second st.end) [
        | inl inside ↦ let same = at_offset q h (omega arith) inside in omega (arith, signed_arith)
        | inr out ↦
            let some = offset_range.some in
            let one_end = offset_range.among q h (omega (arith, signed_arith)) in
            let other = offset_range.among (reading c o) (read c range low high) (omega (arith, signed_arith)) in
            omega (arith, signed_arith, one_end.0, one_end.1, other.0, other.1)
      ];
    }

nat_of : (x : ℤ) → pos 0 ≤ℤ x → (n : ℕ) × (x ≡ pos n)
nat_of (pos n) h = (n, refl)
nat_of (negsuc n) h = absurd (omega (arith, signed_arith))

module _ (z : TimeZone) (p : OffsetRange) (st : Stretch) (o : Offset) (offset_range : IsOffsetRange z p) (known : IsKnown z st) (one : st.earlier ≡ Some o)
    (alone : st.later ≡ None)
    (c : ℕ) (range : c < seconds_in_range) (low : st.first ≤ c) (high : c < st.end) (end : ℤ) (within : end ≤ℤ pos st.end)
    (short : end ≤ℤ pos seconds_in_range)
    (monotone : Monotone) (offset : monotone.offset ≡ o) (upto : (k : ℕ) → k < monotone.end → (pos k +ℤ width p) <ℤ end) where
  -- a stretch before the edge is monotone up to its end or the edge
  before_by : end ≤ℤ p.edge → (k : ℕ) → c ≤ k → k < monotone.end → (w : ℕ) × (width p ≡ pos w) → IsInOrder z k o
  before_by less k from to w =
      let wide = w.1 in
      let far = upto k to in
      ordered_before z p st o offset_range known one alone k (omega (arith, signed_arith)) (omega arith) (omega (arith, signed_arith)) (k + w.0)
      (omega (arith, signed_arith)) (omega (arith, signed_arith)) (omega (arith, signed_arith)) (omega (arith, signed_arith))

  pub monotone_before : pos c <ℤ p.edge → end ≤ℤ p.edge → IsMonotone z c monotone
  monotone_before here less =
      let some = offset_range.some in record {
        settled = subst (IsSettled z c) (sym offset) (settled_before z p st o offset_range known one alone c range low high here);
        on = λ k from to. subst (IsInOrder z k) (sym offset) (before_by less k from to (nat_of (width p) (omega (arith, signed_arith))));
      }

  -- one past the edge is, where it has begun long enough before
  pub monotone_past : (pos st.first +ℤ width p) ≤ℤ pos c → (p.edge +ℤ width p) ≤ℤ pos c → IsMonotone z c monotone
  monotone_past begun over =
      let some = offset_range.some in record {
        settled = subst (IsSettled z c) (sym offset) (settled_past z p st o offset_range known one alone c range low high begun over);
        on = λ k from to.
            let far = upto k to in
            subst (IsInOrder z k) (sym offset) (ordered_past z p st o offset_range known one alone k (omega (arith, signed_arith)) (omega arith) (omega
            (arith, signed_arith))
            (omega (arith, signed_arith)) (omega (arith, signed_arith)) (omega (arith, signed_arith)));
      }

-- and a stretch far before the edge is monotone up to its end
pub monotone_far : (z : TimeZone) (p : OffsetRange) (st : Stretch) (o : Offset) → IsOffsetRange z p → IsKnown z st → st.earlier ≡ Some o → st.later ≡ None
    → (c : ℕ) → st.first ≤ c → c < st.end → (end : ℤ) → pos c <ℤ end → end ≤ℤ pos st.end → end ≤ℤ pos seconds_in_range → (end +ℤ pos 187_200) ≤ℤ p.edge
    → (monotone : Monotone) → monotone.offset ≡ o → ((k : ℕ) → k < monotone.end → pos k <ℤ end) → IsMonotone z c monotone
monotone_far z p st o offset_range known one alone c low high end here within short far monotone offset upto = record {
  settled = subst (IsSettled z c) (sym offset)
      (settled_before z p st o offset_range known one alone c (omega (arith, signed_arith)) low high (omega (arith, signed_arith)));
  on = λ k from to.
      let before = upto k to in
      subst (IsInOrder z k) (sym offset)
      (ordered_far z p st o offset_range known one alone k (omega (arith, signed_arith)) (omega arith) (omega (arith, signed_arith)) (omega (arith, signed_arith)));
}
