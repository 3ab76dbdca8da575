-- The next match after an item about which the clock and the instants have one order is the next item.
use Rattle.std.proofs.Common.{◌≡◌, ℕ, ◌<◌, ◌≤◌, ℤ, pos, ◌+ℤ◌, ◌-ℤ◌, Bool, true, false, Some, inl, inr, refl, sym, ap, ◌∙◌, arith}
use Rattle.std.specs.Prelude.{slice_get}
use Rattle.std.proofs.lemmas.Bool.{cases_lt, both_ways}
use Rattle.jiff_core.proofs.SignedLemmas.{signed_arith}
use Rattle.jiff_core.specs.declared.Offset.{Offset}
use Rattle.jiff_tz.specs.declared.timezone.TimeZone.{TimeZone}
use Rattle.cron_units.specs.declared.way.Way.TheVariants.{Ahead}
use Rattle.cron_units.specs.Nearest.{IsNearestAt}
use Rattle.cron_time.specs.Seconds.{Seconds, is_match}
use Rattle.cron_moments.specs.Civil.{seconds_in_range}
use Rattle.cron_moments.specs.Readings.{Reading, instant, reading, readings}
use Rattle.cron_instants.specs.Order.{is_earlier}
use Rattle.cron_instants.specs.Beyond.{beyond, IsBest, IsBeyond}
use Rattle.cron_instants.specs.Monotone.{IsMonotone, IsInOrder, IsKnownMonotone, IsNext, IsSettled}
use Rattle.cron_instants.specs.OffsetRange.{IsRead}
use Rattle.cron_instants.specs.declared.monotone.Monotone.{Monotone}
use Rattle.cron_instants.proofs.BestLemmas.{best_of_more}
use Rattle.cron_seconds.proofs.SetLemmas.{match_in_range}
use Rattle.cron_instants.proofs.OrderedLemmas.{only_reading}
use Rattle.cron_instants.proofs.OrderLemmas.{before-true, before-less, before-not_less, not_nearer}

-- a reading of a civil second that passes a test, beyond an instant and a civil second
abbrev pub IsReadBeyond : (ℕ → Bool) → TimeZone → ℤ → ℕ → Reading → Type 0
IsReadBeyond test z i m q = IsRead z q × (test q.second ≡ true) × (beyond Ahead i m q ≡ true)

-- beyond the instant of a civil second that is settled, and one that isn't less than it, all is shown later
module _ (test : ℕ → Bool) (z : TimeZone) (i : ℤ) (c m : ℕ) (o : Offset) (instant_is : i ≡ pos c -ℤ o.seconds) (upto : c ≤ m) (settled : IsSettled z c o) where
  shown_later : (q : Reading) → IsReadBeyond test z i m q → c < q.second
  shown_later q h = elim (cases_lt c q.second) [
    | inl after ↦ after
    | inr back ↦ elim (cases_lt q.second c) [
      | inl less ↦
          let early = settled.behind q h.0 less in
          elim (before-true i m (instant q) q.second h.2) [
            | inl more ↦ absurd (omega (arith, signed_arith))
            | inr same ↦ let equal = same.0 in absurd (omega (arith, signed_arith))
          ]
      | inr low ↦
          let here : q.second ≡ c = omega arith in
          let is = only_reading (reading c o) q h.0.place (sym (ap (λ l. slice_get l h.0.place) (ap (readings z) here ∙ settled.once)) ∙ h.0.here) in
          let shared : instant q ≡ pos c -ℤ o.seconds = ap instant is in
          elim (before-true i m (instant q) q.second h.2) [
            | inl more ↦ absurd (omega (arith, signed_arith))
            | inr same ↦ let above = same.1 in absurd (omega arith)
          ]
    ]
  ]

  -- and the next that passes is the nearest item, if it is in order
  module _ (n : ℕ) (p : Offset) (next : IsNearestAt Ahead test (pos c +ℤ pos 1) n) (in_order : IsInOrder z n p) (range : c < seconds_in_range)
      (next_range : n < seconds_in_range) where
    later : c < n
    later = let lies = next.lies in omega (arith, signed_arith)

    read_here : IsRead z (reading c o)
    read_here = record { in_range = range; place = 0; here = ap (λ l. slice_get l 0) settled.once }

    item : IsReadBeyond test z i m (reading n p)
    item = (
      record { in_range = next_range; place = 0; here = ap (λ l. slice_get l 0) in_order.settled.once },
      next.passes,
      let above = in_order.settled.behind (reading c o) read_here later in
          before-less i m (instant (reading n p)) n (omega (arith, signed_arith)),
    )

    no_nearer : (q : Reading) → IsReadBeyond test z i m q → is_earlier q (reading n p) ≡ false
    no_nearer q h = elim (cases_lt n q.second) [
      | inl more ↦
          let above = in_order.ahead q h.0 more in
          before-not_less (instant q) q.second (instant (reading n p)) n (omega (arith, signed_arith))
      | inr upto_n ↦ elim (cases_lt q.second n) [
        | inl less ↦
            let after = shown_later q h in
            absurd (both_ways (test q.second) (next.nearest q.second (omega (arith, signed_arith)) less) h.1)
        | inr low ↦
            let here : q.second ≡ n = omega arith in
            let is = only_reading (reading n p) q h.0.place (sym (ap (λ l. slice_get l h.0.place) (ap
            (readings z) here ∙ in_order.settled.once)) ∙ h.0.here) in
            not_nearer Ahead q (reading n p) (ap (λ (r : Reading). r.offset.seconds) is) (λ less. absurd (omega arith))
      ]
    ]

    pub nearest_read : IsBest Ahead (IsReadBeyond test z i m) (Some (reading n p))
    nearest_read = (item, no_nearer)

nearest_there : (s : Seconds) (z : TimeZone) (i : ℤ) (c m : ℕ) (o : Offset) → i ≡ pos c -ℤ o.seconds → c ≤ m → IsSettled z c o
    → (n : ℕ) (p : Offset) → IsNearestAt Ahead (is_match s) (pos c +ℤ pos 1) n → IsInOrder z n p → c < seconds_in_range
    → IsBest Ahead (IsBeyond Ahead s z i m) (Some (reading n p))
nearest_there s z i c m o instant_is upto settled n p next in_order range =
    best_of_more Ahead (IsReadBeyond (is_match s) z i m) (IsBeyond Ahead s z i m) (Some (reading n p))
    (nearest_read (is_match s) z i c m o instant_is upto settled n p next in_order range (match_in_range s n next.passes))
    (λ q h. (record { matching = h.1; place = h.0.place; here = h.0.here }, h.2))
    (λ q h. inl (record { in_range = match_in_range s q.second h.0.matching; place = h.0.place; here = h.0.here }, h.0.matching, h.1))

-- as much is known further on
pub still_monotone : (z : TimeZone) (c n : ℕ) (monotone : Monotone) → IsMonotone z c monotone → c < n → n < monotone.end → IsMonotone z n monotone
still_monotone z c n monotone known after before =
    let here = known.on n (omega arith) before in
    record { settled = here.settled; on = λ k from to. known.on k (omega arith) to }

-- the next match that is in order is the next item
pub next_apart : (s : Seconds) (z : TimeZone) (i : ℤ) (c n : ℕ) (old new : Monotone) → IsKnownMonotone s z i c old
    → IsNearestAt Ahead (is_match s) (pos c +ℤ pos 1) n → IsMonotone z n new → n < new.end
    → IsNext s z i c (Some (reading n new.offset)) (Some new)
next_apart s z i c n old new known next there before = record {
  nearest = nearest_there s z i c c old.offset known.instant_is (omega arith) known.monotone.settled n new.offset next (there.on n (omega arith) before)
      (match_in_range s c known.matching);
  after = record { matching = next.passes; instant_is = refl; monotone = there };
}

-- and so is one before the end
pub next_monotone : (s : Seconds) (z : TimeZone) (i : ℤ) (c n : ℕ) (old : Monotone) → IsKnownMonotone s z i c old
    → IsNearestAt Ahead (is_match s) (pos c +ℤ pos 1) n → n < old.end → IsNext s z i c (Some (reading n old.offset)) (Some old)
next_monotone s z i c n old known next before =
    let lies = next.lies in
    next_apart s z i c n old old known next (still_monotone z c n old known.monotone (omega (arith, signed_arith)) before) before

-- beyond an instant at which a settled civil second is read, too
pub first_monotone : (s : Seconds) (z : TimeZone) (i : ℤ) (c m n : ℕ) (known : Monotone) → IsMonotone z c known → i ≡ pos c -ℤ known.offset.seconds → c ≤ m
    → c < 4_133_980_800
    → IsNearestAt Ahead (is_match s) (pos c +ℤ pos 1) n → n < known.end → IsBest Ahead (IsBeyond Ahead s z i m) (Some (reading n known.offset))
first_monotone s z i c m n known monotone instant_is upto range next before =
    let lies = next.lies in
    nearest_there s z i c m known.offset instant_is upto monotone.settled n known.offset next (monotone.on n (omega (arith, signed_arith)) before) range

pub first_apart : (s : Seconds) (z : TimeZone) (i : ℤ) (c m n : ℕ) (known there : Monotone) → IsMonotone z c known → i ≡ pos c -ℤ known.offset.seconds → c ≤ m
    → c < 4_133_980_800 → IsNearestAt Ahead (is_match s) (pos c +ℤ pos 1) n → IsMonotone z n there → n < there.end
    → IsBest Ahead (IsBeyond Ahead s z i m) (Some (reading n there.offset))
first_apart s z i c m n known there monotone instant_is upto range next on before =
    nearest_there s z i c m known.offset instant_is upto monotone.settled n there.offset next (on.on n (omega arith) before) range
