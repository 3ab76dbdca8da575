-- The nearest item of a stretch.
use Rattle.std.proofs.Common.{◌≡◌, ℕ, zero, suc, ◌<◌, ◌≤◌, ℤ, false, Option, Some, None, [], ◌∷◌, ◌⊎◌, inl, inr, refl, sym, ap, subst, ◌∙◌, arith, true≢false}
use Rattle.std.specs.Prelude.{slice_get, IfSome}
use Rattle.std.proofs.lemmas.Bool.{cases_lt}
use Rattle.jiff_core.specs.declared.Offset.{Offset}
use Rattle.jiff_tz.specs.declared.timezone.TimeZone.{TimeZone}
use Rattle.cron_units.specs.declared.way.Way.{Way}
use Rattle.cron_units.specs.declared.way.Way.TheVariants.{Ahead, Back}
use Rattle.cron_units.specs.Nearest.{LiesFrom, Precedes, IsNearestAt}
use Rattle.cron_time.specs.Seconds.{Seconds, is_match}
use Rattle.cron_moments.specs.Readings.{Reading, reading}
use Rattle.cron_clocks.specs.declared.stretch.Stretch.{Stretch}
use Rattle.cron_instants.specs.Beyond.{entry_of, IsBest, IsBettered, IsBeyond, IsEntered, IsPassed, IsSought, IsGoneOn, LiesPast, IsNotPast, IsInside, IsStartAt, IsMatchAt, IsMatchIn}
use Rattle.cron_clocks.specs.Steady.{IsSteady, readings_at}
use Rattle.cron_seconds.proofs.SetLemmas.{match_in_range}
use Rattle.cron_instants.proofs.OrderLemmas.{past_entry, entry_past, not_nearer}
use Rattle.cron_instants.proofs.BestLemmas.{best_of_more, best_kept, best_chained}

-- ---- at one offset

module _ (way : Way) (s : Seconds) (i : ℤ) (c low high : ℕ) (o : Offset) where
  -- a match of the stretch lies where a search from the entry comes to
  lies_from : (r : Reading) → IsMatchAt way s i c low high o r → LiesFrom way (entry_of way i c o.seconds) r.second
  lies_from r m = subst (λ (x : Offset). LiesFrom way (entry_of way i c x.seconds) r.second) m.at (past_entry way i c r m.past)

  pub none_entered : ((k : ℕ) → low ≤ k → k < high → LiesFrom way (entry_of way i c o.seconds) k → ⊥) → (r : Reading) → IsMatchAt way s i c low high o r → ⊥
  none_entered none r m = none r.second m.from m.to (lies_from r m)

  module _ (start : ℤ) (st : IsStartAt way low high (entry_of way i c o.seconds) start) where
    lies_on : (r : Reading) → IsMatchAt way s i c low high o r → LiesFrom way start r.second
    lies_on r m = st.whole r.second m.from m.to (lies_from r m)

    pub none_found : ((k : ℕ) → LiesFrom way start k → is_match s k ≡ false) → (r : Reading) → IsMatchAt way s i c low high o r → ⊥
    none_found none r m = true≢false (sym m.matching ∙ none r.second (lies_on r m))

    pub nearest_passes : (n : ℕ) → IsNearestAt way (is_match s) start n → (r : Reading) → IsMatchAt way s i c low high o r → Precedes way r.second n → ⊥
    nearest_passes n near r m before = true≢false (sym m.matching ∙ near.nearest r.second (lies_on r m) before)

    pub found_here : (n : ℕ) → IsNearestAt way (is_match s) start n → low ≤ n → n < high
        → IsBest way (IsMatchAt way s i c low high o) (Some (reading n o))
    found_here n near from to = (
      record {
        matching = near.passes;
        past = entry_past way i c (reading n o) (st.sound n near.lies);
        from = from;
        to = to;
        at = refl;
      },
      λ r m. not_nearer way r (reading n o) (ap (λ (x : Offset). x.seconds) m.at) (nearest_passes n near r m),
    )

-- what is found outside of the stretch lies past it
past_by : (way : Way) (low high n k : ℕ) → IsInside way low high n → low ≤ k → k < high → (n < low) ⊎ (high ≤ n) → Precedes way k n
past_by Ahead low high n k inside from to (inl less) = absurd (omega arith)
past_by Ahead low high n k inside from to (inr more) = omega arith
past_by Back low high n k inside from to (inl less) = omega arith
past_by Back low high n k inside from to (inr more) = absurd (omega arith)

pub found_outside : (way : Way) (s : Seconds) (i : ℤ) (c low high : ℕ) (o : Offset) (start : ℤ) → IsStartAt way low high (entry_of way i c o.seconds) start
    → (n : ℕ) → IsNearestAt way (is_match s) start n → (n < low) ⊎ (high ≤ n) → (r : Reading) → IsMatchAt way s i c low high o r → ⊥
found_outside way s i c low high o start st n near out r m =
    nearest_passes way s i c low high o start st n near r m (past_by way low high n r.second (st.inside n near.lies) m.from m.to out)

-- ---- at the offsets of a stretch

module _ (way : Way) (s : Seconds) (i : ℤ) (c : ℕ) (st : Stretch) where
  abbrev at_offset : Offset → Reading → Type 0
  at_offset o = IsMatchAt way s i c st.first st.end o

  no_reading : (place : ℕ) (r : Reading) → slice_get [] place ≡ Some r → ⊥
  no_reading zero r e = cc
  no_reading (suc n) r e = cc

  pub best_of_none : (best : Option Reading) → st.earlier ≡ None → IsBettered way (IsMatchIn way s i c st) best best
  best_of_none best none = best_kept way (IsMatchIn way s i c st) best (λ r m. absurd (no_reading m.place r (rw none at m.here)))

  inside : (r : Reading) (o : Offset) (place : ℕ) → at_offset o r → slice_get (readings_at r.second st.earlier st.later) place ≡ Some (reading r.second o)
      → IsMatchIn way s i c st r
  inside r o place m here = record {
    matching = m.matching;
    past = m.past;
    from = m.from;
    to = m.to;
    place = place;
    here = here ∙ ap (λ (x : Offset). Some (reading r.second x)) (sym m.at);
  }

  outside : (r : Reading) (o : Offset) → IsMatchIn way s i c st r → reading r.second o ≡ r → at_offset o r
  outside r o m is = record { matching = m.matching; past = m.past; from = m.from; to = m.to; at = ap (λ (x : Reading). x.offset) (sym is) }

  first_read : (n place : ℕ) (o : Offset) (r : Reading) → slice_get (reading n o ∷ []) place ≡ Some r → reading n o ≡ r
  first_read n zero o r e = cc
  first_read n (suc place) o r e = absurd (no_reading place r e)

  either_read : (n place : ℕ) (o p : Offset) (r : Reading) → slice_get (reading n o ∷ reading n p ∷ []) place ≡ Some r → (reading n o ≡ r) ⊎ (reading n p ≡ r)
  either_read n zero o p r e = inl cc
  either_read n (suc place) o p r e = inr (first_read n place p r e)

  pub best_of_one : (o : Offset) (best better : Option Reading) → st.earlier ≡ Some o → st.later ≡ None → IsBettered way (at_offset o) best better
      → IsBettered way (IsMatchIn way s i c st) best better
  best_of_one o best better first none found =
      best_of_more way (λ r. (best ≡ Some r) ⊎ at_offset o r) (λ r. (best ≡ Some r) ⊎ IsMatchIn way s i c st r) better found
      (λ r either. elim either [ inl e ↦ inl e | inr m ↦ inr (inside r o 0 m (rw (first, none) refl)) ])
      (λ r either. inl (elim either [
        | inl e ↦ inl e
        | inr m ↦ inr (outside r o m (first_read r.second m.place o r (rw (first, none) at m.here)))
      ]))

  pub best_of_two : (o p : Offset) (best a b : Option Reading) → st.earlier ≡ Some o → st.later ≡ Some p → IsBettered way (at_offset o) best a
      → IsBettered way (at_offset p) a b → IsBettered way (IsMatchIn way s i c st) best b
  best_of_two o p best a b first second one other =
      best_of_more way (λ r. ((best ≡ Some r) ⊎ at_offset o r) ⊎ at_offset p r) (λ r. (best ≡ Some r) ⊎ IsMatchIn way s i c st r) b
      (best_chained way (λ r. (best ≡ Some r) ⊎ at_offset o r) (at_offset p) a b one other)
      (λ r m. elim m [
        | inl x ↦ elim x [ inl e ↦ inl e | inr y ↦ inr (inside r o 0 y (rw (first, second) refl)) ]
        | inr y ↦ inr (inside r p 1 y (rw (first, second) refl))
      ])
      (λ r m. inl (elim m [
        | inl e ↦ inl (inl e)
        | inr x ↦ elim (either_read r.second x.place o p r (rw (first, second) at x.here)) [
          | inl is ↦ inl (inr (outside r o x is))
          | inr is ↦ inr (outside r p x is)
        ]
      ]))

-- ---- from stretch to stretch

-- a civil second lies before one of the stretch, in the stretch, or past it
data Where (way : Way) (low n high k : ℕ) : Type 0 where
  Early : Precedes way k n → Where way low n high k
  Within : low ≤ k → k < high → Where way low n high k
  Late : LiesPast way low high k → Where way low n high k

placed : (way : Way) (low n high k : ℕ) → low ≤ n → n < high → Where way low n high k
placed Ahead low n high k from to = elim (cases_lt k n) [
  | inl less ↦ Early less
  | inr more ↦ elim (cases_lt k high) [ inl less ↦ Within (omega arith) less | inr past ↦ Late past ]
]
placed Back low n high k from to = elim (cases_lt n k) [
  | inl less ↦ Early less
  | inr more ↦ elim (cases_lt k low) [ inl past ↦ Late past | inr less ↦ Within less (omega arith) ]
]

early_passed : (way : Way) (low n high m k : ℕ) → low ≤ n → n < high → LiesPast way low high m → Precedes way k n → Precedes way k m
early_passed Ahead low n high m k from to past before = omega arith
early_passed Back low n high m k from to past before = omega arith

within_passed : (way : Way) (low high m k : ℕ) → low ≤ k → k < high → LiesPast way low high m → Precedes way k m
within_passed Ahead low high m k from to past = omega arith
within_passed Back low high m k from to past = omega arith

early_not_past : (way : Way) (low n high k : ℕ) → low ≤ n → n < high → Precedes way k n → IsNotPast way low high k
early_not_past Ahead low n high k from to before = omega arith
early_not_past Back low n high k from to before = omega arith

within_not_past : (way : Way) (low high k : ℕ) → low ≤ k → k < high → IsNotPast way low high k
within_not_past Ahead low high k from to = to
within_not_past Back low high k from to = from

module _ (way : Way) (s : Seconds) (z : TimeZone) (i : ℤ) (c n : ℕ) (old new : Option Reading) (st : Stretch) (steady : IsSteady z st)
    (low : st.first ≤ n) (high : n < st.end) (sought : IsSought way s z i c (Some n) old) (found : IsBettered way (IsMatchIn way s i c st) old new) where
  abbrev Early_item : Reading → Type 0
  Early_item r = IsBeyond way s z i c r × Precedes way r.second n

  abbrev In_stretch : Reading → Type 0
  In_stretch = IsMatchIn way s i c st

  both : IsBest way (λ r. Early_item r ⊎ In_stretch r) new
  both = best_chained way Early_item In_stretch old new sought.1 found

  not_past : (b : Reading) → Early_item b ⊎ In_stretch b → IsNotPast way st.first st.end b.second
  not_past b (inl early) = early_not_past way st.first n st.end b.second low high early.1
  not_past b (inr within) = within_not_past way st.first st.end b.second within.from within.to

  not_past_by : (best : Option Reading) → IsBest way (λ r. Early_item r ⊎ In_stretch r) best → IfSome best (λ b. IsNotPast way st.first st.end b.second)
  not_past_by None found = tt
  not_past_by (Some b) found = not_past b found.0

  pub best_not_past : IfSome new (λ b. IsNotPast way st.first st.end b.second)
  best_not_past = not_past_by new both

  read_there : (r : Reading) → In_stretch r → IsBeyond way s z i c r
  read_there r m = (
    record {
      matching = m.matching;
      place = m.place;
      here = ap (λ xs. slice_get xs m.place) (steady.same r.second m.from m.to) ∙ m.here;
    },
    m.past,
  )

  read_here : (r : Reading) → IsBeyond way s z i c r → st.first ≤ r.second → r.second < st.end → In_stretch r
  read_here r m from to = record {
    matching = m.0.matching;
    past = m.1;
    from = from;
    to = to;
    place = m.0.place;
    here = ap (λ xs. slice_get xs m.0.place) (sym (steady.same r.second from to)) ∙ m.0.here;
  }

  pub passed_on : (next : Option ℕ) → IsGoneOn way s st.first st.end new next → IsSought way s z i c next new
  passed_on None on = (
    tt,
    best_of_more way (λ r. Early_item r ⊎ In_stretch r) (λ r. IsBeyond way s z i c r × IsPassed way None r.second) new both
        (λ r m. elim m [ inl early ↦ (early.0, tt) | inr within ↦ (read_there r within, tt) ])
        (λ r m. elim (placed way st.first n st.end r.second low high) [
          | Early before ↦ inl (inl (m.0, before))
          | Within from to ↦ inl (inr (read_here r m.0 from to))
          | Late past ↦ inr (on r m.0.0.matching past)
        ]),
  )
  passed_on (Some m) on = (
    on.0,
    best_of_more way (λ r. Early_item r ⊎ In_stretch r) (λ r. IsBeyond way s z i c r × IsPassed way (Some m) r.second) new both
        (λ r x. elim x [
          | inl early ↦ (early.0, early_passed way st.first n st.end m r.second low high on.1 early.1)
          | inr within ↦ (read_there r within, within_passed way st.first st.end m r.second within.from within.to on.1)
        ])
        (λ r x. elim (placed way st.first n st.end r.second low high) [
          | Early before ↦ inl (inl (x.0, before))
          | Within from to ↦ inl (inr (read_here r x.0 from to))
          | Late past ↦ inr (on.2 r x.0.0.matching past x.1)
        ]),
  )

pub sought_first : (way : Way) (s : Seconds) (z : TimeZone) (i : ℤ) (c : ℕ) (first : Option ℕ) → IsEntered way i c first → IsSought way s z i c first None
sought_first way s z i c None none = (tt, λ r m. none r (match_in_range s r.second m.0.0.matching) m.0.1)
sought_first way s z i c (Some n) on = (on.0, λ r m. on.1 r (match_in_range s r.second m.0.0.matching) m.0.1 m.1)

pub sought_all : (way : Way) (s : Seconds) (z : TimeZone) (i : ℤ) (c : ℕ) (best : Option Reading) → IsSought way s z i c None best
    → IsBest way (IsBeyond way s z i c) best
sought_all way s z i c best sought =
    best_of_more way (λ r. IsBeyond way s z i c r × Unit {0}) (IsBeyond way s z i c) best sought.1 (λ r m. m.0) (λ r m. inl (m, tt))
