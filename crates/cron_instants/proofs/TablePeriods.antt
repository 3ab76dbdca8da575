-- Between two transitions of a table all civil seconds are read at one offset, and none at another.
use Rattle.std.proofs.Common.{◌≡◌, ℕ, ◌+◌, ◌-◌, ◌<◌, ◌≤◌, ◌==◌, ℤ, pos, ◌+ℤ◌, ◌-ℤ◌, ◌≤ℤ◌, ◌<ℤ◌, int_le, int_lt, cond, map, Bool, true, false, List, ◌∷◌, [], Some, vec_len, inl, inr, refl, sym, ap, subst, ◌∙◌, arith}
use Rattle.std.specs.Borrow.{Bor}
use Rattle.std.specs.Ordering.{int_eq}
use Rattle.std.specs.List.{prefix_len}
use Rattle.std.specs.Prelude.{slice_get}
use Rattle.std.proofs.lemmas.Bool.{cases_lt}
use Rattle.std.proofs.lemmas.Bool.Decides.{nat_tests}
use Rattle.std.proofs.lemmas.Int.{by_lt_z, ints}
use Rattle.std.proofs.lemmas.List.Sums.{prefix_len_passes, prefix_len_stops}
use Rattle.jiff_core.proofs.SignedLemmas.{signed_arith}
use Rattle.jiff_core.specs.declared.Offset.{Offset}
use borrow.Author.Differences.{le-true, le-false}
use Rattle.jiff_tz.specs.declared.timezone.TimeZone.TheVariants.{Tzif as TableZone}
use Rattle.jiff_tz.specs.declared.tzif.Tzif.{Tzif}
use Rattle.jiff_tz.specs.declared.tzif.transition.Transition.{Transition}
use Rattle.jiff_tz.specs.Tzif.{civil_start, civil_end, count_at, no_transition, transition_at, type_after}
use Rattle.jiff_tz.specs.TzifText.{transition_text}
use Rattle.jiff_tz.proofs.TzifLemmas.{starts_rise}
use Rattle.jiff_tz.proofs.ZoneTheorems.{goes_on}
use Rattle.cron_clocks.proofs.TableLemmas.{last_type}
use Rattle.cron_clocks.specs.Tables.{offsets_around, transitions_of}
use Rattle.cron_moments.specs.Civil.{civil, seconds_in_range}
use Rattle.cron_moments.specs.Readings.{Reading, instant, reading, readings, readings_by}
use Rattle.cron_instants.specs.OffsetRange.{IsRead}
use Rattle.cron_instants.specs.Inner.Periods.{ArePassed, IsLastOf, IsPeriod, IsReadFrom}
use Rattle.cron_instants.proofs.AgreementLemmas.{same_offset}
use Rattle.cron_instants.proofs.TableOffsetRange.{rows_upto, stand}
use Rattle.cron_instants.proofs.TransitionLemmas.{size, count, inside, edges_of, transitions_rise, count_bound, passed, ahead, before_is, some_inside, inside_end, outside_end, IsInPeriod, Alone, Earlier, Later, told_around}

-- ---- how many transitions don't come after an instant

count_by_text : (k : ℤ) (ts : List Transition)
    → prefix_len (λ t. int_le t.second k) ts ≡ prefix_len (λ r. int_le r.second k) (map transition_text ts)
count_by_text k [] = refl
count_by_text k (t ∷ ts) = ap (λ n. cond (int_le t.second k) (1 + n) 0) (count_by_text k ts)

-- a search of a list that says the same as the table counts the table's
pub counted : (z : Tzif) (k : ℤ) (ts : List Transition) → map transition_text ts ≡ transitions_of z
    → prefix_len (λ t. int_le t.second k) ts ≡ count_at z k
counted z k ts same =
    count_by_text k ts ∙ ap (λ rows. prefix_len (λ r. int_le r.second k) rows) same ∙ sym (count_by_text k z.transitions.items)

pub are_passed : (z : Tzif) (n : ℕ) (a : ℤ) → n ≡ count_at z a → ArePassed z n a
are_passed z n a is some =
    let under = le-true (transition_at z (n - 1)).second a (prefix_len_passes (λ t. int_le t.second a) z.transitions.items (n - 1) (no_transition z)
    (subst (λ k. n - 1 < k) is (omega arith))) in
    omega (arith, signed_arith)

pub is_ahead : (z : Tzif) (n : ℕ) (a : ℤ) → n ≡ count_at z a → n < size z → a <ℤ (transition_at z n).second
is_ahead z n a is l =
    let stops = prefix_len_stops (λ t. int_le t.second a) z.transitions.items (no_transition z) (subst (λ k. k < size z) is l) in
    let over = le-false (transition_at z n).second a (subst (λ k. int_le (transition_at z k).second a ≡ false) (sym is) stops) in
    omega (arith, signed_arith)

-- the table's period of a reading
record HasPeriod (z : Tzif) (r : Reading) : Type 0 where
  number : ℕ
  here : IsInPeriod z r number

module _ (t : Bor Tzif) (n : ℕ) (last : n < size t.now)
    (far : ((transition_at t.now n).second +ℤ pos 187_200) ≤ℤ (transition_at t.now (size t.now - 1)).second) where
  abbrev z : Tzif
  z = t.now

  abbrev next : Transition
  next = transition_at z n

  abbrev edge : ℤ
  edge = civil_end (transition_at z (size z - 1))

  period_of : (q : Reading) → IsRead (TableZone t) q → pos q.second <ℤ edge → HasPeriod z q
  period_of q h short = elim (stand (TableZone t) z (told_around t) edge (rows_upto z (omega arith)) q h short) [
    | Alone out here ↦ record { number = count z q.second; here = here }
    | Earlier in_fold some here many ↦ record { number = count z q.second - 1; here = here }
    | Later in_fold some here many ↦ record { number = count z q.second; here = here }
  ]

  -- what is read past the last transition is far behind the next one
  behind_edge : (q : Reading) → edge ≤ℤ pos q.second → instant q <ℤ next.second → ⊥
  behind_edge q past before =
      let near = q.offset.in_range in
      let close = (transition_at z (size z - 1)).before.in_range in
      let bound = (edges_of (transition_at z (size z - 1))).before_end in
      omega (arith, signed_arith)

  own_offset : (q : Reading) (k : ℕ) (a : ℤ) → ArePassed z n a → IsInPeriod z q k → a ≤ℤ instant q → instant q <ℤ next.second
      → q.offset.seconds ≡ next.before.seconds
  own_offset q k a begun h from to = elim (cases_lt k n) [
    | inl lower ↦
        let end = h.high (omega arith) in
        let rise = transitions_rise z k (n - 1) (omega arith) (omega arith) in
        let start = begun (omega arith) in
        absurd (omega (arith, signed_arith))
    | inr not_lower ↦ elim (cases_lt n k) [
      | inl higher ↦
          let bound = h.bound in
          let start = h.low (omega arith) in
          let rise = transitions_rise z n (k - 1) (omega arith) (omega arith) in
          absurd (omega (arith, signed_arith))
      | inr not_higher ↦
          let equal : k ≡ n = omega arith in
          h.offset ∙ ap (λ i. (type_after z i).offset.seconds) equal ∙ sym (before_is z n last)
    ]
  ]

  -- ---- all that is shown is read

  module _ (o : Offset) (own : o.seconds ≡ next.before.seconds) (a : ℤ) (begun : ArePassed z n a) (c : ℕ) (range : c < seconds_in_range)
      (from : a ≤ℤ (pos c -ℤ o.seconds)) (to : (pos c -ℤ o.seconds) <ℤ next.second) where
    -- the offset past the transition before it
    after_last : 0 < n → (transition_at z (n - 1)).after.offset.seconds ≡ o.seconds
    after_last some =
        ap (λ (v : Offset). v.seconds) (sym (last_type z n some)) ∙ sym (before_is z n last) ∙ sym own

    not_lower : count z c < n → ⊥
    not_lower less =
        let next_start = ahead z c (omega arith) in
        let rise = starts_rise z.first.offset.seconds z.transitions.items (no_transition z) z.ordered (count z c) (n - 1) (omega arith) (omega arith) in
        let edge_of = (edges_of (transition_at z (n - 1))).start_after in
        let type = after_last (omega arith) in
        let start = begun (omega arith) in
        omega (arith, signed_arith)

    not_higher : n + 1 < count z c → ⊥
    not_higher more =
        let bound = count_bound z c in
        let start = passed z c (n + 1) more in
        let apart = (goes_on z n (omega arith)).1 in
        let edge_of = (edges_of next).before_end in
        omega (arith, signed_arith)

    read_by : (rs : List Reading) (place : ℕ) (p : Offset) → readings (TableZone t) c ≡ rs → slice_get rs place ≡ Some (reading c p) → p.seconds ≡ o.seconds
        → IsRead (TableZone t) (reading c o)
    read_by rs place p is there same = record {
      in_range = range;
      place = place;
      here = ap (λ l. slice_get l place) is ∙ there ∙ ap (λ (x : Offset). Some (reading c x)) (same_offset p o same);
    }

    told : (b : Bool) → inside z c ≡ b → (m : ℕ) → count z c ≡ m
        → readings (TableZone t) c ≡ readings_by c (offsets_around z m b (civil c))
    told b here m is = told_around t c range ∙ rw (here, is) refl

    -- in a fold both are read
    in_fold : (k : ℕ) → inside z c ≡ true → count z c ≡ k + 1 → (transition_at z k).after.offset.seconds <ℤ (transition_at z k).before.seconds
        → readings (TableZone t) c ≡ reading c (transition_at z k).before ∷ reading c (transition_at z k).after.offset ∷ []
    in_fold k here is falls =
        let back : k + 1 - 1 ≡ k = omega arith in
        let no_rise : int_lt (transition_at z k).before.seconds (transition_at z k).after.offset.seconds ≡ false = grind (arith, ints) in
        let not_same : int_eq (transition_at z k).before.seconds (transition_at z k).after.offset.seconds ≡ false = grind (arith, ints) in
        told true here (k + 1) is ∙ rw back (rw (no_rise, not_same) refl)

    -- the transition before it has ended, or falls
    read_after : inside z c ≡ true → count z c ≡ n → IsRead (TableZone t) (reading c o)
    read_after here is =
        let some : 0 < n = subst (λ k. 0 < k) is (some_inside z (count z c) (pos c) here) in
        let end = subst (λ k. pos c <ℤ civil_end (transition_at z (k - 1))) is (inside_end z (count z c) (pos c) here) in
        let start = begun some in
        let type = after_last some in
        let edges = edges_of (transition_at z (n - 1)) in
        let rising = edges.rising_end in
        by_lt_z (transition_at z (n - 1)).after.offset.seconds (transition_at z (n - 1)).before.seconds
        (λ falls. read_by _ 1 (transition_at z (n - 1)).after.offset (in_fold (n - 1) here (is ∙ omega arith) falls) refl type)
        (λ rises. let stop = rising rises in absurd (omega (arith, signed_arith)))

    -- the next one has begun, and falls
    read_before : inside z c ≡ true → count z c ≡ n + 1 → IsRead (TableZone t) (reading c o)
    read_before here is =
        let start = subst (λ k. n < k → civil_start next ≤ℤ pos c) (sym is) (λ l. passed z c n (subst (λ k. n < k) (sym is) l)) in
        let begins = passed z c n (omega arith) in
        let edges = edges_of next in
        let rising = edges.rising_start in
        by_lt_z next.after.offset.seconds next.before.seconds
        (λ falls. read_by _ 0 next.before (in_fold n here is falls) refl (sym own))
        (λ rises. let stop = rising rises in absurd (omega (arith, signed_arith)))

    read_alone : inside z c ≡ false → count z c ≡ n → IsRead (TableZone t) (reading c o)
    read_alone out is =
        let not_all : (n == vec_len z.transitions) ≡ false = grind (arith, nat_tests) in
        read_by (reading c (type_after z n).offset ∷ []) 0 (type_after z n).offset (told false out n is ∙ rw not_all refl) refl (sym (before_is z n last) ∙ sym own)

    not_ended : inside z c ≡ false → count z c ≡ n + 1 → ⊥
    not_ended out is =
        let some : 0 < count z c = omega arith in
        let back : count z c - 1 ≡ n = omega arith in
        let end = subst (λ k. civil_end (transition_at z k) ≤ℤ pos c) back (outside_end z (count z c) (pos c) out some) in
        let edge_of = (edges_of next).before_end in
        omega (arith, signed_arith)

    read_in : (b : Bool) → inside z c ≡ b → IsRead (TableZone t) (reading c o)
    read_in true here = elim (cases_lt n (count z c)) [
      | inl more ↦ elim (cases_lt (n + 1) (count z c)) [
        | inl higher ↦ absurd (not_higher higher)
        | inr most ↦ read_before here (omega arith)
      ]
      | inr least ↦ elim (cases_lt (count z c) n) [
        | inl lower ↦ absurd (not_lower lower)
        | inr equal ↦ read_after here (omega arith)
      ]
    ]
    read_in false out = elim (cases_lt n (count z c)) [
      | inl more ↦ elim (cases_lt (n + 1) (count z c)) [
        | inl higher ↦ absurd (not_higher higher)
        | inr most ↦ absurd (not_ended out (omega arith))
      ]
      | inr least ↦ elim (cases_lt (count z c) n) [
        | inl lower ↦ absurd (not_lower lower)
        | inr equal ↦ read_alone out (omega arith)
      ]
    ]

  pub is_period : (o : Offset) → o.seconds ≡ next.before.seconds → (a : ℤ) → ArePassed z n a → IsPeriod (TableZone t) a next.second o
  is_period o own a begun = record {
    only = λ q h from to.
        by_lt_z (pos q.second) edge
        (λ short. let p = period_of q h short in own_offset q p.number a begun p.here from to ∙ sym own)
        (λ past. absurd (behind_edge q past to));
    all = λ c range from to. read_in o own a begun c range from to (inside z c) refl;
  }

  -- ---- from the transition before it on nothing is read that lies before what it shows then

  ends_before : (k : ℕ) → 0 < n → n < k → k ≤ size z → civil_end (transition_at z (n - 1)) ≤ℤ civil_start (transition_at z (k - 1))
  ends_before k some more bound =
      let back : n - 1 + 1 ≡ n = omega arith in
      let apart = subst (λ i. civil_end (transition_at z (n - 1)) ≤ℤ civil_start (transition_at z i)) back (goes_on z (n - 1) (omega arith)).1 in
      let rise = starts_rise z.first.offset.seconds z.transitions.items (no_transition z) z.ordered n (k - 1) (omega arith) (omega arith) in
      omega (arith, signed_arith)

  shown_from : (o : Offset) → o.seconds ≡ next.before.seconds → 0 < n → (q : Reading) (k : ℕ) → IsInPeriod z q k
      → (transition_at z (n - 1)).second ≤ℤ instant q → ((transition_at z (n - 1)).second +ℤ o.seconds) ≤ℤ pos q.second
  shown_from o own some q k h from = elim (cases_lt k n) [
    | inl lower ↦
        let end = h.high (omega arith) in
        let rise = transitions_rise z k (n - 1) (omega arith) (omega arith) in
        absurd (omega (arith, signed_arith))
    | inr not_lower ↦ elim (cases_lt n k) [
      | inl higher ↦
          let bound = h.bound in
          let start = h.low (omega arith) in
          let offset = h.offset ∙ ap (λ (v : Offset). v.seconds) (last_type z k (omega arith)) in
          let ends = ends_before k some higher bound in
          let edge_of = (edges_of (transition_at z (k - 1))).start_after in
          let own_end = (edges_of (transition_at z (n - 1))).after_end in
          let type : (transition_at z (n - 1)).after.offset.seconds ≡ o.seconds =
          ap (λ (v : Offset). v.seconds) (sym (last_type z n some)) ∙ sym (before_is z n last) ∙ sym own in
          omega (arith, signed_arith)
      | inr not_higher ↦
          let equal : k ≡ n = omega arith in
          let offset = h.offset ∙ ap (λ i. (type_after z i).offset.seconds) equal ∙ sym (before_is z n last) ∙ sym own in
          omega (arith, signed_arith)
    ]
  ]

  pub is_read_from : (o : Offset) → o.seconds ≡ next.before.seconds → (a : ℤ) → IsLastOf z n a → IsReadFrom (TableZone t) a (a +ℤ o.seconds)
  is_read_from o own a at q h from =
      let some = at.some in
      let is = at.is in
      by_lt_z (pos q.second) edge
      (λ short. let p = period_of q h short in
      let low = shown_from o own some q p.number p.here (subst (λ b. b ≤ℤ instant q) (sym is) from) in
      omega (arith, signed_arith))
      (λ past.
      let ends = ends_before (size z) some last (omega arith) in
      let own_end = (edges_of (transition_at z (n - 1))).after_end in
      let last_start = (edges_of (transition_at z (size z - 1))).start_after in
      let last_end = (edges_of (transition_at z (size z - 1))).after_end in
      let type : (transition_at z (n - 1)).after.offset.seconds ≡ o.seconds =
      ap (λ (v : Offset). v.seconds) (sym (last_type z n some)) ∙ sym (before_is z n last) ∙ sym own in
      omega (arith, signed_arith))
