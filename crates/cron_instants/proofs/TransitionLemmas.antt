-- The transitions of a table come in an order, and so do the readings of its civil seconds.
use Rattle.std.proofs.Common.{◌≡◌, ℕ, zero, suc, ◌+◌, ◌-◌, ◌<◌, ◌≤◌, ℤ, pos, ◌+ℤ◌, ◌≤ℤ◌, ◌<ℤ◌, int_le, int_lt, Bool, true, false, cond, [], ◌∷◌, length, Some, ◌⊎◌, inl, inr, refl, sym, ap, subst, ◌∙◌, arith}
use Rattle.std.specs.Borrow.{Bor}
use Rattle.std.specs.Prelude.{slice_get}
use Rattle.std.specs.Ordering.{int_eq}
use Rattle.std.proofs.lemmas.Bool.{cases_lt}
use Rattle.std.proofs.lemmas.Int.{ints}
use Rattle.std.proofs.lemmas.List.Sums.{prefix_len_passes, prefix_len_stops, prefix_len-le-length}
use borrow.Author.Differences.{lt-true, lt-false, le-true, le-false}
use Rattle.jiff_core.proofs.SignedLemmas.{signed_arith}
use Rattle.jiff_core.specs.declared.Offset.{Offset}
use Rattle.jiff_tz.specs.declared.ambiguous.AmbiguousOffset.TheVariants.{Unambiguous, Gap, Fold}
use Rattle.jiff_tz.specs.declared.timezone.TimeZone.{TimeZone}
use Rattle.jiff_tz.specs.declared.timezone.TimeZone.TheVariants.{Tzif as TableZone}
use Rattle.jiff_tz.specs.declared.tzif.Tzif.{Tzif}
use Rattle.jiff_tz.specs.declared.tzif.transition.Transition.{Transition}
use Rattle.jiff_tz.specs.Tzif.{ambiguous_after, civil_count_at, civil_start, civil_end, is_inside, no_transition, transition_at, type_after}
use Rattle.jiff_tz.specs.Zone.{ambiguous_at}
use Rattle.jiff_tz.proofs.TzifLemmas.{seconds_rise}
use Rattle.jiff_tz.proofs.ZoneTheorems.{goes_on, first_goes_on}
use Rattle.cron_clocks.proofs.TableLemmas.{is_inside-some, last_type}
use Rattle.cron_clocks.specs.Tables.{offsets_around}
use Rattle.cron_moments.proofs.CivilLemmas.{civil_seconds-civil}
use Rattle.cron_moments.specs.Civil.{civil, seconds_in_range}
use Rattle.cron_moments.specs.Readings.{Reading, instant, reading, readings, readings_by}
use Rattle.cron_time.proofs.PlaceLemmas.{nothing_in_nil}
use Rattle.cron_instants.specs.OffsetRange.{IsOnce, IsRead}

abbrev pub size : Tzif → ℕ
size z = length z.transitions.items

-- how many transitions begin at or before a civil second
abbrev pub count : Tzif → ℕ → ℕ
count z c = civil_count_at z (pos c)

abbrev pub inside : Tzif → ℕ → Bool
inside z c = is_inside z (count z c) (pos c)

-- where the gap or the fold of a transition begins and ends on the clock
pub record EdgesOf (s b a start end : ℤ) : Type 0 where
  pub start_before : start ≤ℤ (s +ℤ b)
  pub start_after : start ≤ℤ (s +ℤ a)
  pub before_end : (s +ℤ b) ≤ℤ end
  pub after_end : (s +ℤ a) ≤ℤ end
  pub falling_start : a ≤ℤ b → start ≡ s +ℤ a
  pub falling_end : a ≤ℤ b → end ≡ s +ℤ b
  pub rising_start : b ≤ℤ a → start ≡ s +ℤ b
  pub rising_end : b ≤ℤ a → end ≡ s +ℤ a

edges_by : (s b a : ℤ) (t : Bool) → int_lt a b ≡ t → EdgesOf s b a (s +ℤ cond t a b) (s +ℤ cond t b a)
edges_by s b a true is =
    let less = lt-true a b is in record {
      start_before = omega (arith, signed_arith);
      start_after = omega (arith, signed_arith);
      before_end = omega (arith, signed_arith);
      after_end = omega (arith, signed_arith);
      falling_start = λ h. refl;
      falling_end = λ h. refl;
      rising_start = λ h. omega (arith, signed_arith);
      rising_end = λ h. omega (arith, signed_arith);
    }
edges_by s b a false is =
    let more = lt-false a b is in record {
      start_before = omega (arith, signed_arith);
      start_after = omega (arith, signed_arith);
      before_end = omega (arith, signed_arith);
      after_end = omega (arith, signed_arith);
      falling_start = λ h. omega (arith, signed_arith);
      falling_end = λ h. omega (arith, signed_arith);
      rising_start = λ h. refl;
      rising_end = λ h. refl;
    }

pub edges_of : (t : Transition) → EdgesOf t.second t.before.seconds t.after.offset.seconds (civil_start t) (civil_end t)
edges_of t = edges_by t.second t.before.seconds t.after.offset.seconds (int_lt t.after.offset.seconds t.before.seconds) refl

pub transitions_rise : (z : Tzif) (i j : ℕ) → i ≤ j → j < size z → (transition_at z i).second ≤ℤ (transition_at z j).second
transitions_rise z i j le lt = seconds_rise z.first.offset.seconds z.transitions.items (no_transition z) z.ordered i j le lt

pub count_bound : (z : Tzif) (c : ℕ) → count z c ≤ size z
count_bound z c = prefix_len-le-length _ z.transitions.items

pub passed : (z : Tzif) (c j : ℕ) → j < count z c → civil_start (transition_at z j) ≤ℤ pos c
passed z c j l =
    let under = le-true (civil_start (transition_at z j)) (pos c) (prefix_len_passes (λ t. int_le (civil_start t) (pos c)) z.transitions.items j
    (no_transition z) l) in
    omega (arith, signed_arith)

pub ahead : (z : Tzif) (c : ℕ) → count z c < size z → pos c <ℤ civil_start (transition_at z (count z c))
ahead z c l =
    let over = le-false (civil_start (transition_at z (count z c))) (pos c) (prefix_len_stops (λ t. int_le (civil_start t) (pos c)) z.transitions.items
    (no_transition z) l) in
    omega (arith, signed_arith)

pub counts_rise : (z : Tzif) (c d : ℕ) → c ≤ d → count z c ≤ count z d
counts_rise z c d le = elim (cases_lt (count z d) (count z c)) [
  | inl less ↦
      let bound = count_bound z c in
      let low = passed z c (count z d) less in
      let high = ahead z d (omega arith) in
      absurd (omega (arith, signed_arith))
  | inr more ↦ more
]

-- past so many transitions the clock is at the offset before the next one
pub before_is : (z : Tzif) (k : ℕ) → k < size z → (transition_at z k).before.seconds ≡ (type_after z k).offset.seconds
before_is z zero l = first_goes_on z l
before_is z (suc k) l =
    let parts = goes_on z k (omega arith) in
    let same : k + 1 ≡ suc k = omega arith in
    let back : suc k - 1 ≡ k = omega arith in
    let type : (type_after z (suc k)).offset.seconds ≡ (transition_at z k).after.offset.seconds =
    ap (λ (o : Offset). o.seconds) (last_type z (suc k) (omega arith)) ∙ ap (λ i. (transition_at z i).after.offset.seconds) back in
    let next : (transition_at z k).after.offset.seconds ≡ (transition_at z (suc k)).before.seconds =
    parts.2 ∙ ap (λ i. (transition_at z i).before.seconds) same in
    sym next ∙ sym type

pub some_inside : (z : Tzif) (n : ℕ) (k : ℤ) → is_inside z n k ≡ true → 0 < n
some_inside z zero k h = absurd (cc)
some_inside z (suc n) k h = omega arith

pub inside_end : (z : Tzif) (n : ℕ) (k : ℤ) → is_inside z n k ≡ true → k <ℤ civil_end (transition_at z (n - 1))
inside_end z n k h =
    let under = lt-true k (civil_end (transition_at z (n - 1))) (sym (is_inside-some z n k (some_inside z n k h)) ∙ h) in
    omega (arith, signed_arith)

pub outside_end : (z : Tzif) (n : ℕ) (k : ℤ) → is_inside z n k ≡ false → 0 < n → civil_end (transition_at z (n - 1)) ≤ℤ k
outside_end z n k h l =
    let over = lt-false k (civil_end (transition_at z (n - 1))) (sym (is_inside-some z n k l) ∙ h) in
    omega (arith, signed_arith)

-- a reading lies in a period of the table: at its offset, and from the transition that begins it to the one that ends it
pub record IsInPeriod (z : Tzif) (r : Reading) (p : ℕ) : Type 0 where
  pub bound : p ≤ size z
  pub offset : r.offset.seconds ≡ (type_after z p).offset.seconds
  pub low : 0 < p → (transition_at z (p - 1)).second ≤ℤ instant r
  pub high : p < size z → instant r <ℤ (transition_at z p).second

-- those of a later civil second and not an earlier period are later
pub periods_order : (z : Tzif) (q r : Reading) (p k : ℕ) → IsInPeriod z q p → IsInPeriod z r k → p ≤ k → q.second < r.second → instant q <ℤ instant r
periods_order z q r p k h g le less = elim (cases_lt p k) [
  | inl lower ↦
      let bound = g.bound in
      let end = h.high (omega arith) in
      let start = g.low (omega arith) in
      let rise = transitions_rise z p (k - 1) (omega arith) (omega arith) in
      omega (arith, signed_arith)
  | inr not_lower ↦
      let equal : p ≡ k = omega arith in
      let same : q.offset.seconds ≡ r.offset.seconds = h.offset ∙ ap (λ n. (type_after z n).offset.seconds) equal ∙ sym g.offset in
      omega (arith, signed_arith)
]

in_period : (z : Tzif) (c : ℕ) (o : Offset) → inside z c ≡ false → o.seconds ≡ (type_after z (count z c)).offset.seconds
    → IsInPeriod z (reading c o) (count z c)
in_period z c o out is = record {
  bound = count_bound z c;
  offset = is;
  low = λ l.
      let end = outside_end z (count z c) (pos c) out l in
      let edge = (edges_of (transition_at z (count z c - 1))).after_end in
      let type = ap (λ (v : Offset). v.seconds) (last_type z (count z c) l) in
      omega (arith, signed_arith);
  high = λ l.
      let next = ahead z c l in
      let edge = (edges_of (transition_at z (count z c))).start_before in
      let type = before_is z (count z c) l in
      omega (arith, signed_arith);
}

in_earlier : (z : Tzif) (c : ℕ) (o : Offset) → inside z c ≡ true → (transition_at z (count z c - 1)).after.offset.seconds ≤ℤ (transition_at z
    (count z c - 1)).before.seconds
    → o.seconds ≡ (transition_at z (count z c - 1)).before.seconds → IsInPeriod z (reading c o) (count z c - 1)
in_earlier z c o here falling is =
    let bound = count_bound z c in
    let some = some_inside z (count z c) (pos c) here in record {
      bound = omega arith;
      offset = is ∙ before_is z (count z c - 1) (omega arith);
      low = λ l.
          let shift : count z c - 1 - 1 + 1 ≡ count z c - 1 = omega arith in
          let parts = goes_on z (count z c - 1 - 1) (omega arith) in
          let apart = parts.1 in
          let same = parts.2 ∙ ap (λ i. (transition_at z i).before.seconds) shift in
          let start = ap (λ i. civil_start (transition_at z i)) shift in
          let begun = passed z c (count z c - 1) (omega arith) in
          let edge = (edges_of (transition_at z (count z c - 1 - 1))).after_end in
          omega (arith, signed_arith);
      high = λ l.
          let end = inside_end z (count z c) (pos c) here in
          let edge = (edges_of (transition_at z (count z c - 1))).falling_end falling in
          omega (arith, signed_arith);
    }

in_later : (z : Tzif) (c : ℕ) (o : Offset) → inside z c ≡ true → (transition_at z (count z c - 1)).after.offset.seconds ≤ℤ (transition_at z
    (count z c - 1)).before.seconds
    → o.seconds ≡ (transition_at z (count z c - 1)).after.offset.seconds → IsInPeriod z (reading c o) (count z c)
in_later z c o here falling is =
    let some = some_inside z (count z c) (pos c) here in
    let type = ap (λ (v : Offset). v.seconds) (last_type z (count z c) some) in record {
      bound = count_bound z c;
      offset = is ∙ sym type;
      low = λ l.
          let begun = passed z c (count z c - 1) (omega arith) in
          let edge = (edges_of (transition_at z (count z c - 1))).falling_start falling in
          omega (arith, signed_arith);
      high = λ l.
          let next = ahead z c l in
          let edge = (edges_of (transition_at z (count z c))).start_before in
          let before = before_is z (count z c) l in
          omega (arith, signed_arith);
    }

-- a reading that the table tells: the only one behind the last transition; or in its fold the earlier one, or the later one
pub data Stand (v : TimeZone) (z : Tzif) (r : Reading) : Type 0 where
  Alone : inside z r.second ≡ false → IsInPeriod z r (count z r.second) → Stand v z r
  Earlier : inside z r.second ≡ true → 0 < count z r.second → IsInPeriod z r (count z r.second - 1) → (IsOnce v r → ⊥) → Stand v z r
  Later : inside z r.second ≡ true → 0 < count z r.second → IsInPeriod z r (count z r.second) → (IsOnce v r → ⊥) → Stand v z r

-- a zone has the readings that the table tells
abbrev pub Tells : TimeZone → Tzif → Type 0
Tells v z = (c : ℕ) → c < seconds_in_range → readings v c ≡ readings_by c (offsets_around z (count z c) (inside z c) (civil c))

pub told_around : (t : Bor Tzif) → Tells (TableZone t) t.now
unfolding readings ambiguous_at
told_around t c h = rw (civil_seconds-civil c (omega arith)) refl

first_of_two : (a b r : Reading) (i : ℕ) → slice_get (a ∷ b ∷ []) i ≡ Some r → (r ≡ a) ⊎ (r ≡ b)
first_of_two a b r zero e = inl cc
first_of_two a b r (suc zero) e = inr cc
first_of_two a b r (suc (suc i)) e = absurd (nothing_in_nil i r e)

not_two : (a b r : Reading) → (a ∷ b ∷ []) ≡ (r ∷ []) → ⊥
not_two a b r e = cc

module _ (v : TimeZone) (z : Tzif) (told : Tells v z) (r : Reading) (h : IsRead v r) where
  abbrev last : Transition
  last = transition_at z (count z r.second - 1)

  fold_stand : inside z r.second ≡ true → last.after.offset.seconds ≤ℤ last.before.seconds
      → readings v r.second ≡ reading r.second last.before ∷ reading r.second last.after.offset ∷ [] → Stand v z r
  fold_stand here falling two =
      let some = some_inside z (count z r.second) (pos r.second) here in
      let many : IsOnce v r → ⊥ = λ once. not_two _ _ r (sym two ∙ once) in
      elim (first_of_two _ _ r h.place (ap (λ l. slice_get l h.place) (sym two) ∙ h.here)) [
        | inl is ↦ Earlier here some
            (subst (λ (x : Reading). IsInPeriod z x (count z r.second - 1)) (sym is) (in_earlier z r.second last.before here falling refl)) many
        | inr is ↦ Later here some
            (subst (λ (x : Reading). IsInPeriod z x (count z r.second)) (sym is) (in_later z r.second last.after.offset here falling refl)) many
      ]

  inside_stand : inside z r.second ≡ true → (g e : Bool) → int_lt last.before.seconds last.after.offset.seconds ≡ g
      → int_eq last.before.seconds last.after.offset.seconds ≡ e
      → readings v r.second ≡ readings_by r.second (cond g (Gap last.before last.after.offset) (Fold last.before last.after.offset)) → Stand v z r
  inside_stand here true e rises same is = absurd (nothing_in_nil h.place r (ap (λ l. slice_get l h.place) (sym is) ∙ h.here))
  inside_stand here false true falls same is =
      let some = some_inside z (count z r.second) (pos r.second) here in
      let begun = passed z r.second (count z r.second - 1) (omega arith) in
      let end = inside_end z (count z r.second) (pos r.second) here in
      let equal : last.before.seconds ≡ last.after.offset.seconds = grind (arith, ints) in
      let start = (edges_of last).falling_start (omega (arith, signed_arith)) in
      let stop = (edges_of last).falling_end (omega (arith, signed_arith)) in
      absurd (omega (arith, signed_arith))
  inside_stand here false false falls same is =
      let more = lt-false last.before.seconds last.after.offset.seconds falls in
      fold_stand here (omega (arith, signed_arith)) (is ∙ rw same refl)

  -- what is told by the table stands there
  pub stand_of : (inside z r.second ≡ false → ambiguous_after z (count z r.second) (civil r.second) ≡ Unambiguous (type_after z
      (count z r.second)).offset) → Stand v z r
  stand_of rows = by_side (inside z r.second) refl
    where
      by_side : (b : Bool) → inside z r.second ≡ b → Stand v z r
      by_side true here =
          inside_stand here (int_lt last.before.seconds last.after.offset.seconds) (int_eq last.before.seconds last.after.offset.seconds) refl refl
          (told r.second h.in_range ∙ ap (λ (b : Bool). readings_by r.second (offsets_around z (count z r.second) b (civil r.second))) here)
      by_side false out =
          let is : readings v r.second ≡ reading r.second (type_after z (count z r.second)).offset ∷ [] =
          told r.second h.in_range ∙ ap (λ (b : Bool). readings_by r.second (offsets_around z (count z r.second) b (civil r.second))) out
          ∙ ap (readings_by r.second) (rows out) in
          let same = only (reading r.second (type_after z (count z r.second)).offset) h.place (ap (λ l. slice_get l h.place) (sym is) ∙ h.here) in
          Alone out (subst (λ (x : Reading). IsInPeriod z x (count z r.second)) (sym same)
          (in_period z r.second (type_after z (count z r.second)).offset out refl))
        where
          only : (q : Reading) (i : ℕ) → slice_get (q ∷ []) i ≡ Some r → r ≡ q
          only q zero e = cc
          only q (suc i) e = absurd (nothing_in_nil i r e)
