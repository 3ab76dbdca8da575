-- How far the readings of a table lie from the order of their civil seconds.
use Rattle.std.proofs.Common.{◌≡◌, ℕ, ◌-◌, ◌<◌, ◌≤◌, ◌==◌, ℤ, pos, ◌+ℤ◌, ◌≤ℤ◌, ◌<ℤ◌, Bool, true, false, cond, List, map, length, vec_len, Option, option_map, Some, None, ◌⊎◌, inl, inr, refl, sym, ap, subst, ◌∙◌, arith}
use Rattle.std.specs.Borrow.{Bor}
use Rattle.std.specs.Prelude.{slice_get}
use Rattle.std.proofs.lemmas.Bool.{cases_lt}
use Rattle.std.proofs.lemmas.Bool.Decides.{nat_tests}
use Rattle.jiff_core.proofs.SignedLemmas.{signed_arith}
use Rattle.jiff_core.specs.declared.Offset.{Offset}
use Rattle.jiff_core.specs.declared.civil.datetime.DateTime.{DateTime}
use Rattle.jiff_tz.specs.PosixText.{tz_view}
use Rattle.jiff_tz.specs.PosixRule as Posix
use Rattle.jiff_tz.specs.declared.ambiguous.AmbiguousOffset.TheVariants.{Unambiguous}
use Rattle.jiff_tz.specs.declared.posix.TimeZone.{TimeZone as Rule}
use Rattle.jiff_tz.specs.declared.timezone.TimeZone.{TimeZone}
use Rattle.jiff_tz.specs.declared.timezone.TimeZone.TheVariants.{Tzif as TableZone, Posix as RuleZone}
use Rattle.jiff_tz.specs.declared.tzif.Tzif.{Tzif}
use Rattle.jiff_tz.specs.declared.tzif.transition.Transition.{Transition}
use Rattle.jiff_tz.specs.Tzif.{ambiguous_after, civil_end, is_inside, no_transition, transition_at, type_after}
use Rattle.jiff_tz.specs.TzifText.{transition_text}
use Rattle.std.proofs.lemmas.Grind.{common_steps}
use Rattle.jiff_tz.specs.Zone.{ambiguous_at}
use Rattle.jiff_tz.proofs.TzifLemmas.{starts_rise}
use Rattle.cron_clocks.proofs.TableLemmas.{last_type, past_all, transitions_length}
use Rattle.cron_clocks.specs.Tables.{offsets_around, transitions_of}
use Rattle.cron_moments.specs.Civil.{civil, seconds_in_range}
use Rattle.cron_moments.specs.Readings.{Reading, instant, readings, readings_by}
use Rattle.cron_instants.specs.OffsetRange.{HasOffsets, IsAmongOffsets, IsOnce, IsRead, IsOffsetRange, width}
use Rattle.cron_instants.specs.declared.offset_range.OffsetRange.{OffsetRange}
use Rattle.cron_instants.proofs.OffsetRangeLemmas.{rule_among, offset_range_by}
use Rattle.cron_instants.proofs.TransitionLemmas.{size, count, inside, edges_of, transitions_rise, count_bound, ahead, counts_rise, inside_end, outside_end, IsInPeriod, periods_order, Stand, Alone, Earlier, Later, stand_of, Tells, told_around}

-- up to the edge no rule tells what the table does
abbrev pub TellsRows : Tzif → ℤ → Type 0
TellsRows z edge =
    (c : ℕ) → c < seconds_in_range → pos c <ℤ edge → inside z c ≡ false
    → ambiguous_after z (count z c) (civil c) ≡ Unambiguous (type_after z (count z c)).offset

module _ (v : TimeZone) (z : Tzif) (told : Tells v z) (edge : ℤ) (rows : TellsRows z edge) where
  pub stand : (r : Reading) → IsRead v r → pos r.second <ℤ edge → Stand v z r
  stand r h short = stand_of v z told r h (rows r.second h.in_range short)

  -- of two civil seconds past the same transitions the second one isn't in the fold alone
  both_inside : (q r : Reading) → inside z q.second ≡ false → inside z r.second ≡ true → q.second < r.second → count z q.second ≤ count z r.second - 1
  both_inside q r out here less = elim (cases_lt (count z q.second) (count z r.second)) [
    | inl lower ↦ omega arith
    | inr not_lower ↦
        let rise = counts_rise z q.second r.second (omega arith) in
        let equal : count z q.second ≡ count z r.second = omega arith in
        let end = inside_end z (count z r.second) (pos r.second) here in
        elim (cases_lt 0 (count z q.second)) [
          | inl some ↦
              let past = outside_end z (count z q.second) (pos q.second) out some in
              let same = ap (λ n. civil_end (transition_at z (n - 1))) equal in
              absurd (omega (arith, signed_arith))
          | inr none ↦ omega arith
        ]
  ]

  -- past the same transitions two readings of a fold are in order unless both seconds are read twice
  lower_later : (q r : Reading) → q.second < r.second → (IsOnce v q → ⊥) → (IsOnce v r → ⊥) → IsOnce v q ⊎ IsOnce v r → ⊥
  lower_later q r less many both (inl once) = many once
  lower_later q r less many both (inr once) = both once

  pub rows_ordered : (q r : Reading) → IsRead v q → IsRead v r → q.second < r.second → pos r.second <ℤ edge
      → IsOnce v q ⊎ IsOnce v r → instant q <ℤ instant r
  rows_ordered q r h g less short once =
      let rise = counts_rise z q.second r.second (omega arith) in
      elim (stand r g short) [
        | Alone r_out there ↦ elim (stand q h (omega (arith, signed_arith))) [
          | Alone q_out here ↦ periods_order z q r _ _ here there rise less
          | Earlier q_in some here many ↦ periods_order z q r _ _ here there (omega arith) less
          | Later q_in some here many ↦ periods_order z q r _ _ here there rise less
        ]
        | Earlier r_in r_some there both ↦ elim (stand q h (omega (arith, signed_arith))) [
          | Alone q_out here ↦ periods_order z q r _ _ here there (both_inside q r q_out r_in less) less
          | Earlier q_in some here many ↦ periods_order z q r _ _ here there (omega arith) less
          | Later q_in some here many ↦ absurd (lower_later q r less many both once)
        ]
        | Later r_in r_some there both ↦ elim (stand q h (omega (arith, signed_arith))) [
          | Alone q_out here ↦ periods_order z q r _ _ here there rise less
          | Earlier q_in some here many ↦ periods_order z q r _ _ here there (omega arith) less
          | Later q_in some here many ↦ periods_order z q r _ _ here there rise less
        ]
      ]

-- a list that says the same as the table has as many transitions
pub sizes : (z : Tzif) (ts : List Transition) → map transition_text ts ≡ transitions_of z → length ts ≡ size z
sizes z ts same =
    let own : length (map transition_text ts) ≡ length ts = grind (arith, common_steps) in
    let other = transitions_length z in
    sym own ∙ ap length same ∙ other

-- ---- up to the end of the last transition

below_last : (z : Tzif) → 0 < size z → (c : ℕ) → count z c ≡ size z → pos c <ℤ civil_end (transition_at z (size z - 1)) → inside z c ≡ false → ⊥
below_last z some c all short out =
    let past = outside_end z (count z c) (pos c) out (omega arith) in
    let here = ap (λ n. civil_end (transition_at z (n - 1))) all in
    omega (arith, signed_arith)

pub rows_upto : (z : Tzif) → 0 < size z → TellsRows z (civil_end (transition_at z (size z - 1)))
rows_upto z some c range short out = elim (cases_lt (count z c) (size z)) [
  | inl less ↦
      let not_all : (count z c == vec_len z.transitions) ≡ false = grind (arith, nat_tests) in
      rw not_all refl
  | inr all ↦
      let bound = count_bound z c in
      absurd (below_last z some c (omega arith) short out)
]

-- ---- with no rule

no_rule : (z : Tzif) (n : ℕ) (dt : DateTime) → z.posix_tz ≡ None → ambiguous_after z n dt ≡ Unambiguous (type_after z n).offset
no_rule z n dt none = by_test (n == vec_len z.transitions)
  where
    by_test : (b : Bool) → Rattle.jiff_tz.specs.PosixRule.match_some (cond b z.posix_tz None) (Unambiguous (type_after z n).offset)
        (λ tz. Posix.ambiguous_at tz dt) ≡ Unambiguous (type_after z n).offset
    by_test true = rw none refl
    by_test false = refl

no_view : (o : Option Rule) → None ≡ option_map tz_view o → o ≡ None
no_view None e = refl
no_view (Some r) e = absurd (cc)

pub offset_range_of_rows : (t : Bor Tzif) (p : OffsetRange) (o : Option Rule) → option_map tz_view o ≡ option_map tz_view t.now.posix_tz → o ≡ None
    → p.edge ≡ pos seconds_in_range → p.least ≡ p.greatest → IsOffsetRange (TableZone t) p
offset_range_of_rows t p o same is edge one =
    let z = t.now in
    let none = no_view z.posix_tz (ap (option_map tz_view) (sym is) ∙ same) in record {
      some = omega (arith, signed_arith);
      ordered = rows_ordered (TableZone t) z (told_around t) p.edge (λ c range short out. no_rule z (count z c) (civil c) none);
      upto = λ q r h g short past. let range = g.in_range in absurd (omega (arith, signed_arith));
      past = λ q r h g short past. let range = g.in_range in absurd (omega (arith, signed_arith));
      among = λ r h past. let range = h.in_range in absurd (omega (arith, signed_arith));
    }

-- ---- with a rule, which tells what lies behind the last transition

module _ (t : Bor Tzif) (p : OffsetRange) (r : Rule) (o : Option Rule) (ts : List Transition) (same : option_map tz_view o ≡ option_map tz_view t.now.posix_tz)
    (is : o ≡ Some r) (transitions : map transition_text ts ≡ transitions_of t.now) (has : HasOffsets r p) where
  abbrev z : Tzif
  z = t.now

  -- past all transitions the zone has the readings of the rule
  ruled : (c : ℕ) → c < seconds_in_range → count z c ≡ size z → inside z c ≡ false → readings (TableZone t) c ≡ readings (RuleZone r) c
  unfolding readings ambiguous_at
  ruled c range all out =
      told_around t c range ∙ ap (λ (b : Bool). readings_by c (offsets_around z (count z c) b (civil c))) out
      ∙ ap (readings_by c) (past_all z (count z c) r o ts (civil c) same is transitions (all ∙ sym (sizes z ts transitions)))

  ruled_among : (q : Reading) → IsRead (TableZone t) q → count z q.second ≡ size z → inside z q.second ≡ false → IsAmongOffsets p q.offset.seconds
  ruled_among q h all out =
      rule_among r p r.dst refl has q.second h.place q (ap (λ l. slice_get l h.place) (sym (ruled q.second h.in_range all out)) ∙ h.here)

  pub offset_range_of_rule : size z ≡ 0 → p.edge ≡ pos 0 → IsOffsetRange (TableZone t) p
  offset_range_of_rule none edge =
      offset_range_by (TableZone t) p edge (omega (arith, signed_arith, has.standard.0, has.standard.1))
      (λ q h.
      let bound = count_bound z q.second in
      let zero : count z q.second ≡ 0 = omega arith in
      ruled_among q h (omega arith) (ap (λ n. is_inside z n (pos q.second)) zero))

  module _ (some : 0 < size z) (last : Transition) (last_is : last ≡ transition_at z (size z - 1)) (edge : p.edge ≡ civil_end last)
      (among : IsAmongOffsets p last.after.offset.seconds) where
    last_end : p.edge ≡ civil_end (transition_at z (size z - 1))
    last_end = edge ∙ ap civil_end last_is

    -- the second and the offset of the last transition
    after_is : (transition_at z (size z - 1)).after.offset.seconds ≡ last.after.offset.seconds
    after_is = ap (λ (v : Transition). v.after.offset.seconds) (sym last_is)

    lies_within : ((transition_at z (size z - 1)).second +ℤ last.after.offset.seconds) ≤ℤ p.edge
    lies_within =
        let e = last_end in
        let a = after_is in
        let bound = (edges_of (transition_at z (size z - 1))).after_end in
        omega (arith, signed_arith)

    below_end : (c : ℕ) → count z c ≡ size z → pos c <ℤ p.edge → inside z c ≡ false → ⊥
    below_end c all short out = below_last z some c all (subst (λ e. pos c <ℤ e) last_end short) out

    rows : TellsRows z p.edge
    rows c range short out = rows_upto z some c range (subst (λ e. pos c <ℤ e) last_end short) out

    stands : (q : Reading) → IsRead (TableZone t) q → pos q.second <ℤ p.edge → Stand (TableZone t) z q
    stands q h short = stand (TableZone t) z (told_around t) p.edge rows q h short

    -- a period before the last transition ends by it
    before_last : (q : Reading) (n : ℕ) → IsInPeriod z q n → n < size z → instant q <ℤ (transition_at z (size z - 1)).second
    before_last q n h less =
        let end = h.high less in
        let rise = transitions_rise z n (size z - 1) (omega arith) (omega arith) in
        omega (arith, signed_arith)

    alone_before : (q : Reading) → pos q.second <ℤ p.edge → inside z q.second ≡ false → count z q.second < size z
    alone_before q short out = elim (cases_lt (count z q.second) (size z)) [
      | inl less ↦ less
      | inr all ↦ let bound = count_bound z q.second in absurd (below_end q.second (omega arith) short out)
    ]

    -- from the edge on all transitions are passed
    passed_all : (c : ℕ) → p.edge ≤ℤ pos c → count z c ≡ size z
    passed_all c past = elim (cases_lt (count z c) (size z)) [
      | inl less ↦
          let next = ahead z c less in
          let rise = starts_rise z.first.offset.seconds z.transitions.items (no_transition z) z.ordered (count z c) (size z - 1) (omega arith)
          (omega arith) in
          let ends = edges_of (transition_at z (size z - 1)) in
          let from = ends.start_after in
          let to = ends.after_end in
          let e = last_end in
          absurd (omega (arith, signed_arith))
      | inr all ↦ let bound = count_bound z c in omega arith
    ]

    out_of_all : (c : ℕ) → p.edge ≤ℤ pos c → inside z c ≡ false
    out_of_all c past = by_test (inside z c) refl
      where
        by_test : (b : Bool) → inside z c ≡ b → b ≡ false
        by_test false here = refl
        by_test true here =
            let end = inside_end z (count z c) (pos c) here in
            let all = ap (λ n. civil_end (transition_at z (n - 1))) (passed_all c past) in
            let e = last_end in
            absurd (omega (arith, signed_arith))

    past_among : (q : Reading) → IsRead (TableZone t) q → p.edge ≤ℤ pos q.second → IsAmongOffsets p q.offset.seconds
    past_among q h past = ruled_among q h (passed_all q.second past) (out_of_all q.second past)

    -- past the edge a reading isn't further before the last transition than the offsets lie apart
    late : (q : Reading) → IsRead (TableZone t) q → p.edge ≤ℤ pos q.second → (transition_at z (size z - 1)).second ≤ℤ (instant q +ℤ width p)
    late q h past =
        let own = past_among q h past in
        let within = lies_within in
        omega (arith, signed_arith, own.0, own.1, among.0, among.1)

    upto_edge : (q s : Reading) → IsRead (TableZone t) q → IsRead (TableZone t) s → pos q.second <ℤ p.edge → p.edge ≤ℤ pos s.second → IsOnce (TableZone t) q
        → instant q <ℤ (instant s +ℤ width p)
    upto_edge q s h g short past once = elim (stands q h short) [
      | Alone out here ↦
          let before = before_last q (count z q.second) here (alone_before q short out) in
          let after = late s g past in
          omega (arith, signed_arith)
      | Earlier in_fold some here many ↦ absurd (many once)
      | Later in_fold some here many ↦ absurd (many once)
    ]

    past_by : (q s : Reading) (n : ℕ) → IsInPeriod z q n → n < size z → IsRead (TableZone t) s → (p.edge +ℤ width p) ≤ℤ pos s.second → instant q <ℤ instant s
    past_by q s n here less g far =
        let before = before_last q n here less in
        let w : pos 0 ≤ℤ width p = omega (arith, signed_arith, among.0, among.1) in
        let own = past_among s g (omega (arith, signed_arith)) in
        let within = lies_within in
        omega (arith, signed_arith, own.0, own.1, among.0, among.1)

    last_by : (q s : Reading) → IsInPeriod z q (size z) → IsRead (TableZone t) s → pos q.second <ℤ p.edge → (p.edge +ℤ width p) ≤ℤ pos s.second
        → instant q <ℤ instant s
    last_by q s here g short far =
        let w : pos 0 ≤ℤ width p = omega (arith, signed_arith, among.0, among.1) in
        let own = past_among s g (omega (arith, signed_arith)) in
        let type = here.offset ∙ ap (λ (v : Offset). v.seconds) (last_type z (size z) some) ∙ after_is in
        omega (arith, signed_arith, own.0, own.1, among.0, among.1)

    far_past : (q s : Reading) → IsRead (TableZone t) q → IsRead (TableZone t) s → pos q.second <ℤ p.edge → (p.edge +ℤ width p) ≤ℤ pos s.second
        → instant q <ℤ instant s
    far_past q s h g short far =
        let bound = count_bound z q.second in
        elim (stands q h short) [
          | Alone out here ↦ past_by q s _ here (alone_before q short out) g far
          | Earlier in_fold begun here many ↦ past_by q s _ here (omega arith) g far
          | Later in_fold begun here many ↦ elim (cases_lt (count z q.second) (size z)) [
            | inl less ↦ past_by q s _ here less g far
            | inr all ↦
                let equal : count z q.second ≡ size z = omega arith in
                last_by q s (subst (IsInPeriod z q) equal here) g short far
          ]
        ]

    pub offset_range_of_both : IsOffsetRange (TableZone t) p
    offset_range_of_both = record {
      some = omega (arith, signed_arith, among.0, among.1);
      ordered = rows_ordered (TableZone t) z (told_around t) p.edge rows;
      upto = upto_edge;
      past = far_past;
      among = past_among;
    }
