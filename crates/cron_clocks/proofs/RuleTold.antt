-- The offsets that a rule tells of a civil second are those that its clock shows at their instants.
use Rattle.std.proofs.Common.{◌≡◌, Bool, true, false, cond, not, ◌⊎◌, inl, inr, ℤ, ◌+ℤ◌, ◌-ℤ◌, ◌≤ℤ◌, ◌<ℤ◌, refl, sym, ap, subst, ◌∙◌, arith}
use Rattle.std.proofs.lemmas.Int.{by_lt_z}
use Rattle.jiff_core.specs.Timestamp.{IsOffsetSeconds, nanos_of_seconds}
use Rattle.jiff_core.specs.declared.Offset.{Offset}
use Rattle.jiff_core.proofs.SignedLemmas.{signed_arith}
use Rattle.jiff_tz.specs.declared.ambiguous.AmbiguousOffset.{AmbiguousOffset}
use Rattle.jiff_tz.specs.declared.ambiguous.AmbiguousOffset.TheVariants.{Unambiguous, Gap, Fold}
use Rattle.jiff_tz.specs.PosixRule.{in_window, in_span, saturating_add, saturating_sub, shift_between, ambiguous_ahead, ambiguous_behind, ambiguous_by, civil_min, civil_max}
use Rattle.cron_clocks.proofs.RuleTransitions.{clamp_inside}
use Rattle.cron_clocks.proofs.Seasons.{IsAround, IsFarInside}
use Rattle.cron_clocks.proofs.ToldLemmas.{IsTold}
use Rattle.cron_clocks.proofs.Windows.{lt_yes, lt_no, inside_span, outside_span, window_in_order, window_turned}

-- ---- spans, in seconds

inside_seconds : (p q n x y : ℤ) → x ≡ nanos_of_seconds p → y ≡ nanos_of_seconds q → in_span x y (nanos_of_seconds n) ≡ true → (p ≤ℤ n) × (n <ℤ q)
inside_seconds p q n x y e f h =
    let parts = inside_span x y (nanos_of_seconds n) h in
    let low = parts.0 in
    let high = parts.1 in
    (omega (arith, signed_arith), omega (arith, signed_arith))

outside_seconds : (p q n x y : ℤ) → x ≡ nanos_of_seconds p → y ≡ nanos_of_seconds q → in_span x y (nanos_of_seconds n) ≡ false → (n <ℤ p) ⊎ (q ≤ℤ n)
outside_seconds p q n x y e f h =
    elim (outside_span x y (nanos_of_seconds n) h) [
      | inl early ↦ inl (omega (arith, signed_arith))
      | inr late ↦ inr (omega (arith, signed_arith))
    ]

-- past both, and short of both
past : (p q n : ℤ) → p ≤ℤ n → (n <ℤ p) ⊎ (q ≤ℤ n) → q ≤ℤ n
past p q n h (inl early) = absurd (omega (arith, signed_arith))
past p q n h (inr late) = late

short : (p q n : ℤ) → n <ℤ q → (n <ℤ p) ⊎ (q ≤ℤ n) → n <ℤ p
short p q n h (inl early) = early
short p q n h (inr late) = absurd (omega (arith, signed_arith))

moved_on : (std dst : Offset) (a : ℤ) → IsFarInside a
    → saturating_add (nanos_of_seconds a) (shift_between std dst) ≡ nanos_of_seconds (a +ℤ (dst.seconds -ℤ std.seconds))
moved_on std dst a inner =
    let std_in = std.in_range in
    let dst_in = dst.in_range in
    clamp_inside civil_min civil_max (nanos_of_seconds a +ℤ shift_between std dst) (omega (arith, signed_arith)) (omega (arith, signed_arith))
    ∙ omega (arith, signed_arith)

moved_back : (std dst : Offset) (a : ℤ) → IsFarInside a
    → saturating_sub (nanos_of_seconds a) (shift_between std dst) ≡ nanos_of_seconds (a -ℤ (dst.seconds -ℤ std.seconds))
moved_back std dst a inner =
    let std_in = std.in_range in
    let dst_in = dst.in_range in
    clamp_inside civil_min civil_max (nanos_of_seconds a -ℤ shift_between std dst) (omega (arith, signed_arith)) (omega (arith, signed_arith))
    ∙ omega (arith, signed_arith)

ahead : (a b : ℤ) → a ≤ℤ b → ¬ (b ≡ a) → a <ℤ b
ahead a b least other = by_lt_z a b (λ lt. lt) (λ ge. absurd (other (omega (arith, signed_arith))))

-- ---- what is told, by the tests that jiff makes

module _ (P : AmbiguousOffset → Type 0) (std dst : Offset) where
  ahead_by : (window gap fold : Bool)
      → (window ≡ false → P (Unambiguous std))
      → (window ≡ true → gap ≡ true → P (Gap std dst))
      → (window ≡ true → gap ≡ false → fold ≡ true → P (Fold dst std))
      → (window ≡ true → gap ≡ false → fold ≡ false → P (Unambiguous dst))
      → P (cond (not window) (Unambiguous std) (cond gap (Gap std dst) (cond fold (Fold dst std) (Unambiguous dst))))
  ahead_by false gap fold a b c d = a refl
  ahead_by true true fold a b c d = b refl refl
  ahead_by true false true a b c d = c refl refl refl
  ahead_by true false false a b c d = d refl refl refl

  behind_by : (window fold gap : Bool)
      → (window ≡ true → P (Unambiguous dst))
      → (window ≡ false → fold ≡ true → P (Fold std dst))
      → (window ≡ false → fold ≡ false → gap ≡ true → P (Gap dst std))
      → (window ≡ false → fold ≡ false → gap ≡ false → P (Unambiguous std))
      → P (cond window (Unambiguous dst) (cond fold (Fold std dst) (cond gap (Gap dst std) (Unambiguous std))))
  behind_by true fold gap a b c d = a refl
  behind_by false true gap a b c d = b refl refl
  behind_by false false true a b c d = c refl refl refl
  behind_by false false false a b c d = d refl refl refl

-- ---- a civil second of a year in which a clock shows one offset from one transition to the next, and else the other

module _ (shows : ℤ → ℤ) (c first second outer inner : ℤ) (outer_in : IsOffsetSeconds outer) (inner_in : IsOffsetSeconds inner)
    (here : IsAround shows outer inner c first second) (other : ¬ (inner ≡ outer))
    (either : (n : ℤ) → (shows n ≡ outer) ⊎ (shows n ≡ inner)) where
  abbrev passes : ℤ → Type 0
  passes x = shows (c -ℤ x) ≡ x

  -- where an offset passes
  abbrev OuterPasses : Type 0
  OuterPasses = (c <ℤ first) ⊎ ((second -ℤ inner +ℤ outer) ≤ℤ c)

  abbrev InnerPasses : Type 0
  InnerPasses = ((first +ℤ inner -ℤ outer) ≤ℤ c) × (c <ℤ second)

  abbrev OuterFails : Type 0
  OuterFails = (first ≤ℤ c) × (c <ℤ (second -ℤ inner +ℤ outer))

  abbrev InnerFails : Type 0
  InnerFails = (c <ℤ (first +ℤ inner -ℤ outer)) ⊎ (second ≤ℤ c)

  outer_passes : OuterPasses → passes outer
  outer_passes (inl early) = here.before (c -ℤ outer) (omega (arith, signed_arith), omega (arith, signed_arith)) (omega (arith, signed_arith))
  outer_passes (inr late) = here.after (c -ℤ outer) (omega (arith, signed_arith), omega (arith, signed_arith)) (omega (arith, signed_arith))

  inner_passes : InnerPasses → passes inner
  inner_passes inside = here.between (c -ℤ inner) (omega (arith, signed_arith)) (omega (arith, signed_arith))

  outer_fails : OuterFails → ¬ (passes outer)
  outer_fails inside h = other (sym (here.between (c -ℤ outer) (omega (arith, signed_arith)) (omega (arith, signed_arith))) ∙ h)

  inner_fails : InnerFails → ¬ (passes inner)
  inner_fails (inl early) h =
      other (sym h ∙ here.before (c -ℤ inner) (omega (arith, signed_arith), omega (arith, signed_arith)) (omega (arith, signed_arith)))
  inner_fails (inr late) h =
      other (sym h ∙ here.after (c -ℤ inner) (omega (arith, signed_arith), omega (arith, signed_arith)) (omega (arith, signed_arith)))

  which : (x : ℤ) → passes x → (x ≡ outer) ⊎ (x ≡ inner)
  which x h = elim (either (c -ℤ x)) [
    | inl e ↦ inl (sym h ∙ e)
    | inr e ↦ inr (sym h ∙ e)
  ]

  not_outer : OuterFails → (x : ℤ) → passes x → x ≡ inner
  not_outer fails x h = elim (which x h) [
    | inl e ↦ absurd (outer_fails fails (subst passes e h))
    | inr e ↦ e
  ]

  not_inner : InnerFails → (x : ℤ) → passes x → x ≡ outer
  not_inner fails x h = elim (which x h) [
    | inl e ↦ e
    | inr e ↦ absurd (inner_fails fails (subst passes e h))
  ]

  told_outer : (o : Offset) → o.seconds ≡ outer → OuterPasses → InnerFails → IsTold passes (Unambiguous o)
  told_outer o e here fails = (subst passes (sym e) (outer_passes here), λ x h. not_inner fails x h ∙ sym e)

  told_inner : (o : Offset) → o.seconds ≡ inner → InnerPasses → OuterFails → IsTold passes (Unambiguous o)
  told_inner o e here fails = (subst passes (sym e) (inner_passes here), λ x h. not_outer fails x h ∙ sym e)

  told_none : (a b : Offset) → OuterFails → InnerFails → IsTold passes (Gap a b)
  told_none a b outside inside x h = inner_fails inside (subst passes (not_outer outside x h) h)

  told_outer_first : (a b : Offset) → a.seconds ≡ outer → b.seconds ≡ inner → OuterPasses → InnerPasses → IsTold passes (Fold a b)
  told_outer_first a b e f outside inside = (
    subst passes (sym e) (outer_passes outside),
    subst passes (sym f) (inner_passes inside),
    λ x h. elim (which x h) [
      | inl is ↦ inl (is ∙ sym e)
      | inr is ↦ inr (is ∙ sym f)
    ],
  )

  told_inner_first : (a b : Offset) → a.seconds ≡ inner → b.seconds ≡ outer → OuterPasses → InnerPasses → IsTold passes (Fold a b)
  told_inner_first a b e f outside inside = (
    subst passes (sym e) (inner_passes inside),
    subst passes (sym f) (outer_passes outside),
    λ x h. elim (which x h) [
      | inl is ↦ inr (is ∙ sym f)
      | inr is ↦ inl (is ∙ sym e)
    ],
  )

  module _ (std dst : Offset) where
    abbrev at : ℤ → ℤ
    at = nanos_of_seconds

    abbrev shift : ℤ
    shift = dst.seconds -ℤ std.seconds

    abbrev on : ℤ → ℤ
    on a = saturating_add (at a) (shift_between std dst)

    abbrev back : ℤ → ℤ
    back a = saturating_sub (at a) (shift_between std dst)

    on_first : on first ≡ at (first +ℤ shift)
    on_first = moved_on std dst first here.first_in

    on_second : on second ≡ at (second +ℤ shift)
    on_second = moved_on std dst second here.second_in

    back_first : back first ≡ at (first -ℤ shift)
    back_first = moved_back std dst first here.first_in

    back_second : back second ≡ at (second -ℤ shift)
    back_second = moved_back std dst second here.second_in

    -- the saving begins at the first transition
    module _ (e : std.seconds ≡ outer) (f : dst.seconds ≡ inner) where
      within : in_window (at first, at second) (at c) ≡ in_span (at first) (at second) (at c)
      within = window_in_order (at first) (at second) (at c) (omega (arith, signed_arith))

      within_ahead : outer <ℤ inner → IsTold passes (ambiguous_ahead std dst (at first, at second) (at c))
      within_ahead more =
          ahead_by (IsTold passes) std dst (in_window (at first, at second) (at c))
          (in_span (at first) (on first) (at c)) (in_span (back second) (at second) (at c))
          (λ w. elim (outside_seconds first second c _ _ refl refl (sym within ∙ w)) [
            | inl early ↦ told_outer std e (inl early) (inl (omega (arith, signed_arith)))
            | inr late ↦ told_outer std e (inr (omega (arith, signed_arith))) (inr late)
          ])
          (λ w g. let gap = inside_seconds first (first +ℤ shift) c _ _ refl on_first g in
          let low = gap.0 in
          let high = gap.1 in
          told_none std dst (low, omega (arith, signed_arith)) (inl (omega (arith, signed_arith))))
          (λ w g h. let span = inside_seconds (second -ℤ shift) second c _ _ back_second refl h in
          let low = span.0 in
          let high = span.1 in
          told_inner_first dst std f e (inr (omega (arith, signed_arith))) (omega (arith, signed_arith), high))
          (λ w g h. let inside = inside_seconds first second c _ _ refl refl (sym within ∙ w) in
          let low : (first +ℤ shift) ≤ℤ c =
          past first (first +ℤ shift) c inside.0 (outside_seconds first (first +ℤ shift) c _ _ refl on_first g) in
          let high : c <ℤ (second -ℤ shift) =
          short (second -ℤ shift) second c inside.1 (outside_seconds (second -ℤ shift) second c _ _ back_second refl h) in
          told_inner dst f (omega (arith, signed_arith), inside.1) (inside.0, omega (arith, signed_arith)))

      within_behind : inner <ℤ outer → IsTold passes (ambiguous_behind std dst (at first, at second) (at c))
      within_behind less =
          behind_by (IsTold passes) std dst (in_window (at first, at second) (at c))
          (in_span (on first) (at first) (at c)) (in_span (at second) (back second) (at c))
          (λ w. let inside = inside_seconds first second c _ _ refl refl (sym within ∙ w) in
          let low = inside.0 in
          let high = inside.1 in
          told_inner dst f (omega (arith, signed_arith), high) (low, omega (arith, signed_arith)))
          (λ w g. let span = inside_seconds (first +ℤ shift) first c _ _ on_first refl g in
          let low = span.0 in
          let high = span.1 in
          told_outer_first std dst e f (inl high) (omega (arith, signed_arith), omega (arith, signed_arith)))
          (λ w g h. let gap = inside_seconds second (second -ℤ shift) c _ _ refl back_second h in
          let low = gap.0 in
          let high = gap.1 in
          told_none dst std (omega (arith, signed_arith), omega (arith, signed_arith)) (inr low))
          (λ w g h. elim (outside_seconds first second c _ _ refl refl (sym within ∙ w)) [
            | inl early ↦
                let low : c <ℤ (first +ℤ shift) =
                short (first +ℤ shift) first c early (outside_seconds (first +ℤ shift) first c _ _ on_first refl g) in
                told_outer std e (inl early) (inl (omega (arith, signed_arith)))
            | inr late ↦
                let high : (second -ℤ shift) ≤ℤ c =
                past second (second -ℤ shift) c late (outside_seconds second (second -ℤ shift) c _ _ refl back_second h) in
                told_outer std e (inr (omega (arith, signed_arith))) (inr late)
          ])

      pub told_within : IsTold passes (ambiguous_by std dst (at first, at second) (at c))
      told_within =
          by_lt_z dst.seconds std.seconds
          (λ less. rw (lt_yes dst.seconds std.seconds less) (within_behind (omega (arith, signed_arith))))
          (λ least. let more : std.seconds <ℤ dst.seconds = ahead std.seconds dst.seconds least (λ same. other (sym f ∙ same ∙ e)) in
          rw (lt_no dst.seconds std.seconds least, lt_yes std.seconds dst.seconds more) (within_ahead (omega (arith, signed_arith))))

    -- the saving begins at the second transition
    module _ (e : std.seconds ≡ inner) (f : dst.seconds ≡ outer) where
      across : in_window (at second, at first) (at c) ≡ not (in_span (at first) (at second) (at c))
      across = window_turned (at second) (at first) (at c) (omega (arith, signed_arith))

      out_of : (w : Bool) → in_window (at second, at first) (at c) ≡ w → in_span (at first) (at second) (at c) ≡ not w
      out_of w h = turned (in_span (at first) (at second) (at c)) w (sym across ∙ h)
        where
          turned : (a b : Bool) → not a ≡ b → a ≡ not b
          turned true b k = ap not k
          turned false b k = ap not k

      across_ahead : inner <ℤ outer → IsTold passes (ambiguous_ahead std dst (at second, at first) (at c))
      across_ahead more =
          ahead_by (IsTold passes) std dst (in_window (at second, at first) (at c))
          (in_span (at second) (on second) (at c)) (in_span (back first) (at first) (at c))
          (λ w. let inside = inside_seconds first second c _ _ refl refl (out_of false w) in
          let low = inside.0 in
          let high = inside.1 in
          told_inner std e (omega (arith, signed_arith), high) (low, omega (arith, signed_arith)))
          (λ w g. let gap = inside_seconds second (second +ℤ shift) c _ _ refl on_second g in
          let low = gap.0 in
          let high = gap.1 in
          told_none std dst (omega (arith, signed_arith), omega (arith, signed_arith)) (inr low))
          (λ w g h. let span = inside_seconds (first -ℤ shift) first c _ _ back_first refl h in
          let low = span.0 in
          let high = span.1 in
          told_outer_first dst std f e (inl high) (omega (arith, signed_arith), omega (arith, signed_arith)))
          (λ w g h. elim (outside_seconds first second c _ _ refl refl (out_of true w)) [
            | inl early ↦
                let low : c <ℤ (first -ℤ shift) =
                short (first -ℤ shift) first c early (outside_seconds (first -ℤ shift) first c _ _ back_first refl h) in
                told_outer dst f (inl early) (inl (omega (arith, signed_arith)))
            | inr late ↦
                let high : (second +ℤ shift) ≤ℤ c =
                past second (second +ℤ shift) c late (outside_seconds second (second +ℤ shift) c _ _ refl on_second g) in
                told_outer dst f (inr (omega (arith, signed_arith))) (inr late)
          ])

      across_behind : outer <ℤ inner → IsTold passes (ambiguous_behind std dst (at second, at first) (at c))
      across_behind less =
          behind_by (IsTold passes) std dst (in_window (at second, at first) (at c))
          (in_span (on second) (at second) (at c)) (in_span (at first) (back first) (at c))
          (λ w. elim (outside_seconds first second c _ _ refl refl (out_of true w)) [
            | inl early ↦ told_outer dst f (inl early) (inl (omega (arith, signed_arith)))
            | inr late ↦ told_outer dst f (inr (omega (arith, signed_arith))) (inr late)
          ])
          (λ w g. let span = inside_seconds (second +ℤ shift) second c _ _ on_second refl g in
          let low = span.0 in
          let high = span.1 in
          told_inner_first std dst e f (inr (omega (arith, signed_arith))) (omega (arith, signed_arith), high))
          (λ w g h. let gap = inside_seconds first (first -ℤ shift) c _ _ refl back_first h in
          let low = gap.0 in
          let high = gap.1 in
          told_none dst std (low, omega (arith, signed_arith)) (inl (omega (arith, signed_arith))))
          (λ w g h. let inside = inside_seconds first second c _ _ refl refl (out_of false w) in
          let low : (first -ℤ shift) ≤ℤ c =
          past first (first -ℤ shift) c inside.0 (outside_seconds first (first -ℤ shift) c _ _ refl back_first h) in
          let high : c <ℤ (second +ℤ shift) =
          short (second +ℤ shift) second c inside.1 (outside_seconds (second +ℤ shift) second c _ _ on_second refl g) in
          told_inner std e (omega (arith, signed_arith), inside.1) (inside.0, omega (arith, signed_arith)))

      pub told_across : IsTold passes (ambiguous_by std dst (at second, at first) (at c))
      told_across =
          by_lt_z dst.seconds std.seconds
          (λ less. rw (lt_yes dst.seconds std.seconds less) (across_behind (omega (arith, signed_arith))))
          (λ least. let more : std.seconds <ℤ dst.seconds = ahead std.seconds dst.seconds least (λ same. other (sym e ∙ sym same ∙ f)) in
          rw (lt_no dst.seconds std.seconds least, lt_yes std.seconds dst.seconds more) (across_ahead (omega (arith, signed_arith))))
