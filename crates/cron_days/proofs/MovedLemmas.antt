-- Civil seconds that are moved to allowed days.
use Rattle.std.proofs.Common.{◌≡◌, ℕ, zero, suc, ◌+◌, ◌-◌, ◌*◌, ◌/◌, ◌%◌, ◌<◌, pos, nat_lt, Bool, true, false, ◌&&◌, [], ◌∷◌, Option, Some, None, ◌⊎◌, refl, sym, ◌∙◌, subst, inl, inr, arith}
use Rattle.std.specs.List.{list_any}
use Rattle.std.proofs.lemmas.Bool.{and_from, and_parts, both_ways, cases_lt, false_from_ne_true, lt-ltb, ltb-true, or_cases, or_left, or_right}
use Rattle.std.proofs.lemmas.List.Folds.{list_any-append}
use Rattle.jiff_core.proofs.SignedLemmas.{signed_arith}
use Rattle.cron_units.specs.declared.way.Way.{Way}
use Rattle.cron_units.specs.declared.way.Way.TheVariants.{Ahead, Back}
use Rattle.cron_units.specs.Nearest.{IsNearest, IsNearestAt, LiesFrom}
use Rattle.cron_moments.specs.Civil.{days_in_range, seconds_in_range}
use Rattle.cron_time.specs.Search.Inner.Numbers.{beyond_day}
use Rattle.cron_time.specs.Seconds.{Seconds, is_match, numbers_below}
use Rattle.cron_seconds.proofs.IntLemmas.{same_tests}
use Rattle.cron_days.specs.Days.{is_day}
use Rattle.cron_days.specs.Moved.{goes_to, moved}
use Rattle.cron_days.specs.Inner.Sources.{AreSources}
use Rattle.cron_days.specs.Inner.Times.{first_time, has_time, has_time_on_any, past_days}
use Rattle.cron_days.proofs.MovedDirections.{beyond_lies, day_lies, day_past, from_first_time, lies_here, not_before, not_both, on_or_past, outside, same_day_precedes, same_target, some_allowed, target_past}
use Rattle.cron_days.proofs.SourceLemmas.{day_below, goes-nearest, nearest-goes, targets_rise}
use Rattle.cron_days.proofs.TimeLemmas.{any_at, any_from, as_match, nearest_alike, time_below}

-- ---- a day below a number

some_below : (p : ℕ → Bool) (n : ℕ) → list_any p (numbers_below n) ≡ true → (k : ℕ) × (k < n) × (p k ≡ true)
unfolding numbers_below
some_below p zero h = absurd (both_ways false refl h)
some_below p (suc n) h =
    let either : (list_any p (numbers_below n) ≡ true) ⊎ (list_any p (n ∷ []) ≡ true) =
    or_cases (list_any p (numbers_below n)) (list_any p (n ∷ [])) (sym (list_any-append p (numbers_below n) (n ∷ [])) ∙ h) in
    elim either [
      | inl before ↦ let found = some_below p n before in (found.0, omega arith, found.2)
      | inr here ↦ elim (or_cases (p n) false here) [
        | inl last ↦ (n, omega arith, last)
        | inr none ↦ absurd (both_ways false refl none)
      ]
    ]

below_some : (p : ℕ → Bool) (n k : ℕ) → k < n → p k ≡ true → list_any p (numbers_below n) ≡ true
unfolding numbers_below
below_some p zero k h is = absurd (omega arith)
below_some p (suc n) k h is =
    list_any-append p (numbers_below n) (n ∷ []) ∙ elim (cases_lt k n) [
      | inl less ↦ or_left (list_any p (numbers_below n)) (list_any p (n ∷ [])) (below_some p n k less is)
      | inr ge ↦
          let last : k ≡ n = omega arith in
          or_right (list_any p (numbers_below n)) (list_any p (n ∷ [])) (or_left (p n) false (subst (λ m. p m ≡ true) last is))
    ]

module _ (move : Way) (d : ℕ → Bool) (s : Seconds) where
  abbrev pub all : Seconds
  all = moved move d s

  -- where a moved civil second comes from
  pub record IsFrom (c day : ℕ) : Type 0 where
    pub in_range : day < days_in_range
    pub goes : IsNearestAt move (is_day d) (pos day) (c / 86_400)
    pub has : has_time s day (c % 86_400) ≡ true

  pub moved-from : (c : ℕ) → is_match all c ≡ true → (day : ℕ) × IsFrom c day
  moved-from c h =
      let parts = and_parts (nat_lt c seconds_in_range) (all c) h in
      let low : c < seconds_in_range = ltb-true c seconds_in_range parts.0 in
      let found = some_below (λ day. goes_to move d day (c / 86_400) && s (day * 86_400 + c % 86_400)) days_in_range parts.1 in
      let two = and_parts (goes_to move d found.0 (c / 86_400)) (s (found.0 * 86_400 + c % 86_400)) found.2 in (
        found.0,
        record {
          in_range = found.1;
          goes = goes-nearest d move found.0 (c / 86_400) (omega arith) two.0;
          has = and_from (nat_lt (c % 86_400) 86_400) (s (found.0 * 86_400 + c % 86_400)) (lt-ltb (c % 86_400) 86_400 (omega arith)) two.1;
        },
      )

  pub from-moved : (c day : ℕ) → c < seconds_in_range → IsFrom c day → is_match all c ≡ true
  from-moved c day low is =
      and_from (nat_lt c seconds_in_range) (all c) (lt-ltb c seconds_in_range low)
      (below_some (λ e. goes_to move d e (c / 86_400) && s (e * 86_400 + c % 86_400)) days_in_range day is.in_range
      (and_from (goes_to move d day (c / 86_400)) (s (day * 86_400 + c % 86_400)) (nearest-goes d move day (c / 86_400) is.in_range is.goes)
      (and_parts (nat_lt (c % 86_400) 86_400) (s (day * 86_400 + c % 86_400)) is.has).1))

  -- ---- the times of one allowed day

  module _ (target first last : ℕ) (of : AreSources move d target first last) where
    target_below : target < days_in_range
    target_below = let h = of.high in let r = of.in_range in omega arith

    times-there : (t : ℕ) → has_time all target t ≡ true → has_time_on_any s first (last + 1 - first) t ≡ true
    times-there t h =
        let less = time_below all target t h in
        let from = moved-from (target * 86_400 + t) (sym (as_match all target target_below t less) ∙ h) in
        let day : (target * 86_400 + t) / 86_400 ≡ target = omega arith in
        let time : (target * 86_400 + t) % 86_400 ≡ t = omega arith in
        let in_row = of.others from.0 from.1.in_range (subst (IsNearestAt move (is_day d) (pos from.0)) day from.1.goes) in
        any_at s first (last + 1 - first) from.0 t in_row.0 (omega arith) (subst (λ m. has_time s from.0 m ≡ true) time from.1.has)

    times-back : (t : ℕ) → has_time_on_any s first (last + 1 - first) t ≡ true → has_time all target t ≡ true
    times-back t h =
        let on = any_from s first (last + 1 - first) t h in
        let low = on.1.low in
        let high = on.1.high in
        let row = of.in_range in
        let less = time_below s on.0 t on.1.has in
        let day : target ≡ (target * 86_400 + t) / 86_400 = omega arith in
        let time : t ≡ (target * 86_400 + t) % 86_400 = omega arith in
        as_match all target target_below t less ∙ from-moved (target * 86_400 + t) on.0 (let b = target_below in omega arith) (record {
          in_range = omega arith;
          goes = subst (IsNearestAt move (is_day d) (pos on.0)) day (of.each on.0 low (omega arith));
          has = subst (λ m. has_time s on.0 m ≡ true) time on.1.has;
        })

    pub times_same : (t : ℕ) → has_time all target t ≡ has_time_on_any s first (last + 1 - first) t
    times_same t =
        same_tests (has_time all target t) (has_time_on_any s first (last + 1 - first) t) (times-there t) (times-back t)

    pub time_found : (way : Way) (time : ℕ) (found : Option ℕ) → IsNearest way (has_time_on_any s first (last + 1 - first)) (pos time) found
        → IsNearest way (has_time all target) (pos time) found
    time_found way time found is = nearest_alike way (has_time_on_any s first (last + 1 - first)) (has_time all target) (pos time) found times_same is

    -- ---- past that day

    -- what goes to a day past the target comes from a day past the sources
    pub comes_past : (way : Way) (k day : ℕ) → IsFrom k day → LiesFrom way (beyond_day way target) k → LiesFrom way (past_days way first last) (day * 86_400 + k % 86_400)
    comes_past Ahead k day is lies = elim (cases_lt last day) [
      | inl past ↦ omega (arith, signed_arith)
      | inr le ↦ absurd (let rise = targets_rise d move day last (k / 86_400) target le is.goes (of.each last (let l = of.low in let h = of.high in omega arith) (omega arith)) in omega (arith, signed_arith))
    ]
    comes_past Back k day is lies = elim (cases_lt day first) [
      | inl less ↦ omega (arith, signed_arith)
      | inr ge ↦ absurd (let rise = targets_rise d move first day target (k / 86_400) ge (of.each first (omega arith) (let l = of.low in let h = of.high in omega arith)) is.goes in omega (arith, signed_arith))
    ]

    pub match_past : (way : Way) (k day : ℕ) → IsFrom k day → is_match s (day * 86_400 + k % 86_400) ≡ true
    match_past way k day is = sym (as_match s day is.in_range (k % 86_400) (omega arith)) ∙ is.has

    pub past-none : (way : Way) → IsNearest way (is_match s) (past_days way first last) None → IsNearest way (is_match all) (beyond_day way target) None
    past-none way none = λ k lies. false_from_ne_true (is_match all k) (λ hit.
        let from = moved-from k hit in
        both_ways (is_match s (from.0 * 86_400 + k % 86_400)) (none (from.0 * 86_400 + k % 86_400) (comes_past way k from.0 from.1 lies)) (match_past way k from.0 from.1))

    -- the set's next civil second past the sources
    module _ (way : Way) (n : ℕ) (found : IsNearestAt way (is_match s) (past_days way first last) n) where
      abbrev q : ℕ
      q = n / 86_400

      q_below : q < days_in_range
      q_below = let low = ltb-true n seconds_in_range (and_parts (nat_lt n seconds_in_range) (s n) found.passes).0 in omega arith

      -- the day of a moved civil second past the target comes from that day on
      comes_on : (k day : ℕ) → IsFrom k day → LiesFrom way (beyond_day way target) k → LiesFrom way (pos q) day
      comes_on k day is lies =
          not_before way n (day * 86_400 + k % 86_400) day (omega arith)
          (λ less. both_ways (is_match s (day * 86_400 + k % 86_400)) (found.nearest (day * 86_400 + k % 86_400) (comes_past way k day is lies) less) (match_past way k day is))

      pub past-lost : IsNearest move (is_day d) (pos (n / 86_400)) None → IsNearest way (is_match all) (beyond_day way target) None
      past-lost none = λ k lies. false_from_ne_true (is_match all k) (λ hit.
          let from = moved-from k hit in
          elim (some_allowed way move q from.0 (k / 86_400) target (comes_on k from.0 from.1 lies) from.1.goes.lies (day_past way first last n target of.low of.high found.lies)) [
            | inl there ↦ both_ways (is_day d (k / 86_400)) (none (k / 86_400) there) from.1.goes.passes
            | inr own ↦ both_ways (is_day d target) (none target own) (of.each last (let l = of.low in let h = of.high in omega arith) (omega arith)).passes
          ])

      -- the day that it goes to
      module _ (g : ℕ) (goal : IsNearestAt move (is_day d) (pos (n / 86_400)) g) where
        g_below : g < days_in_range
        g_below = day_below d g goal.passes

        -- it isn't lost
        pub past-no_time : IsNearest way (has_time all g) (pos (first_time way)) None → ⊥
        past-no_time none =
            let day : g ≡ (g * 86_400 + n % 86_400) / 86_400 = omega arith in
            let time : n % 86_400 ≡ (g * 86_400 + n % 86_400) % 86_400 = omega arith in
            let whole : n ≡ q * 86_400 + n % 86_400 = omega arith in
            both_ways (has_time all g (n % 86_400)) (none (n % 86_400) (from_first_time way (n % 86_400) (omega arith)))
            (as_match all g g_below (n % 86_400) (omega arith) ∙ from-moved (g * 86_400 + n % 86_400) q (let b = g_below in omega arith) (record {
              in_range = q_below;
              goes = subst (IsNearestAt move (is_day d) (pos q)) day goal;
              has = subst (λ m. has_time s q m ≡ true) time
                  (as_match s q q_below (n % 86_400) (omega arith) ∙ subst (λ m. is_match s m ≡ true) whole found.passes);
            }))

        other_target : (g ≡ target → ⊥)
        other_target same =
            let row = of.others q q_below (subst (IsNearestAt move (is_day d) (pos q)) same goal) in
            outside way first last n found.lies row.0 row.1

        pub past-found : (t : ℕ) → IsNearestAt way (has_time all g) (pos (first_time way)) t → IsNearestAt way (is_match all) (beyond_day way target) (g * 86_400 + t)
        past-found t is =
            let less = time_below all g t is.passes in
            record {
              passes = sym (as_match all g g_below t less) ∙ is.passes;
              lies = target_past way first last n target g t found.lies less other_target
                  (λ le. targets_rise d move last q target g le (of.each last (let l = of.low in let h = of.high in omega arith) (omega arith)) goal)
                  (λ le. targets_rise d move q first g target le goal (of.each first (omega arith) (let l = of.low in let h = of.high in omega arith)));
              nearest = λ k lies past. false_from_ne_true (is_match all k) (λ hit.
                  let from = moved-from k hit in
                  let same = same_target way q from.0 (k / 86_400) g k t less refl (comes_on k from.0 from.1 lies) past
                  (λ le. targets_rise d move q from.0 g (k / 86_400) le goal from.1.goes)
                  (λ le. targets_rise d move from.0 q (k / 86_400) g le from.1.goes goal) in
                  let whole : k ≡ g * 86_400 + k % 86_400 = omega arith in
                  both_ways (has_time all g (k % 86_400)) (is.nearest (k % 86_400) (from_first_time way (k % 86_400) (omega arith)) (same_day_precedes way g k t same less past))
                  (as_match all g g_below (k % 86_400) (omega arith) ∙ subst (λ m. is_match all m ≡ true) whole hit));
            }

  -- ---- from any civil second

  module _ (way : Way) (start : ℕ) (low : start < seconds_in_range) where
    pub from-none : IsNearest way (is_day d) (pos (start / 86_400)) None → IsNearest way (is_match all) (pos start) None
    from-none none = λ k lies. false_from_ne_true (is_match all k) (λ hit.
        let from = moved-from k hit in
        both_ways (is_day d (k / 86_400)) (none (k / 86_400) (day_lies way start k lies)) from.1.goes.passes)

    module _ (day time : ℕ) (found : IsNearestAt way (is_day d) (pos (start / 86_400)) day) (own : day ≡ start / 86_400 → time ≡ start % 86_400)
        (other : (day ≡ start / 86_400 → ⊥) → time ≡ first_time way) where
      day_in : day < days_in_range
      day_in = day_below d day found.passes

      -- a moved civil second lies on that day, from the time on, or past it
      by_day : (k : ℕ) → LiesFrom way (pos start) k → is_match all k ≡ true
          → ((k / 86_400 ≡ day) × LiesFrom way (pos time) (k % 86_400)) ⊎ LiesFrom way (beyond_day way day) k
      by_day k lies hit =
          let from = moved-from k hit in
          on_or_past way start k day time lies own other
          (λ past. both_ways (is_day d (k / 86_400)) (found.nearest (k / 86_400) (day_lies way start k lies) past) from.1.goes.passes)

      on_own : (k : ℕ) → k / 86_400 ≡ day → is_match all k ≡ true → has_time all day (k % 86_400) ≡ true
      on_own k same hit =
          let whole : k ≡ day * 86_400 + k % 86_400 = omega arith in
          as_match all day day_in (k % 86_400) (omega arith) ∙ subst (λ m. is_match all m ≡ true) whole hit

      pub from-here : (t : ℕ) → IsNearestAt way (has_time all day) (pos time) t → IsNearestAt way (is_match all) (pos start) (day * 86_400 + t)
      from-here t is =
          let less = time_below all day t is.passes in
          record {
            passes = sym (as_match all day day_in t less) ∙ is.passes;
            lies = lies_here way start day time t found.lies is.lies own other less;
            nearest = λ k lies past. false_from_ne_true (is_match all k) (λ hit. elim (by_day k lies hit) [
              | inl here ↦ both_ways (has_time all day (k % 86_400)) (is.nearest (k % 86_400) here.1 (same_day_precedes way day k t here.0 less past)) (on_own k here.0 hit)
              | inr beyond ↦ not_both way day t k less past beyond
            ]);
          }

      not_between : (k : ℕ) → IsNearest way (has_time all day) (pos time) None → LiesFrom way (pos start) k → (LiesFrom way (beyond_day way day) k → is_match all k ≡ false)
          → is_match all k ≡ false
      not_between k none lies more = false_from_ne_true (is_match all k) (λ hit. elim (by_day k lies hit) [
        | inl here ↦ both_ways (has_time all day (k % 86_400)) (none (k % 86_400) here.1) (on_own k here.0 hit)
        | inr beyond ↦ both_ways (is_match all k) (more beyond) hit
      ])

      pub from-past : (next : Option ℕ) → IsNearest way (has_time all day) (pos time) None → IsNearest way (is_match all) (beyond_day way day) next
          → IsNearest way (is_match all) (pos start) next
      from-past None none absent = λ k lies. not_between k none lies (λ beyond. absent k beyond)
      from-past (Some m) none is = record {
        passes = is.passes;
        lies = beyond_lies way start day m found.lies is.lies;
        nearest = λ k lies past. not_between k none lies (λ beyond. is.nearest k beyond past);
      }
