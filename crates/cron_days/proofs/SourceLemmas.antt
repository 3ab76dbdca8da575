-- The days whose civil seconds go to one allowed day.
use Rattle.std.proofs.Common.{◌≡◌, ℕ, zero, suc, ◌+◌, ◌-◌, ◌<◌, ◌≤◌, pos, ◌+ℤ◌, ◌-ℤ◌, nat_le, nat_lt, Bool, true, false, ◌&&◌, not, None, refl, sym, ap, ◌∙◌, inl, inr, arith}
use Rattle.std.proofs.lemmas.Bool.{and_from, and_parts, both_ways, cases_lt, le-leb, leb-true, lt-ltb, ltb-true, not-true, not_from_false}
use Rattle.jiff_core.proofs.SignedLemmas.{signed_arith}
use Rattle.cron_units.specs.declared.way.Way.{Way}
use Rattle.cron_units.specs.declared.way.Way.TheVariants.{Ahead, Back}
use Rattle.cron_units.specs.Nearest.{IsNearest, IsNearestAt}
use Rattle.cron_moments.specs.Civil.{days_in_range}
use Rattle.cron_days.specs.Days.{is_day}
use Rattle.cron_days.specs.Moved.{goes_to, none_allowed}
use Rattle.cron_days.specs.Inner.Sources.{AreSources, IsFirstSource, IsLastSource}

module _ (d : ℕ → Bool) where
  pub day_below : (n : ℕ) → is_day d n ≡ true → n < days_in_range
  day_below n h = ltb-true n days_in_range (and_parts (nat_lt n days_in_range) (d n) h).0

  pub day_allowed : (n : ℕ) → is_day d n ≡ true → d n ≡ true
  day_allowed n h = (and_parts (nat_lt n days_in_range) (d n) h).1

  -- ---- the ends of the row

  pub first_after : (target before : ℕ) → IsNearestAt Back (is_day d) (pos target -ℤ pos 1) before → IsFirstSource d target (before + 1)
  first_after target before found =
      let lies = found.lies in
      record {
        low = omega (arith, signed_arith);
        none = λ k from less. found.nearest k (omega (arith, signed_arith)) (omega arith);
        before = λ some. let e : before + 1 - 1 ≡ before = omega arith in ap (is_day d) e ∙ found.passes;
      }

  pub first_of_all : (target : ℕ) → IsNearest Back (is_day d) (pos target -ℤ pos 1) None → IsFirstSource d target 0
  first_of_all target none = record {
    low = omega arith;
    none = λ k from less. none k (omega (arith, signed_arith));
    before = λ some. absurd (omega arith);
  }

  pub last_before : (target after : ℕ) → IsNearestAt Ahead (is_day d) (pos target +ℤ pos 1) after → IsLastSource d target (after - 1)
  last_before target after found =
      let lies = found.lies in
      let low : target < after = omega (arith, signed_arith) in
      let high = day_below after found.passes in
      record {
        high = omega arith;
        in_range = omega arith;
        none = λ k past to. found.nearest k (omega (arith, signed_arith)) (omega arith);
        after = λ some. let e : after - 1 + 1 ≡ after = omega arith in ap (is_day d) e ∙ found.passes;
      }

  pub last_of_all : (target : ℕ) → target < days_in_range → IsNearest Ahead (is_day d) (pos target +ℤ pos 1) None → IsLastSource d target 47_846
  last_of_all target high none = record {
    high = omega arith;
    in_range = omega arith;
    none = λ k past to. none k (omega (arith, signed_arith));
    after = λ some. absurd (omega arith);
  }

  pub sources_ahead : (target first : ℕ) → is_day d target ≡ true → IsFirstSource d target first → AreSources Ahead d target first target
  sources_ahead target first has is = record {
    low = is.low;
    high = omega arith;
    in_range = day_below target has;
    each = λ e from to. record {
      passes = has;
      lies = omega (arith, signed_arith);
      nearest = λ k lies less. is.none k (omega (arith, signed_arith)) less;
    };
    others = λ e high goes.
        let lies = goes.lies in (
          elim (cases_lt e first) [
            | inl less ↦ absurd (both_ways (is_day d (first - 1)) (goes.nearest (first - 1) (omega (arith, signed_arith)) (let l = is.low in omega arith)) (is.before (omega arith)))
            | inr ge ↦ ge
          ],
          omega (arith, signed_arith),
        );
  }

  pub sources_back : (target last : ℕ) → is_day d target ≡ true → IsLastSource d target last → AreSources Back d target target last
  sources_back target last has is = record {
    low = omega arith;
    high = is.high;
    in_range = is.in_range;
    each = λ e from to. record {
      passes = has;
      lies = omega (arith, signed_arith);
      nearest = λ k lies past. is.none k past (omega (arith, signed_arith));
    };
    others = λ e high goes.
        let lies = goes.lies in (
          omega (arith, signed_arith),
          elim (cases_lt last e) [
            | inl less ↦ absurd (both_ways (is_day d (last + 1)) (goes.nearest (last + 1) (omega (arith, signed_arith)) (let l = is.high in omega arith)) (is.after (omega arith)))
            | inr ge ↦ ge
          ],
        );
  }

  -- ---- targets

  -- a later day goes to no earlier day
  pub targets_rise : (way : Way) (e f one other : ℕ) → e ≤ f → IsNearestAt way (is_day d) (pos e) one → IsNearestAt way (is_day d) (pos f) other → one ≤ other
  targets_rise Ahead e f one other le first second = elim (cases_lt other one) [
    | inl less ↦ let lies = second.lies in absurd (both_ways (is_day d other) (first.nearest other (omega (arith, signed_arith)) less) second.passes)
    | inr ge ↦ ge
  ]
  targets_rise Back e f one other le first second = elim (cases_lt other one) [
    | inl less ↦ let lies = first.lies in absurd (both_ways (is_day d one) (second.nearest one (omega (arith, signed_arith)) less) first.passes)
    | inr ge ↦ ge
  ]

  none-from : (first n : ℕ) → none_allowed d first n ≡ true → (k : ℕ) → first ≤ k → k < first + n → d k ≡ false
  none-from first zero h k low high = absurd (omega arith)
  none-from first (suc n) h k low high =
      let parts = and_parts (none_allowed d first n) (not (d (first + n))) h in
      elim (cases_lt k (first + n)) [
        | inl less ↦ none-from first n parts.0 k low less
        | inr ge ↦ let last : k ≡ first + n = omega arith in ap d last ∙ not-true (d (first + n)) parts.1
      ]

  none-to : (first n : ℕ) → ((k : ℕ) → first ≤ k → k < first + n → d k ≡ false) → none_allowed d first n ≡ true
  none-to first zero h = refl
  none-to first (suc n) h =
      and_from (none_allowed d first n) (not (d (first + n))) (none-to first n (λ k low high. h k low (omega arith)))
      (not_from_false (d (first + n)) (h (first + n) (omega arith) (omega arith)))

  fails_second : (a b : Bool) → b ≡ false → (a && b) ≡ false
  fails_second true b h = h
  fails_second false b h = refl

  of_day : (k : ℕ) → k < days_in_range → is_day d k ≡ false → d k ≡ false
  of_day k high h = ap (λ b. b && d k) (sym (lt-ltb k days_in_range high)) ∙ h

  pub goes-nearest : (way : Way) (day target : ℕ) → target < days_in_range → goes_to way d day target ≡ true → IsNearestAt way (is_day d) (pos day) target
  goes-nearest Ahead day target high h =
      let parts = and_parts (d target && nat_le day target) (none_allowed d day (target - day)) h in
      let two = and_parts (d target) (nat_le day target) parts.0 in
      let le = leb-true day target two.1 in
      record {
        passes = and_from (nat_lt target days_in_range) (d target) (lt-ltb target days_in_range high) two.0;
        lies = omega (arith, signed_arith);
        nearest = λ k lies less. fails_second (nat_lt k days_in_range) (d k) (none-from day (target - day) parts.1 k (omega (arith, signed_arith)) (omega arith));
      }
  goes-nearest Back day target high h =
      let parts = and_parts (d target && nat_le target day) (none_allowed d (target + 1) (day - target)) h in
      let two = and_parts (d target) (nat_le target day) parts.0 in
      let le = leb-true target day two.1 in
      record {
        passes = and_from (nat_lt target days_in_range) (d target) (lt-ltb target days_in_range high) two.0;
        lies = omega (arith, signed_arith);
        nearest = λ k lies past. fails_second (nat_lt k days_in_range) (d k) (none-from (target + 1) (day - target) parts.1 k (omega arith) (omega (arith, signed_arith)));
      }

  pub nearest-goes : (way : Way) (day target : ℕ) → day < days_in_range → IsNearestAt way (is_day d) (pos day) target → goes_to way d day target ≡ true
  nearest-goes Ahead day target high is =
      let lies = is.lies in
      let below = day_below target is.passes in
      and_from (d target && nat_le day target) (none_allowed d day (target - day))
      (and_from (d target) (nat_le day target) (day_allowed target is.passes) (le-leb day target (omega (arith, signed_arith))))
      (none-to day (target - day) (λ k low less. of_day k (omega arith) (is.nearest k (omega (arith, signed_arith)) (omega arith))))
  nearest-goes Back day target high is =
      let lies = is.lies in
      and_from (d target && nat_le target day) (none_allowed d (target + 1) (day - target))
      (and_from (d target) (nat_le target day) (day_allowed target is.passes) (le-leb target day (omega (arith, signed_arith))))
      (none-to (target + 1) (day - target) (λ k low less. of_day k (omega (arith, signed_arith)) (is.nearest k (omega (arith, signed_arith)) (omega arith))))
