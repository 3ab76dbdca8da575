-- The stretches and the windows that are left, by the first of them, and how many seconds they have.
use Rattle.std.proofs.Common.{◌≡◌, ℕ, zero, suc, ◌+◌, ◌<◌, ◌≤◌, ◌^◌, ℤ, pos, negsuc, ◌+ℤ◌, ◌-ℤ◌, ◌≤ℤ◌, ◌<ℤ◌, Bool, true, false, cond, List, [], ◌∷◌, ◌⊎◌, inl, inr, refl, sym, ap, ◌∙◌, subst, arith}
use Rattle.std.specs.Prelude.{filter, not}
use Rattle.std.specs.Bool.{beq}
use Rattle.std.specs.List.{sum_by}
use Rattle.std.proofs.lemmas.Int.{ints, by_lt_z}
use Rattle.std.proofs.lemmas.List.Sums.{sum_by-cons}
use Rattle.cron_stretches.specs.declared.stretch.Stretch.{Stretch}
use Rattle.cron_stretches.specs.Laws.{length_if}
use Rattle.cron_stretches.specs.Stretches.{IsGreatest, count_between, count_seconds, seconds_from, stretches_between}
use Rattle.cron_stretches.proofs.StretchLemmas.{none_left, run, seconds_from-is, seconds_from-none, sum-is}
use Rattle.cron_stretches.specs.Fires.{IsInstant}
use Rattle.cron_windows.specs.Windows.{AllAre, LastsSince, LastsUntil, windows_between}
use Rattle.cron_windows.proofs.LawLemmas.{beq-is}

unlike : (v b : Bool) → b ≡ not v → beq v b ≡ false
unlike true b is = ap (beq true) is
unlike false b is = ap (beq false) is

module _ (test : ℤ → Bool) where
  ends_unlike : (v : Bool) (to end : ℤ) → (end ≡ to) ⊎ (test end ≡ not v) → (end ≡ to) ⊎ (beq v (test end) ≡ false)
  ends_unlike v to end (inl same) = inl same
  ends_unlike v to end (inr other) = inr (unlike v (test end) other)

  -- what lasts from a second on stands in front of the other stretches
  pub stretch-first : (v : Bool) (place to end : ℤ) → LastsUntil test v place to end
      → stretches_between beq test place to ≡ record { first = place; end = end; value = v } ∷ stretches_between beq test end to
  stretch-first v place to end lasts = run beq beq-is test place end to v lasts.later lasts.within lasts.alike (ends_unlike v to end lasts.ends)

  pub stretch-of : (s : Stretch Bool) (place to : ℤ) → s.first ≡ place → LastsUntil test s.value place to s.end
      → stretches_between beq test place to ≡ s ∷ stretches_between beq test s.end to
  stretch-of s place to is lasts =
      subst (λ (p : ℤ). LastsUntil test s.value p to s.end → stretches_between beq test p to ≡ s ∷ stretches_between beq test s.end to) is
      (λ h. stretch-first s.value s.first to s.end h) lasts

  pub no_stretches : (place to : ℤ) → to ≤ℤ place → stretches_between beq test place to ≡ []
  no_stretches place to le = none_left beq beq-is test place to le

  pub no_windows : (place to : ℤ) → to ≤ℤ place → windows_between test place to ≡ []
  no_windows place to le = ap (filter (λ s. s.value)) (no_stretches place to le)

  pub all_closed : (place to : ℤ) → place <ℤ to → AllAre test place to false → windows_between test place to ≡ []
  all_closed place to less all =
      ap (filter (λ s. s.value)) (run beq beq-is test place to to false less (omega (arith, ints)) all (inl refl))
      ∙ no_windows to to (omega (arith, ints))

  passed_closed : (place first to : ℤ) → place ≤ℤ first → first <ℤ to → AllAre test place first false → test first ≡ true
      → windows_between test place to ≡ windows_between test first to
  passed_closed place first to le less all here =
      by_lt_z place first
      (λ later. ap (filter (λ s. s.value)) (run beq beq-is test place first to false later (omega (arith, ints)) all (inr (unlike false (test first) here))))
      (λ same. let one : place ≡ first = omega (arith, ints) in ap (λ p. windows_between test p to) one)

  -- the first window stands in front of the others
  pub window-first : (place first to end : ℤ) → place ≤ℤ first → first <ℤ to → AllAre test place first false → test first ≡ true → LastsUntil test true first to end
      → windows_between test place to ≡ record { first = first; end = end; value = true } ∷ windows_between test end to
  window-first place first to end le less all here lasts =
      passed_closed place first to le less all here ∙ ap (filter (λ s. s.value)) (stretch-first true first to end lasts)

  -- what lasts since and until is the greatest stretch
  pub greatest : (v : Bool) (from t to first end : ℤ) → LastsUntil test v t to end → LastsSince test v from t first
      → IsGreatest beq test from t to (record { first = first; end = end; value = v })
  greatest v from t to first end until since = record {
    from_first = since.from_first;
    first_to_t = since.first_to_t;
    t_to_end = until.later;
    end_to_to = until.within;
    alike = λ i low high. by_lt_z i (t +ℤ pos 1) (λ early. since.alike i low early) (λ late. until.alike i (omega (arith, ints)) high);
    before = before_unlike since.before;
    after = ends_unlike v to end until.ends;
  }
    where
      before_unlike : (first ≡ from) ⊎ (test (first -ℤ pos 1) ≡ not v) → (first ≡ from) ⊎ (beq v (test (first -ℤ pos 1)) ≡ false)
      before_unlike (inl same) = inl same
      before_unlike (inr other) = inr (unlike v (test (first -ℤ pos 1)) other)

  -- ---- how many seconds are open

  pub count-first : (v : Bool) (place to end : ℤ) → LastsUntil test v place to end
      → count_between test place to ≡ length_if (λ b. b) (record { first = place; end = end; value = v }) + count_between test end to
  count-first v place to end lasts =
      let whole = sum-is beq beq-is test (λ b. b) place to in
      let rest = sum-is beq beq-is test (λ b. b) end to in
      let first = ap (sum_by (length_if (λ b. b))) (stretch-first v place to end lasts) in
      let split = sum_by-cons (length_if (λ b. b)) (record { first = place; end = end; value = v }) (stretches_between beq test end to) in
      sym whole ∙ first ∙ split ∙ ap (λ (m : ℕ). length_if (λ b. b) (record { first = place; end = end; value = v }) + m) rest

  pub count-of : (s : Stretch Bool) (place to : ℤ) → s.first ≡ place → LastsUntil test s.value place to s.end
      → count_between test place to ≡ length_if (λ b. b) s + count_between test s.end to
  count-of s place to is lasts =
      subst (λ (p : ℤ). LastsUntil test s.value p to s.end → count_between test p to ≡ length_if (λ b. b) s + count_between test s.end to) is
      (λ h. count-first s.value s.first to s.end h) lasts

  pub count-none : (place to : ℤ) → to ≤ℤ place → count_between test place to ≡ 0
  unfolding count_seconds
  count-none place to le = ap (count_seconds test place) (seconds_from-none (to -ℤ place) (omega (arith, ints)))

  count-le : (k : ℕ) (n : ℤ) → count_seconds test n k ≤ k
  unfolding count_seconds
  count-le zero n = omega arith
  count-le (suc k) n = let rest = count-le k (n +ℤ pos 1) in one_at_most (test n) rest
    where
      one_at_most : (b : Bool) → count_seconds test (n +ℤ pos 1) k ≤ k → cond b 1 0 + count_seconds test (n +ℤ pos 1) k ≤ suc k
      one_at_most true le = omega arith
      one_at_most false le = omega arith

  pub count-fits : (a b : ℤ) → IsInstant a → IsInstant b → count_between test a b < 2 ^ 63
  count-fits a b one other =
      let le = count-le (seconds_from (b -ℤ a)) a in
      let length = few_seconds (b -ℤ a) (omega (arith, ints)) in
      omega arith
    where
      few_seconds : (z : ℤ) → z ≤ℤ pos 631_107_230_401 → seconds_from z ≤ 631_107_230_401
      few_seconds (pos n) h = omega (arith, ints)
      few_seconds (negsuc n) h = omega arith
