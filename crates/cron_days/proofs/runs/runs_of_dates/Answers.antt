use Rattle.std.proofs.Common.{◌<◌, ◌==◌, ℕ, All, subst, sym, ap, ◌∙◌}
use Rattle.std.specs.List.{list_any}
use Rattle.std.specs.List.Sorted.{IsNonDecreasing}
use Rattle.std.proofs.lemmas.List.Sorted.{All-permutation, IsNonDecreasingBy-from_sort, list_any-IsPermutation}
use Rattle.cron_moments.specs.Civil.{days_in_range}
use Rattle.cron_days.proofs.runs.runs_of_dates.Goals as goal

pub runs_from-requires-clause-sorted : goal.runs_from-requires-clause-sorted
runs_from-requires-clause-sorted c =
    subst IsNonDecreasing (sym c.deref.ensures.value ∙ c.in-Some.ensures.cases.0) (IsNonDecreasingBy-from_sort (λ (x : ℕ). x) c.sort_unstable.new.self.items c.sort_unstable.ensures.sorted)

pub runs_from-requires-clause-in_range : goal.runs_from-requires-clause-in_range
runs_from-requires-clause-in_range c =
    subst (All (λ n. n < days_in_range)) (sym c.deref.ensures.value ∙ c.in-Some.ensures.cases.0)
    (All-permutation (λ n. n < days_in_range) c.in_ok-numbers.numbers.items c.sort_unstable.new.self.items c.sort_unstable.ensures.permutation c.in_ok-numbers.ensures.0)

pub returns-in-Some : goal.returns-in-Some
returns-in-Some c = (
  c.in_ok-runs_from-in-Some.ensures.0,
  λ n. c.in_ok-runs_from-in-Some.ensures.1 n ∙ ap (list_any (λ m. m == n)) (sym (sym c.deref.ensures.value ∙ c.in-Some.ensures.cases.0))
      ∙ sym (list_any-IsPermutation (λ m. m == n) c.in_ok-numbers.numbers.items c.sort_unstable.new.self.items c.sort_unstable.ensures.permutation)
      ∙ c.in_ok-numbers.ensures.1 n,
)
