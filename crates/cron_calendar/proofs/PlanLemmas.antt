-- How many numbers plans have.
use Rattle.std.proofs.Common.{◌≡◌, ℕ, ◌+◌, ◌<◌, List, [], ◌∷◌, fold, get_or, length, min, replicate, take, refl, sym, ap, ◌∙◌}
use Rattle.std.specs.Prelude.{slice_index}
use Rattle.std.specs.List.{range_with_len}
use Rattle.std.proofs.lemmas.List.{length-map, length-replicate}
use Rattle.std.proofs.lemmas.List.FromFn.{length-range_with_len}
use Rattle.std.proofs.lemmas.List.Sums.{fold_more}
use Rattle.cron_calendar.specs.Plans.{sums_with, totals}
use Rattle.cron_calendar.specs.declared.plans.Plan.{Plan}

length-sums : (xs ys : List ℕ) → length (sums_with xs ys) ≡ length xs
length-sums xs ys =
    length-map (range_with_len 0 (length xs)) (λ i. min (slice_index xs i + slice_index ys i) 4_294_967_295) ∙ length-range_with_len 0 (length xs)

length-fold : (counts : Plan → List ℕ) (start : List ℕ) (plans : List Plan)
    → length (fold (λ sums plan. sums_with sums (counts plan)) start plans) ≡ length start
length-fold counts start [] = refl
length-fold counts start (plan ∷ plans) = length-fold counts (sums_with start (counts plan)) plans ∙ length-sums start (counts plan)

pub length-totals : (counts : Plan → List ℕ) (days : ℕ) (plans : List Plan) → length (totals counts days plans) ≡ days
length-totals counts days plans = length-fold counts (replicate days 0) plans ∙ length-replicate days 0

-- what one plan more has is added to the sums
pub totals-more : (counts : Plan → List ℕ) (days i : ℕ) (plans : List Plan) (plan : Plan) (old more left right new : List ℕ) → i < length plans
    → plan ≡ get_or plans i plan → old ≡ totals counts days (take i plans) → more ≡ counts plan → left ≡ old → right ≡ more → new ≡ sums_with left right
    → new ≡ totals counts days (take (i + 1) plans)
totals-more counts days i plans plan old more left right new within item before own one other is =
    is ∙ (ap (λ l. sums_with l right) (one ∙ before) ∙ (ap (λ l. sums_with (totals counts days (take i plans)) l) (other ∙ (own ∙ ap counts item))
    ∙ sym (fold_more (λ sums plan. sums_with sums (counts plan)) (replicate days 0) plans i plan within)))
