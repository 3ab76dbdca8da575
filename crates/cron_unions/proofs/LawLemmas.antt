-- Laws of unions.
use Rattle.std.proofs.Common.{◌≡◌, ℕ, Bool, true, false, ◌||◌, List, [], ◌∷◌, refl}
use Rattle.std.specs.Prelude.{Contains}
use Rattle.std.proofs.lemmas.List.Folds.{Any-from_list_any, list_any-from_Any}
use Rattle.cron_units.specs.Sets.{Sets}
use Rattle.cron_moments.specs.Civil.{civil}
use Rattle.cron_time.specs.Matches.{matches}
use Rattle.cron_time.specs.Timeline.{seconds_of}
use Rattle.cron_seconds.proofs.IntLemmas.{same_tests}
use Rattle.cron_seconds.proofs.SetLemmas.{among-matching, matching-among}
use Rattle.cron_unions.specs.Unions.{any_of}
use Rattle.cron_unions.specs.UnionLaws.{OneIsItsUnion, OrderDoesNotMatter, SecondsAreOfTheSchedules}
use Rattle.cron_unions.proofs.UnionLemmas.{any_of-match, match-of_any, same_sets}

pub seconds_are_of : SecondsAreOfTheSchedules
seconds_are_of ss c = (
  λ h. any_of-match ss c (matching-among (any_of ss) c h),
  λ one. among-matching (any_of ss) c (match-of_any ss c one),
)

-- ---- one schedule

or_nothing : (b : Bool) → (b || false) ≡ b
or_nothing true = refl
or_nothing false = refl

pub one_union : OneIsItsUnion
one_union s = same_sets (any_of (s ∷ [])) (seconds_of s) (λ c. or_nothing (matches s (civil c)))

-- ---- order

matches_more : (ss ts : List Sets) (c : ℕ) → ((s : Sets) → Contains ss s → Contains ts s) → any_of ss c ≡ true → any_of ts c ≡ true
matches_more ss ts c into h =
    let one = Any-from_list_any (λ (s : Sets). matches s (civil c)) ss h in
    let there = into one.1 (one.0, one.2, one.3) in
    list_any-from_Any (λ (s : Sets). matches s (civil c)) ts (there.0, one.1, there.1, there.2, one.4)

pub order_is_one : OrderDoesNotMatter
order_is_one ss ts same = same_sets (any_of ss) (any_of ts)
    (λ c. same_tests (any_of ss c) (any_of ts c) (matches_more ss ts c (λ s. (same s).0)) (matches_more ts ss c (λ s. (same s).1)))
