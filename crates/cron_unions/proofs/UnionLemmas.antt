-- The civil seconds of several schedules are those of each.
use Rattle.std.proofs.Common.{◌≡◌, ℕ, Bool, true, List}
use Rattle.std.specs.Prelude.{Any}
use Rattle.std.proofs.lemmas.List.Folds.{Any-from_list_any, list_any-from_Any}
use Rattle.cron_units.specs.Sets.{Sets}
use Rattle.cron_moments.specs.Civil.{civil}
use Rattle.cron_time.specs.Matches.{is_match, matches}
use Rattle.cron_time.specs.Seconds.{Seconds}
use Rattle.cron_seconds.proofs.SetLemmas.{passes_in, passes_of, range_of}
use Rattle.cron_unions.specs.Nearest.{is_match_any}
use Rattle.cron_unions.specs.Unions.{any_of}

pub any_of-match : (ss : List Sets) (c : ℕ) → is_match_any ss c ≡ true → Any (λ s. is_match s c ≡ true) ss
any_of-match ss c h =
    let one = Any-from_list_any (λ (s : Sets). matches s (civil c)) ss (passes_of c (any_of ss c) h) in
    (one.0, one.1, one.2, one.3, passes_in c (matches one.1 (civil c)) (range_of c (any_of ss c) h) one.4)

pub match-of_any : (ss : List Sets) (c : ℕ) → Any (λ s. is_match s c ≡ true) ss → is_match_any ss c ≡ true
match-of_any ss c one =
    passes_in c (any_of ss c) (range_of c (matches one.1 (civil c)) one.4)
    (list_any-from_Any (λ (s : Sets). matches s (civil c)) ss (one.0, one.1, one.2, one.3, passes_of c (matches one.1 (civil c)) one.4))

-- two sets are one if each civil second is in both or in none
pub same_sets : (s t : Seconds) → ((c : ℕ) → s c ≡ t c) → s ≡ t
same_sets s t same = λ i c. same c i
