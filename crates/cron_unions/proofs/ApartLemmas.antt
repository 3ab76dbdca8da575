-- Of two schedules one may lack what the other has too.
use Rattle.std.proofs.Common.{◌≡◌, Bool, true, false, ◌&&◌, ◌||◌, not, refl, [], ◌∷◌}
use Rattle.jiff_core.specs.declared.civil.datetime.DateTime.{DateTime}
use Rattle.cron_moments.specs.Civil.{civil}
use Rattle.cron_units.specs.Sets.{Sets}
use Rattle.cron_time.specs.Matches.{matches}
use Rattle.cron_unions.specs.Unions.{any_of}
use Rattle.cron_unions.proofs.UnionLemmas.{same_sets}

-- a part that the second has too may go
pub own_or : (a h r b : Bool) → r ≡ (a && not h) → ((a && h) ≡ true → b ≡ true) → (r || b) ≡ (a || b)
own_or true true r b made shared = let r_is : r ≡ false = made in let b_is : b ≡ true = shared refl in cc
own_or true false r b made shared = let r_is : r ≡ true = made in cc
own_or false h r b made shared = let r_is : r ≡ false = made in cc

both_parts : (o r p q : Bool) → (o || q) ≡ (p || q) → (r || o) ≡ (q || o) → (o || (r || false)) ≡ (p || (q || false))
both_parts true r true q first second = refl
both_parts true r false true first second = refl
both_parts true r false false first second = cc
both_parts false true p true first second = first
both_parts false true p false first second = cc
both_parts false false p true first second = cc
both_parts false false p false first second = first

-- the schedules' own parts match what they do
pub parts_same : (one other own rest : Sets)
    → ((dt : DateTime) → (matches own dt || matches other dt) ≡ (matches one dt || matches other dt))
    → ((dt : DateTime) → (matches rest dt || matches own dt) ≡ (matches other dt || matches own dt))
    → any_of (own ∷ rest ∷ []) ≡ any_of (one ∷ other ∷ [])
parts_same one other own rest first second =
    same_sets (any_of (own ∷ rest ∷ [])) (any_of (one ∷ other ∷ []))
    (λ c. both_parts (matches own (civil c)) (matches rest (civil c)) (matches one (civil c)) (matches other (civil c)) (first (civil c)) (second (civil c)))
