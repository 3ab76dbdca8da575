-- The fires of a plan, by the first one.
use Rattle.std.proofs.Common.{◌≡◌, ◌-◌, ℕ, zero, suc, nat_eq, ℤ, Bool, true, false, Option, Some, None, List, [], ◌∷◌, take, refl, ap, arith}
use Rattle.std.specs.Prelude.{◌*ℤ◌, ◌<ℤ◌, ◌≤ℤ◌, pos, slice_get}
use Rattle.std.specs.Option.{option_eq}
use Rattle.std.proofs.lemmas.Int.{ints}
use Rattle.jiff_tz.specs.declared.timezone.TimeZone.{TimeZone}
use Rattle.cron_time.specs.Seconds.{Seconds}
use Rattle.cron_seconds.specs.Rules.{IsFirstOf, NeverDecreases, is_by}
use Rattle.cron_scheduler.specs.declared.plan.Start.{Start}
use Rattle.cron_scheduler.specs.declared.plan.Start.TheVariants.{After, Past}
use Rattle.cron_scheduler.specs.Plans.{fires_from, first_of, planned}
use Rattle.cron_scheduler.specs.Passing.{IsFirst, NonePass, planned_past}

pub first_planned : {A : Type 0} (after : Seconds → TimeZone → ℤ → List A) (past : Seconds → TimeZone → A → List A) (s : Seconds) (z : TimeZone) (start : Start A)
    (most : Option ℕ) (answer : Option A) → (option_eq nat_eq most (Some 0) ≡ false)
    → IsFirstOf (fires_from (after s z) (past s z) start) (past s z) answer → IsFirst after past s z start most answer
first_planned after past s z start None None some h = h
first_planned after past s z start None (Some r) some h = h
first_planned after past s z start (Some zero) answer some h = absurd (cc)
first_planned after past s z start (Some (suc n)) None some h = ap (take (suc n)) h
first_planned after past s z start (Some (suc n)) (Some r) some h =
    let less : suc n - 1 ≡ n = omega arith in rw less (ap (take (suc n)) h)

none_by : {A : Type 0} (p : A → Bool) (l : List A) → ((i : ℕ) (q : A) → slice_get l i ≡ Some q → p q ≡ false) → NonePass p l
none_by p [] none = tt
none_by p (r ∷ l) none = (none 0 r refl, none_by p l (λ i q e. none (suc i) q e))

none_taken : {A : Type 0} (p : A → Bool) (n : ℕ) (l : List A) → NonePass p l → NonePass p (take n l)
none_taken p zero l none = tt
none_taken p (suc n) [] none = tt
none_taken p (suc n) (r ∷ l) none = (none.0, none_taken p n l none.1)

later_late : {A : Type 0} (instant : A → ℤ) (r q : A) (now : ℤ) → instant r ≤ℤ instant q → is_by instant now r ≡ false → is_by instant now q ≡ false
later_late instant r q now le late = grind (arith, ints)

none_behind : {A : Type 0} (instant : A → ℤ) (l : List A) (r : A) (now : ℤ) → NeverDecreases instant l → slice_get l 0 ≡ Some r
    → is_by instant now r ≡ false → NonePass (is_by instant now) l
none_behind instant l r now order first late =
    none_by (is_by instant now) l (λ i q e. later_late instant r q now (order 0 i r q (omega arith) first e) late)

nothing_first : {A : Type 0} (r : A) (rest : List A) → [] ≡ r ∷ rest → ⊥
nothing_first r rest e = cc

first_taken : {A : Type 0} (n : ℕ) (l : List A) (r : A) (rest : List A) → take n l ≡ r ∷ rest → slice_get l 0 ≡ Some r
first_taken zero l r rest e = absurd (nothing_first r rest e)
first_taken (suc n) [] r rest e = absurd (nothing_first r rest e)
first_taken (suc n) (x ∷ l) r rest e = cc

none_first : {A : Type 0} (instant : A → ℤ) (most : Option ℕ) (l : List A) (r : A) (rest : List A) (now : ℤ) → NeverDecreases instant l
    → first_of most l ≡ r ∷ rest → is_by instant now r ≡ false → NonePass (is_by instant now) (first_of most l)
none_first instant None l r rest now order e late = none_behind instant l r now order (ap (λ m. slice_get m 0) e) late
none_first instant (Some n) l r rest now order e late =
    none_taken (is_by instant now) n l (none_behind instant l r now order (first_taken n l r rest e) late)

order_from : {A : Type 0} (instant : A → ℤ) (after : ℤ → List A) (past : A → List A) (start : Start A) → ((t : ℤ) → NeverDecreases instant (after t))
    → ((r : A) → NeverDecreases instant (past r)) → NeverDecreases instant (fires_from after past start)
order_from instant after past (After now) afters pasts = afters now.nanosecond
order_from instant after past (Past r) afters pasts = pasts r

-- where the first isn't due, none is
pub none_due : {A : Type 0} (instant : A → ℤ) (after : Seconds → TimeZone → ℤ → List A) (past : Seconds → TimeZone → A → List A) (s : Seconds) (z : TimeZone)
    (start : Start A) (most : Option ℕ) (now : ℤ) (r : A) → ((t : ℤ) → NeverDecreases instant (after s z t)) → ((q : A) → NeverDecreases instant (past s z q))
    → planned after past s z start most ≡ r ∷ planned_past after past s z r most → is_by instant now r ≡ false
    → NonePass (is_by instant now) (planned after past s z start most)
none_due instant after past s z start most now r afters pasts e late =
    none_first instant most (fires_from (after s z) (past s z) start) r (planned_past after past s z r most) now
    (order_from instant (after s z) (past s z) start afters pasts) e late

pub late_by : {A : Type 0} (instant : A → ℤ) (i now : ℤ) (r : A) → i ≡ instant r *ℤ pos 1_000_000_000 → now <ℤ i → is_by instant now r ≡ false
late_by instant i now r e late = grind (arith, ints)

pub due_by : {A : Type 0} (instant : A → ℤ) (i now : ℤ) (r : A) → i ≡ instant r *ℤ pos 1_000_000_000 → i ≤ℤ now → is_by instant now r ≡ true
due_by instant i now r e early = grind (arith, ints)
