-- What the words of a run say of a schedule's fires.
use Rattle.std.proofs.Common.{◌≡◌, ℕ, zero, suc, ℤ, Bool, true, false, ◌||◌, Some, List, [], ◌∷◌, refl, ap, ◌∙◌, arith}
use Rattle.std.specs.Prelude.{◌≤ℤ◌, slice_get}
use Rattle.std.proofs.lemmas.Int.{ints}
use Rattle.jiff_core.specs.declared.Timestamp.{Timestamp}
use Rattle.cron_seconds.specs.Rules.{IsCut, is_by}
use Rattle.cron_time.proofs.ListLemmas.{filter-alike}
use Rattle.jiff_tz.specs.declared.timezone.TimeZone.{TimeZone}
use Rattle.cron_time.specs.Seconds.{Seconds}
use Rattle.cron_scheduler.specs.declared.plan.Start.TheVariants.{After, Past}
use Rattle.cron_scheduler.specs.Runs.{is_due}
use Rattle.cron_scheduler.specs.Laws.{DueUpToTheGreatest, IsGreatest, RestartsGoOn}

-- ---- the greatest time

nothing_in_nil : {A : Type 0} (i : ℕ) (x : A) → slice_get [] i ≡ Some x → ⊥
nothing_in_nil i x e = cc

by_left : (a b : Bool) → a ≡ true → (a || b) ≡ true
by_left true b h = refl
by_left false b h = absurd (cc)

by_right : (a b : Bool) → b ≡ true → (a || b) ≡ true
by_right true b h = refl
by_right false b h = h

neither : (a b : Bool) → a ≡ false → b ≡ false → (a || b) ≡ false
neither true b h k = absurd (cc)
neither false b h k = k

shown_due : {A : Type 0} (instant : A → ℤ) (times : List Timestamp) (i : ℕ) (t : Timestamp) (r : A) → slice_get times i ≡ Some t → is_by instant t.nanosecond r ≡ true → is_due instant times r ≡ true
shown_due instant [] i t r e h = absurd (nothing_in_nil i t e)
shown_due instant (q ∷ times) zero t r e h =
    let same : q ≡ t = cc in by_left (is_by instant q.nanosecond r) (is_due instant times r) (ap (λ (x : Timestamp). is_by instant x.nanosecond r) same ∙ h)
shown_due instant (q ∷ times) (suc i) t r e h = by_right (is_by instant q.nanosecond r) (is_due instant times r) (shown_due instant times i t r e h)

late_before : {A : Type 0} (instant : A → ℤ) (t g : ℤ) (r : A) → t ≤ℤ g → is_by instant g r ≡ false → is_by instant t r ≡ false
late_before instant t g r le late = grind (arith, ints)

none_shown : {A : Type 0} (instant : A → ℤ) (times : List Timestamp) (g : ℤ) (r : A) → ((i : ℕ) (t : Timestamp) → slice_get times i ≡ Some t → t.nanosecond ≤ℤ g) → is_by instant g r ≡ false
    → is_due instant times r ≡ false
none_shown instant [] g r others late = refl
none_shown instant (q ∷ times) g r others late =
    neither (is_by instant q.nanosecond r) (is_due instant times r) (late_before instant q.nanosecond g r (others 0 q refl) late)
    (none_shown instant times g r (λ i t e. others (suc i) t e) late)

due_greatest : {A : Type 0} (instant : A → ℤ) (times : List Timestamp) (g : Timestamp) (r : A) → IsGreatest times g → is_due instant times r ≡ is_by instant g.nanosecond r
due_greatest instant times g r is = by_test (is_by instant g.nanosecond r) refl
  where
    by_test : (b : Bool) → is_by instant g.nanosecond r ≡ b → is_due instant times r ≡ b
    by_test true due = shown_due instant times is.place g r is.there due
    by_test false late = none_shown instant times g.nanosecond r is.others late

pub due_up_to_the_greatest : {A : Type 0} (instant : A → ℤ) → DueUpToTheGreatest instant
due_up_to_the_greatest instant fires times g is = filter-alike (is_due instant times) (is_by instant g.nanosecond) fires (λ r h. due_greatest instant times g r is)

-- ---- restarts

pub restarts_go_on : {A : Type 0} (after : Seconds → TimeZone → ℤ → List A) (past : Seconds → TimeZone → A → List A)
    → ((s : Seconds) (z : TimeZone) (t : ℤ) → IsCut (after s z t) (past s z)) → ((s : Seconds) (z : TimeZone) (r : A) → IsCut (past s z r) (past s z))
    → RestartsGoOn after past
restarts_go_on after past cut_after cut_past s z (After now) = cut_after s z now.nanosecond
restarts_go_on after past cut_after cut_past s z (Past item) = cut_past s z item
