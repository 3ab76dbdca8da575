-- Which of several schedules have a time of day, with a schedule more.
use Rattle.std.proofs.Common.{◌≡◌, ℕ, ◌+◌, ◌/◌, ◌%◌, ◌<◌, Bool, true, false, ◌&&◌, ◌||◌, List, [], ◌∷◌, ◌++◌, take, length, get_or, refl, sym, ap, ◌∙◌, arith}
use Rattle.std.specs.List.{list_any}
use Rattle.std.proofs.lemmas.List.Folds.{list_any-append, list_any_more}
use Rattle.cron_bits.specs.Words.{has_bit}
use Rattle.cron_units.specs.Sets.{Sets}
use Rattle.cron_units.specs.Units.{contains}
use Rattle.cron_counting.specs.declared.times.Times.{Times}
use Rattle.cron_counting.specs.Inner.Times.{fits_any, has_minute, has_time}

or_false : (a : Bool) → (a || false) ≡ a
or_false true = refl
or_false false = refl

-- one more has it
pub any-joined : {X : Type 0} (p : X → Bool) (xs : List X) (i : ℕ) (x : X) (old new bit : Bool) → i < length xs → x ≡ get_or xs i x
    → old ≡ list_any p (take i xs) → new ≡ (old || bit) → p x ≡ bit → new ≡ list_any p (take (i + 1) xs)
any-joined p xs i x old new bit less is before e here =
    e ∙ (ap (λ b. b || bit) before ∙ ap (λ b. list_any p (take i xs) || b) (sym here ∙ ap p is) ∙ sym (list_any_more p xs i x less))

-- one more hasn't
pub any-passed : {X : Type 0} (p : X → Bool) (xs : List X) (i : ℕ) (x : X) (old : Bool) → i < length xs → x ≡ get_or xs i x
    → old ≡ list_any p (take i xs) → p x ≡ false → old ≡ list_any p (take (i + 1) xs)
any-passed p xs i x old less is before none = any-joined p xs i x old old false less is before (sym (or_false old)) none

pub any-pushed : (p : Times → Bool) (xs : List Times) (x : Times) → list_any p (xs ++ x ∷ []) ≡ (list_any p xs || p x)
any-pushed p xs x = list_any-append p xs (x ∷ []) ∙ ap (λ b. list_any p xs || b) (or_false (p x))

-- a schedule has a time where its words do
pub fits-one : (h m s : ℕ) (sets : Sets) → ((k : ℕ) → has_bit h k ≡ contains sets.hours (0 + k)) → ((k : ℕ) → has_bit m k ≡ contains sets.minutes (0 + k))
    → ((k : ℕ) → has_bit s k ≡ contains sets.seconds (0 + k)) → (t : ℕ) → fits_any (record { hours = h; minutes = m; seconds = s } ∷ []) t ≡ has_time sets t
unfolding fits_any
fits-one h m s sets hours minutes seconds t =
    let first : 0 + t / 3600 ≡ t / 3600 = omega arith in
    let second : 0 + t % 3600 / 60 ≡ t % 3600 / 60 = omega arith in
    let third : 0 + t % 60 ≡ t % 60 = omega arith in
    or_false _ ∙ (rw (hours (t / 3600), minutes (t % 3600 / 60), seconds (t % 60), first, second, third) refl)

-- ---- those that have a date

pub fits-none : (xs : List Times) (t : ℕ) → xs ≡ [] → fits_any xs t ≡ false
unfolding fits_any
fits-none xs t e = rw e refl

pub fits-joined : (xs ys : List Times) (t : ℕ) → fits_any (xs ++ ys) t ≡ (fits_any xs t || fits_any ys t)
unfolding fits_any
fits-joined xs ys t = list_any-append (has_minute (t / 3600) (t % 3600 / 60) (t % 60)) xs ys

and_true : (a b : Bool) → a ≡ true → (a && b) ≡ b
and_true a b e = rw e refl

and_false : (a b : Bool) → a ≡ false → (a && b) ≡ false
and_false a b e = rw e refl

pub gather-more : (date : Sets → Bool) (ss : List Sets) (i : ℕ) (s : Sets) (xs ys : List Times) (x : List Times) → i < length ss → s ≡ get_or ss i s
    → ((t : ℕ) → fits_any xs t ≡ list_any (λ q. date q && has_time q t) (take i ss)) → ys ≡ xs ++ x → ((t : ℕ) → fits_any x t ≡ has_time s t)
    → date s ≡ true → (t : ℕ) → fits_any ys t ≡ list_any (λ q. date q && has_time q t) (take (i + 1) ss)
gather-more date ss i s xs ys x less is before e own dated t =
    any-joined (λ q. date q && has_time q t) ss i s (fits_any xs t) (fits_any ys t) (has_time s t) less is (before t)
    (ap (λ l. fits_any l t) e ∙ fits-joined xs x t ∙ ap (λ b. fits_any xs t || b) (own t)) (and_true (date s) (has_time s t) dated)

pub gather-kept : (date : Sets → Bool) (ss : List Sets) (i : ℕ) (s : Sets) (xs ys : List Times) → i < length ss → s ≡ get_or ss i s
    → ((t : ℕ) → fits_any xs t ≡ list_any (λ q. date q && has_time q t) (take i ss)) → ys ≡ xs
    → date s ≡ false → (t : ℕ) → fits_any ys t ≡ list_any (λ q. date q && has_time q t) (take (i + 1) ss)
gather-kept date ss i s xs ys less is before e dated t =
    ap (λ l. fits_any l t) e ∙ any-passed (λ q. date q && has_time q t) ss i s (fits_any xs t) less is (before t) (and_false (date s) (has_time s t) dated)
