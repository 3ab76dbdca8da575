-- What is due by the times that a clock showed.
use Rattle.std.proofs.Common.{◌≡◌, ℤ, Bool, true, false, ◌||◌, List, [], ◌∷◌, ◌++◌, refl, sym, ap, ◌∙◌}
use Rattle.std.specs.Prelude.{filter}
use Rattle.std.proofs.lemmas.List.Elements.{filter-append}
use Rattle.std.proofs.lemmas.List.{append-nil}
use Rattle.jiff_core.specs.declared.Timestamp.{Timestamp}
use Rattle.cron_seconds.specs.Rules.{is_by}
use Rattle.cron_scheduler.specs.Runs.{is_due}
use Rattle.cron_scheduler.specs.Passing.{AllPass, NonePass}

or_true : (a b : Bool) → b ≡ true → (a || b) ≡ true
or_true true b h = refl
or_true false b h = h

or_left : (a b b' : Bool) → (b ≡ true → b' ≡ true) → (a || b) ≡ true → (a || b') ≡ true
or_left true b b' on h = refl
or_left false b b' on h = on h

or_false : (a b b' : Bool) → (b ≡ false → b' ≡ false) → (a || b) ≡ false → (a || b') ≡ false
or_false true b b' on h = absurd (cc)
or_false false b b' on h = on h

-- what is due stays due
pub due-stays : {A : Type 0} (instant : A → ℤ) (ts : List Timestamp) (t : Timestamp) (r : A) → is_due instant ts r ≡ true → is_due instant (ts ++ t ∷ []) r ≡ true
due-stays instant [] t r h = absurd (cc)
due-stays instant (q ∷ ts) t r h = or_left (is_by instant q.nanosecond r) (is_due instant ts r) (is_due instant (ts ++ t ∷ []) r) (due-stays instant ts t r) h

-- what the last time shown has reached is due
pub due-last : {A : Type 0} (instant : A → ℤ) (ts : List Timestamp) (t : Timestamp) (r : A) → is_by instant t.nanosecond r ≡ true → is_due instant (ts ++ t ∷ []) r ≡ true
due-last instant [] t r h = rw h refl
due-last instant (q ∷ ts) t r h = or_true (is_by instant q.nanosecond r) (is_due instant (ts ++ t ∷ []) r) (due-last instant ts t r h)

-- and nothing else
pub late-stays : {A : Type 0} (instant : A → ℤ) (ts : List Timestamp) (t : Timestamp) (r : A) → is_by instant t.nanosecond r ≡ false → is_due instant ts r ≡ false → is_due instant (ts ++ t ∷ []) r ≡ false
late-stays instant [] t r h late = rw h refl
late-stays instant (q ∷ ts) t r h late = or_false (is_by instant q.nanosecond r) (is_due instant ts r) (is_due instant (ts ++ t ∷ []) r) (late-stays instant ts t r h) late

pub all_stay : {A : Type 0} (instant : A → ℤ) (ts : List Timestamp) (t : Timestamp) (l : List A) → AllPass (is_due instant ts) l → AllPass (is_due instant (ts ++ t ∷ [])) l
all_stay instant ts t [] all = tt
all_stay instant ts t (r ∷ l) all = (due-stays instant ts t r all.0, all_stay instant ts t l all.1)

pub all_last : {A : Type 0} (instant : A → ℤ) (ts : List Timestamp) (t : Timestamp) (l : List A) → AllPass (is_by instant t.nanosecond) l → AllPass (is_due instant (ts ++ t ∷ [])) l
all_last instant ts t [] all = tt
all_last instant ts t (r ∷ l) all = (due-last instant ts t r all.0, all_last instant ts t l all.1)

pub none_stay : {A : Type 0} (instant : A → ℤ) (ts : List Timestamp) (t : Timestamp) (l : List A) → NonePass (is_by instant t.nanosecond) l → NonePass (is_due instant ts) l
    → NonePass (is_due instant (ts ++ t ∷ [])) l
none_stay instant ts t [] now before = tt
none_stay instant ts t (r ∷ l) now before = (late-stays instant ts t r now.0 before.0, none_stay instant ts t l now.1 before.1)

pub none_yet : {A : Type 0} (instant : A → ℤ) (l : List A) → NonePass (is_due instant []) l
none_yet instant [] = tt
none_yet instant (r ∷ l) = (refl, none_yet instant l)

pub none_behind : {A : Type 0} (p : A → Bool) (l m : List A) → NonePass p (l ++ m) → NonePass p m
none_behind p [] m none = none
none_behind p (r ∷ l) m none = none_behind p l m none.1

pub all_both : {A : Type 0} (p : A → Bool) (l m : List A) → AllPass p l → AllPass p m → AllPass p (l ++ m)
all_both p [] m all more = more
all_both p (r ∷ l) m all more = (all.0, all_both p l m all.1 more)

filter_all : {A : Type 0} (p : A → Bool) (l : List A) → AllPass p l → filter p l ≡ l
filter_all p [] all = refl
filter_all p (r ∷ l) all = let passes = all.0 in rw passes (ap (λ m. r ∷ m) (filter_all p l all.1))

filter_none : {A : Type 0} (p : A → Bool) (l : List A) → NonePass p l → filter p l ≡ []
filter_none p [] none = refl
filter_none p (r ∷ l) none = let fails = none.0 in rw fails (filter_none p l none.1)

-- a beginning that passes, and nothing behind it does
pub filter_front : {A : Type 0} (p : A → Bool) (fires done left : List A) → fires ≡ done ++ left → AllPass p done → NonePass p left → done ≡ filter p fires
filter_front p fires done left split all none =
    sym (ap (filter p) split ∙ (filter-append p done left ∙ (ap (λ l. l ++ filter p left) (filter_all p done all)
    ∙ (ap (λ l. done ++ l) (filter_none p left none) ∙ append-nil done))))

-- where a beginning passes, what passes begins with it
pub filter_begins : {A : Type 0} (p : A → Bool) (fires done left : List A) → fires ≡ done ++ left → AllPass p done → filter p fires ≡ done ++ filter p left
filter_begins p fires done left split all =
    ap (filter p) split ∙ (filter-append p done left ∙ ap (λ l. l ++ filter p left) (filter_all p done all))
