-- Texts whose parts stand between bytes of one kind.
use Rattle.std.proofs.Common.{◌≡◌, ◌≤◌, ◌<◌, ℕ, Bool, true, false, ◌&&◌, nat_eq, nat_lt, List, [], ◌∷◌, ◌++◌, refl, ap, ◌∙◌, arith}
use Rattle.std.proofs.lemmas.Bool.{and_parts, eq-eqb, lt-ltb, ltb-true, ne_eqb}
use Rattle.std.proofs.lemmas.List.Folds.{list_all-append}
use Rattle.std.specs.List.{AllByRecursion, join_with_byte}
use Rattle.cron_oncalendar.specs.Calendars.{parts}
use Rattle.cron_oncalendar.specs.Inner.Pieces.{level, is_under}

pub both_true : (a b : Bool) → a ≡ true → b ≡ true → (a && b) ≡ true
both_true a b e f = rw (e, f) refl

pub under_append : (k : ℕ) (xs ys : List ℕ) → is_under k xs ≡ true → is_under k ys ≡ true → is_under k (xs ++ ys) ≡ true
under_append k xs ys a b =
    list_all-append (λ x. nat_lt (level x) k) xs ys ∙ both_true (is_under k xs) (is_under k ys) a b

pub under_more : (k m : ℕ) (xs : List ℕ) → k ≤ m → is_under k xs ≡ true → is_under m xs ≡ true
under_more k m [] l a = refl
under_more k m (x ∷ xs) l a =
    let here = and_parts (nat_lt (level x) k) (is_under k xs) a in
    let less : level x < k = ltb-true (level x) k here.0 in
    both_true (nat_lt (level x) m) (is_under m xs) (lt-ltb (level x) m (omega arith)) (under_more k m xs l here.1)

another : (c k x : ℕ) → k ≤ level c → nat_lt (level x) k ≡ true → nat_eq c x ≡ false
another c k x l a =
    let less : level x < k = ltb-true (level x) k a in
    ne_eqb c x (λ e. let same : level c ≡ level x = ap level e in omega arith)

-- a text without such a byte is one part
pub one_part : (c k : ℕ) (xs : List ℕ) → k ≤ level c → is_under k xs ≡ true → parts c xs ≡ xs ∷ []
one_part c k [] l a = refl
one_part c k (x ∷ xs) l a =
    let here = and_parts (nat_lt (level x) k) (is_under k xs) a in rw (another c k x l here.0, one_part c k xs l here.1) refl

-- the first part ends at the first such byte
pub first_part : (c k : ℕ) (xs ys : List ℕ) → k ≤ level c → is_under k xs ≡ true → parts c (xs ++ c ∷ ys) ≡ xs ∷ parts c ys
first_part c k [] ys l a = rw (eq-eqb c c refl) refl
first_part c k (x ∷ xs) ys l a =
    let here = and_parts (nat_lt (level x) k) (is_under k xs) a in rw (another c k x l here.0, first_part c k xs ys l here.1) refl

-- texts that were joined are the parts
pub joined_parts : (c k : ℕ) (texts : List (List ℕ)) → k ≤ level c → (texts ≡ [] → ⊥) → AllByRecursion (λ text. is_under k text ≡ true) texts
    → parts c (join_with_byte c texts) ≡ texts
joined_parts c k [] l some a = absurd (some refl)
joined_parts c k (x ∷ []) l some a = one_part c k x l a.0
joined_parts c k (x ∷ y ∷ xs) l some a =
    first_part c k x (join_with_byte c (y ∷ xs)) l a.0 ∙ ap (λ (ts : List (List ℕ)). x ∷ ts) (joined_parts c k (y ∷ xs) l (λ e. absurd (cc)) a.1)

pub joined_under : (c k m : ℕ) (texts : List (List ℕ)) → k ≤ m → level c < m → AllByRecursion (λ text. is_under k text ≡ true) texts
    → is_under m (join_with_byte c texts) ≡ true
joined_under c k m [] l g a = refl
joined_under c k m (x ∷ []) l g a = under_more k m x l a.0
joined_under c k m (x ∷ y ∷ xs) l g a =
    under_append m x (c ∷ join_with_byte c (y ∷ xs)) (under_more k m x l a.0)
    (both_true (nat_lt (level c) m) (is_under m (join_with_byte c (y ∷ xs))) (lt-ltb (level c) m g) (joined_under c k m (y ∷ xs) l g a.1))
