-- A text that is cut at a byte.
use Rattle.std.proofs.Common.{◌≡◌, ℕ, suc, ◌+◌, ◌-◌, ◌<◌, ◌≤◌, ◌==◌, Bool, true, false, Option, Some, None, List, [], ◌∷◌, cond, length, take, drop, length-drop, map, refl, sym, ap, ◌∙◌, arith}
use Rattle.std.specs.Borrow.{Bor}
use Rattle.std.specs.Prelude.{nat_lt, not, position}
use Rattle.std.specs.List.{after_first, before_first, onto_first, position_or_len}
use Rattle.std.specs.Str.{trim}
use Rattle.std.proofs.lemmas.List.{take_all}
use Rattle.std.proofs.lemmas.List.Splits.{slice_split_first}
use Rattle.std.proofs.lemmas.List.Sums.{prefix_len-le-length}
use Rattle.cron_rota_answers.specs.Cells.{cells, cells_left, parts}
use Rattle.cron_rota_answers.specs.Lines.{columns_in}

none_on : (c b : ℕ) (bs : List ℕ) (v : Bool) → (b == c) ≡ v → cond (not v) (1 + position_or_len (λ x. x == c) bs) 0 ≡ suc (length bs)
    → (position_or_len (λ x. x == c) bs ≡ length bs → parts c bs ≡ bs ∷ []) → parts c (b ∷ bs) ≡ (b ∷ bs) ∷ []
none_on c b bs true e none rest = absurd (omega (arith, none))
none_on c b bs false e none rest = rw e (ap (onto_first b) (rest (omega (arith, none))))

pub parts-none : (c : ℕ) (text : List ℕ) → position_or_len (λ b. b == c) text ≡ length text → parts c text ≡ text ∷ []
parts-none c [] none = refl
parts-none c (b ∷ bs) none = none_on c b bs (b == c) refl none (parts-none c bs)

-- ---- where the first such byte is

found : (n len : ℕ) (b : Bool) (place : ℕ) → nat_lt n len ≡ b → Some place ≡ cond b (Some n) None → (place ≡ n) × (n < len)
found n len true place less is = let same : place ≡ n = cc in (same, grind arith)
found n len false place less is = absurd (cc)

missed : (n len : ℕ) (b : Bool) → nat_lt n len ≡ b → cond b (Some n) None ≡ None → len ≤ n
missed n len true less is = absurd (cc)
missed n len false less is = grind arith

pub parts-found : (c place : ℕ) (text : List ℕ) → Some place ≡ position (λ b. b == c) text
    → (parts c text ≡ take place text ∷ parts c (drop (place + 1) text)) × (place < length text)
parts-found c place text is =
    let (same, below) = found (position_or_len (λ b. b == c) text) (length text) (nat_lt (position_or_len (λ b. b == c) text) (length text)) place refl is in
    let at = slice_split_first (λ b. b == c) text 0 below in
    (rw same at, rw same below)

pub parts-missed : (c : ℕ) (text : List ℕ) → position (λ b. b == c) text ≡ None → parts c text ≡ text ∷ []
parts-missed c text is =
    let past = missed (position_or_len (λ b. b == c) text) (length text) (nat_lt (position_or_len (λ b. b == c) text) (length text)) refl is in
    let most = prefix_len-le-length (λ b. not (b == c)) text in
    parts-none c text (omega (arith, past, most))

-- ---- cells

pub cells-at : (c : ℕ) (text cell rest trimmed : List ℕ) → position_or_len (λ b. b == c) text < length text
    → cell ≡ before_first (λ b. b == c) text → rest ≡ after_first (λ b. b == c) text → trimmed ≡ trim cell → cells c text ≡ trimmed ∷ cells c rest
cells-at c text cell rest trimmed within front back is =
    ap (map trim) (slice_split_first (λ b. b == c) text 0 within) ∙ rw (is, front, back) refl

pub cells-none : (c : ℕ) (text trimmed : List ℕ) → position_or_len (λ b. b == c) text ≡ length text → trimmed ≡ trim text → cells c text ≡ trimmed ∷ []
cells-none c text trimmed none is = ap (map trim) (parts-none c text none) ∙ rw is refl

-- ---- the end of a list

rest_whole : (n : ℕ) (xs : List ℕ) → take (length xs - n) (drop n xs) ≡ drop n xs
rest_whole n xs = take_all (length xs - n) (drop n xs) (omega (arith, length-drop n xs))

-- what the code cuts at the place of the byte
pub parts-cut : (c place : ℕ) (text : List ℕ) → Some place ≡ position (λ b. b == c) text
    → parts c text ≡ take place text ∷ parts c (take (length text - (place + 1)) (drop (place + 1) text))
parts-cut c place text is = rw (rest_whole (place + 1) text) ((parts-found c place text is).0)

-- ---- a cell too many

onto-cons : (b : ℕ) (l : List (List ℕ)) → (x : List ℕ) × (xs : List (List ℕ)) × (onto_first b l ≡ x ∷ xs)
onto-cons b [] = (b ∷ [], [], refl)
onto-cons b (y ∷ ys) = (b ∷ y, ys, refl)

parts-cons : (c : ℕ) (text : List ℕ) → (x : List ℕ) × (xs : List (List ℕ)) × (parts c text ≡ x ∷ xs)
parts-cons c [] = ([], [], refl)
parts-cons c (b ∷ bs) = cases (b == c) refl
  where
    cases : (v : Bool) → (b == c) ≡ v → (x : List ℕ) × (xs : List (List ℕ)) × (parts c (b ∷ bs) ≡ x ∷ xs)
    cases true e = ([], parts c bs, rw e refl)
    cases false e = let (x, xs, is) = onto-cons b (parts c bs) in (x, xs, rw e is)

pub too_many : (from until name : List ℕ) (left : Option (Bor (List ℕ))) (more : Bor (List ℕ)) → left ≡ Some more
    → None ≡ columns_in (from ∷ until ∷ name ∷ cells_left 9 left)
too_many from until name left more is =
    let (x, xs, cons) = parts-cons 9 more.now in
    sym
    (ap (λ (l : Option (Bor (List ℕ))). columns_in (from ∷ until ∷ name ∷ cells_left 9 l)) is
    ∙ ap (λ (l : List (List ℕ)). columns_in (from ∷ until ∷ name ∷ map trim l)) cons)
