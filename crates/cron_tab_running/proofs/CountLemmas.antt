-- How often entries stand in a map.
use Rattle.std.proofs.Common.{◌≡◌, ℕ, ◌+◌, ◌-◌, ◌<◌, ◌≤◌, suc, Bool, true, false, cond, List, [], ◌∷◌, ◌++◌, length, get_or, drop, map, refl, ap, sym, ◌∙◌, arith, add-one, drop-cons, Vec, Global}
use Rattle.std.specs.Prelude.{Option, Some, nat_lt, unwrap_or}
use Rattle.std.specs.BTreeMap.{BTreeMap, UpdatesBy, get_by}
use Rattle.std.specs.Cmp.Lexicographic.{slice_cmp}
use Rattle.std.specs.Ordering.{nat_cmp}
use Rattle.std.specs.Str.{bytes_eq}
use Rattle.std.proofs.lemmas.Map.Text.{btree_map_updates_str}
use Rattle.std.proofs.lemmas.Slice.Eq.{bytes_eq-Decides}
use Rattle.cron_tab_running.specs.Noted.{AreLeft, count_of, is_noted, left_of}
use denote.Ref.{Bor}

abbrev Map : Type 0
Map = BTreeMap (Bor (List ℕ)) ℕ

abbrev pub Writes : List ℕ → Map → Map → ℕ → Type 0
Writes bs m n w = UpdatesBy (λ x y. slice_cmp nat_cmp x.now y.now) (λ k. slice_cmp nat_cmp bs k.now) m n (Some w)

chosen : (b : Bool) (w : ℕ) (o : Option ℕ) → unwrap_or (cond b (Some w) o) 0 ≡ cond b w (unwrap_or o 0)
chosen true w o = refl
chosen false w o = refl

pub written : (bs : List ℕ) (m n : Map) (w : ℕ) → Writes bs m n w → (e : List ℕ) → left_of n e ≡ cond (bytes_eq bs e) w (left_of m e)
written bs m n w updates e =
    ap (λ o. unwrap_or o 0) (btree_map_updates_str bs m n (Some w) updates e) ∙ chosen (bytes_eq bs e) w (get_by (λ k. slice_cmp nat_cmp e k.now) m)

pub one_more : (e : List ℕ) (es : List (Vec ℕ Global)) (i : ℕ) (x : Vec ℕ Global) → i < length es → x ≡ get_or es i x
    → count_of e (map (λ f. f.items) (drop i es)) ≡ cond (bytes_eq x.items e) (1 + count_of e (map (λ f. f.items) (drop (i + 1) es))) (count_of e (map (λ f. f.items) (drop (i + 1) es)))
one_more e es i x within is = rw add-one (ap (λ l. count_of e (map (λ f. f.items) l)) (drop-cons es i x within ∙ ap (λ y. y ∷ drop (suc i) es) (sym is)))

pub counted : (x e : List ℕ) (m : Map) (ln c0 c1 total : ℕ) → ln ≡ cond (bytes_eq x e) (left_of m x + 1) (left_of m e)
    → c0 ≡ cond (bytes_eq x e) (1 + c1) c1 → left_of m e + c0 ≡ total → ln + c1 ≡ total
counted x e m ln c0 c1 total is more was = by_test (bytes_eq x e) refl is more
  where
    by_test : (b : Bool) → bytes_eq x e ≡ b → ln ≡ cond b (left_of m x + 1) (left_of m e) → c0 ≡ cond b (1 + c1) c1 → ln + c1 ≡ total
    by_test true same is more = let at : left_of m x ≡ left_of m e = ap (left_of m) ((bytes_eq-Decides x e).0 same) in omega arith
    by_test false same is more = omega arith

pub few : (x e : List ℕ) (m : Map) (ln i : ℕ) → ln ≡ cond (bytes_eq x e) (left_of m x + 1) (left_of m e) → left_of m x ≤ i → left_of m e ≤ i → ln ≤ i + 1
few x e m ln i is here there = by_test (bytes_eq x e) is
  where
    by_test : (b : Bool) → ln ≡ cond b (left_of m x + 1) (left_of m e) → ln ≤ i + 1
    by_test true is = omega arith
    by_test false is = omega arith

pub taken : (x e : List ℕ) (m : Map) (ln w count : ℕ) → ln ≡ cond (bytes_eq x e) w (left_of m e) → left_of m x ≡ count → w ≡ count - 1
    → ln ≡ cond (bytes_eq x e) (left_of m e - 1) (left_of m e)
taken x e m ln w count is had less = by_test (bytes_eq x e) refl is
  where
    by_test : (b : Bool) → bytes_eq x e ≡ b → ln ≡ cond b w (left_of m e) → ln ≡ cond b (left_of m e - 1) (left_of m e)
    by_test true same is = is ∙ less ∙ ap (λ k. k - 1) (sym had ∙ ap (left_of m) ((bytes_eq-Decides x e).0 same))
    by_test false same is = is

lt_minus : (a b : ℕ) → nat_lt 0 (a - b) ≡ nat_lt b a
lt_minus a b = grind arith

pub noted_by : (noted before : List (List ℕ)) (m : Map) (e : List ℕ) → AreLeft noted before m → nat_lt 0 (left_of m e) ≡ is_noted noted before e
noted_by noted before m e are = ap (nat_lt 0) (are e) ∙ lt_minus (count_of e noted) (count_of e before)

count-behind : (q e : List ℕ) (before : List (List ℕ)) → count_of q (before ++ e ∷ []) ≡ cond (bytes_eq e q) (count_of q before + 1) (count_of q before)
count-behind q e [] = by_test (bytes_eq e q)
  where
    by_test : (b : Bool) → cond b 1 0 ≡ cond b (0 + 1) 0
    by_test true = refl
    by_test false = refl
count-behind q e (f ∷ fs) = by_tests (bytes_eq f q) (bytes_eq e q) (count-behind q e fs)
  where
    by_tests : (a b : Bool) → count_of q (fs ++ e ∷ []) ≡ cond b (count_of q fs + 1) (count_of q fs)
        → cond a (1 + count_of q (fs ++ e ∷ [])) (count_of q (fs ++ e ∷ [])) ≡ cond b (cond a (1 + count_of q fs) (count_of q fs) + 1) (cond a (1 + count_of q fs) (count_of q fs))
    by_tests true true is = omega arith
    by_tests true false is = omega arith
    by_tests false true is = is
    by_tests false false is = is

pub are_left-more : (noted before : List (List ℕ)) (e : List ℕ) (m n : Map) → AreLeft noted before m
    → ((q : List ℕ) → left_of n q ≡ cond (bytes_eq e q) (left_of m q - 1) (left_of m q)) → AreLeft noted (before ++ e ∷ []) n
are_left-more noted before e m n are is q = by_test (bytes_eq e q) (is q) (count-behind q e before) (are q)
  where
    by_test : (b : Bool) → left_of n q ≡ cond b (left_of m q - 1) (left_of m q) → count_of q (before ++ e ∷ []) ≡ cond b (count_of q before + 1) (count_of q before)
        → left_of m q ≡ count_of q noted - count_of q before → left_of n q ≡ count_of q noted - count_of q (before ++ e ∷ [])
    by_test true now behind was = omega arith
    by_test false now behind was = omega arith
