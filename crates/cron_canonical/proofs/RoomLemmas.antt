-- How long the texts of numbers are.
use Rattle.std.proofs.Common.{◌≡◌, ◌==◌, ℕ, zero, suc, ◌+◌, ◌-◌, ◌*◌, ◌<◌, ◌≤◌, Bool, true, false, cond, List, [], ◌∷◌, map, length, refl, sym, ap, subst, arith, length-append, append-nil, nat_lt}
use Rattle.std.proofs.Math.Nat.{suc-mul}
use Rattle.std.proofs.lemmas.Bool.{eqb-true}
use Rattle.std.proofs.lemmas.Bool.Decides.{nat_tests}
use Rattle.std.proofs.lemmas.Fmt.{length-decimal-le}
use Rattle.std.proofs.lemmas.Nat.{mul-le}
use Rattle.std.specs.Fmt.{decimal}
use Rattle.std.specs.List.{AllByRecursion, range_with_len}
use Rattle.std.specs.Prelude.{filter}
use Rattle.cron_units.specs.Units.{TimeUnit, IsSet, contains, whole}
use Rattle.cron_units.proofs.SetLemmas.{length_set}
use Rattle.cron_canonical.specs.Short.{before_runs, items_text, longest, run_item, runs_of, short_item}

-- ---- one run

-- how long the text of a run is
abbrev run_length : ℕ × ℕ → ℕ
run_length r = length (short_item (run_item r))

run_by : (a b : ℕ) (lone : Bool) → (a == b) ≡ lone
    → (run_length (a, b) ≤ length (decimal a) + 1 + length (decimal b)) × (length (decimal b) ≤ run_length (a, b))
run_by a b true e =
    let same : decimal a ≡ decimal b = ap decimal (eqb-true a b e) in
    rw (e, append-nil (decimal a)) (omega arith, omega (arith, ap length same))
run_by a b false e = rw (e, append-nil (decimal b)) (omega (arith, length-append (decimal a) (45 ∷ decimal b)), omega (arith, length-append (decimal a) (45 ∷ decimal b)))

run_most : (a b : ℕ) → run_length (a, b) ≤ length (decimal a) + 1 + length (decimal b)
run_most a b = (run_by a b (a == b) refl).0

run_least : (a b : ℕ) → length (decimal b) ≤ run_length (a, b)
run_least a b = (run_by a b (a == b) refl).1

same_ten : (n : ℕ) → (n == n) ≡ true
same_ten n = grind (arith, nat_tests)

run_lone : (n : ℕ) → run_length (n, n) ≡ length (decimal n)
run_lone n = rw (same_ten n) (ap length (append-nil (decimal n)))

-- ---- runs, each with what stands behind it

total : List (ℕ × ℕ) → ℕ
total [] = 0
total (r ∷ rs) = run_length r + 1 + total rs

text_most : (rs : List (ℕ × ℕ)) → length (items_text (map run_item rs)) ≤ total rs - 1
unfolding total
text_most [] = omega arith
text_most (r ∷ []) = omega arith
text_most (r ∷ q ∷ rs) =
    omega (arith, length-append (short_item (run_item r)) (44 ∷ items_text (map run_item (q ∷ rs))), text_most (q ∷ rs))

before_by : (n : ℕ) (r : ℕ × ℕ) (rs : List (ℕ × ℕ)) (joins : Bool) → (n + 1 == r.0) ≡ joins
    → total (before_runs n (r ∷ rs)) ≤ length (decimal n) + 1 + total (r ∷ rs)
unfolding total
before_by n r rs true e = rw e (omega (arith, run_most n r.1, run_least r.0 r.1))
before_by n r rs false e = rw e (omega (arith, run_lone n))

-- a number more
before_most : (n : ℕ) (rs : List (ℕ × ℕ)) → total (before_runs n rs) ≤ length (decimal n) + 1 + total rs
unfolding total
before_most n [] = omega (arith, run_lone n)
before_most n (r ∷ rs) = before_by n r rs (n + 1 == r.0) refl

runs_most : (digits : ℕ) (ns : List ℕ) → AllByRecursion (λ n. length (decimal n) ≤ digits) ns → total (runs_of ns) ≤ length ns * (digits + 1)
unfolding total runs_of
runs_most digits [] a = omega arith
runs_most digits (n ∷ ns) a =
    omega (arith, before_most n (runs_of ns), a.0, runs_most digits ns a.1, suc-mul (length ns) (digits + 1))

-- ---- the numbers of a set

kept_all : (P : ℕ → Type 0) (passes : Bool) (x : ℕ) (xs : List ℕ) → P x → AllByRecursion P xs → AllByRecursion P (cond passes (x ∷ xs) xs)
kept_all P true x xs h all = (h, all)
kept_all P false x xs h all = all

filter_all : (P : ℕ → Type 0) (test : ℕ → Bool) (from size : ℕ) → ((x : ℕ) → from ≤ x → x < from + size → P x)
    → AllByRecursion P (filter test (range_with_len from size))
filter_all P test from zero h = tt
filter_all P test from (suc size) h =
    kept_all P (test from) from (filter test (range_with_len (from + 1) size)) (h from (omega arith) (omega arith))
    (filter_all P test (from + 1) size (λ x l m. h x (omega arith) (omega arith)))

set_all : (u : TimeUnit) (P : ℕ → Type 0) (ns : List ℕ) → IsSet u ns → ((x : ℕ) → x ≤ u.greatest → P x) → AllByRecursion P ns
unfolding whole
set_all u P ns is h = subst (AllByRecursion P) (sym is) (filter_all P (contains ns) u.least (u.greatest + 1 - u.least) (λ x l m. h x (omega arith)))

room_of : (digits : ℕ) (u : TimeUnit) (ns : List ℕ) → IsSet u ns → ((x : ℕ) → x ≤ u.greatest → length (decimal x) ≤ digits)
    → length (items_text (map run_item (runs_of ns))) ≤ (u.greatest + 1 - u.least) * (digits + 1) - 1
room_of digits u ns is few =
    let all = set_all u (λ x. length (decimal x) ≤ digits) ns is few in
    let most = mul-le (length ns) (digits + 1) (u.greatest + 1 - u.least) (digits + 1) (length_set u ns is) (omega arith) in
    omega (arith, text_most (runs_of ns), runs_most digits ns all, most)

two_digits : (top x : ℕ) → nat_lt top 100 ≡ true → x ≤ top → length (decimal x) ≤ 2
two_digits top x low l = let less : x < 100 = grind (arith, nat_tests) in length-decimal-le 2 x (omega arith) (omega arith) (omega arith)

four_digits : (x : ℕ) → x < 10_000 → length (decimal x) ≤ 4
four_digits x l = length-decimal-le 4 x (omega arith) (omega arith) (omega arith)

room_by : (u : TimeUnit) (ns : List ℕ) (low : Bool) → nat_lt u.greatest 100 ≡ low → u.greatest < 10_000 → IsSet u ns
    → length (items_text (map run_item (runs_of ns))) ≤ longest u
room_by u ns true e small is = rw e (omega (arith, room_of 2 u ns is (λ x l. two_digits u.greatest x e l)))
room_by u ns false e small is = rw e (omega (arith, room_of 4 u ns is (λ x l. four_digits x (omega arith))))

-- no text of numbers of a unit is longer
pub numbers_room : (u : TimeUnit) (ns : List ℕ) → u.greatest < 10_000 → IsSet u ns → length (items_text (map run_item (runs_of ns))) ≤ longest u
numbers_room u ns small is = room_by u ns (nat_lt u.greatest 100) refl small is
