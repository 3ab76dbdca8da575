-- Runs of ascending numbers, and their texts.
use Rattle.std.proofs.Common.{◌≡◌, ◌≢◌, ◌==◌, ◌+◌, ◌<◌, ◌≤◌, ℕ, Bool, true, false, List, [], ◌∷◌, ◌++◌, map, length, length-append, refl, sym, ap, ◌∙◌, append_assoc, arith}
use Rattle.std.proofs.lemmas.Bool.Decides.{nat_tests}
use Rattle.cron_units.specs.Items.{Item}
use Rattle.cron_canonical.specs.Short.{before_runs, runs_of, run_item, short_item, items_text}

-- the first run begun earlier
unfoldable pub widened : ℕ → List (ℕ × ℕ) → List (ℕ × ℕ)
widened n [] = []
widened n (r ∷ rs) = (n, r.1) ∷ rs

-- the runs of the numbers that are left, after a run that isn't ended
unfoldable pub opened : ℕ → ℕ → List ℕ → List (ℕ × ℕ)
opened first last rest = widened first (before_runs last (runs_of rest))

by_test : (n : ℕ) (r : ℕ × ℕ) (rs : List (ℕ × ℕ)) (joins : Bool) → (n + 1 == r.0) ≡ joins → widened n (before_runs n (r ∷ rs)) ≡ before_runs n (r ∷ rs)
unfolding widened
by_test n r rs true e = rw e refl
by_test n r rs false e = rw e refl

begun_here : (n : ℕ) (rs : List (ℕ × ℕ)) → widened n (before_runs n rs) ≡ before_runs n rs
unfolding widened
begun_here n [] = refl
begun_here n (r ∷ rs) = by_test n r rs (n + 1 == r.0) refl

-- a run that begins here
pub opened_here : (n : ℕ) (rest : List ℕ) → opened n n rest ≡ runs_of (n ∷ rest)
unfolding opened runs_of
opened_here n rest = begun_here n (runs_of rest)

pub opened_end : (first last : ℕ) → opened first last [] ≡ (first, last) ∷ []
unfolding opened runs_of widened
opened_end first last = refl

same_ten : (n : ℕ) → (n == n) ≡ true
same_ten n = grind (arith, nat_tests)

joined_by : (first last n : ℕ) (rs : List (ℕ × ℕ)) (r : ℕ × ℕ) (joins : Bool) → last + 1 ≡ n → (n + 1 == r.0) ≡ joins
    → widened first (before_runs last (before_runs n (r ∷ rs))) ≡ widened first (before_runs n (r ∷ rs))
unfolding widened
joined_by first last n rs r true e t = rw (t, e, same_ten n) refl
joined_by first last n rs r false e t = rw (t, e, same_ten n) refl

joined : (first last n : ℕ) (rs : List (ℕ × ℕ)) → last + 1 ≡ n → widened first (before_runs last (before_runs n rs)) ≡ widened first (before_runs n rs)
unfolding widened
joined first last n [] e = rw (e, same_ten n) refl
joined first last n (r ∷ rs) e = joined_by first last n rs r (n + 1 == r.0) e refl

-- the run goes on
pub opened_on : (first last n : ℕ) (rest : List ℕ) → last + 1 ≡ n → opened first last (n ∷ rest) ≡ opened first n rest
unfolding opened runs_of
opened_on first last n rest e = joined first last n (runs_of rest) e

apart_test : (last n : ℕ) → last + 1 ≢ n → (last + 1 == n) ≡ false
apart_test last n h = grind (arith, nat_tests)

ended_by : (first last n : ℕ) (rs : List (ℕ × ℕ)) (r : ℕ × ℕ) (joins : Bool) → last + 1 ≢ n → (n + 1 == r.0) ≡ joins
    → widened first (before_runs last (before_runs n (r ∷ rs))) ≡ (first, last) ∷ widened n (before_runs n (r ∷ rs))
unfolding widened
ended_by first last n rs r true e t = rw (t, apart_test last n e) refl
ended_by first last n rs r false e t = rw (t, apart_test last n e) refl

ended : (first last n : ℕ) (rs : List (ℕ × ℕ)) → last + 1 ≢ n
    → widened first (before_runs last (before_runs n rs)) ≡ (first, last) ∷ widened n (before_runs n rs)
unfolding widened
ended first last n [] e = rw (apart_test last n e) refl
ended first last n (r ∷ rs) e = ended_by first last n rs r (n + 1 == r.0) e refl

-- the run is ended, and another begins
pub opened_new : (first last n : ℕ) (rest : List ℕ) → last + 1 ≢ n → opened first last (n ∷ rest) ≡ (first, last) ∷ opened n n rest
unfolding opened runs_of
opened_new first last n rest e = ended first last n (runs_of rest) e

some_by : (n m : ℕ) (r : ℕ × ℕ) (rs : List (ℕ × ℕ)) (joins : Bool) (i : Item) → (m + 1 == r.0) ≡ joins
    → items_text (i ∷ map run_item (widened n (before_runs m (r ∷ rs)))) ≡ short_item i ++ 44 ∷ items_text (map run_item (widened n (before_runs m (r ∷ rs))))
unfolding widened
some_by n m r rs true i e = rw e refl
some_by n m r rs false i e = rw e refl

some : (n m : ℕ) (rs : List (ℕ × ℕ)) (i : Item)
    → items_text (i ∷ map run_item (widened n (before_runs m rs))) ≡ short_item i ++ 44 ∷ items_text (map run_item (widened n (before_runs m rs)))
unfolding widened
some n m [] i = refl
some n m (r ∷ rs) i = some_by n m r rs (m + 1 == r.0) i refl

-- a comma stands before an open run
pub comma_before : (first last n m : ℕ) (rest : List ℕ)
    → items_text (map run_item ((first, last) ∷ opened n m rest)) ≡ short_item (run_item (first, last)) ++ 44 ∷ items_text (map run_item (opened n m rest))
unfolding opened
comma_before first last n m rest = some n m (runs_of rest) (run_item (first, last))

-- what was pushed, and the runs that are left
abbrev pub pushed : List ℕ → List (ℕ × ℕ) → List ℕ
pushed text runs = text ++ items_text (map run_item runs)

pub last_pushed : (initial text new : List ℕ) (start first last : ℕ) (all begun rest : List ℕ) → begun ≡ all → rest ≡ []
    → pushed initial (opened start start begun) ≡ pushed text (opened first last rest) → new ≡ text ++ short_item (run_item (first, last))
    → new ≡ pushed initial (runs_of (start ∷ all))
last_pushed initial text new start first last all begun rest same none kept e =
    e ∙ (ap (pushed text) (sym (opened_end first last) ∙ ap (opened first last) (sym none)) ∙ (sym kept
    ∙ ap (pushed initial) (ap (opened start start) same ∙ opened_here start all)))

pub goes_on : (before text : List ℕ) (first last n : ℕ) (old rest : List ℕ) → (last + 1 == n) ≡ true → old ≡ n ∷ rest
    → before ≡ pushed text (opened first last old) → before ≡ pushed text (opened first n rest)
goes_on before text first last n old rest next is kept =
    kept ∙ ap (pushed text) (ap (opened first last) is ∙ opened_on first last n rest (grind (arith, nat_tests)))

pub begins : (before text comma now : List ℕ) (first last n : ℕ) (old rest : List ℕ) → (last + 1 == n) ≡ false → old ≡ n ∷ rest
    → comma ≡ text ++ short_item (run_item (first, last)) → now ≡ comma ++ 44 ∷ []
    → before ≡ pushed text (opened first last old) → before ≡ pushed now (opened n n rest)
begins before text comma now first last n old rest apart is e f kept =
    kept ∙ (ap (pushed text) (ap (opened first last) is ∙ opened_new first last n rest (grind (arith, nat_tests)))
    ∙ (ap (λ (t : List ℕ). text ++ t) (comma_before first last n n rest)
    ∙ (sym (append_assoc text (short_item (run_item (first, last))) (44 ∷ items_text (map run_item (opened n n rest))))
    ∙ (ap (λ (t : List ℕ). t ++ 44 ∷ items_text (map run_item (opened n n rest))) (sym e)
    ∙ (sym (append_assoc comma (44 ∷ []) (items_text (map run_item (opened n n rest)))) ∙ ap (λ (t : List ℕ). pushed t (opened n n rest)) (sym f))))))

-- ---- they fit

pub whole_fits : (most : ℕ) (text : List ℕ) (start : ℕ) (all begun : List ℕ) → begun ≡ all → length text + length (items_text (map run_item (runs_of (start ∷ all)))) ≤ most
    → length (pushed text (opened start start begun)) ≤ most
whole_fits most text start all begun same fits =
    let whole : pushed text (opened start start begun) ≡ pushed text (runs_of (start ∷ all)) =
    ap (pushed text) (ap (opened start start) same ∙ opened_here start all) in
    omega (arith, ap length whole, length-append text (items_text (map run_item (runs_of (start ∷ all)))), fits)

-- a run that is ended fits, and a comma behind it
pub run_fits : (most : ℕ) (before text : List ℕ) (first last n : ℕ) (old rest : List ℕ) → (last + 1 == n) ≡ false → old ≡ n ∷ rest
    → before ≡ pushed text (opened first last old) → length before ≤ most → length text + length (short_item (run_item (first, last))) < most
run_fits most before text first last n old rest apart is kept fits =
    let left = items_text (map run_item (opened n n rest)) in
    let run = short_item (run_item (first, last)) in
    let whole : before ≡ text ++ (run ++ 44 ∷ left) =
    kept ∙ (ap (pushed text) (ap (opened first last) is ∙ opened_new first last n rest (grind (arith, nat_tests)))
    ∙ ap (λ (t : List ℕ). text ++ t) (comma_before first last n n rest)) in
    omega (arith, ap length whole, length-append text (run ++ 44 ∷ left), length-append run (44 ∷ left), fits)

pub last_fits : (most : ℕ) (before text : List ℕ) (first last : ℕ) (rest : List ℕ) → rest ≡ [] → before ≡ pushed text (opened first last rest) → length before ≤ most
    → length text + length (short_item (run_item (first, last))) ≤ most
last_fits most before text first last rest none kept fits =
    let whole : before ≡ text ++ short_item (run_item (first, last)) = kept ∙ ap (pushed text) (ap (opened first last) none ∙ opened_end first last) in
    omega (arith, ap length whole, length-append text (short_item (run_item (first, last))), fits)
