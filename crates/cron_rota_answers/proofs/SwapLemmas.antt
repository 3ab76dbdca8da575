-- Lines of swaps, one after another.
use Rattle.std.proofs.Common.{◌≡◌, ℕ, ◌+◌, ◌<◌, ◌≤◌, ◌++◌, true, Option, Some, None, inl, inr, List, [], ◌∷◌, length, refl, sym, ap, ◌∙◌, subst, append_assoc, append-nil, arith}
use Rattle.std.specs.Borrow.{Bor}
use Rattle.std.specs.Prelude.{◌&&◌, nat_lt, IfSome, MatchResult, Result, Ok, Err}
use Rattle.std.specs.List.{list_all}
use Rattle.std.specs.Str.{bytes_eq}
use Rattle.std.proofs.lemmas.Bool.{lt-ltb}
use Rattle.std.proofs.lemmas.List.Quantifiers.{position-Some}
use Rattle.cron_clocks.proofs.Windows.{lt_yes}
use Rattle.cron_rotas.specs.Rotas.{is_swap_of}
use Rattle.cron_rotas.specs.declared.swap.Swap.{Swap}
use Rattle.cron_rota_answers.specs.Cells.{parts, parts_left}
use Rattle.cron_rota_answers.specs.Inner.Lines.{AddsLine, IsLineError}
use Rattle.cron_rota_answers.specs.Lines.{Columns}
use Rattle.cron_rota_answers.specs.Swaps.{AreNoEnds, AreSwaps, AreWrong, Given, HasColumns, IsFine, IsNoSwap, IsSwap, IsWrong, MeanNoSwap, MeanSwap}
use Rattle.cron_rota_answers.specs.declared.swap_error.LineFault.{LineFault}
use Rattle.cron_rota_answers.specs.declared.swap_error.LineFault.TheVariants.{NoText, NotThree, NoInstant, Order, NoPerson}
use Rattle.cron_rota_answers.specs.declared.swap_error.SwapsError.{SwapsError}
use Rattle.cron_rota_answers.specs.declared.swap_error.SwapsError.TheVariants.{Line, OutOfMemory}
use Rattle.cron_rota_answers.specs.declared.swap_error.WrongLine.{WrongLine}

-- ---- one line

pub no_ends : (g : Given) (c : Columns) (fault : LineFault) → AreNoEnds g.zone g.now c fault → MeanNoSwap g c fault
no_ends g c NoText h = absurd h
no_ends g c NotThree h = absurd h
no_ends g c (NoInstant word) h = h
no_ends g c (Order first last) h = h
no_ends g c (NoPerson word) h = absurd h

pub no_swap : (g : Given) (line : List ℕ) (c : Columns) (fault : LineFault) → HasColumns line c → MeanNoSwap g c fault → IsNoSwap g line fault
no_swap g line c NoText has h = absurd h
no_swap g line c NotThree has h = absurd h
no_swap g line c (NoInstant word) has h = (c, has, h)
no_swap g line c (Order first last) has h = (c, has, h)
no_swap g line c (NoPerson word) has h = (c, has, h)

fine : (g : Given) (line : List ℕ) (old new : List Swap) → AddsLine g line old new → IsFine g line
fine g line old new (inl (passed, same)) = inl passed
fine g line old new (inr (other, (s, is, added))) = inr (s, is)

-- ---- one line more

swaps_on : (g : Given) (line : List ℕ) (more all : List (List ℕ)) (old new : List Swap) → AddsLine g line old new
    → ((rest : List Swap) → AreSwaps g (line ∷ more) rest → AreSwaps g all (old ++ rest)) → (rest : List Swap) → AreSwaps g more rest → AreSwaps g all (new ++ rest)
swaps_on g line more all old new (inl (passed, same)) so_far rest are =
    subst (λ (s : List Swap). AreSwaps g all (s ++ rest)) (sym same) (so_far rest (inl (passed, are)))
swaps_on g line more all old new (inr (other, (s, is, added))) so_far rest are =
    subst (AreSwaps g all) (sym (append_assoc old (s ∷ []) rest) ∙ ap (λ (l : List Swap). l ++ rest) (sym added))
    (so_far (s ∷ rest) (inr (other, (s, rest, refl, is, are))))

cut_left : (rest : Option (Bor (List ℕ))) (left : Bor (List ℕ)) (line : List ℕ) (more : List (List ℕ)) → rest ≡ Some left → parts 10 left.now ≡ line ∷ more
    → parts_left 10 rest ≡ line ∷ more
cut_left rest left line more is cut = ap (parts_left 10) is ∙ cut

pub swaps_step : (g : Given) (rest : Option (Bor (List ℕ))) (left : Bor (List ℕ)) (line : List ℕ) (more all : List (List ℕ)) (old new : List Swap)
    → rest ≡ Some left → parts 10 left.now ≡ line ∷ more → AddsLine g line old new
    → ((s : List Swap) → AreSwaps g (parts_left 10 rest) s → AreSwaps g all (old ++ s)) → (s : List Swap) → AreSwaps g more s → AreSwaps g all (new ++ s)
swaps_step g rest left line more all old new is cut adds so_far =
    swaps_on g line more all old new adds
    (λ s are. so_far s (subst (λ (l : List (List ℕ)). AreSwaps g l s) (sym (cut_left rest left line more is cut)) are))

pub wrong_step : (g : Given) (number : ℕ) (rest : Option (Bor (List ℕ))) (left : Bor (List ℕ)) (line : List ℕ) (more all : List (List ℕ)) (old new : List Swap)
    → rest ≡ Some left → parts 10 left.now ≡ line ∷ more → AddsLine g line old new
    → ((w : WrongLine) → IsWrong g number (parts_left 10 rest) w → IsWrong g 1 all w) → (w : WrongLine) → IsWrong g (number + 1) more w → IsWrong g 1 all w
wrong_step g number rest left line more all old new is cut adds so_far w wrong =
    so_far w
    (subst (λ (l : List (List ℕ)). IsWrong g number l w) (sym (cut_left rest left line more is cut)) (inr (fine g line old new adds, wrong)))

pub error_here : (g : Given) (number : ℕ) (rest : Option (Bor (List ℕ))) (left : Bor (List ℕ)) (line : List ℕ) (more all : List (List ℕ)) (error : SwapsError)
    → rest ≡ Some left → parts 10 left.now ≡ line ∷ more → IsLineError g number line error
    → ((w : WrongLine) → IsWrong g number (parts_left 10 rest) w → IsWrong g 1 all w) → AreWrong g all error
error_here g number rest left line more all (Line wrong) is cut here so_far =
    so_far wrong (subst (λ (l : List (List ℕ)). IsWrong g number l wrong) (sym (cut_left rest left line more is cut)) (inl here))
error_here g number rest left line more all OutOfMemory is cut here so_far = tt

pub swaps_end : (g : Given) (rest : Option (Bor (List ℕ))) (all : List (List ℕ)) (swaps : List Swap) → rest ≡ None
    → ((s : List Swap) → AreSwaps g (parts_left 10 rest) s → AreSwaps g all (swaps ++ s)) → AreSwaps g all swaps
swaps_end g rest all swaps none so_far =
    subst (AreSwaps g all) (append-nil swaps) (so_far [] (subst (λ (l : List (List ℕ)). AreSwaps g l []) (sym (ap (parts_left 10) none)) refl))

-- ---- swaps are of the people

swap_fits : (g : Given) (line : List ℕ) (s : Swap) → IsSwap g line s → is_swap_of (length g.names) s ≡ true
swap_fits g line s (c, has, (ends, later, person)) =
    let below = position-Some (bytes_eq c.name) g.names s.person [] person in
    ap (λ b. b && nat_lt s.person (length g.names)) (lt_yes s.from s.until later) ∙ lt-ltb s.person (length g.names) (below.0)

pub swaps_fit : (g : Given) (lines : List (List ℕ)) (swaps : List Swap) → AreSwaps g lines swaps → list_all (is_swap_of (length g.names)) swaps ≡ true
swaps_fit g [] swaps none = ap (list_all (is_swap_of (length g.names))) none
swaps_fit g (line ∷ lines) swaps (inl (passed, are)) = swaps_fit g lines swaps are
swaps_fit g (line ∷ lines) swaps (inr (other, (s, rest, cut, is, are))) =
    ap (list_all (is_swap_of (length g.names))) cut
    ∙ (ap (λ b. b && list_all (is_swap_of (length g.names)) rest) (swap_fits g line s is) ∙ swaps_fit g lines rest are)

-- ---- the code's steps

pub swap_by : (g : Given) (line : List ℕ) (c : Columns) (r : Result Swap LineFault) → HasColumns line c → MatchResult r (MeanSwap g c) (MeanNoSwap g c)
    → MatchResult r (IsSwap g line) (IsNoSwap g line)
swap_by g line c (Ok s) has h = (c, has, h)
swap_by g line c (Err fault) has h = no_swap g line c fault has h

pub bound_step : (number len : ℕ) (rest : Option (Bor (List ℕ))) (left : Bor (List ℕ)) (more : Option (Bor (List ℕ))) → rest ≡ Some left
    → IfSome rest (λ l. number + length l.now ≤ len + 1) → IfSome more (λ m. length m.now < length left.now)
    → IfSome more (λ m. number + 1 + length m.now ≤ len + 1)
bound_step number len rest left None is bound shorter = tt
bound_step number len rest left (Some m) is bound shorter =
    let here : number + length left.now ≤ len + 1 = subst (λ o. IfSome o (λ l. number + length l.now ≤ len + 1)) is bound in
    omega (arith, here, shorter)
