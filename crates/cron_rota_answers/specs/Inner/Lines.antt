-- One line of a file of swaps.
use Rattle.std.specs.Prelude.{◌≡◌, ◌⊎◌, ◌++◌, ℕ, true, false, List, [], ◌∷◌, ⊤}
use Rattle.cron_rotas.specs.declared.swap.Swap.{Swap}
use Rattle.cron_rota_answers.specs.Lines.{is_passed}
use Rattle.cron_rota_answers.specs.Swaps.{Given, IsNoSwap, IsSwap}
use Rattle.cron_rota_answers.specs.declared.swap_error.SwapsError.{SwapsError}
use Rattle.cron_rota_answers.specs.declared.swap_error.SwapsError.TheVariants.{Line, OutOfMemory}

-- the swap of a line was appended, or nothing if the line is passed over
abbrev pub AddsLine : Given → List ℕ → List Swap → List Swap → Type 0
AddsLine g line old new =
    ((is_passed line ≡ true) × (new ≡ old)) ⊎ ((is_passed line ≡ false) × ((s : Swap) × IsSwap g line s × (new ≡ old ++ s ∷ [])))

-- the line with this number is wrong, or memory ran out
abbrev pub IsLineError : Given → ℕ → List ℕ → SwapsError → Type 0
IsLineError g number line (Line wrong) = (is_passed line ≡ false) × (wrong.number ≡ number) × IsNoSwap g line wrong.fault
IsLineError g number line OutOfMemory = ⊤
