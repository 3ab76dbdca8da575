-- The swaps that the lines of a file mean.
use Rattle.std.specs.Prelude.{◌≡◌, ◌⊎◌, ◌≤ℤ◌, ◌<ℤ◌, ◌+◌, ℕ, ℤ, true, false, List, [], ◌∷◌, Option, Some, None, ⊤, position}
use Rattle.std.specs.Str.{IsUtf8, bytes_eq}
use Rattle.jiff_tz.specs.declared.timezone.TimeZone.{TimeZone}
use Rattle.cron_answers.specs.Instants.{IsInstant}
use Rattle.cron_rotas.specs.declared.swap.Swap.{Swap}
use Rattle.cron_stretches.specs.Fires.{second_of}
use Rattle.cron_rota_answers.specs.Cells.{cells}
use Rattle.cron_rota_answers.specs.Lines.{Columns, columns_in, is_passed}
use Rattle.cron_rota_answers.specs.declared.swap_error.LineFault.{LineFault}
use Rattle.cron_rota_answers.specs.declared.swap_error.LineFault.TheVariants.{NoText, NotThree, NoInstant, Order, NoPerson}
use Rattle.cron_rota_answers.specs.declared.swap_error.SwapsError.{SwapsError}
use Rattle.cron_rota_answers.specs.declared.swap_error.SwapsError.TheVariants.{Line, OutOfMemory}
use Rattle.cron_rota_answers.specs.declared.swap_error.WrongLine.{WrongLine}

-- the line is a text with these three cells
abbrev pub HasColumns : List ℕ → Columns → Type 0
HasColumns line c = IsUtf8 line × (columns_in (cells 9 line) ≡ Some c)

-- ---- what a line means

-- the names of the people, where instants are read, and the present in nanoseconds since 1970
pub record Given : Type 0 where
  pub names : List (List ℕ)
  pub zone : TimeZone
  pub now : ℤ

abbrev pub given : List (List ℕ) → TimeZone → ℤ → Given
given names zone now = record { names = names; zone = zone; now = now }

-- the text names an instant in this second
abbrev pub IsSecond : TimeZone → ℤ → List ℕ → ℤ → Type 0
IsSecond z now text second = (t : ℤ) × IsInstant text z now (Some t) × (second ≡ second_of t)

-- the swap begins in the second of FROM, and ends in that of UNTIL
abbrev pub AreEnds : TimeZone → ℤ → Columns → ℤ → ℤ → Type 0
AreEnds z now c from until = IsSecond z now c.from from × IsSecond z now c.until until

-- the number of the person with a name
abbrev pub person_of : List (List ℕ) → List ℕ → Option ℕ
person_of names name = position (bytes_eq name) names

-- the three cells mean the swap
abbrev pub MeanSwap : Given → Columns → Swap → Type 0
MeanSwap g c s = AreEnds g.zone g.now c s.from s.until × (s.from <ℤ s.until) × (person_of g.names c.name ≡ Some s.person)

-- the line means the swap
abbrev pub IsSwap : Given → List ℕ → Swap → Type 0
IsSwap g line s = (c : Columns) × HasColumns line c × MeanSwap g c s

-- FROM is no instant, or UNTIL is none
abbrev pub IsNoEnd : TimeZone → ℤ → Columns → List ℕ → Type 0
IsNoEnd z now c word =
    ((word ≡ c.from) × IsInstant c.from z now None) ⊎ ((from : ℤ) × IsSecond z now c.from from × (word ≡ c.until) × IsInstant c.until z now None)

-- why FROM and UNTIL are no ends of a swap
abbrev pub AreNoEnds : TimeZone → ℤ → Columns → LineFault → Type 0
AreNoEnds z now c (NoInstant word) = IsNoEnd z now c word.now
AreNoEnds z now c (Order first last) =
    (first.now ≡ c.from) × (last.now ≡ c.until) × ((from : ℤ) × (until : ℤ) × AreEnds z now c from until × (until ≤ℤ from))
AreNoEnds z now c _ = ⊥

-- why the three cells mean no swap
abbrev pub MeanNoSwap : Given → Columns → LineFault → Type 0
MeanNoSwap g c (NoPerson word) =
    (word.now ≡ c.name) × ((from : ℤ) × (until : ℤ) × AreEnds g.zone g.now c from until × (from <ℤ until)) × (person_of g.names c.name ≡ None)
MeanNoSwap g c fault = AreNoEnds g.zone g.now c fault

-- why a line means no swap
abbrev pub IsNoSwap : Given → List ℕ → LineFault → Type 0
IsNoSwap g line NoText = ¬ (IsUtf8 line)
IsNoSwap g line NotThree = IsUtf8 line × (columns_in (cells 9 line) ≡ None)
IsNoSwap g line fault = (c : Columns) × HasColumns line c × MeanNoSwap g c fault

-- ---- what lines mean

-- the swaps are those of the lines that are not passed over, in their order
abbrev pub AreSwaps : Given → List (List ℕ) → List Swap → Type 0
AreSwaps g [] swaps = swaps ≡ []
AreSwaps g (line ∷ lines) swaps =
    ((is_passed line ≡ true) × AreSwaps g lines swaps)
    ⊎ ((is_passed line ≡ false) × ((s : Swap) × (rest : List Swap) × (swaps ≡ s ∷ rest) × IsSwap g line s × AreSwaps g lines rest))

-- the line is passed over, or means a swap
abbrev pub IsFine : Given → List ℕ → Type 0
IsFine g line = (is_passed line ≡ true) ⊎ ((s : Swap) × IsSwap g line s)

-- The first wrong line of some, the first of which has this number, and what is wrong with it. The
-- lines before it are fine.
abbrev pub IsWrong : Given → ℕ → List (List ℕ) → WrongLine → Type 0
IsWrong g number [] wrong = ⊥
IsWrong g number (line ∷ lines) wrong =
    ((is_passed line ≡ false) × (wrong.number ≡ number) × IsNoSwap g line wrong.fault) ⊎ (IsFine g line × IsWrong g (number + 1) lines wrong)

-- why the lines, numbered from 1 on, mean no swaps
abbrev pub AreWrong : Given → List (List ℕ) → SwapsError → Type 0
AreWrong g lines (Line wrong) = IsWrong g 1 lines wrong
AreWrong g lines OutOfMemory = ⊤
