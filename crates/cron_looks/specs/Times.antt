-- How the time of a fire is written.
use Rattle.std.specs.Prelude.{◌≡◌, ◌⊎◌, ◌++◌, ℕ, Bool, true, false, List, Ok, Err}
use Rattle.jiff_core.specs.declared.error.Error.{Error}
use Rattle.jiff_core.specs.declared.error.Error.TheVariants.{OutOfMemory}
use Rattle.cron_moments.specs.Readings.{Reading}
use Rattle.cron_looks.specs.Formats.{IsFormatted}
use Rattle.cron_looks.specs.Looks.{look_text}
use Rattle.cron_looks.specs.declared.times.Times.{Times}
use Rattle.cron_looks.specs.declared.times.Times.TheVariants.{Plain, Shown, Format}

-- the cell is the time of a fire with this text, at whose instant the clock shows this moment
abbrev pub IsTime : Times → List ℕ → Reading → List ℕ → Type 0
IsTime Plain text m cell = cell ≡ text
IsTime (Shown look) text m cell = cell ≡ look_text look text m
IsTime (Format format) text m cell = IsFormatted format.now m (Ok cell)

-- why a time can't be written: memory ran out, or `strftime` refuses the format
abbrev pub IsTimeError : Times → Reading → Error → Type 0
IsTimeError (Format format) m why = (why ≡ OutOfMemory) ⊎ IsFormatted format.now m (Err why)
IsTimeError other m why = why ≡ OutOfMemory

-- a text was appended for which `Is` holds
abbrev pub Adds : (List ℕ → Type 0) → List ℕ → List ℕ → Type 0
Adds Is old new = (cell : List ℕ) × (new ≡ old ++ cell) × Is cell

-- whether an error says that memory ran out
abbrev pub is_out_of_memory : Error → Bool
is_out_of_memory OutOfMemory = true
is_out_of_memory _ = false
