-- The texts of errors.
use Rattle.std.specs.Prelude.{ℕ, List, codes}
use Rattle.std.specs.String.{string_bytes}
use Rattle.cron_units.specs.declared.error.Error.{Error}
use Rattle.cron_units.specs.declared.error.ErrorKind.{ErrorKind}
use Rattle.cron_units.specs.declared.error.ErrorKind.TheVariants.{Expression, OutOfMemory}

abbrev pub kind_text : ErrorKind → List ℕ
kind_text (Expression text) = string_bytes text
kind_text OutOfMemory = codes "out of memory"

-- what an error prints
abbrev pub error_text : Error → List ℕ
error_text e = kind_text e.kind

abbrev pub TellsKind : (List ℕ → Type 0) → ErrorKind → Type 0
TellsKind P (Expression text) = P (string_bytes text)
TellsKind P OutOfMemory = Unit {0}

-- the error has a text with the property P, or memory ran out
abbrev pub Tells : (List ℕ → Type 0) → Error → Type 0
Tells P e = TellsKind P e.kind

abbrev pub IsMemoryKind : ErrorKind → Type 0
IsMemoryKind (Expression t) = ⊥
IsMemoryKind OutOfMemory = Unit {0}

-- memory ran out
abbrev pub IsMemory : Error → Type 0
IsMemory e = IsMemoryKind e.kind
