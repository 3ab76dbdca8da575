-- What lines that continue another add to it.
use Rattle.std.specs.Prelude.{ℕ, List, [], ◌∷◌, ◌++◌, drop}
use Rattle.cron_holidays.specs.Lines.{Line}

-- the texts of the lines without their first bytes
abbrev pub more_text : List Line → List ℕ
more_text [] = []
more_text (line ∷ lines) = drop 1 line.text ++ more_text lines
