-- Where the lines of a command's input end.
use Rattle.std.specs.Prelude.{ℕ, suc, ◌==◌, List, [], ◌∷◌, if◌then◌else◌}

-- how many bytes precede the first line feed
abbrev pub front_len : List ℕ → ℕ
front_len [] = 0
front_len (c ∷ cs) = if c == 10 then 0 else suc (front_len cs)
