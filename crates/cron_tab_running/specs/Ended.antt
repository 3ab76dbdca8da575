-- Files cut after their last line feed.
use Rattle.std.specs.Prelude.{ℕ, ◌==◌, ◌||◌, List, [], ◌∷◌, if◌then◌else◌}
use Rattle.std.specs.List.{list_any}

-- a file up to and with its last line feed: the bytes that are a line feed, or come before one
abbrev pub ended : List ℕ → List ℕ
ended [] = []
ended (c ∷ cs) = if c == 10 || list_any (λ b. b == 10) cs then c ∷ ended cs else []
