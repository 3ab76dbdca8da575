-- The name of a zone after a line. systemd reads the line by that zone's clock, and a line without
-- a name by the machine's clock.
use Rattle.std.specs.Prelude.{ℕ, ◌==◌, ◌||◌, not, Bool, List, [], ◌∷◌, Option, Some, None}
use Rattle.std.specs.List.{list_all}

-- whether no byte of the text is a space or a line feed
abbrev pub is_word : List ℕ → Bool
is_word text = list_all (λ b. not (b == 32 || b == 10)) text

-- what ends a line: a space and the zone's name, or nothing
abbrev pub zone_text : Option (List ℕ) → List ℕ
zone_text None = []
zone_text (Some name) = 32 ∷ name
