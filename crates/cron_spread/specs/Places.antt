-- The number that a name has in a field.
use Rattle.std.specs.Prelude.{ℕ, ◌+◌, ◌*◌, ◌%◌, List, ◌∷◌, ◌++◌}
use Rattle.std.specs.List.{fold}
use Rattle.sha2.specs.Sha256.{sha256}
use Rattle.cron_crontab.specs.Fields.{title}
use Rattle.cron_crontab.specs.declared.field.Field.{Field}

-- bytes as a number, the greatest digit first
abbrev pub number_of : List ℕ → ℕ
number_of bytes = fold (λ n byte. n * 256 + byte) 0 bytes

-- what is hashed: the name, a NUL, and the title of the field
abbrev pub key : List ℕ → Field → List ℕ
key name f = name ++ 0 ∷ title f

-- the place of a name among so many numbers of a field, from 0 on: the SHA-256 as a number, modulo
-- the count
unfoldable pub place : List ℕ → Field → ℕ → ℕ
place name f count = number_of (sha256 (key name f)) % count
