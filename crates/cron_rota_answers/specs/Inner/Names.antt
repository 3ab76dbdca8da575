-- One name behind others.
use Rattle.std.specs.Prelude.{◌≡◌, ◌+◌, ℕ, List, Some, None, ⊤, length}
use Rattle.cron_rota_answers.specs.People.{first_fault, name_fault}
use Rattle.cron_rota_answers.specs.declared.people.PeopleError.{PeopleError}
use Rattle.cron_rota_answers.specs.declared.people.PeopleError.TheVariants.{Name, TooMany, OutOfMemory}

-- a name behind those before it is wrong, or memory ran out
abbrev pub IsNameError : List (List ℕ) → List ℕ → PeopleError → Type 0
IsNameError before name (Name wrong) = first_fault (name_fault before name) (length before + 1) None ≡ Some wrong
IsNameError before name TooMany = ⊥
IsNameError before name OutOfMemory = ⊤
