-- The names of the people of a rota.
use Rattle.std.specs.Prelude.{◌≡◌, ◌≤◌, ◌<◌, ◌+◌, ◌^◌, ◌++◌, ℕ, Bool, true, false, List, [], ◌∷◌, Option, Some, None, ⊤, codes, if◌then◌else◌, length, map}
use Rattle.std.specs.Borrow.{Bor}
use Rattle.std.specs.Char.{is_control}
use Rattle.std.specs.Fmt.{decimal}
use Rattle.std.specs.List.{list_any}
use Rattle.std.specs.Str.{bytes_eq, chars}
use Rattle.cron_rota_answers.specs.Cells.{cells}
use Rattle.cron_rota_answers.specs.declared.people.NameFault.{NameFault}
use Rattle.cron_rota_answers.specs.declared.people.NameFault.TheVariants.{Empty, Control, Twice}
use Rattle.cron_rota_answers.specs.declared.people.PeopleError.{PeopleError}
use Rattle.cron_rota_answers.specs.declared.people.PeopleError.TheVariants.{Name, TooMany, OutOfMemory}
use Rattle.cron_rota_answers.specs.declared.people.WrongName.{WrongName}

-- the names of a text: they stand between commas
abbrev pub names_of : List ℕ → List (List ℕ)
names_of text = cells 44 text

-- the texts that some borrowed texts have
abbrev pub texts : List (Bor (List ℕ)) → List (List ℕ)
texts names = map (λ name. name.now) names

abbrev pub is_empty : List ℕ → Bool
is_empty [] = true
is_empty (c ∷ cs) = false

-- what is wrong with a name behind those before it
abbrev pub name_fault : List (List ℕ) → List ℕ → Option NameFault
name_fault before name =
    if is_empty name then Some Empty else if list_any is_control (chars name) then Some Control
    else if list_any (bytes_eq name) before then Some Twice else None

abbrev pub first_fault : Option NameFault → ℕ → Option WrongName → Option WrongName
first_fault None number later = later
first_fault (Some fault) number later = Some (record { number = number; fault = fault })

-- the first wrong name behind those before it, numbered from 1 on, and what is wrong with it
abbrev pub wrong_name : List (List ℕ) → List (List ℕ) → Option WrongName
wrong_name before [] = None
wrong_name before (name ∷ names) = first_fault (name_fault before name) (length before + 1) (wrong_name (before ++ name ∷ []) names)

-- the people are the names of a text, none of them is wrong, and 32 bits count them
abbrev pub ArePeople : List ℕ → List (List ℕ) → Type 0
ArePeople text names = (names ≡ names_of text) × (wrong_name [] names ≡ None) × (length names < 2 ^ 32)

-- why a text names no people
abbrev pub AreNoPeople : List ℕ → PeopleError → Type 0
AreNoPeople text (Name wrong) = wrong_name [] (names_of text) ≡ Some wrong
AreNoPeople text TooMany = (wrong_name [] (names_of text) ≡ None) × (2 ^ 32 ≤ length (names_of text))
AreNoPeople text OutOfMemory = ⊤

abbrev pub name_fault_text : NameFault → List ℕ
name_fault_text Empty = codes "is empty"
name_fault_text Control = codes "has a control character"
name_fault_text Twice = codes "is one of the names before it"

abbrev pub people_error_text : PeopleError → List ℕ
people_error_text (Name wrong) = codes "name " ++ (decimal wrong.number ++ (codes " of the people " ++ name_fault_text wrong.fault))
people_error_text TooMany = codes "there are more than 4294967295 people"
people_error_text OutOfMemory = codes "out of memory"
