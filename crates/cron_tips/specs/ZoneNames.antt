-- Names of zones, as the file `zone.tab` of a folder of zone files lists them.
use Rattle.std.specs.Prelude.{◌≡◌, ◌⊎◌, ◌++◌, ◌==◌, ℕ, Bool, false, List, [], ◌∷◌, Option, Some, None, Result, Ok, Err, codes, flat_map, get_or, map, if◌then◌else◌}
use Rattle.std.specs.Option.{option_map}
use Rattle.std.specs.Str.{IsUtf8}
use Rattle.std.specs.declared.alloc.Global.{Global}
use Rattle.std.specs.declared.io.Error.{Error}
use Rattle.std.specs.declared.vec.Vec.{Vec}
use Rattle.cron_crontab.specs.Items.{pieces}
use Rattle.cron_tips.specs.Nearest.{IsFirstLeast, distances, reach}

abbrev pub third : List (List ℕ) → Option (List ℕ)
third (a ∷ b ∷ c ∷ more) = Some c
third _ = None

-- whether a line is a comment: it begins with `#`
abbrev pub is_comment : List ℕ → Bool
is_comment [] = false
is_comment (c ∷ cs) = c == 35

-- the name in a line of the list, its third field; a comment has none
abbrev pub name_in : List ℕ → Option (List ℕ)
name_in line = if is_comment line then None else third (pieces 9 line)

abbrev pub listed : Option (List ℕ) → List (List ℕ)
listed None = []
listed (Some name) = name ∷ []

-- the names of a list, line by line
abbrev pub names_in : List ℕ → List (List ℕ)
names_in list = flat_map (λ line. listed (name_in line)) (pieces 10 list)

-- the last of texts, or `other` if there is none
abbrev pub last_of : List ℕ → List (List ℕ) → List ℕ
last_of other [] = other
last_of other (text ∷ texts) = last_of text texts

-- a name behind its last slash
abbrev pub last_part : List ℕ → List ℕ
last_part name = last_of [] (pieces 47 name)

-- `at` is the place of the name whose last part is nearest to a word, unless a whole name is near.
abbrev pub IsBehind : List ℕ → List (List ℕ) → Option ℕ → Option ℕ → Type 0
IsBehind word names (Some whole) at = at ≡ Some whole
IsBehind word names None at = IsFirstLeast (reach word) (distances word (map last_part names)) at

-- `at` is the place of the name that is nearest to a word; or, if none is near, of the one whose
-- last part is nearest.
abbrev pub IsNearAt : List ℕ → List (List ℕ) → Option ℕ → Type 0
IsNearAt word names at = (whole : Option ℕ) × IsFirstLeast (reach word) (distances word names) whole × IsBehind word names whole at

-- The name is the one at that place. There is none if no last part is near either.
abbrev pub IsNearest : List ℕ → List (List ℕ) → Option (List ℕ) → Type 0
IsNearest word names name = (at : Option ℕ) × IsNearAt word names at × (name ≡ option_map (λ i. get_or names i []) at)

abbrev pub list_path : List ℕ → List ℕ
list_path folder = folder ++ codes "/zone.tab"

-- The name is the one that is nearest to a word, of those of the list; there is none if the list
-- couldn't be read, or isn't UTF-8.
abbrev pub IsFound : List ℕ → Result (Vec ℕ Global) Error → Option (List ℕ) → Type 0
IsFound word (Err e) name = name ≡ None
IsFound word (Ok list) name = (¬ (IsUtf8 list.items) × (name ≡ None)) ⊎ IsNearest word (names_in list.items) name

-- The list of a folder was read, and the name is the one that it gives for a word.
abbrev pub Finds : {F : Type 0} → (F → List ℕ → Result (Vec ℕ Global) Error → F → Type 0) → List ℕ → List ℕ → F → Option (List ℕ) → F → Type 0
Finds reads word folder old name new =
    (answer : Result (Vec ℕ Global) Error) × reads old (list_path folder) answer new × IsFound word answer name
