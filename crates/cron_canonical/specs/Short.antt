-- The short form of sets: a canonical text that means them.
use Rattle.std.specs.Prelude.{◌≡◌, ◌==◌, ◌+◌, ◌-◌, ◌*◌, ℕ, List, [], ◌∷◌, ◌++◌, map, codes, nat_lt, if◌then◌else◌}
use Rattle.std.specs.Fmt.{decimal}
use Rattle.std.specs.Str.{IsAscii, bytes_eq}
use Rattle.std.specs.List.{flat_map}
use Rattle.cron_units.specs.Sets.{Sets, AreSets}
use Rattle.cron_units.specs.Units.{TimeUnit, FieldSet, whole}
use Rattle.cron_units.specs.Units as units
use Rattle.cron_units.specs.Items.{Item, every, single, number_range, plain, name}
use Rattle.cron_text.specs.Fields.{item_symbols}
use Rattle.cron_text.specs.Meaning.{six_units, field_sets, Means}
use Rattle.cron_text.specs.Tokens.{Symbol, number, word, star, question, comma, dash, slash, foreign}

-- the runs after n is put in front of them; a run is the first and the last of consecutive numbers
abbrev pub before_runs : ℕ → List (ℕ × ℕ) → List (ℕ × ℕ)
before_runs n [] = (n, n) ∷ []
before_runs n (r ∷ rs) = if n + 1 == r.0 then (n, r.1) ∷ rs else (n, n) ∷ r ∷ rs

-- the runs of consecutive numbers in an ascending list
unfoldable pub runs_of : List ℕ → List (ℕ × ℕ)
runs_of [] = []
runs_of (n ∷ ns) = before_runs n (runs_of ns)

-- a run as an item: `5`, or `5-9`
abbrev pub run_item : ℕ × ℕ → Item
run_item r = plain (if r.0 == r.1 then single r.0 else number_range r.0 r.1)

-- the items of the numbers of a set: a star for all of them, else their runs
abbrev pub number_items : TimeUnit → List ℕ → List Item
number_items u ordinals = if bytes_eq ordinals (whole u) then plain every ∷ [] else map run_item (runs_of ordinals)

-- the items of a set, with the last day of the month after its numbers
abbrev pub short_items : TimeUnit → FieldSet → List Item
short_items u s =
    if s.last_day then number_items u s.ordinals ++ name (codes "L") ∷ [] else number_items u s.ordinals

abbrev pub symbol_text : Symbol → List ℕ
symbol_text (number n) = decimal n
symbol_text (word w) = w
symbol_text star = codes "*"
symbol_text question = codes "?"
symbol_text comma = codes ","
symbol_text dash = codes "-"
symbol_text slash = codes "/"
symbol_text foreign = []

abbrev pub short_item : Item → List ℕ
short_item i = flat_map symbol_text (item_symbols i)

-- items with a comma between two
abbrev pub items_text : List Item → List ℕ
items_text [] = []
items_text (i ∷ []) = short_item i
items_text (i ∷ j ∷ is) = short_item i ++ 44 ∷ items_text (j ∷ is)

abbrev pub field_text : TimeUnit → FieldSet → List ℕ
field_text u s = items_text (short_items u s)

-- the fields of these units and then the years, with a space between two
abbrev pub fields_text : List TimeUnit → List FieldSet → List ℕ
fields_text [] (xs ∷ []) = field_text units.years xs
fields_text (u ∷ us) (xs ∷ xss) = field_text u xs ++ 32 ∷ fields_text us xss
fields_text _ _ = []

-- the short form of seven sets: their fields with a space between two
unfoldable pub sets_text : Sets → List ℕ
sets_text s = fields_text six_units (field_sets s)

-- the most digits of a number of the unit, of which none has more than four
abbrev pub digits_in : TimeUnit → ℕ
digits_in u = if nat_lt u.greatest 100 then 2 else 4

-- the most bytes of a set's numbers as text: each number of the unit with a comma after it
abbrev pub longest : TimeUnit → ℕ
longest u = 1 + ((u.greatest + 1 - u.least) * (digits_in u + 1) - 1)

-- ---- laws

-- the short form of sets, none of them empty, is a text that means these sets
abbrev pub ShortFormsMean : Type 0
ShortFormsMean = (s : Sets) → AreSets s → Means (sets_text s) s

-- sets with the same short form are equal
abbrev pub ShortFormsDiffer : Type 0
ShortFormsDiffer = (s t : Sets) → AreSets s → AreSets t → sets_text s ≡ sets_text t → s ≡ t

-- the short form of sets is ASCII
abbrev pub ShortFormsAreAscii : Type 0
ShortFormsAreAscii = (s : Sets) → AreSets s → IsAscii (sets_text s)
