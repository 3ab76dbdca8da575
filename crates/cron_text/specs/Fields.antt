-- Fields: lists of items, as they are written.
use Rattle.std.specs.Prelude.{◌≡◌, Bool, true, false, not, ◌&&◌, ◌||◌, List, [], ◌∷◌, ◌++◌, map}
pub use Rattle.cron_units.specs.Items.{Base, every, question_mark, single, number_range, name_range, Item, plain, stepped, name}
use Rattle.cron_units.specs.Units.{TimeUnit}
use Rattle.cron_text.specs.Tokens.{Token, Symbol, symbol_of, number, word, star, question, comma, dash, slash}

-- how a base is written
abbrev pub base_symbols : Base → List Symbol
base_symbols every = star ∷ []
base_symbols question_mark = question ∷ []
base_symbols (single n) = number n ∷ []
base_symbols (number_range a b) = number a ∷ dash ∷ number b ∷ []
base_symbols (name_range v w) = word v ∷ dash ∷ word w ∷ []

-- how an item is written
abbrev pub item_symbols : Item → List Symbol
item_symbols (plain b) = base_symbols b
item_symbols (stepped b n) = base_symbols b ++ slash ∷ number n ∷ []
item_symbols (name w) = word w ∷ []

-- how a list of items is written: with a comma between two
abbrev pub list_symbols : List Item → List Symbol
list_symbols [] = []
list_symbols (i ∷ []) = item_symbols i
list_symbols (i ∷ j ∷ is) = item_symbols i ++ comma ∷ list_symbols (j ∷ is)

abbrev pub is_wildcard : Symbol → Bool
is_wildcard star = true
is_wildcard question = true
is_wildcard _ = false

abbrev pub is_connector : Symbol → Bool
is_connector comma = true
is_connector dash = true
is_connector slash = true
is_connector _ = false

-- if one of two tokens side by side is a wildcard and the other a connector, no white space is
-- between them
abbrev pub spacing_fits : Token → Token → Bool
spacing_fits t u =
    not u.spaced || not ((is_wildcard (symbol_of t) && is_connector (symbol_of u)) || (is_connector (symbol_of t) && is_wildcard (symbol_of u)))

-- each two tokens side by side keep to `spacing_fits`
abbrev pub spacing_fits_all : List Token → Bool
spacing_fits_all [] = true
spacing_fits_all (t ∷ []) = true
spacing_fits_all (t ∷ u ∷ ts) = spacing_fits t u && spacing_fits_all (u ∷ ts)

-- `?` stands only where the unit takes it
abbrev pub base_in : TimeUnit → Base → Bool
base_in u question_mark = u.question_mark
base_in u _ = true

abbrev pub item_in : TimeUnit → Item → Bool
item_in u (plain b) = base_in u b
item_in u (stepped b n) = base_in u b
item_in u (name w) = true

abbrev pub items_in : TimeUnit → List Item → Bool
items_in u [] = true
items_in u (i ∷ is) = item_in u i && items_in u is

-- the tokens are a field of the unit, with these items
pub record IsField (u : TimeUnit) (ts : List Token) (items : List Item) : Type 0 where
  pub written : map symbol_of ts ≡ list_symbols items
  pub nonempty : items ≡ [] → ⊥
  pub spaced : spacing_fits_all ts ≡ true
  pub wildcards_allowed : items_in u items ≡ true
