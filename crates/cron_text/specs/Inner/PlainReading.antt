-- Items that the code reads without making tokens. These are words of the reader's inner functions;
-- no public contract cites them.
use Rattle.std.specs.Prelude.{◌≡◌, ◌+◌, ◌<◌, ◌≤◌, ℕ, Bool, true, List, ◌∷◌, Some, length, drop, slice_index}
use Rattle.std.specs.List.{list_all}
use Rattle.cron_units.specs.Denotation.{AddsItem}
use Rattle.cron_units.specs.Keys.{IsKey, is_letter}
use Rattle.cron_units.specs.Units.{TimeUnit, FieldSet}
use Rattle.cron_text.specs.Fields.{Item}
use Rattle.cron_text.specs.Tokens.{Token, Symbol, tokens, symbol_of, word}
use Rattle.cron_text.specs.Inner.FieldReading.{FieldState, furthest, lone_item}
use Rattle.cron_text.specs.Inner.Places.{token_between}

-- a token begins at the index and ends before `end`, and the grammar sees `symbol` in it
pub record IsSymbolAt (text : List ℕ) (at : ℕ) (symbol : Symbol) (end : ℕ) : Type 0 where
  pub further : at < end
  pub within : end ≤ length text
  pub seen : symbol ≡ symbol_of (token_between text at end)
  pub rest : tokens (drop at text) ≡ token_between text at end ∷ tokens (drop end text)

-- the byte is at the index, and right after it a token that is `symbol` begins, which ends before
-- `end`
pub record IsBehind (text : List ℕ) (at byte : ℕ) (symbol : Symbol) (end : ℕ) : Type 0 where
  pub within : at < length text
  pub stands : slice_index text at ≡ byte
  pub token : IsSymbolAt text (at + 1) symbol end

-- a word with this key begins at the index and ends before `end`
pub record IsWordAt (text : List ℕ) (at key end : ℕ) : Type 0 where
  pub name : List ℕ
  pub letters : list_all is_letter name ≡ true
  pub keyed : IsKey name key
  pub symbol : IsSymbolAt text at (word name) end

-- a field in the state s goes on over the tokens to `item`, and `rest` is left to read
pub record GoesTo (u : TimeUnit) (s : FieldState) (ts : List Token) (item : Item) (rest : List Token) : Type 0 where
  pub last : Token
  pub on : furthest u s ts ≡ furthest u (record { done = s.done; item = item; last = last }) rest

-- an item begins at the index, whose first token ends at `stop`, and the field goes on with the
-- item up to `end`
pub record IsItemAt (u : TimeUnit) (text : List ℕ) (at : ℕ) (item : Item) (end : ℕ) : Type 0 where
  pub stop : ℕ
  pub lone : Item
  pub rest : List Token
  pub further : at < end
  pub within : end ≤ length text
  pub begins : tokens (drop at text) ≡ token_between text at stop ∷ rest
  pub first : lone_item u (symbol_of (token_between text at stop)) ≡ Some lone
  pub goes : (done : List Item) (b : Bool)
      → GoesTo u (record { done = done; item = lone; last = record (token_between text at stop) { spaced = b } }) rest item (tokens (drop end text))

-- an item that begins at the index and ends before `end` was added to the set `old`, which makes
-- `new`
pub record IsAddedAt (u : TimeUnit) (text : List ℕ) (at end : ℕ) (old new : FieldSet) : Type 0 where
  pub item : Item
  pub is : IsItemAt u text at item end
  pub adds : AddsItem u item old new
