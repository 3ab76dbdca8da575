-- Places of a text, and what is read there. These are words of the reader's inner functions; no public contract cites
-- them.
use Rattle.std.specs.Prelude.{◌≡◌, ◌+◌, ◌<◌, ◌≤◌, ℕ, Bool, true, false, List, [], ◌∷◌, length, drop, slice_range}
use Rattle.std.specs.List.{list_all}
use Rattle.std.specs.Str.Parse.{digits_value}
use Rattle.cron_units.specs.Units.{TimeUnit}
use Rattle.cron_units.specs.declared.specifier.Item.{Item}
use Rattle.cron_text.specs.Fields as field
use Rattle.cron_text.specs.Fields.{is_connector, is_wildcard}
use Rattle.cron_text.specs.Tokens as spec
use Rattle.cron_text.specs.Tokens.{tokens, is_digit, symbol_of, star, after_gap, BeginsNoSpace}
use Rattle.cron_text.specs.Inner.FieldReading.{FieldState, furthest}
use Rattle.cron_text.specs.Inner.Numbers.{IsCapped}
use Rattle.cron_text.specs.Inner.Views.{symbol_view, connector_view, after_growth}
use Rattle.cron_text.specs.declared.field_texts.Connector.{Connector}
use Rattle.cron_text.specs.declared.field_texts.Growth.{Growth}
use Rattle.cron_text.specs.declared.symbols.Symbol.{Symbol}
use Rattle.cron_text.specs.declared.symbols.Token.{Token}
use Rattle.cron_text.specs.declared.tokens.Place.{Place}

-- the place is the end of the text, or that of a byte that isn't white space
pub record IsPlace (text : List ℕ) (p : Place) : Type 0 where
  pub within : p.at ≤ length text
  pub front : BeginsNoSpace (drop p.at text)

-- the tokens from a place on
abbrev pub tokens_from : List ℕ → Place → List spec.Token
tokens_from text p = after_gap p.spaced (tokens (drop p.at text))

-- the bytes between two indices, as a token
abbrev pub token_between : List ℕ → ℕ → ℕ → spec.Token
token_between text from end = record { spaced = false; text = slice_range text from end }

-- a token begins at the index and ends before `end`, and the grammar sees `symbol` in it
pub record IsTokenAt (text : List ℕ) (at : ℕ) (symbol : Symbol) (end : ℕ) : Type 0 where
  pub further : at < end
  pub within : end ≤ length text
  pub seen : symbol_view symbol ≡ symbol_of (token_between text at end)
  pub rest : tokens (drop at text) ≡ token_between text at end ∷ tokens (drop end text)

-- digits begin at the index and end before `end`, and `value` is their value as far as 32 bits hold
-- it
pub record AreDigitsAt (text : List ℕ) (at value end : ℕ) : Type 0 where
  pub further : at < end
  pub within : end ≤ length text
  pub digits : list_all is_digit (token_between text at end).text ≡ true
  pub value_is : IsCapped (digits_value 10 (slice_range text at end)) value
  pub rest : tokens (drop at text) ≡ token_between text at end ∷ tokens (drop end text)

-- a token begins at the place p, of which the code keeps `kept`, and `next` is the place after it
pub record IsRead (text : List ℕ) (p : Place) (kept : Token) (next : Place) : Type 0 where
  pub token : spec.Token
  pub spaced : kept.spaced ≡ token.spaced
  pub symbol : symbol_view kept.symbol ≡ symbol_of token
  pub rest : tokens_from text p ≡ token ∷ tokens_from text next

-- A star is at the place, and no connector goes on with it: white space follows it, or the text
-- ends.
pub record IsLoneStar (text : List ℕ) (p next : Place) : Type 0 where
  pub token : spec.Token
  pub symbol : symbol_of token ≡ star
  pub rest : tokens_from text p ≡ token ∷ tokens_from text next
  pub alone : (u : TimeUnit) (s : FieldState) → s.last ≡ token → furthest u s (tokens_from text next) ≡ (s, tokens_from text next)

-- a connector is at the place
pub record IsConnector (text : List ℕ) (p : Place) (kept : Connector) : Type 0 where
  pub token : spec.Token
  pub spaced : p.spaced ≡ token.spaced
  pub symbol : connector_view kept ≡ symbol_of token
  pub rest : tokens_from text p ≡ token ∷ tokens (drop (p.at + 1) text)

-- the tokens don't begin with a connector
abbrev pub NoConnector : List spec.Token → Type 0
NoConnector [] = Unit {0}
NoConnector (t ∷ ts) = is_connector (symbol_of t) ≡ false

-- The field goes on: an item grows or is followed by another, at a token that is a wildcard or not,
-- and `rest` is left to read.
pub record GrowsOn (u : TimeUnit) (s : FieldState) (ts : List spec.Token) (done : List field.Item) (item : Item) (growth : Growth) (wildcard : Bool)
    (rest : List spec.Token) : Type 0 where
  pub token : spec.Token
  pub seen : is_wildcard (symbol_of token) ≡ wildcard
  pub on : furthest u s ts ≡ furthest u (after_growth done item token growth) rest
