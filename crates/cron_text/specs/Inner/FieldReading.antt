-- A field as the reader goes over it, from the left: an item that one token is, and then a connector and a token at a
-- time. These are words of the reader's inner functions; no public contract cites them.
use Rattle.std.specs.Prelude.{◌&&◌, List, [], ◌∷◌, ◌++◌, Option, Some, None, if◌then◌else◌}
use Rattle.std.specs.Option.{option_map, option_and_then, option_map_or}
use Rattle.cron_text.specs.Tokens.{Token, Symbol, symbol_of, number, word, star, question, comma, dash, slash}
use Rattle.cron_units.specs.Units.{TimeUnit}
use Rattle.cron_text.specs.Fields.{every, question_mark, single, number_range, name_range, Item, plain, stepped, name, spacing_fits}

-- the item that a token is by itself, if it is one
abbrev pub lone_item : TimeUnit → Symbol → Option Item
lone_item u star = Some (plain every)
lone_item u question = if u.question_mark then Some (plain question_mark) else None
lone_item u (number n) = Some (plain (single n))
lone_item u (word w) = Some (name w)
lone_item u _ = None

-- the range from an item to a token, if both are numbers or both are names
abbrev pub with_end : Item → Symbol → Option Item
with_end (plain (single a)) (number b) = Some (plain (number_range a b))
with_end (name a) (word b) = Some (plain (name_range a b))
with_end _ _ = None

-- the item with a step, if it is a base and the token is a number
abbrev pub with_step : Item → Symbol → Option Item
with_step (plain b) (number s) = Some (stepped b s)
with_step _ _ = None

-- the items that are finished, the one that may still grow, and the last token
pub record FieldState : Type 0 where
  pub done : List Item
  pub item : Item
  pub last : Token

abbrev pub joined : TimeUnit → FieldState → Symbol → Token → Option FieldState
joined u s comma x = option_map (λ i. record { done = s.done ++ s.item ∷ []; item = i; last = x }) (lone_item u (symbol_of x))
joined u s dash x = option_map (λ i. record { done = s.done; item = i; last = x }) (with_end s.item (symbol_of x))
joined u s slash x = option_map (λ i. record { done = s.done; item = i; last = x }) (with_step s.item (symbol_of x))
joined u s _ x = None

-- the state after one more connector c and token x, if the field may go on with them
abbrev pub next_state : TimeUnit → FieldState → Token → Token → Option FieldState
next_state u s c x =
    if spacing_fits s.last c && spacing_fits c x then joined u s (symbol_of c) x else None

-- The state after these tokens, all of them, where they are connectors and tokens that a field may go on with.
abbrev pub state_after : TimeUnit → FieldState → List Token → Option FieldState
state_after u s [] = Some s
state_after u s (c ∷ []) = None
state_after u s (c ∷ x ∷ ts) = option_and_then (λ t. state_after u t ts) (next_state u s c x)

-- the state at the first token of a field
abbrev pub first_state : TimeUnit → Token → Option FieldState
first_state u t = option_map (λ i. record { done = []; item = i; last = t }) (lone_item u (symbol_of t))

-- the state after the tokens of a whole field
abbrev pub field_state : TimeUnit → List Token → Option FieldState
field_state u [] = None
field_state u (t ∷ ts) = option_and_then (λ s. state_after u s ts) (first_state u t)

-- the items of a state
abbrev pub state_items : FieldState → List Item
state_items s = s.done ++ s.item ∷ []

-- as far as the tokens go on with the field: the state there, and the tokens after it
abbrev pub furthest : TimeUnit → FieldState → List Token → FieldState × List Token
furthest u s [] = (s, [])
furthest u s (c ∷ []) = (s, c ∷ [])
furthest u s (c ∷ x ∷ ts) = option_map_or (λ t. furthest u t ts) (next_state u s c x) (s, c ∷ x ∷ ts)

-- the field at the front: the state at its end, and the tokens after it
abbrev pub field_at : TimeUnit → List Token → Option (FieldState × List Token)
field_at u [] = None
field_at u (t ∷ ts) = option_map (λ s. furthest u s ts) (first_state u t)
