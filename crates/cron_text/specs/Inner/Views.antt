-- What contracts see of the values of the code.
use Rattle.std.specs.Prelude.{List, [], ◌∷◌, ◌++◌}
use Rattle.cron_text.specs.Tokens as spec
use Rattle.cron_text.specs.Tokens.{number, word, star, question, comma, dash, slash, foreign}
use Rattle.cron_text.specs.Fields as field
use Rattle.cron_units.specs.Views.{item_view}
use Rattle.cron_units.specs.declared.specifier.Item.{Item}
use Rattle.cron_text.specs.declared.symbols.Symbol.{Symbol}
use Rattle.cron_text.specs.declared.symbols.Symbol.TheVariants.{Number, Word, Star, Question, Comma, Dash, Slash, Foreign}
use Rattle.cron_text.specs.declared.field_texts.Connector as connector
use Rattle.cron_text.specs.declared.field_texts.Connector.TheVariants as connectors
use Rattle.cron_text.specs.declared.field_texts.Growth.{Growth}
use Rattle.cron_text.specs.declared.field_texts.Growth.TheVariants.{Grown, Next}
use Rattle.cron_text.specs.Inner.FieldReading.{FieldState}

abbrev pub symbol_view : Symbol → spec.Symbol
symbol_view (Number n) = number n
symbol_view (Word w) = word w.now
symbol_view Star = star
symbol_view Question = question
symbol_view Comma = comma
symbol_view Dash = dash
symbol_view Slash = slash
symbol_view Foreign = foreign

abbrev pub connector_view : connector.Connector → spec.Symbol
connector_view connectors.Comma = comma
connector_view connectors.Dash = dash
connector_view connectors.Slash = slash

-- the state of a field that is read, as `FieldReading` has it
abbrev pub state_view : List field.Item → Item → spec.Token → FieldState
state_view done item last = record { done = done; item = item_view item; last = last }

-- the state after `growth`, whose last token is `token`
abbrev pub after_growth : List field.Item → Item → spec.Token → Growth → FieldState
after_growth done item token (Grown i) = state_view done i token
after_growth done item token (Next i) = state_view (done ++ item_view item ∷ []) i token
