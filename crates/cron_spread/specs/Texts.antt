-- Texts of crontabs in which a name decides numbers.
use Rattle.std.specs.Prelude.{ℕ, ◌+◌, ◌-◌, ◌==◌, not, slice_index, Bool, List, [], ◌∷◌, ◌++◌, Option, Some, None, drop, take, if◌then◌else◌}
use Rattle.std.specs.Fmt.{decimal}
use Rattle.std.specs.List.{prefix_len}
use Rattle.cron_crontab.specs.declared.field.Field.{Field}
use Rattle.cron_crontab.specs.declared.field.Field.TheVariants.{Minute, Hour, DayOfMonth, Month, DayOfWeek}
use Rattle.cron_text.specs.Tokens.{is_space}
use Rattle.cron_spread.specs.Forms.{form_of}
use Rattle.cron_spread.specs.Places.{place}
use Rattle.cron_spread.specs.declared.forms.Form.{Form}

-- a number of a range: its first, or with a step the first of the numbers that fire
abbrev pub form_text : List ℕ → Field → ℕ → ℕ → Option ℕ → List ℕ
form_text name f first last None = decimal (first + place name f (last - first + 1))
form_text name f first last (Some step) = decimal (first + place name f step) ++ (45 ∷ decimal last ++ (47 ∷ decimal step))

-- an item with its number; any other item stays as it is
abbrev pub item_by : List ℕ → Field → List ℕ → Option Form → List ℕ
item_by name f item None = item
item_by name f item (Some form) = form_text name f form.first form.last form.step

unfoldable pub item_text : List ℕ → Field → List ℕ → List ℕ
item_text name f item = item_by name f item (form_of f item)

-- the items of a field, of which the first has begun with these bytes
abbrev pub items_from : List ℕ → Field → List ℕ → List ℕ → List ℕ
items_from name f item [] = item_text name f item
items_from name f item (c ∷ cs) = if c == 44 then item_text name f item ++ 44 ∷ items_from name f [] cs else items_from name f (item ++ c ∷ []) cs

-- a field, whose items have commas between them
abbrev pub field_text : List ℕ → Field → List ℕ → List ℕ
field_text name f word = items_from name f [] word

-- how many bytes the white space at the front has, and how many the word at the front has
abbrev pub blanks_len : List ℕ → ℕ
blanks_len text = prefix_len is_space text

abbrev pub word_len : List ℕ → ℕ
word_len text = prefix_len (λ c. not (is_space c)) text

abbrev pub behind_blanks : List ℕ → List ℕ
behind_blanks text = drop (blanks_len text) text

-- the blanks and the word at the front of a text, as a field
unfoldable pub front_text : List ℕ → Field → List ℕ → List ℕ
front_text name f text = take (blanks_len text) text ++ field_text name f (take (word_len (behind_blanks text)) (behind_blanks text))

-- what follows them
unfoldable pub rest_of : List ℕ → List ℕ
rest_of text = drop (word_len (behind_blanks text)) (behind_blanks text)

-- a text whose first words are these fields; what follows them stays
abbrev pub fields_text : List ℕ → List Field → List ℕ → List ℕ
fields_text name [] text = text
fields_text name (f ∷ fs) text = front_text name f text ++ fields_text name fs (rest_of text)

abbrev pub five : List Field
five = Minute ∷ Hour ∷ DayOfMonth ∷ Month ∷ DayOfWeek ∷ []

-- whether the first word of a text is a nickname: it begins with `@`
abbrev pub is_nickname : List ℕ → Bool
is_nickname text = slice_index (behind_blanks text) 0 == 64

-- a text of a crontab, whose first five words are its fields; one that begins with a nickname has none
abbrev pub spread_text : List ℕ → List ℕ → List ℕ
spread_text name text = if is_nickname text then text else fields_text name five text
