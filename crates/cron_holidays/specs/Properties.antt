-- The properties of iCalendar files: a name in any case, parameters, a value.
use Rattle.std.specs.Prelude.{ℕ, suc, ◌+◌, ◌==◌, Bool, false, not, ◌&&◌, ◌||◌, List, [], ◌∷◌, codes, drop, map, if◌then◌else◌}
use Rattle.std.specs.Char.{to_ascii_lowercase}
use Rattle.std.specs.List.{take_while}
use Rattle.std.specs.Str.{bytes_eq}
use Rattle.cron_holidays.specs.declared.properties.Kind.{Kind}
use Rattle.cron_holidays.specs.declared.properties.Kind.TheVariants.{Begin, End, Other}
use Rattle.cron_holidays.specs.declared.properties.Property.{Property}
use Rattle.cron_holidays.specs.declared.properties.Property.TheVariants.{DtStart, DtEnd, Status, Duration, Repeats, Unread}

-- the text is the word, in any case
abbrev pub is_word : List ℕ → List ℕ → Bool
is_word text word = bytes_eq (map to_ascii_lowercase text) (map to_ascii_lowercase word)

-- a byte that a name may have: no `:` and no `;`
abbrev pub in_name : ℕ → Bool
in_name c = not (c == 58 || c == 59)

abbrev pub name_of : List ℕ → List ℕ
name_of text = take_while in_name text

-- How many bytes stand in front of the first `:` that isn't between quotation marks. The flag says
-- whether a quotation mark is open.
abbrev pub head_len : Bool → List ℕ → ℕ
head_len quoted [] = 0
head_len quoted (c ∷ cs) = if c == 58 && not quoted then 0 else suc (head_len (if c == 34 then not quoted else quoted) cs)

-- the text after that `:`
abbrev pub value_of : List ℕ → List ℕ
value_of text = drop (head_len false text + 1) text

-- the property says when an event repeats
abbrev pub is_repetition : List ℕ → Bool
is_repetition name = is_word name (codes "RRULE") || is_word name (codes "RDATE") || is_word name (codes "EXRULE") || is_word name (codes "EXDATE")

-- the property with this name
abbrev pub property_of : List ℕ → Property
property_of name =
    if is_word name (codes "DTSTART") then DtStart
    else if is_word name (codes "DTEND") then DtEnd
    else if is_word name (codes "STATUS") then Status
    else if is_word name (codes "DURATION") then Duration
    else if is_repetition name then Repeats
    else Unread

-- what a line with this name says: a component begins, or ends, or it is another property
abbrev pub kind_of : List ℕ → Kind
kind_of name =
    if is_word name (codes "BEGIN") then Begin
    else if is_word name (codes "END") then End
    else Other (property_of name)
