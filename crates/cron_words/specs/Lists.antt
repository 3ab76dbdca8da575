-- Numbers in words: lists of numbers and of ranges.
use Rattle.std.specs.Prelude.{ℕ, ◌==◌, ◌+◌, ◌%◌, Bool, ◌&&◌, List, [], ◌∷◌, ◌++◌, codes, length, nat_lt, if◌then◌else◌}
use Rattle.std.specs.Fmt.{decimal}
use Rattle.std.specs.List.{flat_map}
use Rattle.std.specs.Str.{bytes_eq}
use Rattle.cron_canonical.specs.Short.{runs_of}
use Rattle.cron_units.specs.Units.{TimeUnit, whole}
use Rattle.cron_words.specs.Clocks.{clock_text}
use Rattle.cron_words.specs.Progressions.{is_progression, progression, step}
use Rattle.cron_words.specs.declared.items.Item.{Item}
use Rattle.cron_words.specs.declared.items.Item.TheVariants.{One, Range, Steps}
use Rattle.cron_words.specs.declared.lists.Naming.{Naming}
use Rattle.cron_words.specs.declared.lists.Naming.TheVariants.{Numbers, Ordinals, Weekdays, Months, Clocks}

-- the set has each number of the unit
abbrev pub is_whole : TimeUnit → List ℕ → Bool
is_whole u ns = bytes_eq ns (whole u)

-- a run as items: one number, two numbers, or a range of three and more
abbrev pub run_items : ℕ × ℕ → List Item
run_items r =
    if r.0 == r.1 then One r.0 ∷ [] else if r.0 + 1 == r.1 then One r.0 ∷ One r.1 ∷ [] else Range r.0 r.1 ∷ []

-- ascending numbers as single ones and ranges
unfoldable pub runs_as_items : List ℕ → List Item
runs_as_items ns = flat_map run_items (runs_of ns)

-- five numbers or more that ascend by a step of two or more
abbrev pub is_stepped : List ℕ → Bool
is_stepped ns = is_progression ns && (nat_lt 1 (step ns) && nat_lt 4 (length ns))

-- ascending numbers as one progression, or as single ones and ranges
unfoldable pub items_of : List ℕ → List Item
items_of ns = if is_stepped ns then Steps (progression ns) ∷ [] else runs_as_items ns

-- the name of a day of the week, where Sunday is 1
abbrev pub weekday_text : ℕ → List ℕ
weekday_text n =
    if n == 1 then codes "Sunday" else if n == 2 then codes "Monday" else if n == 3 then codes "Tuesday" else if n == 4 then codes "Wednesday"
    else if n == 5 then codes "Thursday" else if n == 6 then codes "Friday" else codes "Saturday"

abbrev pub month_text : ℕ → List ℕ
month_text n =
    if n == 1 then codes "January" else if n == 2 then codes "February" else if n == 3 then codes "March" else if n == 4 then codes "April"
    else if n == 5 then codes "May" else if n == 6 then codes "June" else if n == 7 then codes "July" else if n == 8 then codes "August"
    else if n == 9 then codes "September" else if n == 10 then codes "October" else if n == 11 then codes "November" else codes "December"

-- the letters after the digits of an ordinal number: `1st`, `2nd`, `3rd`, `11th`
abbrev pub ordinal_end : ℕ → List ℕ
ordinal_end n =
    if nat_lt 10 n && nat_lt n 20 then codes "th" else if n % 10 == 1 then codes "st" else if n % 10 == 2 then codes "nd"
    else if n % 10 == 3 then codes "rd" else codes "th"

-- a number by its digits, as an ordinal number, as a day of the week, as a month, or as an hour by the
-- clock with this minute and second
abbrev pub name_text : Naming → ℕ → List ℕ
name_text Numbers n = decimal n
name_text Ordinals n = decimal n ++ ordinal_end n
name_text Weekdays n = weekday_text n
name_text Months n = month_text n
name_text (Clocks m s) n = clock_text n m s

abbrev pub item_text : Naming → Item → List ℕ
item_text w (One n) = name_text w n
item_text w (Range a b) = name_text w a ++ (codes " to " ++ name_text w b)
item_text w (Steps p) = name_text w p.first ++ (codes " to " ++ (name_text w p.last ++ (codes " by " ++ decimal p.step)))

-- the text before the item at this place of a list: nothing before the first, ` and ` before the
-- last, and else a comma
abbrev pub separator_text : ℕ → ℕ → List ℕ
separator_text place len = if place == 0 then [] else if nat_lt (place + 1) len then codes ", " else codes " and "

-- the items after the first one, each with the text before it
abbrev pub more_text : Naming → List Item → List ℕ
more_text w [] = []
more_text w (i ∷ []) = codes " and " ++ item_text w i
more_text w (i ∷ j ∷ is) = codes ", " ++ (item_text w i ++ more_text w (j ∷ is))

abbrev pub list_text : Naming → List Item → List ℕ
list_text w [] = []
list_text w (i ∷ is) = item_text w i ++ more_text w is
