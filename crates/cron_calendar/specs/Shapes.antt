-- The drawings of a page as texts: parts that hold numbers, and words of the program.
use Rattle.std.specs.Prelude.{ℕ, ◌+◌, ◌-◌, ◌*◌, ◌/◌, ◌%◌, ◌==◌, List, ◌++◌, codes, fold, length, map, max, min, slice_index, if◌then◌else◌}
use Rattle.std.specs.Fmt.{decimal}
use Rattle.std.specs.List.{flat_map, range_with_len}
use Rattle.cron_calendar.specs.declared.html.shapes.Shape.{Shape}
use Rattle.cron_calendar.specs.declared.html.shapes.Shape.TheVariants.{Square, Label, Run, Head, Cell, RowEnd, Hour, HeadEnd}
use Rattle.cron_calendar.specs.declared.html.shapes.Word.{Word}
use Rattle.cron_calendar.specs.declared.html.shapes.Word.TheVariants.{Month, Weekday}

abbrev pub word_bytes : Word → List ℕ
word_bytes (Month n) =
    if n == 0 then codes "Jan" else (if n == 1 then codes "Feb" else (if n == 2 then codes "Mar" else (if n == 3 then codes "Apr"
    else (if n == 4 then codes "May" else (if n == 5 then codes "Jun" else (if n == 6 then codes "Jul" else (if n == 7 then codes "Aug"
    else (if n == 8 then codes "Sep" else (if n == 9 then codes "Oct" else (if n == 10 then codes "Nov" else codes "Dec"))))))))))
word_bytes (Weekday n) =
    if n == 0 then codes "Mon" else (if n == 1 then codes "Tue" else (if n == 2 then codes "Wed" else (if n == 3 then codes "Thu"
    else (if n == 4 then codes "Fri" else (if n == 5 then codes "Sat" else codes "Sun")))))

-- an attribute: its text `name`, a number, and a closing quote
abbrev pub attribute : List ℕ → ℕ → List ℕ
attribute name n = name ++ (decimal n ++ codes "\"")

abbrev pub place : ℕ → ℕ → List ℕ
place x y = attribute (codes " x=\"") x ++ attribute (codes " y=\"") y

abbrev pub square_text : ℕ → ℕ → ℕ → List ℕ
square_text level x y = attribute (codes "<rect class=\"l") level ++ (place x y ++ codes " width=\"12\" height=\"12\" rx=\"2\"/>\n")

abbrev pub word_text : Word → ℕ → ℕ → List ℕ
word_text word x y = codes "<text" ++ (place x y ++ (codes ">" ++ (word_bytes word ++ codes "</text>\n")))

abbrev pub run_text : ℕ → ℕ → List ℕ
run_text first width = codes "<rect" ++ (place first 0 ++ (attribute (codes " width=\"") width ++ codes " height=\"10\"/>"))

abbrev pub cell_text : ℕ → ℕ → List ℕ
cell_text level sum = attribute (codes "<td class=\"b") level ++ (codes ">" ++ (decimal sum ++ codes "</td>"))

abbrev pub hour_text : ℕ → List ℕ
hour_text hour = codes "<th scope=\"col\">" ++ (decimal hour ++ codes "</th>")

abbrev pub shape_text : Shape → List ℕ
shape_text (Square level x y) = square_text level x y
shape_text (Label word x y) = word_text word x y
shape_text (Run first width) = run_text first width
shape_text (Head word) = codes "<tr><th scope=\"row\">" ++ (word_bytes word ++ codes "</th>")
shape_text (Cell level sum) = cell_text level sum
shape_text RowEnd = codes "</tr>\n"
shape_text (Hour hour) = hour_text hour
shape_text HeadEnd = codes "</tr></thead>\n<tbody>\n"

-- the text of a drawing: its parts one after another
abbrev pub drawing : List Shape → List ℕ
drawing shapes = flat_map shape_text shapes

-- ---- the squares of days

abbrev pub most_of : List ℕ → ℕ
most_of counts = fold max 0 counts

-- the level of a number where `most` is the greatest: its quarters of `most`, rounded up, so 0 for
-- none and 4 for the greatest
abbrev pub level_of : ℕ → ℕ → ℕ
level_of count most = if most == 0 then 0 else (min count most * 4 + most - 1) / most

-- the square of a day at this place, counted from a Monday: a column is a week
abbrev pub square_at : ℕ → ℕ → ℕ → Shape
square_at place count most = Square (level_of count most) (34 + place / 7 * 14) (20 + place % 7 * 14)

-- the squares of the days of a year with these numbers; `lead` days precede them in their first week
abbrev pub squares_of : ℕ → List ℕ → List Shape
squares_of lead counts =
    map (λ place. square_at (lead + place) (slice_index counts place) (most_of counts)) (range_with_len 0 (min (length counts) 366))
