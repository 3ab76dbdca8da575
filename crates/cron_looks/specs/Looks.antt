-- The time of a fire as a terminal shows it.
use Rattle.std.specs.Prelude.{◌++◌, ◌/◌, ◌%◌, ◌==◌, ◌-ℤ◌, ℕ, ℤ, pos, Bool, List, ◌∷◌, codes, drop, int_div, length, min, if◌then◌else◌}
use Rattle.cron_moments.specs.Readings.{Reading, instant}
use Rattle.cron_looks.specs.Waits.{wait_text}
use Rattle.cron_looks.specs.declared.looks.Look.{Look}

-- the name of the weekday of a day, which is numbered from 1970-01-01, a Thursday
abbrev pub weekday_name : ℕ → List ℕ
weekday_name day =
    let n = day % 7 in
    if n == 0 then codes "Thu" else if n == 1 then codes "Fri" else if n == 2 then codes "Sat" else if n == 3 then codes "Sun"
    else if n == 4 then codes "Mon" else if n == 5 then codes "Tue" else codes "Wed"

-- a text between the codes with which a terminal switches a style on and off, if `colour` is true
abbrev pub lit : Bool → ℕ → List ℕ → List ℕ
lit colour style text =
    if colour then 27 ∷ (codes "[" ++ (style ∷ (codes "m" ++ (text ++ 27 ∷ codes "[0m")))) else text

-- the spaces that a text lacks to eleven columns
abbrev pub spaces : List ℕ → List ℕ
spaces text = drop (min (length text) 11) (codes "           ")

abbrev pub widened : Bool → List ℕ → List ℕ
widened wide text = if wide then text ++ spaces text else text

-- the whole seconds until a moment
abbrev pub seconds_until : Look → Reading → ℤ
seconds_until l m = instant m -ℤ int_div l.from.nanosecond (pos 1_000_000_000)

-- how long it is until a moment, with spaces up to eleven columns if the look is wide
abbrev pub wait_cell : Look → Reading → List ℕ
wait_cell l m = widened l.wide (wait_text (seconds_until l m))

-- the weekday, the fire's text in bold, and how long it is until the moment that the clock shows
-- then, dim: `Sun 2024-03-10 03:00:00 -05:00  in 13h 5m`
abbrev pub look_text : Look → List ℕ → Reading → List ℕ
look_text l text m =
    weekday_name (m.second / 86_400) ++ 32 ∷ (lit l.colour 49 text ++ (codes "  " ++ lit l.colour 50 (wait_cell l m)))
