-- Waits in words.
use Rattle.std.specs.Prelude.{ℕ, ◌==◌, ◌/◌, ◌%◌, List, [], ◌++◌, codes, length, if◌then◌else◌}
use Rattle.std.specs.Fmt.{decimal}

-- the text with n of a unit added at its end, or unchanged if n is 0
abbrev pub with_part : List ℕ → ℕ → List ℕ → List ℕ
with_part text n noun =
    if n == 0 then text
    else text ++ ((if length text == 0 then [] else codes " ") ++ (decimal n ++ (codes " " ++ (noun ++ (if n == 1 then [] else codes "s")))))

-- the days, hours, minutes and seconds of a wait of w seconds, without those that are 0
unfoldable pub parts_text : ℕ → List ℕ
parts_text w =
    with_part (with_part (with_part (with_part [] (w / 86400) (codes "day")) (w / 3600 % 24) (codes "hour")) (w / 60 % 60) (codes "minute")) (w % 60) (codes "second")

-- a wait of w seconds in words: `1 day`, `1 hour 30 minutes`, `0 seconds`
abbrev pub wait_text : ℕ → List ℕ
wait_text w = if length (parts_text w) == 0 then codes "0 seconds" else parts_text w
