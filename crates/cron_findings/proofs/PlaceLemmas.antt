-- The bytes before a span and those of the span are bytes of the line.
use Rattle.std.proofs.Common.{◌≡◌, ℕ, ◌+◌, ◌<◌, ◌≤◌, List, length, take, drop, refl, arith, min}
use Rattle.std.proofs.lemmas.List.{drop_more, length-drop, length-take}
use Rattle.cron_findings.specs.Places.{characters_from, first_of, left_behind}

pub within_line : (start end : ℕ) (bytes : List ℕ) → length (take start bytes) + length (drop start (take end bytes)) ≤ length bytes
within_line start end bytes = rw (length-drop start (take end bytes), length-take start bytes, length-take end bytes) (omega arith)

-- the characters from a byte on
pub one_more : (left : ℕ) (bytes : List ℕ) (at : ℕ) → at < length bytes
    → characters_from left (drop at bytes) ≡ first_of left + characters_from (left_behind left (drop at bytes)) (drop (at + 1) bytes)
one_more left bytes at less = rw (drop_more bytes at 0 less) refl
