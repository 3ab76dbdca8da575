-- How bytes are cut into lines.
use Rattle.std.proofs.Common.{◌≡◌, ◌≢◌, ◌==◌, ◌≤◌, ◌<◌, ◌-◌, ℕ, suc, Bool, true, false, List, [], ◌∷◌, ◌++◌, length, take, slice_index, refl, sym, ap, ◌∙◌, subst, append-nil, arith}
use Rattle.std.proofs.lemmas.Bool.Decides.{nat_tests}
use Rattle.std.proofs.lemmas.List.Elements.{recursion_from_All}
use Rattle.std.specs.Io.BufRead.{take_through, drop_through}
use Rattle.std.specs.Io.{StopsAt}
use Rattle.cron_checking.specs.Lines.{lines_of, onto_first}
use Rattle.cron_checking.specs.Reading.{IsOneLine}

not_ten : (c : ℕ) → c ≢ 10 → (c == 10) ≡ false
not_ten c h = grind (arith, nat_tests)

-- a line and its line feed, and then more
pub line_first : (line more : List ℕ) → IsOneLine line → lines_of ((line ++ 10 ∷ []) ++ more) ≡ line ∷ lines_of more
unfolding lines_of
line_first [] more h = refl
line_first (c ∷ cs) more h = rw (not_ten c h.0) (ap (onto_first c) (line_first cs more h.1))

-- a line without a line feed
pub line_last : (line : List ℕ) → IsOneLine line → (line ≡ [] → ⊥) → lines_of line ≡ line ∷ []
unfolding lines_of
line_last [] h n = absurd (n refl)
line_last (c ∷ []) h n = rw (not_ten c h.0) refl
line_last (c ∷ (d ∷ ds)) h n = rw (not_ten c h.0) (ap (onto_first c) (line_last (d ∷ ds) h.1 (λ e. absurd (cc))))

pub line_alone : (line : List ℕ) → IsOneLine line → lines_of (line ++ 10 ∷ []) ≡ line ∷ []
unfolding lines_of
line_alone line h = ap lines_of (sym (append-nil (line ++ 10 ∷ []))) ∙ line_first line [] h

-- bytes and their last one
pub front_last : (bytes : List ℕ) → 0 < length bytes → bytes ≡ take (length bytes - 1) bytes ++ slice_index bytes (length bytes - 1) ∷ []
front_last [] h = absurd (omega arith)
front_last (c ∷ []) h = refl
front_last (c ∷ (d ∷ ds)) h =
    let e : length (c ∷ (d ∷ ds)) - 1 ≡ suc (length (d ∷ ds) - 1) = omega arith in rw e (ap (λ (t : List ℕ). c ∷ t) (front_last (d ∷ ds) (omega arith)))

pub one_line_more : (line : List ℕ) (c : ℕ) → IsOneLine line → c ≢ 10 → IsOneLine (line ++ c ∷ [])
one_line_more [] c h n = (n, tt)
one_line_more (d ∷ ds) c h n = (h.0, one_line_more ds c h.1 n)

is_ten : (c : ℕ) → (c == 10) ≡ true → c ≡ 10
is_ten c h = grind (arith, nat_tests)

isnt_ten : (c : ℕ) → (c == 10) ≡ false → c ≢ 10
isnt_ten c h = grind (arith, nat_tests)

-- the front of a piece that stops at its first line feed
pub front_is_one_line : (bytes : List ℕ) → StopsAt bytes 10 → IsOneLine (take (length bytes - 1) bytes)
front_is_one_line bytes h = recursion_from_All (λ c. c ≢ 10) (take (length bytes - 1) bytes) h

-- a piece whose last byte is no line feed
pub whole_is_one_line : (bytes : List ℕ) → 0 < length bytes → StopsAt bytes 10 → (slice_index bytes (length bytes - 1) == 10) ≡ false → IsOneLine bytes
whole_is_one_line bytes some h n =
    subst IsOneLine (sym (front_last bytes some)) (one_line_more (take (length bytes - 1) bytes) (slice_index bytes (length bytes - 1))
    (front_is_one_line bytes h)
    (isnt_ten (slice_index bytes (length bytes - 1)) n))

-- a piece whose last byte is a line feed
pub with_line_feed : (bytes : List ℕ) → 0 < length bytes → (slice_index bytes (length bytes - 1) == 10) ≡ true
    → bytes ≡ take (length bytes - 1) bytes ++ 10 ∷ []
with_line_feed bytes some h =
    front_last bytes some ∙ ap (λ (c : ℕ). take (length bytes - 1) bytes ++ c ∷ []) (is_ten (slice_index bytes (length bytes - 1)) h)

at_most : (bytes : List ℕ) (ends : Bool) → (slice_index bytes (length bytes - 1) == 10) ≡ ends → StopsAt bytes 10 → length (lines_of bytes) ≤ 1
unfolding lines_of
at_most [] ends e h = omega arith
at_most (c ∷ cs) true e h =
    rw (ap lines_of (with_line_feed (c ∷ cs) (omega arith) e) ∙ line_alone (take (length (c ∷ cs) - 1) (c ∷ cs)) (front_is_one_line (c ∷ cs) h)) (omega arith)
at_most (c ∷ cs) false e h = rw (line_last (c ∷ cs) (whole_is_one_line (c ∷ cs) (omega arith) h e) (λ n. absurd (cc))) (omega arith)

-- a piece that stops at its first line feed is one line at most
pub one_at_most : (bytes : List ℕ) → StopsAt bytes 10 → length (lines_of bytes) ≤ 1
one_at_most bytes h = at_most bytes (slice_index bytes (length bytes - 1) == 10) refl h

after_byte : (c : ℕ) (cs : List ℕ) (ends : Bool) → (c == 10) ≡ ends → (IsOneLine (take_through 10 cs) → drop_through 10 cs ≡ [])
    → IsOneLine (take_through 10 (c ∷ cs)) → drop_through 10 (c ∷ cs) ≡ []
after_byte c cs true e more h = absurd ((rw e at h).0 (is_ten c e))
after_byte c cs false e more h = rw e (more (rw e at h).1)

-- no byte comes after a piece without a line feed
pub none_after : (bytes : List ℕ) → IsOneLine (take_through 10 bytes) → drop_through 10 bytes ≡ []
none_after [] h = refl
none_after (c ∷ cs) h = after_byte c cs (c == 10) refl (none_after cs) h
