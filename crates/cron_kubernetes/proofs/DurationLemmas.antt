-- Durations, part by part.
use Rattle.std.proofs.Common.{◌≡◌, ℕ, zero, suc, ◌+◌, ◌-◌, ◌^◌, ◌<◌, ◌≤◌, ◌||◌, ◌==◌, Bool, true, false, List, [], ◌∷◌, length, take, drop, get_or, refl, sym, ap, ◌∙◌, subst, arith, inl, inr}
use Rattle.std.specs.Prelude.{Option, Some, None, not, if◌then◌else◌}
use Rattle.std.specs.Char.{is_ascii_digit}
use Rattle.std.proofs.lemmas.List.{length-drop}
use Rattle.std.specs.List.{list_all, prefix_len}
use Rattle.std.specs.Str.{IsUtf8, IsCharBoundary}
use Rattle.std.proofs.lemmas.Bool.{cases_lt, le-ltb, ne_eqb}
use Rattle.std.proofs.lemmas.List.Sums.{prefix_len-le-length, prefix_len_passes, prefix_len_stops}
use Rattle.std.proofs.lemmas.Str.{IsCharBoundary-start, IsCharBoundary-after_ascii, IsCharBoundary-before_ascii}
use Rattle.cron_kubernetes.specs.Durations.{Part, are_parts, fits, in_front, is_numeral, part, parts, plus, span_of, span_of_part}
use Rattle.cron_kubernetes.specs.Inner.Spans.{IsTooLong}

-- ---- the first part

abbrev is_other : ℕ → Bool
is_other c = not (is_numeral c)

-- the bytes in front that pass a test, and those from the first that does not
abbrev run : (ℕ → Bool) → List ℕ → List ℕ
run p [] = []
run p (c ∷ cs) = if p c then c ∷ run p cs else []

abbrev past : (ℕ → Bool) → List ℕ → List ℕ
past p [] = []
past p (c ∷ cs) = if p c then past p cs else c ∷ cs

run_take : (p : ℕ → Bool) (text : List ℕ) → run p text ≡ take (prefix_len p text) text
run_take p [] = refl
run_take p (c ∷ cs) = by_test (p c) refl (run_take p cs)
  where
    by_test : (b : Bool) → p c ≡ b → run p cs ≡ take (prefix_len p cs) cs → run p (c ∷ cs) ≡ take (prefix_len p (c ∷ cs)) (c ∷ cs)
    by_test true e rest = let same : 1 + prefix_len p cs ≡ suc (prefix_len p cs) = omega arith in rw (e, same) (ap (λ t. c ∷ t) rest)
    by_test false e rest = rw e refl

past_drop : (p : ℕ → Bool) (text : List ℕ) → past p text ≡ drop (prefix_len p text) text
past_drop p [] = refl
past_drop p (c ∷ cs) = by_test (p c) refl (past_drop p cs)
  where
    by_test : (b : Bool) → p c ≡ b → past p cs ≡ drop (prefix_len p cs) cs → past p (c ∷ cs) ≡ drop (prefix_len p (c ∷ cs)) (c ∷ cs)
    by_test true e rest = let same : 1 + prefix_len p cs ≡ suc (prefix_len p cs) = omega arith in rw (e, same) rest
    by_test false e rest = rw e refl

abbrev number : List ℕ → List ℕ
number text = run is_numeral text

abbrev unit : List ℕ → List ℕ
unit text = run is_other (past is_numeral text)

abbrev rest : List ℕ → List ℕ
rest text = past is_other (past is_numeral text)

front_numeral : (c : ℕ) (p : Part) (ps : List Part) → is_numeral c ≡ true → in_front c (p ∷ ps) ≡ part (c ∷ p.number) p.unit ∷ ps
front_numeral c p ps e = rw e refl

front_unit : (c : ℕ) (p : Part) (ps : List Part) → is_numeral c ≡ false → (length p.number == 0) ≡ true → in_front c (p ∷ ps) ≡ part [] (c ∷ p.unit) ∷ ps
front_unit c p ps e f = rw (e, f) refl

front_new : (c : ℕ) (p : Part) (ps : List Part) → is_numeral c ≡ false → (length p.number == 0) ≡ false → in_front c (p ∷ ps) ≡ part [] (c ∷ []) ∷ p ∷ ps
front_new c p ps e f = rw (e, f) refl

first_part : (c : ℕ) (cs : List ℕ) → parts (c ∷ cs) ≡ part (number (c ∷ cs)) (unit (c ∷ cs)) ∷ parts (rest (c ∷ cs))
first_part c [] = by_test (is_numeral c) refl
  where
    by_test : (a : Bool) → is_numeral c ≡ a → parts (c ∷ []) ≡ part (number (c ∷ [])) (unit (c ∷ [])) ∷ parts (rest (c ∷ []))
    by_test true e = rw e refl
    by_test false e = let other : is_other c ≡ true = ap not e in rw (e, other) refl
first_part c (d ∷ ds) = by_test (is_numeral c) (is_numeral d) refl refl (first_part d ds)
  where
    by_test : (a b : Bool) → is_numeral c ≡ a → is_numeral d ≡ b → parts (d ∷ ds) ≡ part (number (d ∷ ds)) (unit (d ∷ ds)) ∷ parts (rest (d ∷ ds))
        → parts (c ∷ d ∷ ds) ≡ part (number (c ∷ d ∷ ds)) (unit (c ∷ d ∷ ds)) ∷ parts (rest (c ∷ d ∷ ds))
    by_test true b e f first = ap (in_front c) first ∙ front_numeral c (part (number (d ∷ ds)) (unit (d ∷ ds))) (parts (rest (d ∷ ds))) e ∙ rw e refl
    by_test false false e f first =
        let other : is_other c ≡ true = ap not e in
        let more : is_other d ≡ true = ap not f in
        ap (in_front c) first
        ∙ front_unit c (part (number (d ∷ ds)) (unit (d ∷ ds))) (parts (rest (d ∷ ds))) e (rw f refl)
        ∙ rw (e, other, f, more) refl
    by_test false true e f first =
        let other : is_other c ≡ true = ap not e in
        let numeral : is_other d ≡ false = ap not f in
        ap (in_front c) first
        ∙ front_new c (part (number (d ∷ ds)) (unit (d ∷ ds))) (parts (rest (d ∷ ds))) e (rw f (ne_eqb (suc (length (run is_numeral ds))) 0 (λ z. omega arith)))
        ∙ ap (λ ps. part [] (c ∷ []) ∷ ps) (sym first)
        ∙ rw (e, other, numeral) refl

first_of : (text : List ℕ) → 0 < length text → parts text ≡ part (number text) (unit text) ∷ parts (rest text)
first_of [] some = absurd (omega arith)
first_of (c ∷ cs) some = first_part c cs

-- a text that is cut behind its digits and points, and behind the bytes after them
pub cut_parts : (text behind num un more : List ℕ) → 0 < length text → behind ≡ drop (prefix_len is_numeral text) text → num ≡ take (prefix_len is_numeral text) text
    → un ≡ take (prefix_len (λ c. not (is_numeral c)) behind) behind → more ≡ drop (prefix_len (λ c. not (is_numeral c)) behind) behind → parts text ≡ part num un ∷ parts more
cut_parts text behind num un more some b n u m =
    let after = b ∙ sym (past_drop is_numeral text) in
    let x : num ≡ number text = n ∙ sym (run_take is_numeral text) in
    let y : un ≡ unit text = u ∙ sym (run_take is_other behind) ∙ ap (run is_other) after in
    let z : more ≡ rest text = m ∙ sym (past_drop is_other behind) ∙ ap (past is_other) after in
    rw (x, y, z) (first_of text some)

moves : (text : List ℕ) → 0 < length text → 0 < prefix_len is_numeral text + prefix_len is_other (drop (prefix_len is_numeral text) text)
moves [] some = absurd (omega arith)
moves (c ∷ cs) some = by_test (is_numeral c) refl
  where
    by_test : (a : Bool) → is_numeral c ≡ a → 0 < prefix_len is_numeral (c ∷ cs) + prefix_len is_other (drop (prefix_len is_numeral (c ∷ cs)) (c ∷ cs))
    by_test true e = rw e (omega arith)
    by_test false e = let other : is_other c ≡ true = ap not e in rw (e, other) (omega arith)

pub shorter : (text behind more : List ℕ) → 0 < length text → behind ≡ drop (prefix_len is_numeral text) text
    → more ≡ drop (prefix_len (λ c. not (is_numeral c)) behind) behind → length more < length text
shorter text behind more some b m =
    let move = moves text some in
    let one = prefix_len-le-length is_numeral text in
    let two = prefix_len-le-length is_other behind in
    let behind_len : length behind ≡ length text - prefix_len is_numeral text = ap length b ∙ length-drop (prefix_len is_numeral text) text in
    let more_len : length more ≡ length behind - prefix_len is_other behind = ap length m ∙ length-drop (prefix_len is_other behind) behind in
    let same : prefix_len is_other behind ≡ prefix_len is_other (drop (prefix_len is_numeral text) text) = ap (prefix_len is_other) b in
    omega (arith, move, one, two, behind_len, more_len, same)

-- the bytes in front that pass a test pass it
pub all_front : (p : ℕ → Bool) (text : List ℕ) → list_all p (take (prefix_len p text) text) ≡ true
all_front p text = rw (sym (run_take p text)) (all_run text)
  where
    all_run : (ts : List ℕ) → list_all p (run p ts) ≡ true
    all_run [] = refl
    all_run (c ∷ cs) = by_test (p c) refl (all_run cs)
      where
        by_test : (b : Bool) → p c ≡ b → list_all p (run p cs) ≡ true → list_all p (run p (c ∷ cs)) ≡ true
        by_test true e rest = rw (e, e, rest) refl
        by_test false e rest = rw e refl

-- ---- where a text may be cut

numeral_ascii : (c : ℕ) → is_numeral c ≡ true → c < 128
numeral_ascii c h = grind arith

boundary_at : (p : ℕ → Bool) → ((c : ℕ) → p c ≡ true → c < 128) → (text : List ℕ) (n : ℕ) → IsUtf8 text → n ≤ prefix_len p text → IsCharBoundary text n
boundary_at p ascii text zero utf8 le = IsCharBoundary-start text utf8
boundary_at p ascii text (suc n) utf8 le =
    let within = prefix_len-le-length p text in
    let same : n + 1 ≡ suc n = omega arith in
    let low = ascii (get_or text n 0) (prefix_len_passes p text n 0 (omega arith)) in
    subst (λ (k : ℕ). IsCharBoundary text k) same (IsCharBoundary-after_ascii text n utf8 (omega arith) low)

-- behind the digits and points in front
pub boundary-number : (text : List ℕ) (n : ℕ) → IsUtf8 text → n ≡ prefix_len is_numeral text → IsCharBoundary text n
boundary-number text n utf8 is = boundary_at is_numeral numeral_ascii text n utf8 (omega arith)

digit_ascii : (c : ℕ) → is_ascii_digit c ≡ true → c < 128
digit_ascii c h = grind arith

-- behind the digits in front
pub boundary-whole : (text : List ℕ) (n : ℕ) → IsUtf8 text → n ≡ prefix_len is_ascii_digit text → IsCharBoundary text n
boundary-whole text n utf8 is = boundary_at is_ascii_digit digit_ascii text n utf8 (omega arith)

not_false : (b : Bool) → not b ≡ false → b ≡ true
not_false true is = refl
not_false false is = absurd cc

-- behind the other bytes in front
pub boundary-unit : (text : List ℕ) (n : ℕ) → n ≡ prefix_len is_other text → IsCharBoundary text n
boundary-unit text n is = elim (cases_lt n (length text)) [
  | inl less ↦ (let stops : not (is_numeral (get_or text (prefix_len is_other text) 0)) ≡ false = prefix_len_stops is_other text 0 (omega arith) in
      let low = numeral_ascii (get_or text (prefix_len is_other text) 0) (not_false (is_numeral (get_or text (prefix_len is_other text) 0)) stops) in
      IsCharBoundary-before_ascii text n less (rw is low))
  | inr more ↦ (let within = prefix_len-le-length is_other text in (omega arith, λ lt. absurd (omega arith)))
]

-- ---- sums

pub plus_zero : (s : Option ℕ) → s ≡ plus (Some 0) s
plus_zero None = refl
plus_zero (Some n) = ap Some (omega arith)

pub plus_more : (t n : ℕ) (p s : Option ℕ) → p ≡ Some n → plus (Some t) (plus p s) ≡ plus (Some (t + n)) s
plus_more t n p None is = rw is refl
plus_more t n p (Some m) is = rw is (ap Some (omega arith))

pub too_long : (t : ℕ) (p s : Option ℕ) → IsTooLong p → fits (plus (Some t) (plus p s)) ≡ false
too_long t None s long = refl
too_long t (Some n) None long = refl
too_long t (Some n) (Some m) long = le-ltb (t + (n + m)) (2 ^ 63) (omega arith)

pub too_many : (t n : ℕ) (p s : Option ℕ) → p ≡ Some n → 2 ^ 63 ≤ t + n → fits (plus (Some t) (plus p s)) ≡ false
too_many t n p None is long = rw is refl
too_many t n p (Some m) is long = rw is (le-ltb (t + (n + m)) (2 ^ 63) (omega arith))
