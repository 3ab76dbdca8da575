-- Numbers, as they are written.
use Rattle.std.proofs.Common.{◌≡◌, ℕ, zero, suc, ◌+◌, ◌-◌, ◌^◌, ◌<◌, ◌≤◌, ◌==◌, true, false, List, [], ◌∷◌, length, take, get_or, lit<, refl, sym, ap, ◌∙◌, subst, arith}
use Rattle.std.specs.Char.{is_ascii_alphabetic, is_ascii_alphanumeric, is_ascii_digit, digit_value}
use Rattle.std.specs.List.{prefix_len, list_all}
use Rattle.std.specs.Str.{IsUtf8, IsCharBoundary}
use Rattle.std.specs.Str.Parse.{digits_value, AllDigits}
use native.Mathlib.Nat.{pow-le-pow_right}
use Rattle.std.proofs.Math.Nat.{min-eq_left}
use Rattle.std.proofs.lemmas.List.{length-take, length-drop, take_all}
use Rattle.std.proofs.lemmas.Int.Digits.{digits_value-lt}
use Rattle.std.proofs.lemmas.List.Sums.{prefix_len-le-length, prefix_len_passes}
use Rattle.std.specs.Prelude.{Result, Ok}
use Rattle.cron_crontab.specs.Items.{alone, behind, bounded, front, named, number_of, spelt}
use Rattle.cron_units.specs.Units.{named_in}
use Rattle.cron_crontab.specs.Fields.{least, greatest, names}
use Rattle.cron_crontab.specs.Refusals.{Reason, no_number}
use Rattle.std.proofs.lemmas.Bool.{eq-eqb, ne_eqb, le-leb, le-ltb, lt-ltb}
use Rattle.cron_crontab.specs.Inner.Reading.{AreDigits, IsNamed, IsNumber, IsWithin}
use Rattle.cron_crontab.specs.declared.field.Field.{Field}
use Rattle.std.proofs.lemmas.Str.{IsCharBoundary-start, IsCharBoundary-after_ascii}

alphanumeric_ascii : (c : ℕ) → is_ascii_alphanumeric c ≡ true → c < 128
alphanumeric_ascii c h = grind arith

boundary_at : (text : List ℕ) (n : ℕ) → IsUtf8 text → n ≤ prefix_len is_ascii_alphanumeric text → IsCharBoundary text n
boundary_at text zero utf8 le = IsCharBoundary-start text utf8
boundary_at text (suc n) utf8 le =
    let within = prefix_len-le-length is_ascii_alphanumeric text in
    let same : n + 1 ≡ suc n = omega arith in
    let passes = prefix_len_passes is_ascii_alphanumeric text n 0 (omega arith) in
    let low = alphanumeric_ascii (get_or text n 0) passes in
    subst (λ (k : ℕ). IsCharBoundary text k) same (IsCharBoundary-after_ascii text n utf8 (omega arith) low)

-- a text may be cut behind the letters and digits at its front
pub front_boundary : (text : List ℕ) (n : ℕ) → IsUtf8 text → n ≡ prefix_len is_ascii_alphanumeric text → IsCharBoundary text n
front_boundary text n utf8 is = boundary_at text n utf8 (omega arith)

-- a digit among digits
pub digit_at : (text : List ℕ) (i : ℕ) → list_all is_ascii_digit text ≡ true → i < length text → is_ascii_digit (get_or text i 0) ≡ true
digit_at [] i all lt = absurd (omega arith)
digit_at (c ∷ cs) zero all lt = grind arith
digit_at (c ∷ cs) (suc i) all lt = digit_at cs i (grind arith) (omega arith)

-- a digit stands for its place among the ten
pub digit_is : (c : ℕ) → is_ascii_digit c ≡ true → (48 ≤ c) × (c ≤ 57) × (digit_value c ≡ c - 48)
digit_is c digit = (grind arith, grind arith, grind arith)

all_digits : (text : List ℕ) → list_all is_ascii_digit text ≡ true → AllDigits 10 text
all_digits [] all = tt
all_digits (c ∷ cs) all = (let d = digit_is c (grind arith) in omega arith, all_digits cs (grind arith))

-- eight digits spell less than 10^8
pub few_before : (text : List ℕ) (i : ℕ) → list_all is_ascii_digit (take i text) ≡ true → i < 9 → i ≤ length text → digits_value 10 (take i text) < 100000000
few_before text i all few le =
    let small = digits_value-lt 10 (take i text) (all_digits (take i text) all) in
    let long : length (take i text) ≡ i = length-take i text ∙ min-eq_left le in
    let most : i ≤ 8 = omega arith in
    let power : 10 ^ i ≤ 10 ^ 8 = pow-le-pow_right (lit< tt) most in
    omega (arith, rw long at small, power)

all_suc : (text : List ℕ) (i : ℕ) → i < length text → list_all is_ascii_digit (take i text) ≡ true → is_ascii_digit (get_or text i 0) ≡ true
    → list_all is_ascii_digit (take (suc i) text) ≡ true
all_suc [] i lt all digit = absurd (omega arith)
all_suc (c ∷ cs) zero lt all digit = grind arith
all_suc (c ∷ cs) (suc i) lt all digit = let rest = all_suc cs i (omega arith) (grind arith) digit in grind arith

-- one digit more
pub all_more : (text : List ℕ) (i : ℕ) → i < length text → list_all is_ascii_digit (take i text) ≡ true → is_ascii_digit (get_or text i 0) ≡ true
    → list_all is_ascii_digit (take (i + 1) text) ≡ true
all_more text i lt all digit = let same : i + 1 ≡ suc i = omega arith in rw same (all_suc text i lt all digit)

-- ---- letters and digits alone

alphanumeric : (c : ℕ) → is_ascii_digit c ≡ true → is_ascii_alphanumeric c ≡ true
alphanumeric c digit = grind arith

letter : (c : ℕ) → is_ascii_alphabetic c ≡ true → (is_ascii_alphanumeric c ≡ true) × (is_ascii_digit c ≡ false)
letter c is = (grind arith, grind arith)

digits_word : (text : List ℕ) → list_all is_ascii_digit text ≡ true → list_all is_ascii_alphanumeric text ≡ true
digits_word [] all = refl
digits_word (c ∷ cs) all = let here = alphanumeric c (grind arith) in let rest = digits_word cs (grind arith) in grind arith

letters_word : (text : List ℕ) → list_all is_ascii_alphabetic text ≡ true → list_all is_ascii_alphanumeric text ≡ true
letters_word [] all = refl
letters_word (c ∷ cs) all = let here = letter c (grind arith) in let rest = letters_word cs (grind arith) in grind arith

no_digits : (text : List ℕ) → 0 < length text → list_all is_ascii_alphabetic text ≡ true → list_all is_ascii_digit text ≡ false
no_digits [] some all = absurd (omega arith)
no_digits (c ∷ cs) some all = let here = letter c (grind arith) in rw here.1 refl

whole_front : (text : List ℕ) → list_all is_ascii_alphanumeric text ≡ true → prefix_len is_ascii_alphanumeric text ≡ length text
whole_front [] all = refl
whole_front (c ∷ cs) all =
    let here : is_ascii_alphanumeric c ≡ true = grind arith in
    let rest = whole_front cs (grind arith) in
    rw here (omega arith)

number_from : (f : Field) (text : List ℕ) (n : ℕ) → (length text == 0) ≡ false → spelt (front text) (named (named_in (names f) (front text)) (no_number text)) ≡ Ok n
    → bounded f n ≡ Ok n → alone text n ≡ Ok n → number_of f text ≡ Ok n
number_from f text n some is within last = rw (some, is, within, last) refl

spelt_digits : (text : List ℕ) (n : ℕ) (other : Result ℕ Reason) → AreDigits text n → spelt text other ≡ Ok n
spelt_digits text n other are = rw (lt-ltb 0 (length text) are.some, are.digits, le-ltb 9 (length text) are.few) (ap Ok (sym are.is))

in_bounds : (f : Field) (n : ℕ) → IsWithin f n → bounded f n ≡ Ok n
in_bounds f n within = rw (le-leb (least f) n within.0, le-leb n (greatest f) within.1) refl

-- letters and digits alone are their own front, so that what they spell and the bounds are left
word_number : (f : Field) (text : List ℕ) (n : ℕ) → 0 < length text → list_all is_ascii_alphanumeric text ≡ true
    → ((other : Result ℕ Reason) → other ≡ named (named_in (names f) text) (no_number text) → spelt text other ≡ Ok n) → IsWithin f n → number_of f text ≡ Ok n
word_number f text n some word is within =
    let whole = whole_front text word in
    let same : front text ≡ text = take_all (prefix_len is_ascii_alphanumeric text) text (omega arith) in
    let nothing_left : length text - prefix_len is_ascii_alphanumeric text ≡ 0 = omega arith in
    let none : length (behind text) ≡ 0 = length-drop (prefix_len is_ascii_alphanumeric text) text ∙ nothing_left in
    let other = named (named_in (names f) (front text)) (no_number text) in
    number_from f text n (ne_eqb (length text) 0 (λ e. omega arith))
    (ap (λ t. spelt t other) same ∙ is other (ap (λ t. named (named_in (names f) t) (no_number text)) same))
    (in_bounds f n within)
    (rw (eq-eqb (length (behind text)) 0 none) refl)

pub digits_number : (f : Field) (text : List ℕ) (n : ℕ) → AreDigits text n → IsWithin f n → IsNumber f text n
digits_number f text n are within = record {
  some = are.some;
  word = digits_word text are.digits;
  is = word_number f text n are.some (digits_word text are.digits) (λ other e. spelt_digits text n other are) within;
  within = within;
}

spelt_letters : (f : Field) (text : List ℕ) (n : ℕ) (other : Result ℕ Reason) → 0 < length text → IsNamed f text n → other ≡ named (named_in (names f) text) (no_number text)
    → spelt text other ≡ Ok n
spelt_letters f text n other some are e = rw (no_digits text some are.letters, lt-ltb 0 (length text) some, e, are.is) refl

pub named_number : (f : Field) (text : List ℕ) (n : ℕ) → IsNamed f text n → IsWithin f n → IsNumber f text n
named_number f text n are within =
    let three = are.three in
    let some : 0 < length text = omega arith in
    record {
      some = some;
      word = letters_word text are.letters;
      is = word_number f text n some (letters_word text are.letters) (λ other e. spelt_letters f text n other some are e) within;
      within = within;
    }
