-- How systemd 252 reads the value of a setting: as words, or as a text with escapes. Only some of
-- the forms that it reads are defined here. Texts are lists of bytes.
use Rattle.std.specs.Prelude.{ℕ, ◌+◌, ◌*◌, ◌==◌, ◌&&◌, ◌||◌, nat_lt, not, Bool, true, false, List, [], ◌∷◌, ◌++◌, Option, Some, None, if◌then◌else◌}
use Rattle.std.specs.Char.{digit_value, is_ascii_alphanumeric}
use Rattle.std.specs.List.{list_all}
use Rattle.std.specs.Option.{option_map}
use Rattle.std.specs.Str.{bytes_eq, is_utf8}

-- whether a byte stands for itself in a word without quotes: a letter, a digit, or one of `+-./_`
abbrev pub is_bare : ℕ → Bool
is_bare c = is_ascii_alphanumeric c || (c == 43) || (c == 45) || (c == 46) || (c == 47) || (c == 95)

-- ---- words and texts

-- Where a reader of a value is. `inside q` is in a text with escapes, which is a word in quotes if q
-- is true, and else the whole value.
pub data Place : Type 0 where
  between : Place
  bare : Place
  behind_quote : Place
  inside : Bool → Place
  behind_backslash : Bool → Place
  behind_x : Bool → Place
  behind_digit : Bool → ℕ → Place
  lost : Place

-- the place after the first digit of an escape such as `\x1b`
abbrev pub behind_first : Bool → ℕ → Place
behind_first q c = if nat_lt (digit_value c) 16 then behind_digit q (digit_value c) else lost

abbrev pub with_byte : ℕ → Option (List (List ℕ)) → Option (List (List ℕ))
with_byte c (Some (word ∷ words)) = Some ((c ∷ word) ∷ words)
with_byte c _ = None

-- a word ends, and these follow it
abbrev pub ended : Option (List (List ℕ)) → Option (List (List ℕ))
ended words = option_map (λ ws. [] ∷ ws) words

-- the byte that two digits mean, followed by what is read after them; no escape means NUL
abbrev pub with_meant : ℕ → ℕ → Option (List (List ℕ)) → Option (List (List ℕ))
with_meant h c words = if nat_lt (digit_value c) 16 && nat_lt 0 (16 * h + digit_value c) then with_byte (16 * h + digit_value c) words else None

-- What the rest of a value is read as: the rest of the word that the reader is in, and the words
-- after it. A backslash is followed by a backslash, a quote, or `x` and two digits. `None` for
-- anything else.
abbrev pub read : Place → List ℕ → Option (List (List ℕ))
read between [] = Some []
read bare [] = Some ([] ∷ [])
read behind_quote [] = Some ([] ∷ [])
read (inside true) [] = None
read (inside false) [] = Some ([] ∷ [])
read (behind_backslash q) [] = None
read (behind_x q) [] = None
read (behind_digit q h) [] = None
read lost [] = None
read between (c ∷ cs) = if c == 32 then read between cs else if c == 34 then read (inside true) cs else if is_bare c then with_byte c (read bare cs) else None
read bare (c ∷ cs) = if c == 32 then ended (read between cs) else if is_bare c then with_byte c (read bare cs) else None
read behind_quote (c ∷ cs) = if c == 32 then ended (read between cs) else None
read (inside q) (c ∷ cs) = if q && (c == 34) then read behind_quote cs else if c == 92 then read (behind_backslash q) cs else with_byte c (read (inside q) cs)
read (behind_backslash q) (c ∷ cs) = if c == 120 then read (behind_x q) cs else if (c == 92) || (c == 34) then with_byte c (read (inside q) cs) else None
read (behind_x q) (c ∷ cs) = read (behind_first q c) cs
read (behind_digit q h) (c ∷ cs) = with_meant h c (read (inside q) cs)
read lost (c ∷ cs) = None

abbrev pub only : Option (List (List ℕ)) → Option (List ℕ)
only (Some (text ∷ [])) = Some text
only _ = None

-- ---- signs that are written twice

abbrev pub onto : ℕ → Option (List ℕ) → Option (List ℕ)
onto c text = option_map (λ t. c ∷ t) text

-- The text where each sign is written twice: `%`, which else begins a specifier, or `$`, which else
-- begins a variable. `None` if one isn't. The flag says that a sign precedes, which isn't part of a
-- pair.
abbrev pub halved : ℕ → Bool → List ℕ → Option (List ℕ)
halved sign false [] = Some []
halved sign true [] = None
halved sign false (c ∷ cs) = if c == sign then halved sign true cs else onto c (halved sign false cs)
halved sign true (c ∷ cs) = if c == sign then onto c (halved sign false cs) else None

abbrev pub and_then : {A B : Type 0} → Option A → (A → Option B) → Option B
and_then None f = None
and_then (Some x) f = f x

abbrev pub both : {A : Type 0} → Option A → Option (List A) → Option (List A)
both (Some x) (Some xs) = Some (x ∷ xs)
both _ _ = None

-- what is read of each element; none if one isn't read
abbrev pub each : {A B : Type 0} → (A → Option B) → List A → Option (List B)
each f [] = Some []
each f (x ∷ xs) = both (f x) (each f xs)

-- ---- values

-- the words of a value without specifiers
abbrev pub words_of : List ℕ → Option (List (List ℕ))
words_of value = and_then (read between value) (each (halved 37 false))

-- what `ExecStart` runs: a program and its arguments, which hold no variable
abbrev pub command_of : List ℕ → Option (List (List ℕ))
command_of value = and_then (words_of value) (each (halved 36 false))

-- whether a name of a variable may begin with the byte, and whether one may hold it
abbrev pub begins_name : ℕ → Bool
begins_name c = (is_ascii_alphanumeric c && nat_lt 57 c) || (c == 95)

abbrev pub is_name_byte : ℕ → Bool
is_name_byte c = is_ascii_alphanumeric c || (c == 95)

abbrev pub is_name : List ℕ → Bool
is_name [] = false
is_name (c ∷ cs) = begins_name c && list_all is_name_byte cs

-- whether a byte may be in a variable's value: it is no control character other than a tab
abbrev pub is_shown : ℕ → Bool
is_shown c = (nat_lt 31 c || (c == 9)) && (not (c == 127) && nat_lt c 256)

abbrev pub is_text : List ℕ → Bool
is_text value = list_all is_shown value && is_utf8 value

abbrev pub is_variable : List ℕ × List ℕ → Bool
is_variable v = is_name v.0 && is_text v.1

-- the bytes before the first `=`, and those after it
abbrev pub cut : List ℕ → Option (List ℕ × List ℕ)
cut [] = None
cut (c ∷ cs) = if c == 61 then Some ([], cs) else option_map (λ (name, value). (c ∷ name, value)) (cut cs)

abbrev pub variable_of : List ℕ → Option (List ℕ × List ℕ)
variable_of word = and_then (cut word) (λ v. if is_variable v then Some v else None)

-- the variables that `Environment` sets
abbrev pub variables_of : List ℕ → Option (List (List ℕ × List ℕ))
variables_of value = and_then (words_of value) (each variable_of)

-- the input that `StandardInputText` gives, which ends in a line feed
abbrev pub text_of : List ℕ → Option (List ℕ)
text_of value = option_map (λ text. text ++ 10 ∷ []) (and_then (only (read (inside false) value)) (halved 37 false))

-- the input that `StandardInputData` gives in Base64: `Cg==` is a line feed
abbrev pub data_of : List ℕ → Option (List ℕ)
data_of value = if bytes_eq value (67 ∷ 103 ∷ 61 ∷ 61 ∷ []) then Some (10 ∷ []) else None
