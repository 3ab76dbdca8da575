-- The tokens of a short form: its items are told apart by what stands between them.
use Rattle.std.proofs.Common.{◌≡◌, ℕ, zero, suc, ◌-◌, ◌<◌, Bool, true, false, ◌&&◌, ◌||◌, List, [], ◌∷◌, ◌++◌, map, length, get_or, refl, sym, ap, subst, ◌∙◌, append_assoc, append-nil, arith}
use Rattle.std.proofs.Math.Seq.{take-append_seam, drop-append_seam, get_or-append_right}
use Rattle.std.proofs.lemmas.Bool.{le-leb}
use Rattle.std.proofs.lemmas.Fmt.{decimal_is_IsNumeral}
use Rattle.std.proofs.lemmas.List.{get_or_append_left, length-append, map-append}
use Rattle.std.proofs.lemmas.Str.Parse.{digit_from_value}
use Rattle.std.specs.Bool.{⊤}
use Rattle.std.specs.Fmt.{decimal}
use Rattle.std.specs.List.{list_all, AllByRecursion}
use Rattle.std.specs.Str.Parse.{AllDigits}
use Rattle.cron_units.specs.Denotation.{Denotes}
use Rattle.cron_units.specs.Items.{Item, every, single, number_range, plain, name}
use Rattle.cron_units.specs.Units.{TimeUnit, FieldSet}
use Rattle.cron_text.specs.Fields.{item_symbols, list_symbols, spacing_fits_all, items_in, IsField}
use Rattle.cron_text.specs.Meaning.{DenoteSets}
use Rattle.cron_text.specs.Tokens.{Token, Symbol, number, word, star, comma, dash, tokens, symbol_of, is_digit, is_letter, in_one_run, after_space, after_gap}
use Rattle.cron_text.proofs.Longest.{nothing}
use Rattle.cron_text.proofs.Places.{small_number, symbol_spaced}
use Rattle.cron_text.proofs.TokenRuns.{and_parts, digit_no_space, lone_before, run_is_token, tokens-cons, tokens-nil}
use Rattle.cron_canonical.specs.Short.{symbol_text, short_item, items_text}

-- ---- one symbol

-- the token that a symbol is written as
abbrev pub written_as : Symbol → Token
written_as y = record { spaced = false; text = symbol_text y }

-- what follows goes on with no run of letters or digits
abbrev pub Stops : List ℕ → Type 0
Stops rest = (c : ℕ) → 0 < length rest → in_one_run c (get_or rest 0 0) ≡ false

pub stops_end : Stops []
stops_end c l = absurd (omega arith)

neither : (a b : Bool) → ((a && false) || (b && false)) ≡ false
neither true true = refl
neither true false = refl
neither false true = refl
neither false false = refl

stops_comma : (rest : List ℕ) → Stops (44 ∷ rest)
stops_comma rest c l = neither (is_digit c) (is_letter c)

stops_dash : (rest : List ℕ) → Stops (45 ∷ rest)
stops_dash rest c l = neither (is_digit c) (is_letter c)

pub stops_space : (rest : List ℕ) → Stops (32 ∷ rest)
stops_space rest c l = neither (is_digit c) (is_letter c)

pub all_digits : (ds : List ℕ) → AllDigits 10 ds → list_all is_digit ds ≡ true
all_digits [] a = refl
all_digits (c ∷ ds) a =
    let within = digit_from_value c a.0 in
    rw (le-leb 48 c within.0, le-leb c 57 within.1) (all_digits ds a.1)

digit_at : (ds : List ℕ) (k : ℕ) → list_all is_digit ds ≡ true → k < length ds → is_digit (get_or ds k 0) ≡ true
digit_at [] k a l = absurd (omega arith)
digit_at (c ∷ ds) zero a l = (and_parts (is_digit c) (list_all is_digit ds) a).0
digit_at (c ∷ ds) (suc k) a l = digit_at ds k (and_parts (is_digit c) (list_all is_digit ds) a).1 (omega arith)

digits_run : (c d : ℕ) → is_digit c ≡ true → is_digit d ≡ true → in_one_run c d ≡ true
digits_run c d p q = rw (p, q) refl

run_of_digits : (c : ℕ) (ds rest : List ℕ) → list_all is_digit (c ∷ ds) ≡ true → Stops rest
    → tokens ((c ∷ ds) ++ rest) ≡ record { spaced = false; text = c ∷ ds } ∷ tokens rest
run_of_digits c ds rest a s =
    let parts = and_parts (is_digit c) (list_all is_digit ds) a in
    let seam : length ds - length ds ≡ 0 = omega arith in
    let there : get_or (ds ++ rest) (length ds) 0 ≡ get_or rest 0 0 =
    get_or-append_right ds rest (length ds) 0 (omega arith) ∙ ap (λ (k : ℕ). get_or rest k 0) seam in
    run_is_token c (ds ++ rest) (length ds) (digit_no_space c parts.0) (omega (arith, length-append ds rest))
    (λ k l. digits_run c (get_or (ds ++ rest) k 0) parts.0 (ap is_digit (get_or_append_left ds rest 0 k l) ∙ digit_at ds k parts.1 l))
    (λ l. ap (in_one_run c) there ∙ s c (omega (arith, length-append ds rest, l)))
    ∙ rw (take-append_seam ds rest, drop-append_seam ds rest) refl

digits_token : (ds rest : List ℕ) → 0 < length ds → AllDigits 10 ds → Stops rest → tokens (ds ++ rest) ≡ record { spaced = false; text = ds } ∷ tokens rest
digits_token [] rest l a s = absurd (omega arith)
digits_token (c ∷ ds) rest l a s = run_of_digits c ds rest (all_digits (c ∷ ds) a) s

number_token : (n : ℕ) (rest : List ℕ) → n < 4294967296 → Stops rest → tokens (decimal n ++ rest) ≡ written_as (number n) ∷ tokens rest
number_token n rest l s =
    let numeral = decimal_is_IsNumeral n (omega arith) in
    digits_token (decimal n) rest numeral.0.0 numeral.0.1 s

number_seen : (n : ℕ) → n < 4294967296 → symbol_of (written_as (number n)) ≡ number n
number_seen n l =
    let numeral = decimal_is_IsNumeral n (omega arith) in
    small_number (decimal n) (all_digits (decimal n) numeral.0.1) (omega (arith, numeral.1, l)) ∙ ap number numeral.1

-- ---- one item

-- the items of short forms: a star, numbers that 32 bits count, and the last day of the month
abbrev pub IsShortItem : Item → Type 0
IsShortItem (plain every) = ⊤
IsShortItem (plain (single n)) = n < 4294967296
IsShortItem (plain (number_range a b)) = (a < 4294967296) × (b < 4294967296)
IsShortItem (name w) = w ≡ 76 ∷ []
IsShortItem _ = ⊥

range_text : (a b rest : List ℕ) → (a ++ 45 ∷ (b ++ [])) ++ rest ≡ a ++ 45 ∷ (b ++ rest)
range_text a b rest = append_assoc a (45 ∷ (b ++ [])) rest ∙ ap (λ (t : List ℕ). a ++ 45 ∷ (t ++ rest)) (append-nil b)

item_tokens : (i : Item) (rest : List ℕ) → IsShortItem i → Stops rest → tokens (short_item i ++ rest) ≡ map written_as (item_symbols i) ++ tokens rest
item_tokens (plain every) rest p s = tokens-cons 42 rest ∙ lone_before 42 rest (λ l. refl)
item_tokens (plain (single n)) rest p s = ap (λ (t : List ℕ). tokens (t ++ rest)) (append-nil (decimal n)) ∙ number_token n rest p s
item_tokens (plain (number_range a b)) rest p s =
    ap tokens (range_text (decimal a) (decimal b) rest)
    ∙ (number_token a (45 ∷ (decimal b ++ rest)) p.0 (stops_dash (decimal b ++ rest))
    ∙ ap (λ (ts : List Token). written_as (number a) ∷ ts)
    (tokens-cons 45 (decimal b ++ rest) ∙ (lone_before 45 (decimal b ++ rest) (λ l. refl)
    ∙ ap (λ (ts : List Token). written_as dash ∷ ts) (number_token b rest p.1 s))))
item_tokens (name w) rest p s = rw p (tokens-cons 76 rest ∙ lone_before 76 rest (s 76))
item_tokens i rest p s = absurd p

letter_seen : symbol_of (written_as (word (76 ∷ []))) ≡ word (76 ∷ [])
unfolding symbol_of
letter_seen = refl

star_seen : symbol_of (written_as star) ≡ star
unfolding symbol_of
star_seen = refl

comma_seen : symbol_of (written_as comma) ≡ comma
unfolding symbol_of
comma_seen = refl

dash_seen : symbol_of (written_as dash) ≡ dash
unfolding symbol_of
dash_seen = refl

item_seen : (i : Item) → IsShortItem i → map symbol_of (map written_as (item_symbols i)) ≡ item_symbols i
item_seen (plain every) p = rw star_seen refl
item_seen (plain (single n)) p = rw (number_seen n p) refl
item_seen (plain (number_range a b)) p = rw (number_seen a p.0, dash_seen, number_seen b p.1) refl
item_seen (name w) p = rw (p, letter_seen) refl
item_seen i p = absurd p

-- ---- the items of a field

pub items_tokens : (is : List Item) (rest : List ℕ) → AllByRecursion IsShortItem is → Stops rest
    → tokens (items_text is ++ rest) ≡ map written_as (list_symbols is) ++ tokens rest
items_tokens [] rest p s = refl
items_tokens (i ∷ []) rest p s = item_tokens i rest p.0 s
items_tokens (i ∷ j ∷ is) rest p s =
    let later = items_text (j ∷ is) ++ rest in
    ap tokens (append_assoc (short_item i) (44 ∷ items_text (j ∷ is)) rest)
    ∙ (item_tokens i (44 ∷ later) p.0 (stops_comma later)
    ∙ (ap (λ (ts : List Token). map written_as (item_symbols i) ++ ts)
    (tokens-cons 44 later ∙ (lone_before 44 later (λ l. refl)
    ∙ ap (λ (ts : List Token). written_as comma ∷ ts) (items_tokens (j ∷ is) rest p.1 s)))
    ∙ (sym (append_assoc (map written_as (item_symbols i)) (map written_as (comma ∷ list_symbols (j ∷ is))) (tokens rest))
    ∙ ap (λ (ts : List Token). ts ++ tokens rest) (sym (map-append written_as (item_symbols i) (comma ∷ list_symbols (j ∷ is)))))))

items_seen : (is : List Item) → AllByRecursion IsShortItem is → map symbol_of (map written_as (list_symbols is)) ≡ list_symbols is
items_seen [] p = refl
items_seen (i ∷ []) p = item_seen i p.0
items_seen (i ∷ j ∷ is) p =
    ap (map symbol_of) (map-append written_as (item_symbols i) (comma ∷ list_symbols (j ∷ is)))
    ∙ (map-append symbol_of (map written_as (item_symbols i)) (map written_as (comma ∷ list_symbols (j ∷ is)))
    ∙ rw (item_seen i p.0, comma_seen, items_seen (j ∷ is) p.1) refl)

gap_seen : (b : Bool) (ts : List Token) → map symbol_of (after_gap b ts) ≡ map symbol_of ts
gap_seen true [] = refl
gap_seen true (t ∷ ts) = rw (symbol_spaced true t) refl
gap_seen false ts = refl

unspaced : (ys : List Symbol) → spacing_fits_all (map written_as ys) ≡ true
unspaced [] = refl
unspaced (y ∷ []) = refl
unspaced (y ∷ z ∷ ys) = unspaced (z ∷ ys)

gap_fits : (b : Bool) (ys : List Symbol) → spacing_fits_all (after_gap b (map written_as ys)) ≡ true
gap_fits true [] = refl
gap_fits true (y ∷ []) = refl
gap_fits true (y ∷ z ∷ ys) = unspaced (z ∷ ys)
gap_fits false ys = unspaced ys

in_every_unit : (u : TimeUnit) (is : List Item) → AllByRecursion IsShortItem is → items_in u is ≡ true
in_every_unit u [] p = refl
in_every_unit u (plain every ∷ is) p = in_every_unit u is p.1
in_every_unit u (plain (single n) ∷ is) p = in_every_unit u is p.1
in_every_unit u (plain (number_range a b) ∷ is) p = in_every_unit u is p.1
in_every_unit u (name w ∷ is) p = in_every_unit u is p.1
in_every_unit u (i ∷ is) p = absurd p.0

-- the tokens of short items are a field of any unit, with white space before it or without
short_field : (u : TimeUnit) (b : Bool) (is : List Item) → AllByRecursion IsShortItem is → (is ≡ [] → ⊥)
    → IsField u (after_gap b (map written_as (list_symbols is))) is
short_field u b is p some =
    record {
      written = gap_seen b (map written_as (list_symbols is)) ∙ items_seen is p;
      nonempty = some;
      spaced = gap_fits b (list_symbols is);
      wildcards_allowed = in_every_unit u is p;
    }

gap_before : (b : Bool) (xs ts : List Token) → (xs ≡ [] → ⊥) → after_gap b (xs ++ ts) ≡ after_gap b xs ++ ts
gap_before true [] ts n = absurd (n refl)
gap_before true (x ∷ xs) ts n = refl
gap_before false xs ts n = refl

-- the tokens of short items and of what follows
pub field_tokens : (u : TimeUnit) (b : Bool) (is : List Item) (rest : List ℕ) → AllByRecursion IsShortItem is → (is ≡ [] → ⊥) → Stops rest
    → after_gap b (tokens (items_text is ++ rest)) ≡ after_gap b (map written_as (list_symbols is)) ++ tokens rest
field_tokens u b is rest p some s =
    let unlike : map written_as (list_symbols is) ≡ [] → ⊥ = λ e. nothing u is
    (subst (λ (ts : List Token). IsField u ts is) e (short_field u false is p some)) in
    ap (after_gap b) (items_tokens is rest p s) ∙ gap_before b (map written_as (list_symbols is)) (tokens rest) unlike

-- a field of short items before other fields
pub sets_before : (u : TimeUnit) (us : List TimeUnit) (xs : FieldSet) (xss : List FieldSet) (b : Bool) (is : List Item) (rest : List ℕ)
    → AllByRecursion IsShortItem is → (is ≡ [] → ⊥) → Denotes u is xs → DenoteSets us (after_gap true (tokens rest)) xss
    → DenoteSets (u ∷ us) (after_gap b (tokens (items_text is ++ 32 ∷ rest))) (xs ∷ xss)
sets_before u us xs xss b is rest p some d more =
    let front = after_gap b (map written_as (list_symbols is)) in (
      front,
      after_space (tokens rest),
      is,
      field_tokens u b is (32 ∷ rest) p some (stops_space rest) ∙ ap (λ (ts : List Token). front ++ ts) (tokens-cons 32 rest),
      short_field u b is p some,
      d,
      more,
    )

-- a field of short items at the end
pub last_field : (u : TimeUnit) (b : Bool) (is : List Item) → AllByRecursion IsShortItem is → (is ≡ [] → ⊥)
    → IsField u (after_gap b (tokens (items_text is))) is
last_field u b is p some =
    let alone : tokens (items_text is) ≡ map written_as (list_symbols is) =
    ap tokens (sym (append-nil (items_text is))) ∙ (items_tokens is [] p stops_end
    ∙ (ap (λ (ts : List Token). map written_as (list_symbols is) ++ ts) tokens-nil ∙ append-nil (map written_as (list_symbols is)))) in
    subst (λ (ts : List Token). IsField u (after_gap b ts) is) (sym alone) (short_field u b is p some)
