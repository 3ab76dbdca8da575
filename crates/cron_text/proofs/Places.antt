-- Tokens at the indices of a text.
use Rattle.std.proofs.Common.{◌≡◌, ℕ, ◌+◌, ◌-◌, ◌<◌, ◌≤◌, Bool, true, false, not, cond, ◌&&◌, List, [], ◌∷◌, length, get_or, take, drop, refl, sym, ap, ◌∙◌, subst, arith, zero, suc, nat_lt, inl, inr}
use Rattle.std.proofs.lemmas.Bool.{cases_lt, lt-ltb, le-ltb, false≢true}
use Rattle.std.proofs.lemmas.Bool.Decides.{nat_tests}
use Rattle.std.proofs.lemmas.List.{drop_more, drop_all}
use Rattle.std.proofs.lemmas.Str.{IsCharBoundary-before_ascii, IsCharBoundary-after_ascii}
use Rattle.std.specs.List.{list_all}
use Rattle.std.specs.Prelude.{slice_index}
use Rattle.std.specs.Str.{IsUtf8, IsCharBoundary}
use Rattle.std.specs.Str.Parse.{digits_value}
use Rattle.cron_text.specs.Fields.{is_connector}
use Rattle.cron_text.specs.Meaning.{trimmed_front}
use Rattle.cron_text.specs.Tokens.{Token, Symbol, number, word, foreign, tokens, symbol_of, sign_of, is_space, is_digit, is_letter, in_one_run, after_space, after_byte, after_gap, BeginsNoSpace}
use Rattle.cron_text.specs.Inner.Places.{IsPlace, IsConnector, NoConnector, token_between}
use Rattle.cron_text.specs.Inner.Views.{connector_view}
use Rattle.cron_text.specs.declared.field_texts.Connector.{Connector}
use Rattle.cron_text.specs.declared.field_texts.Connector.TheVariants.{Comma, Dash, Slash}
use Rattle.cron_text.specs.declared.tokens.Place.{Place}
use Rattle.cron_text.proofs.TokenRuns.{tokens-nil, tokens-cons, after_gap-space, digit_no_space, letter_no_space, run_is_token}
use Rattle.cron_text.proofs.Trims.{front_stays, front_more, front_none}

-- ---- white space before a place

pub gap_none : (from : ℕ) (ts : List Token) → ts ≡ after_gap (nat_lt from from) ts
gap_none from ts = rw (le-ltb from from (omega arith)) refl

-- one byte of white space more
pub gap_more : (text : List ℕ) (from at : ℕ) (ts : List Token) → from ≤ at → at < length text → is_space (get_or text at 0) ≡ true
    → ts ≡ after_gap (nat_lt from at) (tokens (drop at text)) → ts ≡ after_gap (nat_lt from (at + 1)) (tokens (drop (at + 1) text))
gap_more text from at ts f l s h =
    let on : tokens (drop at text) ≡ after_space (tokens (drop (at + 1) text)) =
    ap tokens (drop_more text at 0 l) ∙ (tokens-cons (get_or text at 0) (drop (at + 1) text) ∙ rw s refl) in
    h ∙ (ap (after_gap (nat_lt from at)) on ∙ (after_gap-space (nat_lt from at) (tokens (drop (at + 1) text)) ∙ rw (lt-ltb from (at + 1) (omega arith)) refl))

pub front_further : (text : List ℕ) (at : ℕ) (bs : List ℕ) → at < length text → is_space (get_or text at 0) ≡ true
    → trimmed_front bs ≡ trimmed_front (drop at text) → trimmed_front bs ≡ trimmed_front (drop (at + 1) text)
front_further text at bs l s h = h ∙ (ap trimmed_front (drop_more text at 0 l) ∙ front_more (get_or text at 0) (drop (at + 1) text) s)

pub front_here : (text : List ℕ) (at : ℕ) (bs : List ℕ) → at < length text → is_space (get_or text at 0) ≡ false
    → trimmed_front bs ≡ trimmed_front (drop at text) → drop at text ≡ trimmed_front bs
front_here text at bs l s h =
    sym (h ∙ (ap trimmed_front (drop_more text at 0 l) ∙ (front_stays (get_or text at 0) (drop (at + 1) text) s ∙ sym (drop_more text at 0 l))))

pub front_end : (text : List ℕ) (at : ℕ) (bs : List ℕ) → length text ≤ at → trimmed_front bs ≡ trimmed_front (drop at text) → drop at text ≡ trimmed_front bs
front_end text at bs l h = sym (h ∙ (ap trimmed_front (drop_all at text l) ∙ (front_none ∙ sym (drop_all at text l))))

pub begins_here : (text : List ℕ) (at : ℕ) → at < length text → is_space (get_or text at 0) ≡ false → BeginsNoSpace (drop at text)
begins_here text at l s = subst BeginsNoSpace (sym (drop_more text at 0 l)) s

pub begins_end : (text : List ℕ) (at : ℕ) → length text ≤ at → BeginsNoSpace (drop at text)
begins_end text at l = subst BeginsNoSpace (sym (drop_all at text l)) tt

pub gap_nil : (b : Bool) → after_gap b [] ≡ []
gap_nil true = refl
gap_nil false = refl

-- no token stands at the end of a text
pub none_at_end : (text : List ℕ) (at : ℕ) (b : Bool) → length text ≤ at → after_gap b (tokens (drop at text)) ≡ []
none_at_end text at b l = ap (λ (bs : List ℕ). after_gap b (tokens bs)) (drop_all at text l) ∙ (ap (after_gap b) tokens-nil ∙ gap_nil b)

pub end_of_gap : (text : List ℕ) (at : ℕ) (b : Bool) (ts : List Token) → length text ≤ at → ts ≡ after_gap b (tokens (drop at text))
    → tokens (drop at text) ≡ ts
end_of_gap text at b ts l h = none_at_end text at false l ∙ sym (h ∙ none_at_end text at b l)

-- ---- runs

-- the token that begins at an index, by where its run ends
pub token_of_run : (text : List ℕ) (at end : ℕ) → at < length text → is_space (get_or text at 0) ≡ false → at < end → end ≤ length text
    → ((k : ℕ) → at < k → k < end → in_one_run (get_or text at 0) (get_or text k 0) ≡ true)
    → (end < length text → in_one_run (get_or text at 0) (get_or text end 0) ≡ false)
    → tokens (drop at text) ≡ token_between text at end ∷ tokens (drop end text)
token_of_run [] at end l s a w b e = absurd (omega arith)
token_of_run (c ∷ cs) zero zero l s a w b e = absurd (omega arith)
token_of_run (c ∷ cs) zero (suc n) l s a w b e =
    let same : suc n - 0 ≡ suc n = omega arith in
    rw same (run_is_token c cs n s (omega arith) (λ k h. b (suc k) (omega arith) (omega arith)) (λ h. e (omega arith)))
token_of_run (c ∷ cs) (suc at) zero l s a w b e = absurd (omega arith)
token_of_run (c ∷ cs) (suc at) (suc end) l s a w b e =
    let same : suc end - suc at ≡ end - at = omega arith in
    rw same (token_of_run cs at end (omega arith) s (omega arith) (omega arith) (λ k g h. b (suc k) (omega arith) (omega arith)) (λ h. e (omega arith)))

all_front : (p : ℕ → Bool) (text : List ℕ) (n : ℕ) → n ≤ length text → ((k : ℕ) → k < n → p (get_or text k 0) ≡ true) → list_all p (take n text) ≡ true
all_front p text zero w f = refl
all_front p [] (suc n) w f = absurd (omega arith)
all_front p (c ∷ cs) (suc n) w f = rw (f 0 (omega arith)) (all_front p cs n (omega arith) (λ k h. f (suc k) (omega arith)))

-- the bytes between two indices all pass a test
pub all_between : (p : ℕ → Bool) (text : List ℕ) (at end : ℕ) → at ≤ end → end ≤ length text → ((k : ℕ) → at ≤ k → k < end → p (get_or text k 0) ≡ true)
    → list_all p (take (end - at) (drop at text)) ≡ true
all_between p text zero end a w f =
    let same : end - 0 ≡ end = omega arith in
    rw same (all_front p text end w (λ k h. f k (omega arith) h))
all_between p [] (suc at) end a w f = absurd (omega arith)
all_between p (c ∷ cs) (suc at) zero a w f = absurd (omega arith)
all_between p (c ∷ cs) (suc at) (suc end) a w f =
    let same : suc end - suc at ≡ end - at = omega arith in
    rw same (all_between p cs at end (omega arith) (omega arith) (λ k g h. f (suc k) (omega arith) (omega arith)))

-- what is true of each index from one on, and of that one, is true from it on
pub from_first : (P : ℕ → Type 0) (at end : ℕ) → P at → ((k : ℕ) → at + 1 ≤ k → k < end → P k) → (k : ℕ) → at ≤ k → k < end → P k
from_first P at end h f k g l =
    elim (cases_lt at k) [
      | inl more ↦ f k (omega arith) l
      | inr same ↦ let e : at ≡ k = omega arith in subst P e h
    ]

-- ---- what a token is

-- white space before a token doesn't change what the grammar sees in it
pub symbol_spaced : (b : Bool) (t : Token) → symbol_of (record t { spaced = b }) ≡ symbol_of t
unfolding symbol_of
symbol_spaced b t = refl

gap_cons : (b : Bool) (bytes : List ℕ) (ts : List Token) → after_gap b (record { spaced = false; text = bytes } ∷ ts) ≡ record { spaced = b; text = bytes } ∷ ts
gap_cons true bytes ts = refl
gap_cons false bytes ts = refl

-- a token with the white space before it
pub gap_token : (b : Bool) (t : Token) (ts more : List Token) → t.spaced ≡ false → ts ≡ t ∷ more → after_gap b ts ≡ record t { spaced = b } ∷ more
gap_token b t ts more f h = ap (after_gap b) h ∙ spaced b where
  spaced : (x : Bool) → after_gap x (t ∷ more) ≡ record t { spaced = x } ∷ more
  spaced true = refl
  spaced false = ap (λ (y : Bool). record { spaced = y; text = t.text } ∷ more) f

letter_no_digit : (c : ℕ) → is_letter c ≡ true → is_digit c ≡ false
letter_no_digit c p = grind (arith, nat_tests)

digit_small : (c : ℕ) → is_digit c ≡ true → c < 128
digit_small c h = grind (arith, nat_tests)

letter_small : (c : ℕ) → is_letter c ≡ true → c < 128
letter_small c h = grind (arith, nat_tests)

digits_one_run : (c d : ℕ) → is_digit c ≡ true → is_digit d ≡ true → in_one_run c d ≡ true
digits_one_run c d p q = rw (p, q) refl

no_digits_run : (c d : ℕ) → is_digit c ≡ true → is_digit d ≡ false → in_one_run c d ≡ false
no_digits_run c d p q = grind (arith, nat_tests)

letters_one_run : (c d : ℕ) → is_letter c ≡ true → is_letter d ≡ true → in_one_run c d ≡ true
letters_one_run c d p q = rw (letter_no_digit c p, p, q) refl

no_letters_run : (c d : ℕ) → is_letter c ≡ true → is_letter d ≡ false → in_one_run c d ≡ false
no_letters_run c d p q = rw (letter_no_digit c p, p, q) refl

no_run : (c d : ℕ) → is_digit c ≡ false → is_letter c ≡ false → in_one_run c d ≡ false
no_run c d p q = rw (p, q) refl

-- the end of a run of bytes below 128 is a place where a text may be cut
pub cut_after : (text : List ℕ) (at end : ℕ) → IsUtf8 text → at < end → end ≤ length text → get_or text (end - 1) 0 < 128 → IsCharBoundary text end
cut_after text at end u a w s =
    let same : end - 1 + 1 ≡ end = omega arith in
    subst (IsCharBoundary text) same (IsCharBoundary-after_ascii text (end - 1) u (omega arith) s)

-- every byte of a run passes its test
run_all : (p : ℕ → Bool) (text : List ℕ) (at end : ℕ) → p (get_or text at 0) ≡ true → ((k : ℕ) → at + 1 ≤ k → k < end → p (get_or text k 0) ≡ true)
    → (k : ℕ) → at ≤ k → k < end → p (get_or text k 0) ≡ true
run_all p text at end h f k g l = from_first (λ n. p (get_or text n 0) ≡ true) at end h f k g l

pub digits_between : (text : List ℕ) (at end : ℕ) → is_digit (get_or text at 0) ≡ true → end ≤ length text → at + 1 ≤ end
    → ((k : ℕ) → at + 1 ≤ k → k < end → is_digit (get_or text k 0) ≡ true) → list_all is_digit (token_between text at end).text ≡ true
digits_between text at end d w a b = all_between is_digit text at end (omega arith) w (run_all is_digit text at end d b)

pub letters_between : (text : List ℕ) (at end : ℕ) → is_letter (get_or text at 0) ≡ true → end ≤ length text → at + 1 ≤ end
    → ((k : ℕ) → at + 1 ≤ k → k < end → is_letter (get_or text k 0) ≡ true) → list_all is_letter (token_between text at end).text ≡ true
letters_between text at end d w a b = all_between is_letter text at end (omega arith) w (run_all is_letter text at end d b)

pub digits_token : (text : List ℕ) (at end : ℕ) → at < length text → is_digit (get_or text at 0) ≡ true → end ≤ length text → at + 1 ≤ end
    → ((k : ℕ) → at + 1 ≤ k → k < end → is_digit (get_or text k 0) ≡ true) → (end < length text → is_digit (get_or text end 0) ≡ false)
    → tokens (drop at text) ≡ token_between text at end ∷ tokens (drop end text)
digits_token text at end l d w a b e =
    token_of_run text at end l (digit_no_space (get_or text at 0) d) (omega arith) w
    (λ k g h. digits_one_run (get_or text at 0) (get_or text k 0) d (b k (omega arith) h))
    (λ h. no_digits_run (get_or text at 0) (get_or text end 0) d (e h))

pub letters_token : (text : List ℕ) (at end : ℕ) → at < length text → is_letter (get_or text at 0) ≡ true → end ≤ length text → at + 1 ≤ end
    → ((k : ℕ) → at + 1 ≤ k → k < end → is_letter (get_or text k 0) ≡ true) → (end < length text → is_letter (get_or text end 0) ≡ false)
    → tokens (drop at text) ≡ token_between text at end ∷ tokens (drop end text)
letters_token text at end l d w a b e =
    token_of_run text at end l (letter_no_space (get_or text at 0) d) (omega arith) w
    (λ k g h. letters_one_run (get_or text at 0) (get_or text k 0) d (b k (omega arith) h))
    (λ h. no_letters_run (get_or text at 0) (get_or text end 0) d (e h))

pub sign_token : (text : List ℕ) (at : ℕ) → at < length text → is_space (get_or text at 0) ≡ false → is_digit (get_or text at 0) ≡ false
    → is_letter (get_or text at 0) ≡ false → tokens (drop at text) ≡ token_between text at (at + 1) ∷ tokens (drop (at + 1) text)
sign_token text at l s d e =
    token_of_run text at (at + 1) l s (omega arith) (omega arith) (λ k g h. absurd (omega arith)) (λ h. no_run (get_or text at 0) (get_or text (at + 1) 0) d e)

-- digits can be cut from a text, and letters
pub digits_cut : (text : List ℕ) (at end : ℕ) → IsUtf8 text → is_digit (get_or text at 0) ≡ true → end ≤ length text → at + 1 ≤ end
    → ((k : ℕ) → at + 1 ≤ k → k < end → is_digit (get_or text k 0) ≡ true) → IsCharBoundary text end
digits_cut text at end u d w a b =
    cut_after text at end u (omega arith) w (digit_small (get_or text (end - 1) 0) (run_all is_digit text at end d b (end - 1) (omega arith) (omega arith)))

pub letters_cut : (text : List ℕ) (at end : ℕ) → IsUtf8 text → is_letter (get_or text at 0) ≡ true → end ≤ length text → at + 1 ≤ end
    → ((k : ℕ) → at + 1 ≤ k → k < end → is_letter (get_or text k 0) ≡ true) → IsCharBoundary text end
letters_cut text at end u d w a b =
    cut_after text at end u (omega arith) w (letter_small (get_or text (end - 1) 0) (run_all is_letter text at end d b (end - 1) (omega arith) (omega arith)))

pub digit_boundary : (text : List ℕ) (at : ℕ) → at < length text → is_digit (get_or text at 0) ≡ true → IsCharBoundary text at
digit_boundary text at l d = IsCharBoundary-before_ascii text at l (digit_small (get_or text at 0) d)

pub letter_boundary : (text : List ℕ) (at : ℕ) → at < length text → is_letter (get_or text at 0) ≡ true → IsCharBoundary text at
letter_boundary text at l d = IsCharBoundary-before_ascii text at l (letter_small (get_or text at 0) d)

-- ---- what the grammar sees in bytes

pub small_number : (bs : List ℕ) → list_all is_digit bs ≡ true → digits_value 10 bs < 4294967296
    → symbol_of (record { spaced = false; text = bs }) ≡ number (digits_value 10 bs)
unfolding symbol_of
small_number bs h l = rw (h, lt-ltb (digits_value 10 bs) 4294967296 l) refl

pub large_number : (bs : List ℕ) → list_all is_digit bs ≡ true → (digits_value 10 bs < 4294967296 → ⊥)
    → symbol_of (record { spaced = false; text = bs }) ≡ foreign
unfolding symbol_of
large_number bs h l = rw (h, le-ltb (digits_value 10 bs) 4294967296 (omega (arith, l))) refl

first_of_all : (p : ℕ → Bool) (c : ℕ) (cs : List ℕ) → p c ≡ false → list_all p (c ∷ cs) ≡ false
first_of_all p c cs h = rw h refl

-- bytes of which the first isn't a digit
pub no_number : (c : ℕ) (cs : List ℕ) → is_digit c ≡ false → list_all is_digit (c ∷ cs) ≡ false
no_number c cs h = first_of_all is_digit c cs h

bytes_first : (text : List ℕ) (at end : ℕ) → at < length text → at < end → (cs : List ℕ) × ((token_between text at end).text ≡ get_or text at 0 ∷ cs)
bytes_first text at end l a =
    let same : end - at ≡ suc (end - at - 1) = omega arith in
    (take (end - at - 1) (drop (at + 1) text), ap (λ (n : ℕ). take n (drop at text)) same ∙ ap (take (suc (end - at - 1))) (drop_more text at 0 l))

letters_symbol : (bs : List ℕ) → list_all is_digit bs ≡ false → list_all is_letter bs ≡ true → symbol_of (record { spaced = false; text = bs }) ≡ word bs
unfolding symbol_of
letters_symbol bs d h = rw (d, h) refl

sign_symbol : (c : ℕ) (cs : List ℕ) → is_digit c ≡ false → is_letter c ≡ false → symbol_of (record { spaced = false; text = c ∷ cs }) ≡ sign_of c
unfolding symbol_of
sign_symbol c cs d e = rw (d, e) refl

pub word_symbol : (text : List ℕ) (at end : ℕ) → at < length text → is_letter (get_or text at 0) ≡ true → end ≤ length text → at + 1 ≤ end
    → ((k : ℕ) → at + 1 ≤ k → k < end → is_letter (get_or text k 0) ≡ true) → word (token_between text at end).text ≡ symbol_of (token_between text at end)
word_symbol text at end l d w a b =
    let f = bytes_first text at end l (omega arith) in
    sym (letters_symbol (token_between text at end).text (ap (list_all is_digit) f.1
    ∙ no_number (get_or text at 0) f.0 (letter_no_digit (get_or text at 0) d)) (letters_between text at end d w a b))

pub lone_symbol : (text : List ℕ) (at : ℕ) → at < length text → is_digit (get_or text at 0) ≡ false → is_letter (get_or text at 0) ≡ false
    → sign_of (get_or text at 0) ≡ symbol_of (token_between text at (at + 1))
lone_symbol text at l d e =
    let f = bytes_first text at (at + 1) l (omega arith) in
    sym (ap (λ (bs : List ℕ). symbol_of (record { spaced = false; text = bs })) f.1 ∙ sign_symbol (get_or text at 0) f.0 d e)

-- ---- connectors

digit_no_sign : (c : ℕ) → is_digit c ≡ true → is_connector (sign_of c) ≡ false
digit_no_sign c h = grind (arith, nat_tests)

letter_no_sign : (c : ℕ) → is_letter c ≡ true → is_connector (sign_of c) ≡ false
letter_no_sign c h = grind (arith, nat_tests)

by_tests : (a b d : Bool) (n f w s : Symbol) → is_connector n ≡ false → is_connector f ≡ false → is_connector w ≡ false → is_connector s ≡ false
    → is_connector (cond a (cond b n f) (cond d w s)) ≡ false
by_tests true true d n f w s p q r t = p
by_tests true false d n f w s p q r t = q
by_tests false b true n f w s p q r t = r
by_tests false b false n f w s p q r t = t

-- bytes that begin with no connector are none
no_connector_first : (b : Bool) (c : ℕ) (cs : List ℕ) → is_connector (sign_of c) ≡ false
    → is_connector (symbol_of (record { spaced = b; text = c ∷ cs })) ≡ false
unfolding symbol_of
no_connector_first b c cs h =
    by_tests (list_all is_digit (c ∷ cs)) (nat_lt (digits_value 10 (c ∷ cs)) 4294967296) (list_all is_letter (c ∷ cs)) (number (digits_value 10 (c ∷ cs)))
    foreign (word (c ∷ cs)) (sign_of c) refl refl refl h

no_connector_by : (c : ℕ) (b : Bool) (t : Token) (ts : List Token) → is_connector (sign_of c) ≡ false
    → NoConnector (cond b (record { spaced = false; text = c ∷ t.text } ∷ ts) (record { spaced = false; text = c ∷ [] } ∷ t ∷ ts))
no_connector_by c true t ts h = no_connector_first false c t.text h
no_connector_by c false t ts h = no_connector_first false c [] h

no_connector_after : (c : ℕ) (ts : List Token) → is_connector (sign_of c) ≡ false → NoConnector (after_byte c ts)
no_connector_after c [] h = no_connector_first false c [] h
no_connector_after c (t ∷ ts) h = no_connector_by c (not t.spaced && in_one_run c (slice_index t.text 0)) t ts h

no_connector_gap : (b : Bool) (ts : List Token) → NoConnector ts → NoConnector (after_gap b ts)
no_connector_gap true [] h = tt
no_connector_gap true (t ∷ ts) h = ap is_connector (symbol_spaced true t) ∙ h
no_connector_gap false ts h = h

-- where a byte that is no connector stands
pub no_connector_here : (text : List ℕ) (at : ℕ) (b : Bool) → at < length text → is_space (get_or text at 0) ≡ false
    → is_connector (sign_of (get_or text at 0)) ≡ false → NoConnector (after_gap b (tokens (drop at text)))
no_connector_here text at b l s h =
    let c = get_or text at 0 in
    let is : tokens (drop at text) ≡ after_byte c (tokens (drop (at + 1) text)) = ap tokens (drop_more text at 0 l)
    ∙ (tokens-cons c (drop (at + 1) text) ∙ rw s refl) in
    no_connector_gap b (tokens (drop at text)) (subst NoConnector (sym is) (no_connector_after c (tokens (drop (at + 1) text)) h))

pub no_connector_end : (text : List ℕ) (at : ℕ) (b : Bool) → length text ≤ at → NoConnector (after_gap b (tokens (drop at text)))
no_connector_end text at b l = subst NoConnector (sym (none_at_end text at b l)) tt

kept_is : (k : Connector) → is_connector (connector_view k) ≡ true
kept_is Comma = refl
kept_is Dash = refl
kept_is Slash = refl

not_both_ways : (b c : Bool) → (b ≡ true → c ≡ false) → c ≡ true → b ≡ false
not_both_ways true c f h = absurd (false≢true (sym (f refl) ∙ h))
not_both_ways false c f h = refl

-- a connector is a token of its own
pub connector_here : (text : List ℕ) (p : Place) (k : Connector) → p.at < length text → is_space (get_or text p.at 0) ≡ false
    → connector_view k ≡ sign_of (get_or text p.at 0) → IsConnector text p k
connector_here text p k l s h =
    let c = get_or text p.at 0 in
    let is : is_connector (sign_of c) ≡ true = ap is_connector (sym h) ∙ kept_is k in
    let digit = not_both_ways (is_digit c) (is_connector (sign_of c)) (digit_no_sign c) is in
    let letter = not_both_ways (is_letter c) (is_connector (sign_of c)) (letter_no_sign c) is in
    let t = token_between text p.at (p.at + 1) in
    record {
      token = record t { spaced = p.spaced };
      spaced = refl;
      symbol = h ∙ (lone_symbol text p.at l digit letter ∙ sym (symbol_spaced p.spaced t));
      rest = gap_token p.spaced t _ _ refl (sign_token text p.at l s digit letter);
    }

-- no white space stands at a place
pub place_front : (text : List ℕ) (p : Place) → IsPlace text p → p.at < length text → is_space (get_or text p.at 0) ≡ false
place_front text p h l = subst BeginsNoSpace (drop_more text p.at 0 l) h.front

byte_token_by : (c : ℕ) (b : Bool) (t : Token) (ts : List Token)
    → cond b (record { spaced = false; text = c ∷ t.text } ∷ ts) (record { spaced = false; text = c ∷ [] } ∷ t ∷ ts) ≡ [] → ⊥
byte_token_by c true t ts h = cc
byte_token_by c false t ts h = cc

byte_token : (c : ℕ) (ts : List Token) → after_byte c ts ≡ [] → ⊥
byte_token c [] h = cc
byte_token c (t ∷ ts) h = byte_token_by c (not t.spaced && in_one_run c (slice_index t.text 0)) t ts h

gap_some : (b : Bool) (ts : List Token) → (ts ≡ [] → ⊥) → after_gap b ts ≡ [] → ⊥
gap_some true [] f h = f refl
gap_some true (t ∷ ts) f h = cc
gap_some false ts f h = f h

-- a place before the end of the text has a token
pub some_here : (text : List ℕ) (p : Place) → IsPlace text p → p.at < length text → after_gap p.spaced (tokens (drop p.at text)) ≡ [] → ⊥
some_here text p h l =
    let c = get_or text p.at 0 in
    let is : tokens (drop p.at text) ≡ after_byte c (tokens (drop (p.at + 1) text)) = ap tokens (drop_more text p.at 0 l)
    ∙ (tokens-cons c (drop (p.at + 1) text) ∙ rw (place_front text p h l) refl) in
    gap_some p.spaced (tokens (drop p.at text)) (λ e. byte_token c (tokens (drop (p.at + 1) text)) (sym is ∙ e))
