-- A text that is cut at some bytes: what is measured of its tokens is what is measured of those of its parts.
use Rattle.std.proofs.Common.{◌≡◌, ℕ, ◌+◌, Bool, true, false, not, ◌&&◌, ◌||◌, ◌==◌, if◌then◌else◌, List, [], ◌∷◌, ◌++◌, filter, refl, sym, ap, ◌∙◌, append-nil, eqb-true, length, lt-ltb, arith}
use Rattle.std.specs.Prelude.{slice_index}
use Rattle.std.specs.List.{AllByRecursion, slice_split}
use Rattle.cron_text.specs.Tokens.{Token, Symbol, symbol_of, tokens, is_space, is_digit, is_letter, in_one_run, after_space, after_byte}
use Rattle.cron_text.proofs.TokenRuns.{tokens-nil, tokens-cons}
use Rattle.cron_crontab.specs.Crontab.{is_filled, words}
use Rattle.cron_crontab.specs.Items.{pieces}
use Rattle.cron_dialects.proofs.Counts.{AreTokens, link, measure, measure-append, one, symbols, symbols-append}

-- what stands before these tokens doesn't run into them
record Apart (ts : List Token) : Type 0 where
  each : (c : ℕ) → after_byte c ts ≡ record { spaced = false; text = c ∷ [] } ∷ ts

apart_nil : Apart []
apart_nil = record { each = λ c. refl }

apart_space : (ts : List Token) → Apart (after_space ts)
apart_space [] = record { each = λ c. refl }
apart_space (t ∷ ts) = record { each = λ c. refl }

-- a byte before tokens, behind which there are others
byte_before : (c : ℕ) (ts us : List Token) → Apart us → after_byte c (ts ++ us) ≡ after_byte c ts ++ us
byte_before c [] us h = h.each c
byte_before c (t ∷ ts) us h = by_test (not t.spaced && in_one_run c (slice_index t.text 0))
  where
    by_test : (b : Bool) → (if b then record { spaced = false; text = c ∷ t.text } ∷ (ts ++ us) else record { spaced = false; text = c ∷ [] } ∷ t ∷ (ts ++ us))
        ≡ (if b then record { spaced = false; text = c ∷ t.text } ∷ ts else record { spaced = false; text = c ∷ [] } ∷ t ∷ ts) ++ us
    by_test true = refl
    by_test false = refl

symbols_space : (ts : List Token) → symbols (after_space ts) ≡ symbols ts
unfolding symbol_of
symbols_space [] = refl
symbols_space (t ∷ ts) = refl

-- white space before tokens, behind which there are others
record SpaceBefore (ts us : List Token) : Type 0 where
  rest : List Token
  is : after_space (ts ++ us) ≡ after_space ts ++ rest
  apart : Apart rest
  same : symbols rest ≡ symbols us

space_before : (ts us : List Token) → Apart us → SpaceBefore ts us
space_before [] us h = record { rest = after_space us; is = refl; apart = apart_space us; same = symbols_space us }
space_before (t ∷ ts) us h = record { rest = us; is = refl; apart = h; same = refl }

-- a byte at which a text is cut stands apart, and adds w to a measure
pub record IsCutAt (m : Symbol → ℕ) (w c : ℕ) (cs : List ℕ) : Type 0 where
  apart : Apart (tokens (c ∷ cs))
  adds : measure m (symbols (tokens (c ∷ cs))) ≡ w + measure m (symbols (tokens cs))

abbrev pub Separates : (ℕ → Bool) → (Symbol → ℕ) → ℕ → Type 0
Separates p m w = (c : ℕ) (cs : List ℕ) → p c ≡ true → IsCutAt m w c cs

-- the measure of parts, with w for what stands before each
abbrev pub totals : (Symbol → ℕ) → ℕ → List (List ℕ) → ℕ
totals m w [] = 0
totals m w (q ∷ qs) = w + measure m (symbols (tokens q)) + totals m w qs

-- the parts of a text, and its tokens behind those of the first
record Cut (p : ℕ → Bool) (m : Symbol → ℕ) (w : ℕ) (text : List ℕ) : Type 0 where
  first : List ℕ
  more : List (List ℕ)
  rest : List Token
  parts : slice_split p text ≡ first ∷ more
  are : tokens text ≡ tokens first ++ rest
  apart : Apart rest
  sum : measure m (symbols rest) ≡ totals m w more

whole_measure : (p : ℕ → Bool) (m : Symbol → ℕ) (w : ℕ) (text : List ℕ) (k : Cut p m w text)
    → measure m (symbols (tokens text)) ≡ measure m (symbols (tokens k.first)) + totals m w k.more
whole_measure p m w text k =
    ap (λ ts. measure m (symbols ts)) k.are
    ∙ ap (measure m) (symbols-append (tokens k.first) k.rest)
    ∙ measure-append m (symbols (tokens k.first)) (symbols k.rest)
    ∙ ap (λ n. measure m (symbols (tokens k.first)) + n) k.sum

cut_here : (p : ℕ → Bool) (m : Symbol → ℕ) (w c : ℕ) (cs : List ℕ) → p c ≡ true → IsCutAt m w c cs → Cut p m w cs → Cut p m w (c ∷ cs)
cut_here p m w c cs h here k = record {
  first = [];
  more = k.first ∷ k.more;
  rest = tokens (c ∷ cs);
  parts = rw h (ap (λ ps. [] ∷ ps) k.parts);
  are = rw tokens-nil refl;
  apart = here.apart;
  sum = omega (arith, here.adds, whole_measure p m w cs k);
}

space_here : (p : ℕ → Bool) (m : Symbol → ℕ) (w c : ℕ) (cs : List ℕ) → p c ≡ false → is_space c ≡ true → Cut p m w cs → Cut p m w (c ∷ cs)
space_here p m w c cs h space k =
    let b = space_before (tokens k.first) k.rest k.apart in
    let behind : tokens (c ∷ k.first) ≡ after_space (tokens k.first) = tokens-cons c k.first ∙ rw space refl in
    record {
      first = c ∷ k.first;
      more = k.more;
      rest = b.rest;
      parts = rw (h, k.parts) refl;
      are = tokens-cons c cs ∙ rw space (ap after_space k.are ∙ b.is ∙ ap (λ ts. ts ++ b.rest) (sym behind));
      apart = b.apart;
      sum = ap (measure m) b.same ∙ k.sum;
    }

byte_here : (p : ℕ → Bool) (m : Symbol → ℕ) (w c : ℕ) (cs : List ℕ) → p c ≡ false → is_space c ≡ false → Cut p m w cs → Cut p m w (c ∷ cs)
byte_here p m w c cs h space k =
    let behind : tokens (c ∷ k.first) ≡ after_byte c (tokens k.first) = tokens-cons c k.first ∙ rw space refl in
    record {
      first = c ∷ k.first;
      more = k.more;
      rest = k.rest;
      parts = rw (h, k.parts) refl;
      are = tokens-cons c cs ∙ rw space (ap (after_byte c) k.are ∙ byte_before c (tokens k.first) k.rest k.apart ∙ ap (λ ts. ts ++ k.rest) (sym behind));
      apart = k.apart;
      sum = k.sum;
    }

cut : (p : ℕ → Bool) (m : Symbol → ℕ) (w : ℕ) → Separates p m w → (text : List ℕ) → Cut p m w text
cut p m w sep [] = record {
  first = [];
  more = [];
  rest = [];
  parts = refl;
  are = sym (append-nil (tokens []));
  apart = apart_nil;
  sum = refl;
}
cut p m w sep (c ∷ cs) = by_test (p c) (is_space c) refl refl (cut p m w sep cs)
  where
    by_test : (b s : Bool) → p c ≡ b → is_space c ≡ s → Cut p m w cs → Cut p m w (c ∷ cs)
    by_test true s h e k = cut_here p m w c cs h (sep c cs h) k
    by_test false true h e k = space_here p m w c cs h e k
    by_test false false h e k = byte_here p m w c cs h e k

-- So the measure of a text is that of its parts.
pub measured : (p : ℕ → Bool) (m : Symbol → ℕ) (w : ℕ) → Separates p m w → (text : List ℕ) → w + measure m (symbols (tokens text)) ≡ totals m w (slice_split p text)
measured p m w sep text = let k = cut p m w sep text in rw k.parts (omega (arith, whole_measure p m w text k))

-- ---- words

space_cuts : (m : Symbol → ℕ) → Separates is_space m 0
space_cuts m c cs h =
    let is : tokens (c ∷ cs) ≡ after_space (tokens cs) = tokens-cons c cs ∙ rw h refl in
    record { apart = rw is (apart_space (tokens cs)); adds = rw is (omega (arith, ap (measure m) (symbols_space (tokens cs)))) }

-- parts with nothing in them have no tokens
filled_totals : (m : Symbol → ℕ) (qs : List (List ℕ)) → totals m 0 (filter is_filled qs) ≡ totals m 0 qs
filled_totals m [] = refl
filled_totals m ([] ∷ qs) = rw tokens-nil (omega (arith, filled_totals m qs))
filled_totals m ((c ∷ cs) ∷ qs) =
    let filled : is_filled (c ∷ cs) ≡ true = lt-ltb 0 (length (c ∷ cs)) (omega arith) in
    rw filled (omega (arith, filled_totals m qs))

pub words_measure : (m : Symbol → ℕ) (text : List ℕ) → measure m (symbols (tokens text)) ≡ totals m 0 (words text)
words_measure m text = omega (arith, measured is_space m 0 (space_cuts m) text, filled_totals m (slice_split is_space text))

-- ---- pieces between marks

no_run : (a b x y : Bool) → x ≡ false → y ≡ false → ((a && x) || (b && y)) ≡ false
no_run true true x y h k = rw (h, k) refl
no_run true false x y h k = rw h refl
no_run false true x y h k = k
no_run false false x y h k = refl

-- a byte that is no space and stands in no run, and is a connector
pub record IsMark (mark : ℕ) : Type 0 where
  space : is_space mark ≡ false
  digit : is_digit mark ≡ false
  letter : is_letter mark ≡ false
  links : link (symbol_of (record { spaced = false; text = mark ∷ [] })) ≡ 1

mark_apart : (mark : ℕ) (ts : List Token) → IsMark mark → Apart (record { spaced = false; text = mark ∷ [] } ∷ ts)
mark_apart mark ts is = record {
  each = λ c. let none : in_one_run c mark ≡ false = no_run (is_digit c) (is_letter c) (is_digit mark) (is_letter mark) is.digit is.letter in rw none refl;
}

mark_before : (mark : ℕ) (ts : List Token) → IsMark mark → after_byte mark ts ≡ record { spaced = false; text = mark ∷ [] } ∷ ts
mark_before mark [] is = refl
mark_before mark (t ∷ ts) is = by_spacing t.spaced (in_one_run mark (slice_index t.text 0)) (rw (is.digit, is.letter) refl)
  where
    by_spacing : (b r : Bool) → r ≡ false → (if not b && r then record { spaced = false; text = mark ∷ t.text } ∷ ts else record { spaced = false; text = mark ∷ [] } ∷ t ∷ ts)
        ≡ record { spaced = false; text = mark ∷ [] } ∷ t ∷ ts
    by_spacing true r h = refl
    by_spacing false r h = rw h refl

mark_tokens : (mark c : ℕ) (cs : List ℕ) → IsMark mark → (c == mark) ≡ true → tokens (c ∷ cs) ≡ record { spaced = false; text = mark ∷ [] } ∷ tokens cs
mark_tokens mark c cs is h = rw (eqb-true c mark h) (tokens-cons mark cs ∙ rw is.space (mark_before mark (tokens cs) is))

one_cuts : (mark : ℕ) → IsMark mark → Separates (λ b. b == mark) one 1
one_cuts mark is c cs h = let same = mark_tokens mark c cs is h in record { apart = rw same (mark_apart mark (tokens cs) is); adds = rw same refl }

link_cuts : (mark : ℕ) → IsMark mark → Separates (λ b. b == mark) link 1
link_cuts mark is c cs h =
    let same = mark_tokens mark c cs is h in
    record { apart = rw same (mark_apart mark (tokens cs) is); adds = rw same (ap (λ n. n + measure link (symbols (tokens cs))) is.links) }

-- the text has the tokens of one field
abbrev pub IsOne : List ℕ → Type 0
IsOne text = AreTokens 1 (tokens text)

ones_totals : (qs : List (List ℕ)) → AllByRecursion IsOne qs → totals one 1 qs ≡ totals link 1 qs + totals link 1 qs
ones_totals [] all = refl
ones_totals (q ∷ qs) all = omega (arith, all.0.count, ones_totals qs all.1)

-- what has connectors between fields is one field
pub pieces_one : (mark : ℕ) (text : List ℕ) → IsMark mark → AllByRecursion IsOne (pieces mark text) → IsOne text
pieces_one mark text is all =
    record {
      count = omega (
        arith,
        measured (λ b. b == mark) one 1 (one_cuts mark is) text,
        measured (λ b. b == mark) link 1 (link_cuts mark is) text,
        ones_totals (pieces mark text) all,
      );
    }

pub comma_mark : IsMark 44
unfolding symbol_of
comma_mark = record { space = refl; digit = refl; letter = refl; links = refl }

pub dash_mark : IsMark 45
unfolding symbol_of
dash_mark = record { space = refl; digit = refl; letter = refl; links = refl }

pub slash_mark : IsMark 47
unfolding symbol_of
slash_mark = record { space = refl; digit = refl; letter = refl; links = refl }
