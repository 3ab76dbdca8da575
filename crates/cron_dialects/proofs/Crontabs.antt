-- The words of a crontab: each has the tokens of one field.
use Rattle.std.proofs.Common.{◌≡◌, ℕ, Bool, true, false, ◌&&◌, ◌||◌, ◌==◌, if◌then◌else◌, inl, inr, ◌⊎◌, List, [], ◌∷◌, ◌++◌, map, length, Option, Some, None, Result, Ok, Err, refl, ap, ◌∙◌, subst, eqb-true, arith, nat_lt, take_all, length-drop}
use Rattle.std.specs.Char.{is_ascii_alphanumeric, is_ascii_digit, to_ascii_lowercase}
use Rattle.std.specs.List.{AllByRecursion, list_all, prefix_len}
use Rattle.std.specs.Str.{str_eq_ignore_ascii_case}
use Rattle.std.specs.Str.Parse.{digits_value}
use Rattle.std.proofs.lemmas.Bool.Decides.{nat_tests}
use Rattle.std.proofs.lemmas.Slice.Eq.{bytes_eq-Decides}
use Rattle.cron_units.specs.Steps.{Progression}
use Rattle.cron_units.specs.Units.{named_in}
use Rattle.cron_text.specs.Tokens.{Token, number, foreign, symbol_of, tokens, is_space, is_digit, is_letter, in_one_run}
use Rattle.cron_text.specs.Tokens as texts
use Rattle.cron_text.proofs.TokenRuns.{tokens-nil, tokens-cons, and_parts, digit_no_space, letter_no_space}
use Rattle.cron_crontab.specs.Crontab.{FieldRead, Five, ended, field_of, field_read, five_of, item_or_fault, items_from, items_of}
use Rattle.cron_crontab.specs.Fields.{names}
use Rattle.cron_crontab.specs.Items.{Base, single, range, by_step, and_then, alone, base_of, begins_with_star, behind, between, bounded, cut_item, front, is_lone, item_of, last_of, named, number_of, pieces, positive, spelt, star_of, step_of, stepped}
use Rattle.cron_crontab.specs.Refusals.{Reason, long_number, no_number, no_step}
use Rattle.cron_crontab.specs.declared.field.Field.{Field}
use Rattle.cron_crontab.specs.declared.field.Field.TheVariants.{Minute, Hour, DayOfMonth, Month, DayOfWeek}
use Rattle.cron_dialects.proofs.Counts.{link}
use Rattle.cron_dialects.proofs.Cuts.{IsOne, comma_mark, dash_mark, pieces_one, slash_mark}

-- ---- what was read

-- both steps of a reading succeed
pub record Both {A B E : Type 0} (first : Result A E) (next : A → Result B E) (b : B) : Type 0 where
  pub found : A
  pub is : first ≡ Ok found
  pub then_is : next found ≡ Ok b

pub both_read : {A B E : Type 0} (first : Result A E) (next : A → Result B E) (b : B) → and_then first next ≡ Ok b → Both first next b
both_read (Ok a) next b h = record { found = a; is = refl; then_is = h }
both_read (Err e) next b h = absurd (cc)

-- a test that refuses
unrefused : {A E : Type 0} (test : Bool) (e : E) (r : Result A E) (a : A) → (if test then Err e else r) ≡ Ok a → (test ≡ false) × (r ≡ Ok a)
unrefused true e r a h = absurd (cc)
unrefused false e r a h = (refl, h)

wanted : {A E : Type 0} (test : Bool) (e : E) (r : Result A E) (a : A) → (if test then r else Err e) ≡ Ok a → (test ≡ true) × (r ≡ Ok a)
wanted true e r a h = (refl, h)
wanted false e r a h = absurd (cc)

-- ---- runs

lone_token : (text : List ℕ) (t : Token) → tokens text ≡ t ∷ [] → link (symbol_of t) ≡ 0 → IsOne text
lone_token text t is h = rw is (record { count = omega (arith, h) })

digits_join : (c d : ℕ) → is_digit c ≡ true → is_digit d ≡ true → in_one_run c d ≡ true
digits_join c d h k = rw (h, k) refl

or_true : (a : Bool) → (a || true) ≡ true
or_true true = refl
or_true false = refl

letters_join : (c d : ℕ) → is_letter c ≡ true → is_letter d ≡ true → in_one_run c d ≡ true
letters_join c d h k = rw (h, k) (or_true (is_digit c && is_digit d))

-- a run of bytes of one kind is one token
run_token : (q : ℕ → Bool) → ((c d : ℕ) → q c ≡ true → q d ≡ true → in_one_run c d ≡ true) → ((c : ℕ) → q c ≡ true → is_space c ≡ false) → (c : ℕ) (cs : List ℕ)
    → list_all q (c ∷ cs) ≡ true → tokens (c ∷ cs) ≡ record { spaced = false; text = c ∷ cs } ∷ []
run_token q join black c [] all =
    let here = and_parts (q c) true all in
    tokens-cons c [] ∙ rw (black c here.0, tokens-nil) refl
run_token q join black c (d ∷ ds) all =
    let here = and_parts (q c) (list_all q (d ∷ ds)) all in
    let next = and_parts (q d) (list_all q ds) here.1 in
    tokens-cons c (d ∷ ds) ∙ rw (black c here.0, run_token q join black d ds here.1, join c d here.0 next.0) refl

number_link : (t : Token) → list_all is_digit t.text ≡ true → link (symbol_of t) ≡ 0
unfolding symbol_of
number_link t all = rw all (by_bound (nat_lt (digits_value 10 t.text) 4294967296))
  where
    by_bound : (b : Bool) → link (if b then number (digits_value 10 t.text) else foreign) ≡ 0
    by_bound true = refl
    by_bound false = refl

word_link : (t : Token) → list_all is_letter t.text ≡ true → link (symbol_of t) ≡ 0
unfolding symbol_of
word_link t all = rw all (by_test (list_all is_digit t.text) (nat_lt (digits_value 10 t.text) 4294967296))
  where
    by_test : (a b : Bool) → link (if a then (if b then number (digits_value 10 t.text) else foreign) else texts.word t.text) ≡ 0
    by_test true true = refl
    by_test true false = refl
    by_test false b = refl

digits_one : (c : ℕ) (cs : List ℕ) → list_all is_digit (c ∷ cs) ≡ true → IsOne (c ∷ cs)
digits_one c cs all =
    lone_token (c ∷ cs) (record { spaced = false; text = c ∷ cs }) (run_token is_digit digits_join digit_no_space c cs all)
    (number_link (record { spaced = false; text = c ∷ cs }) all)

letters_one : (c : ℕ) (cs : List ℕ) → list_all is_letter (c ∷ cs) ≡ true → IsOne (c ∷ cs)
letters_one c cs all =
    lone_token (c ∷ cs) (record { spaced = false; text = c ∷ cs }) (run_token is_letter letters_join letter_no_space c cs all)
    (word_link (record { spaced = false; text = c ∷ cs }) all)

star_one : IsOne (42 ∷ [])
unfolding tokens symbol_of
star_one = record { count = refl }

-- ---- names

same_letter : (x y : ℕ) → is_letter x ≡ true → to_ascii_lowercase x ≡ to_ascii_lowercase y → is_letter y ≡ true
same_letter x y h e = grind (arith, nat_tests)

same_letters : (xs ys : List ℕ) → list_all is_letter xs ≡ true → map to_ascii_lowercase xs ≡ map to_ascii_lowercase ys → list_all is_letter ys ≡ true
same_letters [] [] all e = refl
same_letters [] (y ∷ ys) all e = absurd (cc)
same_letters (x ∷ xs) [] all e = absurd (cc)
same_letters (x ∷ xs) (y ∷ ys) all e =
    let here = and_parts (is_letter x) (list_all is_letter xs) all in
    let first : to_ascii_lowercase x ≡ to_ascii_lowercase y = cc in
    let more : map to_ascii_lowercase xs ≡ map to_ascii_lowercase ys = cc in
    rw (same_letter x y here.0 first) (same_letters xs ys here.1 more)

-- names in letters
abbrev AreLetters : List (List ℕ × ℕ) → Type 0
AreLetters es = AllByRecursion (λ e. list_all is_letter e.0 ≡ true) es

named_letters : (es : List (List ℕ × ℕ)) (text : List ℕ) (n : ℕ) → AreLetters es → named_in es text ≡ Some n → list_all is_letter text ≡ true
named_letters [] text n all h = absurd (cc)
named_letters (e ∷ es) text n all h = by_test (str_eq_ignore_ascii_case e.0 text) refl h (λ k. named_letters es text n all.1 k)
  where
    by_test : (b : Bool) → str_eq_ignore_ascii_case e.0 text ≡ b → (if b then Some e.1 else named_in es text) ≡ Some n
        → (named_in es text ≡ Some n → list_all is_letter text ≡ true) → list_all is_letter text ≡ true
    by_test true same k more = same_letters e.0 text all.0 ((bytes_eq-Decides (map to_ascii_lowercase e.0) (map to_ascii_lowercase text)).0 same)
    by_test false same k more = more k

names_letters : (f : Field) → AreLetters (names f)
names_letters Minute = tt
names_letters Hour = tt
names_letters DayOfMonth = tt
names_letters Month = (refl, (refl, (refl, (refl, (refl, (refl, (refl, (refl, (refl, (refl, (refl, (refl, tt))))))))))))
names_letters DayOfWeek = (refl, (refl, (refl, (refl, (refl, (refl, (refl, tt)))))))

-- ---- numbers

whole_front : (text : List ℕ) → length (behind text) ≡ 0 → front text ≡ text
whole_front text h =
    let n = prefix_len is_ascii_alphanumeric text in
    take_all n text (omega (arith, length-drop n text, h))

alone_front : (text : List ℕ) (n m : ℕ) → alone text n ≡ Ok m → front text ≡ text
alone_front text n m h = whole_front text (eqb-true (length (behind text)) 0 (wanted (length (behind text) == 0) _ (Ok n) m h).0)

digits_same : (text : List ℕ) → list_all is_ascii_digit text ≡ true → list_all is_digit text ≡ true
digits_same [] all = refl
digits_same (c ∷ cs) all =
    let here = and_parts (is_ascii_digit c) (list_all is_ascii_digit cs) all in
    let first : is_digit c ≡ true = grind (arith, nat_tests) in
    rw first (digits_same cs here.1)

-- digits, or what else was read
spelt_digits : (text : List ℕ) (other : Result ℕ Reason) (n : ℕ) → spelt text other ≡ Ok n → (list_all is_digit text ≡ true) ⊎ (other ≡ Ok n)
spelt_digits text other n h = by_test (nat_lt 0 (length text)) (list_all is_ascii_digit text) refl h
  where
    by_test : (a b : Bool) → list_all is_ascii_digit text ≡ b
        → (if a && b then (if nat_lt 9 (length text) then Err long_number else Ok (digits_value 10 text)) else other) ≡ Ok n
        → (list_all is_digit text ≡ true) ⊎ (other ≡ Ok n)
    by_test true true is k = inl (digits_same text is)
    by_test true false is k = inr k
    by_test false b is k = inr k

named_some : (o : Option ℕ) (reason : Reason) (n : ℕ) → named o reason ≡ Ok n → o ≡ Some n
named_some None reason n h = absurd (cc)
named_some (Some m) reason n h = cc

number_one : (f : Field) (text : List ℕ) (n : ℕ) → number_of f text ≡ Ok n → IsOne text
number_one f [] n h = absurd (cc)
number_one f (c ∷ cs) n h =
    let text = c ∷ cs in
    let r = (unrefused (length text == 0) _ _ n h).1 in
    let b = both_read (spelt (front text) (named (named_in (names f) (front text)) (no_number text))) (λ m. and_then (bounded f m) (alone text)) n r in
    let k = both_read (bounded f b.found) (alone text) n b.then_is in
    let same = alone_front text k.found n k.then_is in
    elim (spelt_digits (front text) (named (named_in (names f) (front text)) (no_number text)) b.found b.is) [
      | inl digits ↦ digits_one c cs (subst (λ t. list_all is_digit t ≡ true) same digits)
      | inr other ↦
          let is = named_some (named_in (names f) (front text)) (no_number text) b.found other in
          letters_one c cs (subst (λ t. list_all is_letter t ≡ true) same (named_letters (names f) (front text) b.found (names_letters f) is))
    ]

step_one : (text : List ℕ) (n : ℕ) → step_of text ≡ Ok n → IsOne text
step_one [] n h = absurd (cc)
step_one (c ∷ cs) n h =
    let text = c ∷ cs in
    let r = (unrefused (length text == 0) _ _ n h).1 in
    let b = both_read (spelt (front text) (Err (no_step text))) (λ m. and_then (positive m) (alone text)) n r in
    let k = both_read (positive b.found) (alone text) n b.then_is in
    let same = alone_front text k.found n k.then_is in
    elim (spelt_digits (front text) (Err (no_step text)) b.found b.is) [
      | inl digits ↦ digits_one c cs (subst (λ t. list_all is_digit t ≡ true) same digits)
      | inr other ↦ absurd (cc)
    ]

-- ---- items

last_none : {A : Type 0} (text : List ℕ) (more : List (List ℕ)) (found a : A) → last_of text more found ≡ Ok a → more ≡ []
last_none text [] found a h = refl
last_none text (q ∷ more) found a h = absurd (cc)

between_ones : (f : Field) (qs : List (List ℕ)) (b : Base) → between f qs ≡ Ok b → AllByRecursion IsOne qs
between_ones f [] b h = absurd (cc)
between_ones f (q ∷ []) b h = let r = both_read (number_of f q) (λ n. Ok (single n)) b h in (number_one f q r.found r.is, tt)
between_ones f (q ∷ r ∷ more) b h =
    let k = both_read (number_of f q) (λ n. and_then (number_of f r) (λ m. last_of r more (range n m))) b h in
    let l = both_read (number_of f r) (λ m. last_of r more (range k.found m)) b k.then_is in
    rw (last_none r more (range k.found l.found) b l.then_is) (number_one f q k.found k.is, (number_one f r l.found l.is, tt))

star_alone : (text : List ℕ) → begins_with_star text ≡ true → length text ≡ 1 → IsOne text
star_alone [] star long = absurd (omega arith)
star_alone (c ∷ []) star long = rw (eqb-true c 42 star) star_one
star_alone (c ∷ d ∷ ds) star long = absurd (omega arith)

base_one : (f : Field) (text : List ℕ) (b : Base) → base_of f text ≡ Ok b → IsOne text
base_one f text b h = by_test (begins_with_star text) refl h
  where
    by_test : (s : Bool) → begins_with_star text ≡ s → (if s then star_of f text else between f (pieces 45 text)) ≡ Ok b → IsOne text
    by_test true star k = star_alone text star (eqb-true (length text) 1 (wanted (length text == 1) _ _ b k).0)
    by_test false star k = pieces_one 45 text dash_mark (between_ones f (pieces 45 text) b k)

stepped_ones : (steps : List (List ℕ)) (b : Base) (p : Progression) → stepped steps b ≡ Ok p → AllByRecursion IsOne steps
stepped_ones [] b p h = tt
stepped_ones (step ∷ more) b p h =
    let r = (unrefused (is_lone b) _ _ p h).1 in
    let k = both_read (step_of step) (λ s. last_of step more (by_step b s)) p r in
    rw (last_none step more (by_step b k.found) p k.then_is) (step_one step k.found k.is, tt)

cut_ones : (f : Field) (qs : List (List ℕ)) (p : Progression) → cut_item f qs ≡ Ok p → AllByRecursion IsOne qs
cut_ones f [] p h = absurd (cc)
cut_ones f (base ∷ steps) p h =
    let k = both_read (base_of f base) (stepped steps) p h in
    (base_one f base k.found k.is, stepped_ones steps k.found p k.then_is)

item_one : (f : Field) (text : List ℕ) (p : Progression) → item_of f text ≡ Ok p → IsOne text
item_one f text p h = pieces_one 47 text slash_mark (cut_ones f (pieces 47 text) p h)

item_found : (f : Field) (text : List ℕ) (r : Result Progression Reason) (p : Progression) → item_or_fault f text r ≡ Ok p → r ≡ Ok p
item_found f text (Ok q) p h = cc
item_found f text (Err reason) p h = absurd (cc)

items_ones : (f : Field) (items : List Progression) (qs : List (List ℕ)) (ps : List Progression) → items_from f items qs ≡ Ok ps → AllByRecursion IsOne qs
items_ones f items [] ps h = tt
items_ones f items (q ∷ qs) ps h =
    let k = both_read (item_or_fault f q (item_of f q)) (λ item. items_from f (items ++ item ∷ []) qs) ps h in
    (item_one f q k.found (item_found f q (item_of f q) k.found k.is), items_ones f (items ++ k.found ∷ []) qs ps k.then_is)

word_one : (f : Field) (word : List ℕ) (ps : List Progression) → items_of f word ≡ Ok ps → IsOne word
word_one f word ps h = pieces_one 44 word comma_mark (items_ones f [] (pieces 44 word) ps h)

-- ---- five words

-- the first of some words has the tokens of one field
record BeginsOne (ws more : List (List ℕ)) : Type 0 where
  word : List ℕ
  is : ws ≡ word ∷ more
  one : IsOne word

field_one : (f : Field) (ws : List (List ℕ)) (r : FieldRead × List (List ℕ)) → field_of f ws ≡ Ok r → BeginsOne ws r.1
field_one f [] r h = absurd (cc)
field_one f (word ∷ more) r h =
    let k = both_read (items_of f word) (λ items. Ok (field_read word items, more)) r h in
    let same : more ≡ r.1 = cc in
    record { word = word; is = ap (λ ws. word ∷ ws) same; one = word_one f word k.found k.is }

ended_none : (ws : List (List ℕ)) (five read : Five) → ended ws five ≡ Ok read → ws ≡ []
ended_none [] five read h = refl
ended_none (word ∷ more) five read h = absurd (cc)

joined_words : (ws : List (List ℕ)) (w : List ℕ) (more rest : List (List ℕ)) → ws ≡ w ∷ more → more ≡ rest → ws ≡ w ∷ rest
joined_words ws w more rest h k = h ∙ ap (λ x. w ∷ x) k

-- five words, each with the tokens of one field
pub record AreFive (ws : List (List ℕ)) : Type 0 where
  pub a : List ℕ
  pub b : List ℕ
  pub c : List ℕ
  pub d : List ℕ
  pub e : List ℕ
  pub is : ws ≡ a ∷ b ∷ c ∷ d ∷ e ∷ []
  pub ones : AllByRecursion IsOne (a ∷ b ∷ c ∷ d ∷ e ∷ [])

pub five_words : (ws : List (List ℕ)) (read : Five) → five_of ws ≡ Ok read → AreFive ws
five_words ws read h =
    let ka = both_read (field_of Minute ws) _ read h in
    let kb = both_read (field_of Hour ka.found.1) _ read ka.then_is in
    let kc = both_read (field_of DayOfMonth kb.found.1) _ read kb.then_is in
    let kd = both_read (field_of Month kc.found.1) _ read kc.then_is in
    let ke = both_read (field_of DayOfWeek kd.found.1) _ read kd.then_is in
    let fa = field_one Minute ws ka.found ka.is in
    let fb = field_one Hour ka.found.1 kb.found kb.is in
    let fc = field_one DayOfMonth kb.found.1 kc.found kc.is in
    let fd = field_one Month kc.found.1 kd.found kd.is in
    let fe = field_one DayOfWeek kd.found.1 ke.found ke.is in
    let none = ended_none ke.found.1 _ read ke.then_is in
    let le = joined_words kd.found.1 fe.word ke.found.1 [] fe.is none in
    let ld = joined_words kc.found.1 fd.word kd.found.1 (fe.word ∷ []) fd.is le in
    let lc = joined_words kb.found.1 fc.word kc.found.1 (fd.word ∷ fe.word ∷ []) fc.is ld in
    let lb = joined_words ka.found.1 fb.word kb.found.1 (fc.word ∷ fd.word ∷ fe.word ∷ []) fb.is lc in
    let la = joined_words ws fa.word ka.found.1 (fb.word ∷ fc.word ∷ fd.word ∷ fe.word ∷ []) fa.is lb in
    record {
      a = fa.word;
      b = fb.word;
      c = fc.word;
      d = fd.word;
      e = fe.word;
      is = la;
      ones = (fa.one, (fb.one, (fc.one, (fd.one, (fe.one, tt)))));
    }
