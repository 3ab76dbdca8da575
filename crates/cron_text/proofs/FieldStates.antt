-- A field that is read from the left, and a field as it is written.
use Rattle.std.proofs.Common.{◌≡◌, ℕ, Bool, true, false, ◌&&◌, cond, Option, Some, None, List, [], ◌∷◌, ◌++◌, map, refl, sym, ap, ◌∙◌, subst, append_assoc, append-nil}
use Rattle.std.specs.Option.{option_map, option_and_then}
use Rattle.std.proofs.lemmas.List.{map-append}
use Rattle.cron_units.specs.Units.{TimeUnit}
use Rattle.cron_text.specs.Tokens.{Token, Symbol, symbol_of, number, word, star, question, comma, dash, slash, foreign}
use Rattle.cron_text.specs.Fields.{Base, every, question_mark, single, number_range, name_range, Item, plain, stepped, name, base_symbols, item_symbols, list_symbols, spacing_fits, spacing_fits_all, base_in, item_in, items_in, IsField}
use Rattle.cron_text.specs.Inner.FieldReading.{FieldState, lone_item, with_end, with_step, joined, next_state, state_after, first_state, field_state, state_items}
use Rattle.cron_text.proofs.TokenRuns.{and_parts}

-- ---- from a field as it is written to the state after it

-- The first token of an item is an item, which grows over the others of it.
pub record ItemStates (q : TimeUnit) (done : List Item) (i : Item) (ts : List Token) (rest : List Symbol) : Type 0 where
  pub x : Token
  pub more : List Token
  pub lone : Item
  pub is : ts ≡ x ∷ more
  pub first : lone_item q (symbol_of x) ≡ Some lone
  pub last : Token
  pub after : List Token
  pub walks : state_after q (record { done = done; item = lone; last = x }) more ≡ state_after q (record { done = done; item = i; last = last }) after
  pub rest_is : map symbol_of after ≡ rest
  pub tight : spacing_fits_all (last ∷ after) ≡ true

-- a state that goes on with a dash or a slash
pub grows : (q : TimeUnit) (s : FieldState) (c x : Token) (a : Symbol) (r : Option FieldState) → spacing_fits s.last c ≡ true → spacing_fits c x ≡ true
    → symbol_of c ≡ a → joined q s a x ≡ r → next_state q s c x ≡ r
grows q s c x a r f g e j = rw (f, g, e) j

base_states : (q : TimeUnit) (done : List Item) (b : Base) (ts : List Token) (rest : List Symbol) → map symbol_of ts ≡ base_symbols b ++ rest
    → spacing_fits_all ts ≡ true → base_in q b ≡ true → ItemStates q done (plain b) ts rest
base_states q done every [] rest h t p = absurd (cc)
base_states q done every (x ∷ ts) rest h t p =
    let e : symbol_of x ≡ star = cc in
    record { x = x; more = ts; lone = plain every; is = refl; first = ap (lone_item q) e; last = x; after = ts; walks = refl; rest_is = (cc); tight = t }
base_states q done question_mark [] rest h t p = absurd (cc)
base_states q done question_mark (x ∷ ts) rest h t p =
    let e : symbol_of x ≡ question = cc in
    record { x = x; more = ts; lone = plain question_mark; is = refl; first = rw (e, p) refl; last = x; after = ts; walks = refl; rest_is = (cc); tight = t }
base_states q done (single n) [] rest h t p = absurd (cc)
base_states q done (single n) (x ∷ ts) rest h t p =
    let e : symbol_of x ≡ number n = cc in
    record { x = x; more = ts; lone = plain (single n); is = refl; first = ap (lone_item q) e; last = x; after = ts; walks = refl; rest_is = (cc); tight = t }
base_states q done (number_range a b) [] rest h t p = absurd (cc)
base_states q done (number_range a b) (x ∷ []) rest h t p = absurd (cc)
base_states q done (number_range a b) (x ∷ c ∷ []) rest h t p = absurd (cc)
base_states q done (number_range a b) (x ∷ c ∷ y ∷ ts) rest h t p =
    let e : symbol_of x ≡ number a = cc in
    let d : symbol_of c ≡ dash = cc in
    let f : symbol_of y ≡ number b = cc in
    let u = and_parts (spacing_fits x c) (spacing_fits c y && spacing_fits_all (y ∷ ts)) t in
    let v = and_parts (spacing_fits c y) (spacing_fits_all (y ∷ ts)) u.1 in
    let s : FieldState = record { done = done; item = plain (single a); last = x } in
    let n : next_state q s c y ≡ Some (record { done = done; item = plain (number_range a b); last = y }) = grows q s c y dash
    (Some (record { done = done; item = plain (number_range a b); last = y })) u.0 v.0 d (rw f refl) in
    record {
      x = x;
      more = c ∷ y ∷ ts;
      lone = plain (single a);
      is = refl;
      first = ap (lone_item q) e;
      last = y;
      after = ts;
      walks = ap (option_and_then (λ z. state_after q z ts)) n;
      rest_is = (cc);
      tight = v.1;
    }
base_states q done (name_range a b) [] rest h t p = absurd (cc)
base_states q done (name_range a b) (x ∷ []) rest h t p = absurd (cc)
base_states q done (name_range a b) (x ∷ c ∷ []) rest h t p = absurd (cc)
base_states q done (name_range a b) (x ∷ c ∷ y ∷ ts) rest h t p =
    let e : symbol_of x ≡ word a = cc in
    let d : symbol_of c ≡ dash = cc in
    let f : symbol_of y ≡ word b = cc in
    let u = and_parts (spacing_fits x c) (spacing_fits c y && spacing_fits_all (y ∷ ts)) t in
    let v = and_parts (spacing_fits c y) (spacing_fits_all (y ∷ ts)) u.1 in
    let s : FieldState = record { done = done; item = name a; last = x } in
    let n : next_state q s c y ≡ Some (record { done = done; item = plain (name_range a b); last = y }) = grows q s c y dash
    (Some (record { done = done; item = plain (name_range a b); last = y })) u.0 v.0 d (rw f refl) in
    record {
      x = x;
      more = c ∷ y ∷ ts;
      lone = name a;
      is = refl;
      first = ap (lone_item q) e;
      last = y;
      after = ts;
      walks = ap (option_and_then (λ z. state_after q z ts)) n;
      rest_is = (cc);
      tight = v.1;
    }

-- the step behind a base
step_states : (q : TimeUnit) (done : List Item) (b : Base) (n : ℕ) (last : Token) (ts : List Token) (rest : List Symbol)
    → map symbol_of ts ≡ slash ∷ number n ∷ rest → spacing_fits_all (last ∷ ts) ≡ true
    → (y : Token) × (us : List Token)
    × (state_after q (record { done = done; item = plain b; last = last }) ts ≡ state_after q (record { done = done; item = stepped b n; last = y }) us)
    × (map symbol_of us ≡ rest) × (spacing_fits_all (y ∷ us) ≡ true)
step_states q done b n last [] rest h t = absurd (cc)
step_states q done b n last (c ∷ []) rest h t = absurd (cc)
step_states q done b n last (c ∷ y ∷ ts) rest h t =
    let d : symbol_of c ≡ slash = cc in
    let f : symbol_of y ≡ number n = cc in
    let u = and_parts (spacing_fits last c) (spacing_fits c y && spacing_fits_all (y ∷ ts)) t in
    let v = and_parts (spacing_fits c y) (spacing_fits_all (y ∷ ts)) u.1 in
    let s : FieldState = record { done = done; item = plain b; last = last } in
    let m : next_state q s c y ≡ Some (record { done = done; item = stepped b n; last = y }) = grows q s c y slash
    (Some (record { done = done; item = stepped b n; last = y })) u.0 v.0 d (rw f refl) in
    (y, ts, ap (option_and_then (λ z. state_after q z ts)) m, (cc), v.1)

item_states : (q : TimeUnit) (done : List Item) (i : Item) (ts : List Token) (rest : List Symbol) → map symbol_of ts ≡ item_symbols i ++ rest
    → spacing_fits_all ts ≡ true → item_in q i ≡ true → ItemStates q done i ts rest
item_states q done (plain b) ts rest h t p = base_states q done b ts rest h t p
item_states q done (stepped b n) ts rest h t p =
    let w = base_states q done b ts (slash ∷ number n ∷ rest) (h ∙ append_assoc (base_symbols b) (slash ∷ number n ∷ []) rest) t p in
    let z = step_states q done b n w.last w.after rest w.rest_is w.tight in
    record { x = w.x; more = w.more; lone = w.lone; is = w.is; first = w.first; last = z.0; after = z.1; walks = w.walks ∙ z.2; rest_is = z.3; tight = z.4 }
item_states q done (name a) [] rest h t p = absurd (cc)
item_states q done (name a) (x ∷ ts) rest h t p =
    let e : symbol_of x ≡ word a = cc in
    record { x = x; more = ts; lone = name a; is = refl; first = ap (lone_item q) e; last = x; after = ts; walks = refl; rest_is = (cc); tight = t }

no_item : (i : Item) (tail : List Symbol) → [] ≡ item_symbols i ++ tail → ⊥
no_item (plain every) tail h = cc
no_item (plain question_mark) tail h = cc
no_item (plain (single n)) tail h = cc
no_item (plain (number_range a b)) tail h = cc
no_item (plain (name_range a b)) tail h = cc
no_item (stepped every n) tail h = cc
no_item (stepped question_mark n) tail h = cc
no_item (stepped (single m) n) tail h = cc
no_item (stepped (number_range a b) n) tail h = cc
no_item (stepped (name_range a b) n) tail h = cc
no_item (name w) tail h = cc

-- a list of items isn't written as nothing
pub no_items : (i : Item) (is : List Item) → [] ≡ list_symbols (i ∷ is) → ⊥
no_items i [] h = no_item i [] (h ∙ sym (append-nil (item_symbols i)))
no_items i (j ∷ js) h = no_item i (comma ∷ list_symbols (j ∷ js)) h

no_more : (ts : List Token) → map symbol_of ts ≡ [] → ts ≡ []
no_more [] h = refl
no_more (t ∷ ts) h = absurd (cc)

-- a state that goes on with a comma
next_item : (q : TimeUnit) (s : FieldState) (c x y : Token) (i : Item) → spacing_fits s.last c ≡ true → spacing_fits c x ≡ true → symbol_of c ≡ comma
    → x ≡ y → lone_item q (symbol_of y) ≡ Some i → next_state q s c x ≡ Some (record { done = state_items s; item = i; last = y })
next_item q s c x y i f g e same l =
    grows q s c x comma (Some (record { done = state_items s; item = i; last = y })) f g e (ap (λ (z : Token). joined q s comma z) same
    ∙ ap (option_map (λ (j : Item). record { done = state_items s; item = j; last = y })) l)

from_first : (q : TimeUnit) (ts : List Token) (x : Token) (more : List Token) (i : Item) (r : Option FieldState) → ts ≡ x ∷ more
    → lone_item q (symbol_of x) ≡ Some i → state_after q (record { done = []; item = i; last = x }) more ≡ r → field_state q ts ≡ r
from_first q ts x more i r is l w =
    ap (field_state q) is ∙ (ap (λ (j : Option Item). option_and_then (λ z. state_after q z more)
    (option_map (λ (k : Item). record { done = []; item = k; last = x }) j)) l ∙ w)

-- a walk over what follows a first item
pub list_states : (q : TimeUnit) (s : FieldState) (i : Item) (is : List Item) (ts : List Token) → map symbol_of ts ≡ comma ∷ list_symbols (i ∷ is)
    → spacing_fits_all (s.last ∷ ts) ≡ true → items_in q (i ∷ is) ≡ true
    → (z : FieldState) × (state_after q s ts ≡ Some z) × (state_items z ≡ state_items s ++ i ∷ is)
list_states q s i is [] h t p = absurd (cc)
list_states q s i is (c ∷ []) h t p = absurd (no_items i is (cc))
list_states q s i [] (c ∷ x ∷ ts) h t p =
    let k : symbol_of c ≡ comma = cc in
    let r : map symbol_of (x ∷ ts) ≡ item_symbols i = cc in
    let u = and_parts (spacing_fits s.last c) (spacing_fits c x && spacing_fits_all (x ∷ ts)) t in
    let v = and_parts (spacing_fits c x) (spacing_fits_all (x ∷ ts)) u.1 in
    let w = item_states q (state_items s) i (x ∷ ts) [] (r ∙ sym (append-nil (item_symbols i))) v.1 (and_parts (item_in q i) true p).0 in
    let same : (x ≡ w.x) × (ts ≡ w.more) = (cc, cc) in
    let n : next_state q s c x ≡ Some (record { done = state_items s; item = w.lone; last = w.x }) =
    next_item q s c x w.x w.lone u.0 v.0 k same.0 w.first in
    let end : w.after ≡ [] = no_more w.after w.rest_is in
    let go : state_after q s (c ∷ x ∷ ts) ≡ Some (record { done = state_items s; item = i; last = w.last }) =
    ap (option_and_then (λ z. state_after q z ts)) n ∙ (ap (state_after q (record { done = state_items s; item = w.lone; last = w.x })) same.1
    ∙ (w.walks ∙ ap (state_after q (record { done = state_items s; item = i; last = w.last })) end)) in
    (record { done = state_items s; item = i; last = w.last }, go, refl)
list_states q s i (j ∷ js) (c ∷ x ∷ ts) h t p =
    let k : symbol_of c ≡ comma = cc in
    let r : map symbol_of (x ∷ ts) ≡ item_symbols i ++ comma ∷ list_symbols (j ∷ js) = cc in
    let u = and_parts (spacing_fits s.last c) (spacing_fits c x && spacing_fits_all (x ∷ ts)) t in
    let v = and_parts (spacing_fits c x) (spacing_fits_all (x ∷ ts)) u.1 in
    let pp = and_parts (item_in q i) (items_in q (j ∷ js)) p in
    let w = item_states q (state_items s) i (x ∷ ts) (comma ∷ list_symbols (j ∷ js)) r v.1 pp.0 in
    let same : (x ≡ w.x) × (ts ≡ w.more) = (cc, cc) in
    let n : next_state q s c x ≡ Some (record { done = state_items s; item = w.lone; last = w.x }) =
    next_item q s c x w.x w.lone u.0 v.0 k same.0 w.first in
    let z = list_states q (record { done = state_items s; item = i; last = w.last }) j js w.after w.rest_is w.tight pp.1 in
    let go : state_after q s (c ∷ x ∷ ts) ≡ Some z.0 =
    ap (option_and_then (λ z. state_after q z ts)) n ∙ (ap (state_after q (record { done = state_items s; item = w.lone; last = w.x })) same.1
    ∙ (w.walks ∙ z.1)) in
    (z.0, go, z.2 ∙ append_assoc (state_items s) (i ∷ []) (j ∷ js))

-- A field is read whole, as its items.
pub field_states : (q : TimeUnit) (ts : List Token) (items : List Item) → IsField q ts items
    → (z : FieldState) × (field_state q ts ≡ Some z) × (state_items z ≡ items)
field_states q ts [] f = absurd (f.nonempty refl)
field_states q ts (i ∷ []) f =
    let w = item_states q [] i ts [] (f.written ∙ sym (append-nil (item_symbols i))) f.spaced (and_parts (item_in q i) true f.wildcards_allowed).0 in
    let end : w.after ≡ [] = no_more w.after w.rest_is in
    let z : FieldState = record { done = []; item = i; last = w.last } in
    (z, from_first q ts w.x w.more w.lone (Some z) w.is w.first (w.walks ∙ ap (state_after q z) end), refl)
field_states q ts (i ∷ j ∷ js) f =
    let p = and_parts (item_in q i) (items_in q (j ∷ js)) f.wildcards_allowed in
    let w = item_states q [] i ts (comma ∷ list_symbols (j ∷ js)) f.written f.spaced p.0 in
    let z = list_states q (record { done = []; item = i; last = w.last }) j js w.after w.rest_is w.tight p.1 in
    (z.0, from_first q ts w.x w.more w.lone (Some z.0) w.is w.first (w.walks ∙ z.1), z.2)

-- ---- from such a state to a field as it is written

-- the items, each with a comma behind it
before_symbols : List Item → List Symbol
before_symbols [] = []
before_symbols (i ∷ is) = item_symbols i ++ comma ∷ before_symbols is

list_symbols-cons : (a : Item) (is : List Item) (i : Item) → list_symbols (a ∷ (is ++ i ∷ [])) ≡ item_symbols a ++ comma ∷ list_symbols (is ++ i ∷ [])
list_symbols-cons a [] i = refl
list_symbols-cons a (b ∷ is) i = refl

list_symbols-snoc : (is : List Item) (i : Item) → list_symbols (is ++ i ∷ []) ≡ before_symbols is ++ item_symbols i
unfolding before_symbols
list_symbols-snoc [] i = refl
list_symbols-snoc (a ∷ is) i =
    list_symbols-cons a is i ∙ (ap (λ (z : List Symbol). item_symbols a ++ comma ∷ z) (list_symbols-snoc is i)
    ∙ sym (append_assoc (item_symbols a) (comma ∷ before_symbols is) (item_symbols i)))

regroup : (a b c : List Symbol) → a ++ comma ∷ ((b ++ c) ++ comma ∷ []) ≡ ((a ++ comma ∷ b) ++ c) ++ comma ∷ []
regroup a b c = simp append_assoc

before_symbols-snoc : (is : List Item) (i : Item) → before_symbols (is ++ i ∷ []) ≡ (before_symbols is ++ item_symbols i) ++ comma ∷ []
unfolding before_symbols
before_symbols-snoc [] i = refl
before_symbols-snoc (a ∷ is) i =
    ap (λ (z : List Symbol). item_symbols a ++ comma ∷ z) (before_symbols-snoc is i) ∙ regroup (item_symbols a) (before_symbols is) (item_symbols i)

-- a test that came out true
pub chosen : {A : Type 0} (b : Bool) (r : Option A) (z : A) → cond b r None ≡ Some z → (b ≡ true) × (r ≡ Some z)
chosen true r z h = (refl, h)
chosen false r z h = absurd (cc)

pub some_same : {A : Type 0} (x y : A) → Some x ≡ Some y → x ≡ y
some_same x y h = cc

question_symbols : (q : TimeUnit) (i : Item) → lone_item q question ≡ Some i → (item_symbols i ≡ question ∷ []) × (item_in q i ≡ true)
question_symbols q i h =
    let t = chosen q.question_mark (Some (plain question_mark)) i h in
    let e : i ≡ plain question_mark = sym (some_same (plain question_mark) i t.1) in
    rw e (refl, t.0)

lone_symbols : (q : TimeUnit) (a : Symbol) (i : Item) → lone_item q a ≡ Some i → (item_symbols i ≡ a ∷ []) × (item_in q i ≡ true)
lone_symbols q star i h = let e : i ≡ plain every = cc in rw e (refl, refl)
lone_symbols q question i h = question_symbols q i h
lone_symbols q (number n) i h = let e : i ≡ plain (single n) = cc in rw e (refl, refl)
lone_symbols q (word w) i h = let e : i ≡ name w = cc in rw e (refl, refl)
lone_symbols q comma i h = absurd (cc)
lone_symbols q dash i h = absurd (cc)
lone_symbols q slash i h = absurd (cc)
lone_symbols q foreign i h = absurd (cc)

pub mapped : {A B : Type 0} (f : A → B) (r : Option A) (z : B) → option_map f r ≡ Some z → (y : A) × (r ≡ Some y) × (f y ≡ z)
mapped f None z h = absurd (cc)
mapped f (Some y) z h = (y, refl, (cc))

pub bound : {A B : Type 0} (f : A → Option B) (r : Option A) (z : B) → option_and_then f r ≡ Some z → (y : A) × (r ≡ Some y) × (f y ≡ Some z)
bound f None z h = absurd (cc)
bound f (Some y) z h = (y, refl, h)

-- what was grown is written as what it was, the connector and the token
with_end_symbols : (q : TimeUnit) (i j : Item) (a : Symbol) → with_end i a ≡ Some j
    → (item_symbols j ≡ item_symbols i ++ dash ∷ a ∷ []) × (item_in q i ≡ true → item_in q j ≡ true)
with_end_symbols q (plain (single n)) j (number m) h = let e : j ≡ plain (number_range n m) = cc in rw e (refl, λ _. refl)
with_end_symbols q (name v) j (word w) h = let e : j ≡ plain (name_range v w) = cc in rw e (refl, λ _. refl)
with_end_symbols q i j a h = absurd (cc)

with_step_symbols : (q : TimeUnit) (i j : Item) (a : Symbol) → with_step i a ≡ Some j
    → (item_symbols j ≡ item_symbols i ++ slash ∷ a ∷ []) × (item_in q i ≡ true → item_in q j ≡ true)
with_step_symbols q (plain b) j (number m) h = let e : j ≡ stepped b m = cc in rw e (refl, λ p. p)
with_step_symbols q i j a h = absurd (cc)

items_in-snoc : (q : TimeUnit) (is : List Item) (i : Item) → items_in q is ≡ true → item_in q i ≡ true → items_in q (is ++ i ∷ []) ≡ true
items_in-snoc q [] i h p = rw p refl
items_in-snoc q (a ∷ is) i h p = let u = and_parts (item_in q a) (items_in q is) h in rw u.0 (items_in-snoc q is i u.1 p)

items_in-parts : (q : TimeUnit) (is : List Item) (i : Item) → items_in q (is ++ i ∷ []) ≡ true → (items_in q is ≡ true) × (item_in q i ≡ true)
items_in-parts q [] i h = (refl, (and_parts (item_in q i) true h).0)
items_in-parts q (a ∷ is) i h =
    let u = and_parts (item_in q a) (items_in q (is ++ i ∷ [])) h in
    let v = items_in-parts q is i u.1 in
    (rw u.0 v.0, v.1)

-- an item that grew at the end of a list
grown_written : (is : List Item) (i j : Item) (tail : List Symbol) → item_symbols j ≡ item_symbols i ++ tail
    → list_symbols (is ++ j ∷ []) ≡ list_symbols (is ++ i ∷ []) ++ tail
grown_written is i j tail h =
    list_symbols-snoc is j ∙ (ap (λ (b : List Symbol). before_symbols is ++ b) h
    ∙ (sym (append_assoc (before_symbols is) (item_symbols i) tail) ∙ ap (λ (b : List Symbol). b ++ tail) (sym (list_symbols-snoc is i))))

abbrev grown : FieldState → Token → Item → FieldState
grown s x i = record { done = s.done; item = i; last = x }

-- a state whose item grew by a connector and a token
grown_next : (q : TimeUnit) (s z : FieldState) (i : Item) (a : Symbol) (x : Token) → items_in q (state_items s) ≡ true → grown s x i ≡ z
    → (item_symbols i ≡ item_symbols s.item ++ a ∷ symbol_of x ∷ []) × (item_in q s.item ≡ true → item_in q i ≡ true)
    → (list_symbols (state_items z) ≡ list_symbols (state_items s) ++ a ∷ symbol_of x ∷ []) × (items_in q (state_items z) ≡ true) × (z.last ≡ x)
grown_next q s z i a x p e l =
    let u = items_in-parts q s.done s.item p in (
      subst (λ (y : FieldState). list_symbols (state_items y) ≡ list_symbols (state_items s) ++ a ∷ symbol_of x ∷ []) e
          (grown_written s.done s.item i (a ∷ symbol_of x ∷ []) l.0),
      subst (λ (y : FieldState). items_in q (state_items y) ≡ true) e (items_in-snoc q s.done i u.0 (l.1 u.1)),
      sym (ap (λ (y : FieldState). y.last) e),
    )

-- a state after a connector and a token: what it stands for is written with both at the end
next_written : (q : TimeUnit) (s : FieldState) (a : Symbol) (x : Token) (z : FieldState) → items_in q (state_items s) ≡ true → joined q s a x ≡ Some z
    → (list_symbols (state_items z) ≡ list_symbols (state_items s) ++ a ∷ symbol_of x ∷ []) × (items_in q (state_items z) ≡ true) × (z.last ≡ x)
next_written q s comma x z p h =
    let m = mapped (λ (i : Item). record { done = state_items s; item = i; last = x }) (lone_item q (symbol_of x)) z h in
    let l = lone_symbols q (symbol_of x) m.0 m.1 in
    let e : list_symbols (state_items s ++ m.0 ∷ []) ≡ list_symbols (state_items s) ++ comma ∷ symbol_of x ∷ [] =
    list_symbols-snoc (state_items s) m.0 ∙ (ap (λ (b : List Symbol). b ++ item_symbols m.0) (before_symbols-snoc s.done s.item)
    ∙ (ap (λ (b : List Symbol). ((before_symbols s.done ++ item_symbols s.item) ++ comma ∷ []) ++ b) l.0
    ∙ (append_assoc (before_symbols s.done ++ item_symbols s.item) (comma ∷ []) (symbol_of x ∷ [])
    ∙ ap (λ (b : List Symbol). b ++ comma ∷ symbol_of x ∷ []) (sym (list_symbols-snoc s.done s.item))))) in (
      subst (λ (y : FieldState). list_symbols (state_items y) ≡ list_symbols (state_items s) ++ comma ∷ symbol_of x ∷ []) m.2 e,
      subst (λ (y : FieldState). items_in q (state_items y) ≡ true) m.2 (items_in-snoc q (state_items s) m.0 p l.1),
      sym (ap (λ (y : FieldState). y.last) m.2),
    )
next_written q s dash x z p h =
    let m = mapped (grown s x) (with_end s.item (symbol_of x)) z h in
    grown_next q s z m.0 dash x p m.2 (with_end_symbols q s.item m.0 (symbol_of x) m.1)
next_written q s slash x z p h =
    let m = mapped (grown s x) (with_step s.item (symbol_of x)) z h in
    grown_next q s z m.0 slash x p m.2 (with_step_symbols q s.item m.0 (symbol_of x) m.1)
next_written q s a x z p h = absurd (cc)

-- the tokens so far, what they are a field of, and the last of them
record Good (q : TimeUnit) (front : List Token) (s : FieldState) : Type 0 where
  written : map symbol_of front ≡ list_symbols (state_items s)
  tight : spacing_fits_all front ≡ true
  allowed : items_in q (state_items s) ≡ true
  before : List Token
  ends : front ≡ before ++ s.last ∷ []

tight-push : (pre : List Token) (l c : Token) → spacing_fits_all (pre ++ l ∷ []) ≡ true → spacing_fits l c ≡ true
    → spacing_fits_all ((pre ++ l ∷ []) ++ c ∷ []) ≡ true
tight-push [] l c h f = rw f refl
tight-push (a ∷ []) l c h f = let u = and_parts (spacing_fits a l) true h in rw (u.0, f) refl
tight-push (a ∷ b ∷ pre) l c h f = let u = and_parts (spacing_fits a b) (spacing_fits_all ((b ∷ pre) ++ l ∷ [])) h in rw u.0 (tight-push (b ∷ pre) l c u.1 f)

next_good : (q : TimeUnit) (front : List Token) (s z : FieldState) (c x : Token) → Good q front s → next_state q s c x ≡ Some z → Good q (front ++ c ∷ x ∷ []) z
next_good q front s z c x g n =
    let t = chosen (spacing_fits s.last c && spacing_fits c x) (joined q s (symbol_of c) x) z n in
    let f = and_parts (spacing_fits s.last c) (spacing_fits c x) t.0 in
    let w = next_written q s (symbol_of c) x z g.allowed t.1 in
    let tight : spacing_fits_all ((g.before ++ s.last ∷ []) ++ c ∷ [])
    ≡ true = tight-push g.before s.last c (subst (λ (y : List Token). spacing_fits_all y ≡ true) g.ends g.tight) f.0 in
    let both : spacing_fits_all ((front ++ c ∷ []) ++ x ∷ [])
    ≡ true = tight-push front c x (subst (λ (y : List Token). spacing_fits_all (y ++ c ∷ []) ≡ true) (sym g.ends) tight) f.1 in
    record {
      written = map-append symbol_of front (c ∷ x ∷ []) ∙ (ap (λ (y : List Symbol). y ++ symbol_of c ∷ symbol_of x ∷ []) g.written ∙ sym w.0);
      tight = subst (λ (y : List Token). spacing_fits_all y ≡ true) (append_assoc front (c ∷ []) (x ∷ [])) both;
      allowed = w.1;
      before = front ++ c ∷ [];
      ends = sym (append_assoc front (c ∷ []) (x ∷ [])) ∙ ap (λ (y : Token). (front ++ c ∷ []) ++ y ∷ []) (sym w.2);
    }

walk_good : (q : TimeUnit) (front : List Token) (s z : FieldState) (ts : List Token) → Good q front s → state_after q s ts ≡ Some z → Good q (front ++ ts) z
walk_good q front s z [] g w = subst (λ (y : List Token). Good q y z) (sym (append-nil front)) (subst (Good q front) (cc) g)
walk_good q front s z (c ∷ []) g w = absurd (cc)
walk_good q front s z (c ∷ x ∷ ts) g w =
    let b = bound (λ (y : FieldState). state_after q y ts) (next_state q s c x) z w in
    subst (λ (y : List Token). Good q y z) (append_assoc front (c ∷ x ∷ []) ts)
    (walk_good q (front ++ c ∷ x ∷ []) b.0 z ts (next_good q front s b.0 c x g b.1) b.2)

first_good : (q : TimeUnit) (t : Token) (s : FieldState) → first_state q t ≡ Some s → Good q (t ∷ []) s
first_good q t s h =
    let m = mapped (λ (i : Item). record { done = []; item = i; last = t }) (lone_item q (symbol_of t)) s h in
    let l = lone_symbols q (symbol_of t) m.0 m.1 in
    subst (Good q (t ∷ [])) m.2 (record { written = sym l.0; tight = refl; allowed = rw l.1 refl; before = []; ends = refl })

no_snoc : {A : Type 0} (is : List A) (i : A) → is ++ i ∷ [] ≡ [] → ⊥
no_snoc [] i h = cc
no_snoc (a ∷ is) i h = cc

good_field : (q : TimeUnit) (ts : List Token) (s : FieldState) → Good q ts s → IsField q ts (state_items s)
good_field q ts s g = record { written = g.written; nonempty = no_snoc s.done s.item; spaced = g.tight; wildcards_allowed = g.allowed }

-- What is read whole is a field of the items.
pub walk_field : (q : TimeUnit) (ts : List Token) (z : FieldState) → field_state q ts ≡ Some z → IsField q ts (state_items z)
walk_field q [] z h = absurd (cc)
walk_field q (t ∷ ts) z h =
    let b = bound (λ (s : FieldState). state_after q s ts) (first_state q t) z h in
    good_field q (t ∷ ts) z (walk_good q (t ∷ []) b.0 z ts (first_good q t b.0 b.1) b.2)
