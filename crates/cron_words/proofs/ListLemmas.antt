-- Items and lists as they are pushed.
use Rattle.std.proofs.Common.{◌↔◌, IsTrue, drop, get_or, add-one, drop-cons, length-drop, nat_lt, ◌≡◌, ◌==◌, ◌+◌, ◌<◌, ◌≤◌, ℕ, zero, suc, Bool, true, false, List, [], ◌∷◌, ◌++◌, length, map, refl, sym, ap, ◌∙◌, append_assoc, append-nil, arith, Result, Ok, Err, OnOk}
use Rattle.std.proofs.lemmas.Bool.Decides.{nat_tests}
use Rattle.std.proofs.lemmas.Bool.{false≢true}
use Rattle.std.proofs.lemmas.Slice.Eq.{bytes_eq-Decides}
use Rattle.std.specs.List.{flat_map}
use Rattle.std.specs.Str.{bytes_eq}
use Rattle.cron_units.specs.Units.{TimeUnit, whole}
use Rattle.cron_canonical.proofs.RunLemmas.{opened, opened_end, opened_here, opened_new, opened_on}
use Rattle.cron_canonical.specs.Short.{runs_of}
use Rattle.std.specs.Prelude.{codes}
use Rattle.std.proofs.lemmas.List.{nil_from_length}
use Rattle.cron_words.specs.Lists.{is_whole, separator_text, run_items, runs_as_items, item_text, list_text, more_text}
use Rattle.cron_words.specs.declared.items.Item.{Item}
use Rattle.cron_words.specs.declared.items.Item.TheVariants.{One}
use Rattle.cron_words.specs.declared.lists.Naming.{Naming}

pub if_ok : {A E : Type 0} (r : Result A E) (P Q : Type 0) → (P → Q) → OnOk r P → OnOk r Q
if_ok (Ok x) P Q f p = f p
if_ok (Err e) P Q f p = tt

pub false_from : (b : Bool) → (b ≡ true → ⊥) → b ≡ false
false_from true f = absurd (f refl)
false_from false f = refl

-- ---- runs

-- what was pushed, and the items of the runs that are left
abbrev pub with_runs : List Item → List (ℕ × ℕ) → List Item
with_runs items runs = items ++ flat_map run_items runs

pub goes_on : (before items : List Item) (first last n : ℕ) (old rest : List ℕ) → (last + 1 == n) ≡ true → old ≡ n ∷ rest
    → before ≡ with_runs items (opened first last old) → before ≡ with_runs items (opened first n rest)
goes_on before items first last n old rest next is kept =
    kept ∙ ap (with_runs items) (ap (opened first last) is ∙ opened_on first last n rest (grind (arith, nat_tests)))

pub begins : (before items now : List Item) (first last n : ℕ) (old rest : List ℕ) → (last + 1 == n) ≡ false → old ≡ n ∷ rest
    → now ≡ items ++ run_items (first, last) → before ≡ with_runs items (opened first last old) → before ≡ with_runs now (opened n n rest)
begins before items now first last n old rest apart is e kept =
    kept ∙ (ap (with_runs items) (ap (opened first last) is ∙ opened_new first last n rest (grind (arith, nat_tests)))
    ∙ (sym (append_assoc items (run_items (first, last)) (flat_map run_items (opened n n rest)))
    ∙ ap (λ (t : List Item). with_runs t (opened n n rest)) (sym e)))

pub runs_end : (initial items new : List Item) (start first last : ℕ) (all begun rest : List ℕ) → begun ≡ all → rest ≡ []
    → with_runs initial (opened start start begun) ≡ with_runs items (opened first last rest) → new ≡ items ++ run_items (first, last)
    → new ≡ initial ++ runs_as_items (start ∷ all)
unfolding runs_as_items
runs_end initial items new start first last all begun rest same none kept e =
    e ∙ (ap (λ (t : List Item). items ++ t) (sym (append-nil (run_items (first, last)))) ∙ (ap (with_runs items) (sym (opened_end first last) ∙ ap (opened first last) (sym none)) ∙ (sym kept
    ∙ ap (with_runs initial) (ap (opened start start) same ∙ opened_here start all))))

-- ---- single numbers

pub ones_on : (before items now : List Item) (n : ℕ) (old rest : List ℕ) → old ≡ n ∷ rest → now ≡ items ++ One n ∷ [] → before ≡ items ++ map One old
    → before ≡ now ++ map One rest
ones_on before items now n old rest is e kept =
    kept ∙ (ap (λ (t : List ℕ). items ++ map One t) is
    ∙ (sym (append_assoc items (One n ∷ []) (map One rest)) ∙ ap (λ (t : List Item). t ++ map One rest) (sym e)))

pub ones_end : (initial items : List Item) (all begun rest : List ℕ) → begun ≡ all → rest ≡ [] → initial ++ map One begun ≡ items ++ map One rest
    → items ≡ initial ++ map One all
ones_end initial items all begun rest same none kept =
    sym (append-nil items) ∙ (ap (λ (t : List ℕ). items ++ map One t) (sym none) ∙ (sym kept ∙ ap (λ (t : List ℕ). initial ++ map One t) same))

-- ---- lists

-- what is left to be written of a list, of which so many items are written
unfoldable pub left_text : Naming → ℕ → List Item → List ℕ
left_text w zero is = list_text w is
left_text w (suc k) is = more_text w is

not_first : (k : ℕ) → (suc k == 0) ≡ false
not_first k = grind (arith, nat_tests)

at_end : (len k : ℕ) → k + 1 ≡ len → nat_lt (k + 1) len ≡ false
at_end len k e = grind (arith, nat_tests)

before_end : (len k : ℕ) → k + 1 < len → nat_lt (k + 1) len ≡ true
before_end len k l = grind (arith, nat_tests)

-- the next item is written behind its separator
pub left_on : (w : Naming) (len k : ℕ) (i : Item) (is : List Item) → k + suc (length is) ≡ len
    → left_text w k (i ∷ is) ≡ separator_text k len ++ (item_text w i ++ left_text w (suc k) is)
unfolding left_text
left_on w len zero i is e = refl
left_on w len (suc k) i [] e = rw (not_first k, at_end len (suc k) (omega arith)) (ap (λ (t : List ℕ). codes " and " ++ t) (sym (append-nil (item_text w i))))
left_on w len (suc k) i (j ∷ is) e = rw (not_first k, before_end len (suc k) (omega arith)) refl

pub none_left : (w : Naming) (k : ℕ) → left_text w k [] ≡ []
unfolding left_text
none_left w zero = refl
none_left w (suc k) = refl

pub begun : (w : Naming) (is : List Item) → list_text w is ≡ left_text w 0 is
unfolding left_text
begun w is = refl

-- a separator and an item, of those that are left
pub item_on : (w : Naming) (before text next new sep : List ℕ) (items : List Item) (i d : Item) (k : ℕ) → k < length items
    → i ≡ get_or items k d → sep ≡ separator_text k (length items)
    → before ≡ text ++ left_text w k (drop k items) → next ≡ text ++ sep → new ≡ next ++ item_text w i
    → before ≡ new ++ left_text w (k + 1) (drop (k + 1) items)
item_on w before text next new sep items i d k l is s kept e f =
    let rest = drop (suc k) items in
    let here : drop k items ≡ i ∷ rest = drop-cons items k d l ∙ ap (λ (x : Item). x ∷ rest) (sym is) in
    let long : k + suc (length rest) ≡ length items = omega (arith, length-drop (suc k) items, l) in
    let left = left_text w (suc k) rest in
    let shown : before ≡ text ++ (separator_text k (length items) ++ (item_text w i ++ left)) =
    kept ∙ (ap (λ (t : List Item). text ++ left_text w k t) here ∙ ap (λ (t : List ℕ). text ++ t) (left_on w (length items) k i rest long)) in
    rw (add-one k) (shown ∙ (ap (λ (t : List ℕ). text ++ (t ++ (item_text w i ++ left))) (sym s)
    ∙ (sym (append_assoc text sep (item_text w i ++ left)) ∙ (ap (λ (t : List ℕ). t ++ (item_text w i ++ left)) (sym e)
    ∙ (sym (append_assoc next (item_text w i) left) ∙ ap (λ (t : List ℕ). t ++ left) (sym f))))))

pub all_written : (w : Naming) (before text : List ℕ) (items : List Item) (k : ℕ) → length items ≤ k → before ≡ text ++ left_text w k (drop k items) → text ≡ before
all_written w before text items k l kept =
    sym (kept ∙ (ap (λ (t : List Item). text ++ left_text w k t) (nil_from_length (drop k items) (omega (arith, length-drop k items, l)))
    ∙ (ap (λ (t : List ℕ). text ++ t) (none_left w k) ∙ append-nil text)))

-- ---- sets

pub whole_by : (u : TimeUnit) (ns : List ℕ) (all : Bool) → IsTrue all ↔ (ns ≡ whole u) → all ≡ is_whole u ns
whole_by u ns true h = sym ((bytes_eq-Decides ns (whole u)).1 (h.0 refl))
whole_by u ns false h = sym (false_from (bytes_eq ns (whole u)) (λ t. false≢true (h.1 ((bytes_eq-Decides ns (whole u)).0 t))))

pub no_runs : runs_as_items [] ≡ []
unfolding runs_as_items runs_of
no_runs = refl
