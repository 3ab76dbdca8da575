-- Days, months and years are told apart, with what stands behind them.
use Rattle.std.proofs.Common.{◌≡◌, ◌==◌, ◌<◌, ℕ, Bool, true, false, cond, List, [], ◌∷◌, ◌++◌, get_or, if◌then◌else◌, length, refl, sym, ap, ◌∙◌, append_assoc, arith}
use Rattle.std.proofs.lemmas.List.{append_cancel_left}
use Rattle.std.specs.List.{AllByRecursion}
use Rattle.cron_text.specs.Tokens.{is_digit}
use Rattle.cron_units.specs.Denotation.{IsBetween}
use Rattle.cron_units.specs.Units.{IsSet, IsUnit, TimeUnit}
use Rattle.cron_words.specs.Lists.{is_whole, items_of, list_text}
use Rattle.cron_words.specs.Schedules.{begins_alone, led_text}
use Rattle.cron_words.specs.declared.items.Item.{Item}
use Rattle.cron_words.specs.declared.lists.Naming.{Naming}
use Rattle.cron_words.proofs.ListsApart.{FitsItem, list_first, stops}
use Rattle.cron_words.proofs.NameLemmas.{Fits, begins, is_capital}
use Rattle.cron_words.proofs.NumberLemmas.{items_some}
use Rattle.cron_words.proofs.TimesApart.{NoSpace, not_none, set_fits, sets_apart, whole_same}

-- ---- kinds of phrases

-- what a phrase tells: 1 for days of the week, 2 for days of the month, 3 for months, 4 for years
abbrev kind_behind_comma : List ℕ → ℕ
kind_behind_comma t =
    if is_capital (get_or t 2 0) then 1
    else if get_or t 2 0 == 111 then (if is_capital (get_or t 5 0) then 1 else if get_or t 8 0 == 119 then 1 else 2)
    else if get_or t 2 0 == 105 then
    (if is_capital (get_or t 5 0) then 3 else if is_digit (get_or t 5 0) then 4 else if get_or t 8 0 == 109 then 3 else 4)
    else if is_capital (get_or t 7 0) then 3 else 4

abbrev pub kind : List ℕ → ℕ
kind t = if get_or t 0 0 == 44 then kind_behind_comma t else 5

-- what stands behind a phrase: later phrases, or the end
pub record IsTail (k : ℕ) (r : List ℕ) : Type 0 where
  pub later : k < kind r
  pub stop : (w : Naming) → stops w r ≡ true
  pub space : NoSpace r

-- ---- a phrase that is a list

abbrev word_of : Bool → List ℕ → List ℕ → List ℕ
word_of alone one range = cond alone one range

abbrev phrase : List ℕ → List ℕ → List ℕ → Naming → TimeUnit → List ℕ → List ℕ
phrase none one range w u ns = if is_whole u ns then [] else if length ns == 0 then none else led_text one range w ns

pub record IsPhrase (k : ℕ) (none one range : List ℕ) (w : Naming) (u : TimeUnit) : Type 0 where
  pub unit : IsUnit u
  pub fits : (x : ℕ) → IsBetween u.least u.greatest x → Fits w x
  -- a list behind one word isn't one behind the other, and neither is the text of no number
  pub mixed : (x y : List ℕ) → begins w (get_or y 0 0) ≡ true → one ++ x ≡ range ++ y → ⊥
  pub lone : (alone : Bool) (x q : List ℕ) → begins w (get_or x 0 0) ≡ true → none ++ q ≡ word_of alone one range ++ x → ⊥
  pub none_kind : (r : List ℕ) → kind (none ++ r) ≡ k
  pub some_kind : (alone : Bool) (x : List ℕ) → begins w (get_or x 0 0) ≡ true → kind (word_of alone one range ++ x) ≡ k

pub first_of : (w : Naming) (is : List Item) (r : List ℕ) → (is ≡ [] → ⊥) → AllByRecursion (FitsItem w) is → begins w (get_or (list_text w is ++ r) 0 0) ≡ true
first_of w [] r n f = absurd (n refl)
first_of w (i ∷ is) r n f = list_first w i is r f.0

module _ (k : ℕ) (none one range : List ℕ) (w : Naming) (u : TimeUnit) (p : IsPhrase k none one range w u) where
  pub set_first : (n : ℕ) (ns r : List ℕ) → IsSet u (n ∷ ns) → begins w (get_or (list_text w (items_of (n ∷ ns)) ++ r) 0 0) ≡ true
  set_first n ns r s = first_of w (items_of (n ∷ ns)) r (items_some n ns) (set_fits w u (n ∷ ns) p.unit s p.fits)

  abbrev alone_in : List ℕ → Bool
  alone_in ns = begins_alone (items_of ns)

  abbrev told : List ℕ → List ℕ
  told ns = if length ns == 0 then none else led_text one range w ns

  pub some_told : (n : ℕ) (ns r : List ℕ) → told (n ∷ ns) ++ r ≡ word_of (alone_in (n ∷ ns)) one range ++ (list_text w (items_of (n ∷ ns)) ++ r)
  some_told n ns r = rw (not_none (length ns)) (append_assoc (word_of (alone_in (n ∷ ns)) one range) (list_text w (items_of (n ∷ ns))) r)

  pub told_kind : (ns r : List ℕ) → IsSet u ns → kind (told ns ++ r) ≡ k
  told_kind [] r s = p.none_kind r
  told_kind (n ∷ ns) r s =
      ap kind (some_told n ns r) ∙ p.some_kind (alone_in (n ∷ ns)) (list_text w (items_of (n ∷ ns)) ++ r) (set_first n ns r s)

  words_apart : (a b : Bool) (n m : ℕ) (ns ms r q : List ℕ) → IsSet u (n ∷ ns) → IsSet u (m ∷ ms)
      → word_of a one range ++ (list_text w (items_of (n ∷ ns)) ++ r) ≡ word_of b one range ++ (list_text w (items_of (m ∷ ms)) ++ q)
      → list_text w (items_of (n ∷ ns)) ++ r ≡ list_text w (items_of (m ∷ ms)) ++ q
  words_apart true true n m ns ms r q s t e = append_cancel_left one _ _ e
  words_apart true false n m ns ms r q s t e = absurd (p.mixed _ _ (set_first m ms q t) e)
  words_apart false true n m ns ms r q s t e = absurd (p.mixed _ _ (set_first n ns r s) (sym e))
  words_apart false false n m ns ms r q s t e = append_cancel_left range _ _ e

  told_apart : (ns ms r q : List ℕ) → IsSet u ns → IsSet u ms → stops w r ≡ true → stops w q ≡ true → told ns ++ r ≡ told ms ++ q → (ns ≡ ms) × (r ≡ q)
  told_apart [] [] r q s t h g e = (refl, append_cancel_left none r q e)
  told_apart [] (m ∷ ms) r q s t h g e = absurd (p.lone (alone_in (m ∷ ms)) _ r (set_first m ms q t) (e ∙ some_told m ms q))
  told_apart (n ∷ ns) [] r q s t h g e = absurd (p.lone (alone_in (n ∷ ns)) _ q (set_first n ns r s) (sym e ∙ some_told n ns r))
  told_apart (n ∷ ns) (m ∷ ms) r q s t h g e =
      sets_apart w u n m ns ms r q p.unit p.fits s t h g
      (words_apart (alone_in (n ∷ ns)) (alone_in (m ∷ ms)) n m ns ms r q s t (sym (some_told n ns r) ∙ (e ∙ some_told m ms q)))

  later_differs : (ns r q : List ℕ) → IsSet u ns → k < kind q → told ns ++ r ≡ q → ⊥
  later_differs ns r q s l e = omega (arith, sym (told_kind ns r s) ∙ ap kind e, l)

  pub phrase_apart : (ns ms r q : List ℕ) → IsSet u ns → IsSet u ms → stops w r ≡ true → stops w q ≡ true → k < kind r → k < kind q
      → phrase none one range w u ns ++ r ≡ phrase none one range w u ms ++ q → (ns ≡ ms) × (r ≡ q)
  phrase_apart ns ms r q s t h g l o e = by_test (is_whole u ns) (is_whole u ms) refl refl e where
    by_test : (a b : Bool) → is_whole u ns ≡ a → is_whole u ms ≡ b → (cond a [] (told ns)) ++ r ≡ (cond b [] (told ms)) ++ q → (ns ≡ ms) × (r ≡ q)
    by_test true true x y i = (whole_same u ns ms x y, i)
    by_test true false x y i = absurd (later_differs ms q r t l (sym i))
    by_test false true x y i = absurd (later_differs ns r q s o i)
    by_test false false x y i = told_apart ns ms r q s t h g i

  -- a phrase before a tail is the tail of an earlier phrase
  pub phrase_tail : (j : ℕ) (ns r : List ℕ) → IsSet u ns → j < k → ((v : Naming) (x : List ℕ) → stops v (none ++ x) ≡ true)
      → ((v : Naming) (alone : Bool) (x : List ℕ) → stops v (word_of alone one range ++ x) ≡ true)
      → ((x : List ℕ) → NoSpace (none ++ x)) → ((alone : Bool) (x : List ℕ) → NoSpace (word_of alone one range ++ x))
      → IsTail k r → IsTail j (phrase none one range w u ns ++ r)
  phrase_tail j ns r s l none_stop some_stop none_space some_space t = by_test (is_whole u ns) where
    by_kind : (ms : List ℕ) → IsSet u ms → IsTail j (told ms ++ r)
    by_kind [] z = record { later = omega (arith, told_kind [] r z, l); stop = λ v. none_stop v r; space = none_space r }
    by_kind (n ∷ ms) z =
        record {
          later = omega (arith, told_kind (n ∷ ms) r z, l);
          stop = λ v. ap (stops v) (some_told n ms r) ∙ some_stop v (alone_in (n ∷ ms)) (list_text w (items_of (n ∷ ms)) ++ r);
          space = ap (λ (x : List ℕ). get_or x 0 0 == 32) (some_told n ms r) ∙ some_space (alone_in (n ∷ ms)) (list_text w (items_of (n ∷ ms)) ++ r);
        }

    by_test : (a : Bool) → IsTail j ((cond a [] (told ns)) ++ r)
    by_test true = record { later = omega (arith, t.later, l); stop = t.stop; space = t.space }
    by_test false = by_kind ns s
