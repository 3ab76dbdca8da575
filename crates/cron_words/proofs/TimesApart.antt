-- Times are told apart, with what stands behind them.
use Rattle.std.proofs.Common.{◌≡◌, ◌==◌, ℕ, ◌<◌, ◌^◌, suc, Bool, true, false, ◌&&◌, cond, List, [], ◌∷◌, ◌++◌, codes, drop, get_or, if◌then◌else◌, length, refl, sym, ap, ◌∙◌, append_assoc, arith}
use Rattle.std.proofs.lemmas.Bool.{eqb-true, false≢true}
use Rattle.std.proofs.lemmas.Bool.Decides.{nat_tests}
use Rattle.std.proofs.lemmas.List.{append_cancel_left}
use Rattle.std.proofs.lemmas.Slice.Eq.{bytes_eq-Decides}
use Rattle.std.specs.List.{AllByRecursion}
use Rattle.cron_text.proofs.TokenRuns.{and_parts}
use Rattle.cron_text.specs.Tokens.{is_digit}
use Rattle.cron_units.specs.Denotation.{IsBetween}
use Rattle.cron_units.specs.Units.{IsSet, IsUnit, TimeUnit, whole}
use Rattle.cron_words.specs.Lists.{is_whole, items_of, list_text, name_text}
use Rattle.cron_words.specs.Progressions.{goes_round, step}
use Rattle.cron_words.specs.Schedules.{at_text, counted_text, every_text, first_unit, is_one, next_unit, nth_text, steps_text}
use Rattle.cron_words.specs.declared.items.Item.{Item}
use Rattle.cron_words.specs.declared.items.Item.TheVariants.{One, Range, Steps}
use Rattle.cron_words.specs.declared.lists.Naming.{Naming}
use Rattle.cron_words.specs.declared.lists.Naming.TheVariants.{Numbers, Ordinals}
use Rattle.cron_words.proofs.DigitLemmas.{cut, is_word}
use Rattle.cron_words.proofs.ListsApart.{FitsItem, list_apart, stops, unlike, unlike_at}
use Rattle.cron_words.proofs.NameLemmas.{Fits, begins, name_is, name_same}
use Rattle.cron_words.proofs.NumberLemmas.{IsItem, items_are, items_differ, items_some}
use Rattle.cron_words.proofs.ProgressionLemmas.{round_step_fits, rounds_same}

-- ---- the list of a set

fits_all : (w : Naming) (u : TimeUnit) (is : List Item) → IsUnit u → ((x : ℕ) → IsBetween u.least u.greatest x → Fits w x)
    → AllByRecursion (IsItem u) is → AllByRecursion (FitsItem w) is
fits_all w u [] h f a = tt
fits_all w u (One n ∷ is) h f a = (f n a.0, fits_all w u is h f a.1)
fits_all w u (Range x y ∷ is) h f a = ((f x a.0.0, f y a.0.1), fits_all w u is h f a.1)
fits_all w u (Steps p ∷ is) h f a = ((f p.first a.0.0, f p.last a.0.1, omega (arith, a.0.2, h.countable)), fits_all w u is h f a.1)

pub set_fits : (w : Naming) (u : TimeUnit) (ns : List ℕ) → IsUnit u → IsSet u ns → ((x : ℕ) → IsBetween u.least u.greatest x → Fits w x)
    → AllByRecursion (FitsItem w) (items_of ns)
set_fits w u ns h s f = fits_all w u (items_of ns) h f (items_are u ns h s)

pub sets_apart : (w : Naming) (u : TimeUnit) (n m : ℕ) (ns ms r s : List ℕ) → IsUnit u → ((x : ℕ) → IsBetween u.least u.greatest x → Fits w x)
    → IsSet u (n ∷ ns) → IsSet u (m ∷ ms) → stops w r ≡ true → stops w s ≡ true
    → list_text w (items_of (n ∷ ns)) ++ r ≡ list_text w (items_of (m ∷ ms)) ++ s → (n ∷ ns ≡ m ∷ ms) × (r ≡ s)
sets_apart w u n m ns ms r s h f k l p q e =
    let c = list_apart w (items_of (n ∷ ns)) (items_of (m ∷ ms)) r s (items_some n ns) (items_some m ms) (set_fits w u (n ∷ ns) h k f)
    (set_fits w u (m ∷ ms) h l f) p q e in
    (items_differ u (n ∷ ns) (m ∷ ms) h k l c.0, c.1)

pub not_none : (k : ℕ) → (suc k == 0) ≡ false
not_none k = grind (arith, nat_tests)

-- ---- numbers of a unit

pub plural_text : Bool → List ℕ
plural_text one = if one then codes " " else codes "s "

plural_apart : (a b : Bool) (x y : List ℕ) → plural_text a ++ x ≡ plural_text b ++ y → x ≡ y
unfolding plural_text
plural_apart true true x y e = append_cancel_left (codes " ") x y e
plural_apart true false x y e = absurd (unlike 32 115 _ _ refl e)
plural_apart false true x y e = absurd (unlike 115 32 _ _ refl e)
plural_apart false false x y e = append_cancel_left (codes "s ") x y e

pub some_counted : (noun : List ℕ) (n : ℕ) (ns r : List ℕ)
    → counted_text noun (n ∷ ns) ++ r ≡ noun ++ (plural_text (is_one (n ∷ ns)) ++ (list_text Numbers (items_of (n ∷ ns)) ++ r))
unfolding plural_text
some_counted noun n ns r =
    rw (not_none (length ns)) (append_assoc noun (plural_text (is_one (n ∷ ns)) ++ list_text Numbers (items_of (n ∷ ns))) r
    ∙ ap (λ (t : List ℕ). noun ++ t) (append_assoc (plural_text (is_one (n ∷ ns))) (list_text Numbers (items_of (n ∷ ns))) r))

-- a unit whose numbers are told by digits
abbrev pub Digital : TimeUnit → Type 0
Digital u = (x : ℕ) → IsBetween u.least u.greatest x → Fits Numbers x

none_counted : (c m : ℕ) (cs ms r s : List ℕ) → (110 == c) ≡ false → counted_text (c ∷ cs) [] ++ r ≡ counted_text (c ∷ cs) (m ∷ ms) ++ s → ⊥
none_counted c m cs ms r s n e = unlike 110 c _ _ n (e ∙ some_counted (c ∷ cs) m ms s)

pub counted_apart : (u : TimeUnit) (c : ℕ) (cs ns ms r s : List ℕ) → (110 == c) ≡ false → IsUnit u → Digital u → IsSet u ns → IsSet u ms
    → stops Numbers r ≡ true → stops Numbers s ≡ true → counted_text (c ∷ cs) ns ++ r ≡ counted_text (c ∷ cs) ms ++ s → (ns ≡ ms) × (r ≡ s)
counted_apart u c cs [] [] r s n h f k l p q e = (refl, append_cancel_left (codes "no " ++ c ∷ cs) r s e)
counted_apart u c cs [] (m ∷ ms) r s n h f k l p q e = absurd (none_counted c m cs ms r s n e)
counted_apart u c cs (m ∷ ms) [] r s n h f k l p q e = absurd (none_counted c m cs ms s r n (sym e))
counted_apart u c cs (a ∷ ns) (b ∷ ms) r s n h f k l p q e =
    sets_apart Numbers u a b ns ms r s h f k l p q
    (plural_apart (is_one (a ∷ ns)) (is_one (b ∷ ms)) _ _
    (append_cancel_left (c ∷ cs) _ _ (sym (some_counted (c ∷ cs) a ns r) ∙ (e ∙ some_counted (c ∷ cs) b ms s))))

-- ---- one unit

pub whole_same : (u : TimeUnit) (ns ms : List ℕ) → is_whole u ns ≡ true → is_whole u ms ≡ true → ns ≡ ms
whole_same u ns ms e f = (bytes_eq-Decides ns (whole u)).0 e ∙ sym ((bytes_eq-Decides ms (whole u)).0 f)

pub every_at : (capital : Bool) (x y : List ℕ) → every_text capital ++ x ≡ at_text capital ++ y → ⊥
every_at true x y e = unlike 69 65 _ _ refl e
every_at false x y e = unlike 101 97 _ _ refl e

-- texts of two units
pub nouns_apart : (c d : ℕ) (cs ds ns ms r s : List ℕ) → (c == d) ≡ false → (110 == c) ≡ false → (110 == d) ≡ false
    → counted_text (c ∷ cs) ns ++ r ≡ counted_text (d ∷ ds) ms ++ s → ⊥
nouns_apart c d cs ds [] [] r s n h k e = unlike c d _ _ n (append_cancel_left (codes "no ") _ _ e)
nouns_apart c d cs ds [] (m ∷ ms) r s n h k e = unlike 110 d _ _ k (e ∙ some_counted (d ∷ ds) m ms s)
nouns_apart c d cs ds (m ∷ ns) [] r s n h k e = unlike 110 c _ _ h (sym e ∙ some_counted (c ∷ cs) m ns r)
nouns_apart c d cs ds (a ∷ ns) (b ∷ ms) r s n h k e = unlike c d _ _ n (sym (some_counted (c ∷ cs) a ns r) ∙ (e ∙ some_counted (d ∷ ds) b ms s))

pub every_counted : (c : ℕ) (cs ms x s : List ℕ) → (101 == c) ≡ false → 101 ∷ x ≡ counted_text (c ∷ cs) ms ++ s → ⊥
every_counted c cs [] x s n e = unlike 101 110 _ _ refl e
every_counted c cs (m ∷ ms) x s n e = unlike 101 c _ _ n (e ∙ some_counted (c ∷ cs) m ms s)

-- the first byte of a noun, which neither `no` nor `every` nor a number has
pub record IsNoun (c : ℕ) : Type 0 where
  pub plain : (110 == c) ≡ false
  pub other : (101 == c) ≡ false
  pub letter : is_digit c ≡ false

-- ---- steps

-- a step and a noun, behind `every`
abbrev stepped : Naming → ℕ → List ℕ → List ℕ → ℕ → List ℕ
stepped w c one many k = if k == 1 then c ∷ one else name_text w k ++ 32 ∷ c ∷ many

-- steps are told by digits
abbrev IsCounting : Naming → Type 0
IsCounting w = ((k : ℕ) → k < 2 ^ 32 → Fits w k) × ((c : ℕ) → is_digit c ≡ begins w c)

behind_step : (w : Naming) (k c : ℕ) (many r : List ℕ) → (name_text w k ++ 32 ∷ c ∷ many) ++ r ≡ name_text w k ++ 32 ∷ c ∷ (many ++ r)
behind_step w k c many r = append_assoc (name_text w k) (32 ∷ c ∷ many) r

step_first : (w : Naming) (k c : ℕ) (many r : List ℕ) → IsCounting w → k < 2 ^ 32 → is_digit (get_or ((name_text w k ++ 32 ∷ c ∷ many) ++ r) 0 0) ≡ true
step_first w k c many r i l =
    i.1 _ ∙ (ap (λ (t : List ℕ). begins w (get_or t 0 0)) (behind_step w k c many r) ∙ (name_is w k (i.0 k l)).first (32 ∷ c ∷ (many ++ r)))

-- a noun alone isn't one behind a step
alone_stepped : (w : Naming) (k c d : ℕ) (one many r q : List ℕ) → IsCounting w → k < 2 ^ 32 → is_digit c ≡ false
    → (c ∷ one) ++ r ≡ (name_text w k ++ 32 ∷ d ∷ many) ++ q → ⊥
alone_stepped w k c d one many r q i l n e = unlike_at is_digit 0 _ _ n (step_first w k d many q i l) e

steps_cut : (w : Naming) (k l c d : ℕ) (some many r q : List ℕ) → IsCounting w → k < 2 ^ 32 → l < 2 ^ 32
    → (name_text w k ++ 32 ∷ c ∷ some) ++ r ≡ (name_text w l ++ 32 ∷ d ∷ many) ++ q → (k ≡ l) × (c ∷ (some ++ r) ≡ d ∷ (many ++ q))
steps_cut w k l c d some many r q i f g e =
    let x = cut is_word (name_text w k) (name_text w l) (32 ∷ c ∷ (some ++ r)) (32 ∷ d ∷ (many ++ q)) (name_is w k (i.0 k f)).word (name_is w l (i.0 l g)).word refl refl
    (sym (behind_step w k c some r) ∙ (e ∙ behind_step w l d many q)) in
    (name_same w k l (i.0 k f) (i.0 l g) x.0, ap (drop 1) x.1)

steps_apart : (w : Naming) (k l c : ℕ) (one many r q : List ℕ) → IsCounting w → k < 2 ^ 32 → l < 2 ^ 32 → is_digit c ≡ false
    → stepped w c one many k ++ r ≡ stepped w c one many l ++ q → (k ≡ l) × (r ≡ q)
steps_apart w k l c one many r q i f g n e = by_test (k == 1) (l == 1) refl refl e where
  told : ℕ → List ℕ
  told x = name_text w x ++ 32 ∷ c ∷ many

  by_test : (a b : Bool) → (k == 1) ≡ a → (l == 1) ≡ b → (cond a (c ∷ one) (name_text w k ++ 32 ∷ c ∷ many)) ++ r ≡ (cond b (c ∷ one) (name_text w l ++ 32 ∷ c ∷ many)) ++ q
      → (k ≡ l) × (r ≡ q)
  by_test true true x y h = (eqb-true k 1 x ∙ sym (eqb-true l 1 y), append_cancel_left (c ∷ one) r q h)
  by_test true false x y h = absurd (alone_stepped w l c c one many r q i g n h)
  by_test false true x y h = absurd (alone_stepped w k c c one many q r i f n (sym h))
  by_test false false x y h =
      let t = steps_cut w k l c c many many r q i f g h in
      (t.0, append_cancel_left (c ∷ many) r q t.1)

-- steps of two nouns
steps_differ : (w : Naming) (k l c d : ℕ) (one many two more r q : List ℕ) → IsCounting w → k < 2 ^ 32 → l < 2 ^ 32 → is_digit c ≡ false → is_digit d ≡ false
    → (c == d) ≡ false → stepped w c one many k ++ r ≡ stepped w d two more l ++ q → ⊥
steps_differ w k l c d one many two more r q i f g n o differ e = by_test (k == 1) (l == 1) e where
  by_test : (a b : Bool) → (cond a (c ∷ one) (name_text w k ++ 32 ∷ c ∷ many)) ++ r ≡ (cond b (d ∷ two) (name_text w l ++ 32 ∷ d ∷ more)) ++ q → ⊥
  by_test true true h = unlike c d _ _ differ h
  by_test true false h = alone_stepped w l c d one more r q i g n h
  by_test false true h = alone_stepped w k d c two many q r i f o (sym h)
  by_test false false h = unlike c d _ _ differ (steps_cut w k l c d many more r q i f g h).1

by_numbers : IsCounting Numbers
by_numbers = ((λ k l. l), (λ c. refl))

by_ordinals : IsCounting Ordinals
by_ordinals = ((λ k l. l), (λ c. refl))

-- the step of a set that goes round
pub step_fits : (u : TimeUnit) (ns : List ℕ) → IsUnit u → goes_round u ns ≡ true → step ns < 2 ^ 32
step_fits u ns h x = round_step_fits u ns h.countable x

pub steps_text_apart : (k l c : ℕ) (cs r q : List ℕ) → IsNoun c → k < 2 ^ 32 → l < 2 ^ 32 → steps_text (c ∷ cs) k ++ r ≡ steps_text (c ∷ cs) l ++ q
    → (k ≡ l) × (r ≡ q)
steps_text_apart k l c cs r q n f g e = steps_apart Numbers k l c cs (cs ++ codes "s") r q by_numbers f g n.letter e

pub steps_text_differ : (k l c d : ℕ) (cs ds r q : List ℕ) → IsNoun c → IsNoun d → (c == d) ≡ false → k < 2 ^ 32 → l < 2 ^ 32
    → steps_text (c ∷ cs) k ++ r ≡ steps_text (d ∷ ds) l ++ q → ⊥
steps_text_differ k l c d cs ds r q n m differ f g e =
    steps_differ Numbers k l c d cs (cs ++ codes "s") ds (ds ++ codes "s") r q by_numbers f g n.letter m.letter differ e

pub nexts_apart : (u v : TimeUnit) (c d : ℕ) (cs ds ns ms r s : List ℕ) → IsNoun c → IsNoun d → (c == d) ≡ false → IsUnit u → IsUnit v
    → goes_round u ns ≡ true → goes_round v ms ≡ true → nth_text (c ∷ cs) (step ns) ++ r ≡ nth_text (d ∷ ds) (step ms) ++ s → ⊥
nexts_apart u v c d cs ds ns ms r s n m differ h g x y e =
    steps_differ Ordinals (step ns) (step ms) c d cs cs ds ds r s by_ordinals (step_fits u ns h x) (step_fits v ms g y) n.letter m.letter differ e

-- ---- one unit told twice

pub first_apart : (capital : Bool) (u : TimeUnit) (c : ℕ) (cs ns ms r s : List ℕ) → IsNoun c → IsUnit u → Digital u → IsSet u ns → IsSet u ms
    → stops Numbers r ≡ true → stops Numbers s ≡ true → first_unit capital (c ∷ cs) u ns ++ r ≡ first_unit capital (c ∷ cs) u ms ++ s
    → (ns ≡ ms) × (r ≡ s)
first_apart capital u c cs ns ms r s n h f k l p q e = by_test (goes_round u ns) (goes_round u ms) refl refl e where
  noun : List ℕ
  noun = c ∷ cs

  every_on : (xs z : List ℕ) → (every_text capital ++ steps_text noun (step xs)) ++ z ≡ every_text capital ++ (steps_text noun (step xs) ++ z)
  every_on xs z = append_assoc (every_text capital) (steps_text noun (step xs)) z

  at_on : (xs z : List ℕ) → (at_text capital ++ counted_text noun xs) ++ z ≡ at_text capital ++ (counted_text noun xs ++ z)
  at_on xs z = append_assoc (at_text capital) (counted_text noun xs) z

  by_test : (a b : Bool) → goes_round u ns ≡ a → goes_round u ms ≡ b
      → (cond a (every_text capital ++ steps_text noun (step ns)) (at_text capital ++ counted_text noun ns)) ++ r
      ≡ (cond b (every_text capital ++ steps_text noun (step ms)) (at_text capital ++ counted_text noun ms)) ++ s → (ns ≡ ms) × (r ≡ s)
  by_test true true x y g =
      let t = steps_text_apart (step ns) (step ms) c cs r s n (step_fits u ns h x) (step_fits u ms h y)
      (append_cancel_left (every_text capital) _ _ (sym (every_on ns r) ∙ (g ∙ every_on ms s))) in
      (rounds_same u ns ms x y t.0, t.1)
  by_test true false x y g = absurd (every_at capital _ _ (sym (every_on ns r) ∙ (g ∙ at_on ms s)))
  by_test false true x y g = absurd (every_at capital _ _ (sym (every_on ms s) ∙ (sym g ∙ at_on ns r)))
  by_test false false x y g =
      counted_apart u c cs ns ms r s n.plain h f k l p q (append_cancel_left (at_text capital) _ _ (sym (at_on ns r) ∙ (g ∙ at_on ms s)))

-- no unit goes on
abbrev pub NoSpace : List ℕ → Type 0
NoSpace r = (get_or r 0 0 == 32) ≡ false

pub no_space : (r x : List ℕ) → NoSpace r → r ≡ 32 ∷ x → ⊥
no_space r x n e = false≢true (sym n ∙ ap (λ (t : List ℕ). get_or t 0 0 == 32) e)

-- nothing is said of a set
abbrev pub is_hidden : Bool → List ℕ → Bool
is_hidden round ns = round && step ns == 1

hidden_step : (round : Bool) (ns : List ℕ) → is_hidden round ns ≡ true → step ns ≡ 1
hidden_step round ns h = eqb-true (step ns) 1 (and_parts round (step ns == 1) h).1

pub hidden_same : (round : Bool) (u : TimeUnit) (ns ms : List ℕ) → goes_round u ns ≡ true → goes_round u ms ≡ true → is_hidden round ns ≡ true → is_hidden round ms ≡ true
    → ns ≡ ms
hidden_same round u ns ms x y h g = rounds_same u ns ms x y (hidden_step round ns h ∙ sym (hidden_step round ms g))

pub nth_apart : (u : TimeUnit) (c : ℕ) (cs ns ms r s : List ℕ) → IsNoun c → IsUnit u → goes_round u ns ≡ true → goes_round u ms ≡ true
    → codes " of every " ++ (nth_text (c ∷ cs) (step ns) ++ r) ≡ codes " of every " ++ (nth_text (c ∷ cs) (step ms) ++ s) → (ns ≡ ms) × (r ≡ s)
nth_apart u c cs ns ms r s n h x y e =
    let t = steps_apart Ordinals (step ns) (step ms) c cs cs r s by_ordinals (step_fits u ns h x) (step_fits u ms h y) n.letter
    (append_cancel_left (codes " of every ") _ _ e) in
    (rounds_same u ns ms x y t.0, t.1)

pub next_apart : (round : Bool) (u : TimeUnit) (c : ℕ) (cs ns ms r s : List ℕ) → IsNoun c → IsUnit u → Digital u → IsSet u ns → IsSet u ms
    → stops Numbers r ≡ true → stops Numbers s ≡ true → NoSpace r → NoSpace s
    → next_unit round (c ∷ cs) u ns ++ r ≡ next_unit round (c ∷ cs) u ms ++ s → (ns ≡ ms) × (r ≡ s)
next_apart round u c cs ns ms r s n h f k l p q v w e = by_test (goes_round u ns) (goes_round u ms) refl refl e where
  noun : List ℕ
  noun = c ∷ cs

  every : List ℕ → List ℕ
  every xs = codes " of every " ++ nth_text noun (step xs)

  -- both go round
  by_hidden : (i j : Bool) → goes_round u ns ≡ true → goes_round u ms ≡ true → is_hidden round ns ≡ i → is_hidden round ms ≡ j
      → (cond i [] (codes " of every " ++ nth_text noun (step ns))) ++ r ≡ (cond j [] (codes " of every " ++ nth_text noun (step ms))) ++ s → (ns ≡ ms) × (r ≡ s)
  by_hidden true true x y i j g = (hidden_same round u ns ms x y i j, g)
  by_hidden true false x y i j g = absurd (no_space r _ v g)
  by_hidden false true x y i j g = absurd (no_space s _ w (sym g))
  by_hidden false false x y i j g = nth_apart u c cs ns ms r s n h x y g

  -- one goes round
  mixed : (i : Bool) (xs ys z t : List ℕ) → NoSpace z → (cond i [] (codes " of every " ++ nth_text noun (step xs))) ++ z ≡ codes " of " ++ (counted_text noun ys ++ t) → ⊥
  mixed true xs ys z t o g = no_space z _ o g
  mixed false xs ys z t o g = every_counted c cs ys _ t n.other (append_cancel_left (codes " of ") _ _ g)

  by_test : (a b : Bool) → goes_round u ns ≡ a → goes_round u ms ≡ b
      → (cond a (cond (is_hidden round ns) [] (codes " of every " ++ nth_text noun (step ns))) (codes " of " ++ counted_text noun ns)) ++ r
      ≡ (cond b (cond (is_hidden round ms) [] (codes " of every " ++ nth_text noun (step ms))) (codes " of " ++ counted_text noun ms)) ++ s → (ns ≡ ms) × (r ≡ s)
  by_test true true x y g = by_hidden (is_hidden round ns) (is_hidden round ms) x y refl refl g
  by_test true false x y g = absurd (mixed (is_hidden round ns) ns ms r s v g)
  by_test false true x y g = absurd (mixed (is_hidden round ms) ms ns s r w (sym g))
  by_test false false x y g = counted_apart u c cs ns ms r s n.plain h f k l p q (append_cancel_left (codes " of ") _ _ g)
