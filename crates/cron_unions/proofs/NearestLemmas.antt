-- The nearest civil second of any of several sets, with a set more.
use Rattle.std.proofs.Common.{◌≡◌, ℕ, ◌+◌, ◌<◌, ◌≤◌, ℤ, nat_lt, Bool, true, false, ◌&&◌, ◌||◌, cond, List, [], Option, Some, None, refl, sym, ap, ◌∙◌, subst, length, take, get_or, arith}
use Rattle.std.specs.Prelude.{IfSome}
use Rattle.std.proofs.lemmas.List.{take_all}
use Rattle.std.proofs.lemmas.List.Folds.{list_any_more}
use Rattle.cron_units.specs.declared.way.Way.{Way}
use Rattle.cron_units.specs.declared.way.Way.TheVariants.{Ahead, Back}
use Rattle.cron_units.specs.Nearest.{IsNearest, IsNearestAt, LiesFrom, Precedes}
use Rattle.cron_moments.specs.Civil.{seconds_in_range}
use Rattle.cron_time.specs.Seconds.{Seconds, is_match}
use Rattle.cron_unions.specs.Nearest.{is_before, nearer_second}
use Rattle.cron_unions.specs.Unions.{any_in}
use Rattle.cron_seconds.proofs.SetLemmas.{range_of}

precedes-through : (way : Way) (k a b : ℕ) → Precedes way k b → is_before way b a ≡ true → Precedes way k a
precedes-through Ahead k a b less before = grind arith
precedes-through Back k a b less before = grind arith

precedes-other : (way : Way) (k a b : ℕ) → Precedes way k a → is_before way b a ≡ false → Precedes way k b
precedes-other Ahead k a b less before = grind arith
precedes-other Back k a b less before = grind arith

or_first : (a b : Bool) → a ≡ true → (a || b) ≡ true
or_first true b h = refl
or_first false b h = cc

or_second : (a b : Bool) → b ≡ true → (a || b) ≡ true
or_second true b h = refl
or_second false b h = h

or_neither : (a b : Bool) → a ≡ false → b ≡ false → (a || b) ≡ false
or_neither true b h g = cc
or_neither false b h g = g

-- of the numbers that pass one test or another the nearest is the nearer of the nearest of each
module _ (way : Way) (m t both : ℕ → Bool) (start : ℤ) (either : (c : ℕ) → both c ≡ (m c || t c)) where
  by_first : (a : ℕ) → IsNearestAt way m start a → ((k : ℕ) → LiesFrom way start k → Precedes way k a → t k ≡ false) → IsNearestAt way both start a
  by_first a found none = record {
    passes = either a ∙ or_first (m a) (t a) found.passes;
    lies = found.lies;
    nearest = λ k lies before. either k ∙ or_neither (m k) (t k) (found.nearest k lies before) (none k lies before);
  }

  by_second : (b : ℕ) → IsNearestAt way t start b → ((k : ℕ) → LiesFrom way start k → Precedes way k b → m k ≡ false) → IsNearestAt way both start b
  by_second b found none = record {
    passes = either b ∙ or_second (m b) (t b) found.passes;
    lies = found.lies;
    nearest = λ k lies before. either k ∙ or_neither (m k) (t k) (none k lies before) (found.nearest k lies before);
  }

  pub nearest-of_both : (a b : Option ℕ) → IsNearest way m start a → IsNearest way t start b → IsNearest way both start (nearer_second way a b)
  nearest-of_both None None none absent = λ k lies. either k ∙ or_neither (m k) (t k) (none k lies) (absent k lies)
  nearest-of_both None (Some b) none found = by_second b found (λ k lies before. none k lies)
  nearest-of_both (Some a) None found none = by_first a found (λ k lies before. none k lies)
  nearest-of_both (Some a) (Some b) first second = by_test (is_before way b a) refl
    where
      by_test : (v : Bool) → is_before way b a ≡ v → IsNearest way both start (cond v (Some b) (Some a))
      by_test true is = by_second b second (λ k lies before. first.nearest k lies (precedes-through way k a b before is))
      by_test false is = by_first a first (λ k lies before. second.nearest k lies (precedes-other way k a b before is))

-- ---- a set more

and_or : (r a b : Bool) → (r && (a || b)) ≡ ((r && a) || (r && b))
and_or true a b = refl
and_or false a b = refl

and_false : (r : Bool) → (r && false) ≡ false
and_false true = refl
and_false false = refl

module _ {S : Type 0} (has : S → Seconds) where
  match-more : (ss : List S) (i : ℕ) (s : S) (c : ℕ) → i < length ss → s ≡ get_or ss i s
      → is_match (any_in has (take (i + 1) ss)) c ≡ (is_match (any_in has (take i ss)) c || is_match (has s) c)
  match-more ss i s c less is =
      let more = list_any_more (λ (t : S). has t c) ss i s less in
      ap (λ v. nat_lt c seconds_in_range && v) (more ∙ ap (λ v. any_in has (take i ss) c || has v c) (sym is))
      ∙ and_or (nat_lt c seconds_in_range) (any_in has (take i ss) c) (has s c)

  pub nearest-none : (way : Way) (start : ℤ) → IsNearest way (is_match (any_in has [])) start None
  nearest-none way start = λ k lies. and_false (nat_lt k seconds_in_range)

  pub nearest-step : (way : Way) (start : ℤ) (ss : List S) (i : ℕ) (s : S) (a b c : Option ℕ) → i < length ss → s ≡ get_or ss i s
      → c ≡ nearer_second way a b → IsNearest way (is_match (any_in has (take i ss))) start a → IsNearest way (is_match (has s)) start b
      → IsNearest way (is_match (any_in has (take (i + 1) ss))) start c
  nearest-step way start ss i s a b c less is e first second =
      subst (IsNearest way (is_match (any_in has (take (i + 1) ss))) start) (sym e)
      (nearest-of_both way (is_match (any_in has (take i ss))) (is_match (has s)) (is_match (any_in has (take (i + 1) ss))) start (λ k. match-more ss i s k less is) a b first second)

  pub nearest-end : (way : Way) (start : ℤ) (ss : List S) (i : ℕ) (a : Option ℕ) → i ≡ length ss → IsNearest way (is_match (any_in has (take i ss))) start a
      → IsNearest way (is_match (any_in has ss)) start a
  nearest-end way start ss i a e found =
      subst (λ v. IsNearest way (is_match (any_in has v)) start a) (ap (λ n. take n ss) e ∙ take_all (length ss) ss (omega arith)) found

pub nearest-range : (way : Way) (start : ℤ) (s : Seconds) (a : Option ℕ) → IsNearest way (is_match s) start a → IfSome a (λ c. c < seconds_in_range)
nearest-range way start s None none = tt
nearest-range way start s (Some c) found = range_of c (s c) found.passes

-- ---- stretches without a civil second of the sets

-- no set has a civil second of the stretch
abbrev pub AreClear : {S : Type 0} → (S → Seconds) → List S → ℕ → ℕ → Type 0
AreClear has ss first end = (k : ℕ) → first ≤ k → k < end → is_match (any_in has ss) k ≡ false

module _ {S : Type 0} (has : S → Seconds) (first end : ℕ) where
  pub clear-none : AreClear has [] first end
  clear-none k from to = and_false (nat_lt k seconds_in_range)

  pub clear-step : (ss : List S) (i : ℕ) (s : S) → i < length ss → s ≡ get_or ss i s → AreClear has (take i ss) first end
      → ((k : ℕ) → first ≤ k → k < end → is_match (has s) k ≡ false) → AreClear has (take (i + 1) ss) first end
  clear-step ss i s less is before own k from to =
      match-more has ss i s k less is ∙ or_neither (is_match (any_in has (take i ss)) k) (is_match (has s) k) (before k from to) (own k from to)

  pub clear-end : (ss : List S) (i : ℕ) → i ≡ length ss → AreClear has (take i ss) first end → AreClear has ss first end
  clear-end ss i e clear = subst (λ v. AreClear has v first end) (ap (λ n. take n ss) e ∙ take_all (length ss) ss (omega arith)) clear
