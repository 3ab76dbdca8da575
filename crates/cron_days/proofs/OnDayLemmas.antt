-- Civil seconds on days of a set: what a search that leaves the other days out has passed.
use Rattle.std.proofs.Common.{◌≡◌, ◌≢◌, ℕ, ◌/◌, ◌<◌, ℤ, pos, nat_lt, Bool, true, false, ◌&&◌, Option, Some, None, refl, sym, ap, ◌∙◌, subst, inl, inr, arith}
use Rattle.std.proofs.lemmas.Bool.{cases_lt}
use Rattle.jiff_core.proofs.SignedLemmas.{signed_arith}
use Rattle.cron_units.specs.declared.way.Way.{Way}
use Rattle.cron_units.specs.declared.way.Way.TheVariants.{Ahead, Back}
use Rattle.cron_units.specs.Nearest.{IsNearest, IsNearestAt, LiesFrom, Precedes}
use Rattle.cron_moments.specs.Civil.{days_in_range, seconds_in_range}
use Rattle.cron_time.specs.Seconds.{Seconds, is_match}
use Rattle.cron_days.specs.Days.{is_day}
use Rattle.cron_days.specs.Sets.{on_days}
use Rattle.cron_days.specs.Inner.Edges.{edge_of}
use Rattle.cron_days.specs.Inner.Reached.{IsReached, IsReachedAt, left_to_pass}

-- ---- directions

pub behind : (way : Way) (k n : ℕ) → (Precedes way k n → ⊥) → LiesFrom way (pos n) k
behind Ahead k n not = elim (cases_lt k n) [
  | inl less ↦ absurd (not less)
  | inr ge ↦ omega (arith, signed_arith)
]
behind Back k n not = elim (cases_lt n k) [
  | inl less ↦ absurd (not less)
  | inr ge ↦ omega (arith, signed_arith)
]

pub or_not : (way : Way) (k n : ℕ) (b : Bool) → (Precedes way k n → b ≡ false) → ((Precedes way k n → ⊥) → b ≡ false) → b ≡ false
or_not Ahead k n b if_so if_not = elim (cases_lt k n) [
  | inl less ↦ if_so less
  | inr ge ↦ if_not (λ less. omega arith)
]
or_not Back k n b if_so if_not = elim (cases_lt n k) [
  | inl less ↦ if_so less
  | inr ge ↦ if_not (λ less. omega arith)
]

day_behind : (way : Way) (n k : ℕ) → (Precedes way k n → ⊥) → LiesFrom way (pos (n / 86_400)) (k / 86_400)
day_behind Ahead n k not = let from = behind Ahead k n not in omega (arith, signed_arith)
day_behind Back n k not = let from = behind Back k n not in omega (arith, signed_arith)

at_edge : (way : Way) (k a : ℕ) → (Precedes way (k / 86_400) a → ⊥) → LiesFrom way (edge_of way a) k
at_edge Ahead k a not = let from = behind Ahead (k / 86_400) a not in omega (arith, signed_arith)
at_edge Back k a not = let from = behind Back (k / 86_400) a not in omega (arith, signed_arith)

edge_past : (way : Way) (n a k : ℕ) → LiesFrom way (pos (n / 86_400)) a → a ≢ n / 86_400 → LiesFrom way (edge_of way a) k → Precedes way n k
edge_past Ahead n a k from other lies =
    elim (cases_lt (n / 86_400) a) [
      | inl less ↦ omega (arith, signed_arith)
      | inr ge ↦ absurd (other (omega (arith, signed_arith)))
    ]
edge_past Back n a k from other lies =
    elim (cases_lt a (n / 86_400)) [
      | inl less ↦ omega (arith, signed_arith)
      | inr ge ↦ absurd (other (omega (arith, signed_arith)))
    ]

-- from the start a number lies where it lies from a number that does
pub lies_through : (way : Way) (from : ℤ) (n k : ℕ) → LiesFrom way from n → LiesFrom way (pos n) k → LiesFrom way from k
lies_through Ahead from n k lies past = omega (arith, signed_arith)
lies_through Back from n k lies past = omega (arith, signed_arith)

goes_on : (way : Way) (from : ℤ) (n k : ℕ) → LiesFrom way from n → Precedes way n k → LiesFrom way from k
goes_on Ahead from n k lies past = omega (arith, signed_arith)
goes_on Back from n k lies past = omega (arith, signed_arith)

-- ---- tests

no_match : (r a b : Bool) → (r && a) ≡ false → (r && (a && b)) ≡ false
no_match true true b h = cc
no_match true false b h = refl
no_match false a b h = refl

no_second : (r a b : Bool) → (r ≡ true → b ≡ false) → (r && (a && b)) ≡ false
no_second true true b h = h refl
no_second true false b h = refl
no_second false a b h = refl

matches_both : (r a b : Bool) → (r && a) ≡ true → b ≡ true → (r && (a && b)) ≡ true
matches_both true true b h g = g
matches_both true false b h g = h
matches_both false a b h g = h

second_of : (a b : Bool) → (a && b) ≡ true → b ≡ true
second_of true b h = h
second_of false b h = cc

day_in_range : (k : ℕ) → nat_lt k seconds_in_range ≡ true → nat_lt (k / 86_400) days_in_range ≡ true
day_in_range k h = grind arith

module _ (s : Seconds) (d : ℕ → Bool) where
  pub no_match_no_second : (k : ℕ) → is_match s k ≡ false → is_match (on_days s d) k ≡ false
  no_match_no_second k h = no_match (nat_lt k seconds_in_range) (s k) (d (k / 86_400)) h

  no_day_no_second : (k : ℕ) → is_day d (k / 86_400) ≡ false → is_match (on_days s d) k ≡ false
  no_day_no_second k h =
      no_second (nat_lt k seconds_in_range) (s k) (d (k / 86_400))
      (λ high. sym (ap (λ r. r && d (k / 86_400)) (day_in_range k high)) ∙ h)

  on_day : (n : ℕ) → is_match s n ≡ true → is_day d (n / 86_400) ≡ true → is_match (on_days s d) n ≡ true
  on_day n h g = matches_both (nat_lt n seconds_in_range) (s n) (d (n / 86_400)) h (second_of (nat_lt (n / 86_400) days_in_range) (d (n / 86_400)) g)

  -- ---- the search

  pub reached-first : (way : Way) (from : ℤ) (next : Option ℕ) → IsNearest way (is_match s) from next → IsReached way (is_match s) (is_match (on_days s d)) from next
  reached-first way from None none = λ k lies. no_match_no_second k (none k lies)
  reached-first way from (Some n) found = record {
    passes = found.passes;
    lies = found.lies;
    before = λ k lies past. no_match_no_second k (found.nearest k lies past);
  }

  pub reached-end : (way : Way) (from : ℤ) (n a : ℕ) → IsReachedAt way (is_match s) (is_match (on_days s d)) from n → IsNearestAt way (is_day d) (pos (n / 86_400)) a
      → a ≡ n / 86_400 → IsNearestAt way (is_match (on_days s d)) from n
  reached-end way from n a reached found same = record {
    passes = on_day n reached.passes (subst (λ m. is_day d m ≡ true) same found.passes);
    lies = reached.lies;
    nearest = reached.before;
  }

  pub reached-none : (way : Way) (from : ℤ) (n : ℕ) → IsReachedAt way (is_match s) (is_match (on_days s d)) from n → IsNearest way (is_day d) (pos (n / 86_400)) None
      → IsNearest way (is_match (on_days s d)) from None
  reached-none way from n reached none =
      λ k lies. or_not way k n (is_match (on_days s d) k) (reached.before k lies)
      (λ not. no_day_no_second k (none (k / 86_400) (day_behind way n k not)))

  between : (way : Way) (from : ℤ) (n a k : ℕ) → IsReachedAt way (is_match s) (is_match (on_days s d)) from n → IsNearestAt way (is_day d) (pos (n / 86_400)) a
      → LiesFrom way from k → (LiesFrom way (edge_of way a) k → is_match (on_days s d) k ≡ false) → is_match (on_days s d) k ≡ false
  between way from n a k reached found lies more =
      or_not way k n (is_match (on_days s d) k) (reached.before k lies)
      (λ not. or_not way (k / 86_400) a (is_match (on_days s d) k)
      (λ past. no_day_no_second k (found.nearest (k / 86_400) (day_behind way n k not) past))
      (λ on. more (at_edge way k a on)))

  pub reached-next : (way : Way) (from : ℤ) (n a : ℕ) (next : Option ℕ) → IsReachedAt way (is_match s) (is_match (on_days s d)) from n
      → IsNearestAt way (is_day d) (pos (n / 86_400)) a → a ≢ n / 86_400 → IsNearest way (is_match s) (edge_of way a) next
      → IsReached way (is_match s) (is_match (on_days s d)) from next
  reached-next way from n a None reached found other none =
      λ k lies. between way from n a k reached found lies (λ past. no_match_no_second k (none k past))
  reached-next way from n a (Some m) reached found other near = record {
    passes = near.passes;
    lies = goes_on way from n m reached.lies (edge_past way n a m found.lies other near.lies);
    before = λ k lies past. between way from n a k reached found lies (λ on. no_match_no_second k (near.nearest k on past));
  }

  pub less : (way : Way) (n a : ℕ) (next : Option ℕ) → n < seconds_in_range → IsNearestAt way (is_day d) (pos (n / 86_400)) a → a ≢ n / 86_400
      → IsNearest way (is_match s) (edge_of way a) next → left_to_pass way seconds_in_range next < left_to_pass way seconds_in_range (Some n)
  less Ahead n a None high found other none = omega arith
  less Back n a None high found other none = omega arith
  less Ahead n a (Some m) high found other near = let past = edge_past Ahead n a m found.lies other near.lies in omega arith
  less Back n a (Some m) high found other near = let past = edge_past Back n a m found.lies other near.lies in omega arith

  -- past one of the set, in its own day
  pub own_day : (way : Way) (from : ℤ) (second n : ℕ) → is_match (on_days s d) second ≡ true → IsNearestAt way (is_match s) from n → n / 86_400 ≡ second / 86_400
      → IsNearestAt way (is_match (on_days s d)) from n
  own_day way from second n h found same = record {
    passes = matches_both (nat_lt n seconds_in_range) (s n) (d (n / 86_400)) found.passes
        (ap d same ∙ second_of (s second) (d (second / 86_400)) (second_of (nat_lt second seconds_in_range) (on_days s d second) h));
    lies = found.lies;
    nearest = λ k lies past. no_match_no_second k (found.nearest k lies past);
  }

  pub own_match : (second : ℕ) → is_match (on_days s d) second ≡ true → is_match s second ≡ true
  own_match second h = weaker (nat_lt second seconds_in_range) (s second) (d (second / 86_400)) h
    where
      weaker : (r a b : Bool) → (r && (a && b)) ≡ true → (r && a) ≡ true
      weaker true true b h = refl
      weaker true false b h = h
      weaker false a b h = h
