-- The civil seconds of one set that another doesn't have: what a search has passed.
use Rattle.std.proofs.Common.{◌≡◌, ℕ, ◌<◌, ◌≤◌, ℤ, pos, nat_lt, ◌==◌, Bool, true, false, ◌&&◌, not, Option, Some, None, refl, sym, ap, ◌∙◌, inl, inr, arith}
use Rattle.std.proofs.lemmas.Bool.{cases_eq, cases_lt, eq-eqb, ne_eqb}
use Rattle.jiff_core.proofs.SignedLemmas.{signed_arith}
use Rattle.cron_units.specs.declared.way.Way.{Way}
use Rattle.cron_units.specs.declared.way.Way.TheVariants.{Ahead, Back}
use Rattle.cron_units.specs.Nearest.{IsNearest, IsNearestAt, LiesFrom, Precedes}
use Rattle.cron_moments.specs.Civil.{seconds_in_range}
use Rattle.cron_time.specs.Search.Inner.Numbers.{beyond}
use Rattle.cron_time.specs.Seconds.{Seconds, is_match}
use Rattle.cron_days.specs.Sets.{except}
use Rattle.cron_days.proofs.OnDayLemmas.{behind, lies_through, or_not}
use Rattle.cron_days.specs.Inner.Reached.{IsReached, IsReachedAt, left_to_pass}

or_same : (way : Way) (k n : ℕ) (b : Bool) → (Precedes way k n → b ≡ false) → (k ≡ n → b ≡ false) → (LiesFrom way (beyond way n) k → b ≡ false) → b ≡ false
or_same Ahead k n b early same late = elim (cases_lt k n) [
  | inl less ↦ early less
  | inr ge ↦ elim (cases_lt n k) [
    | inl past ↦ late (omega (arith, signed_arith))
    | inr le ↦ same (omega arith)
  ]
]
or_same Back k n b early same late = elim (cases_lt n k) [
  | inl less ↦ early less
  | inr ge ↦ elim (cases_lt k n) [
    | inl past ↦ late (omega (arith, signed_arith))
    | inr le ↦ same (omega arith)
  ]
]

beyond_from : (way : Way) (from : ℤ) (n k : ℕ) → LiesFrom way from n → LiesFrom way (beyond way n) k → LiesFrom way from k
beyond_from Ahead from n k lies past = omega (arith, signed_arith)
beyond_from Back from n k lies past = omega (arith, signed_arith)

weaker : (r a b : Bool) → (r && a) ≡ false → (r && (a && b)) ≡ false
weaker true true b h = cc
weaker true false b h = refl
weaker false a b h = refl

taken : (r a b : Bool) → (r && b) ≡ true → (r && (a && not b)) ≡ false
taken true true true h = refl
taken true false true h = refl
taken true a false h = cc
taken false a b h = refl

kept : (r a b : Bool) → (r && a) ≡ true → (r && b) ≡ false → (r && (a && not b)) ≡ true
kept true true true h g = cc
kept true true false h g = refl
kept true false b h g = h
kept false a b h g = h

first_of : (r a b : Bool) → (r && (a && not b)) ≡ true → (r && a) ≡ true
first_of true true b h = refl
first_of true false b h = h
first_of false a b h = h

module _ (s t : Seconds) where
  nothing_more : (k : ℕ) → is_match s k ≡ false → is_match (except s t) k ≡ false
  nothing_more k h = weaker (nat_lt k seconds_in_range) (s k) (not (t k)) h

  pub own_match : (k : ℕ) → is_match (except s t) k ≡ true → is_match s k ≡ true
  own_match k h = first_of (nat_lt k seconds_in_range) (s k) (t k) h

  pub reached-first : (way : Way) (from : ℤ) (next : Option ℕ) → IsNearest way (is_match s) from next → IsReached way (is_match s) (is_match (except s t)) from next
  reached-first way from None none = λ k lies. nothing_more k (none k lies)
  reached-first way from (Some n) found = record {
    passes = found.passes;
    lies = found.lies;
    before = λ k lies past. nothing_more k (found.nearest k lies past);
  }

  pub reached-end : (way : Way) (from : ℤ) (n : ℕ) → IsReachedAt way (is_match s) (is_match (except s t)) from n → is_match t n ≡ false
      → IsNearestAt way (is_match (except s t)) from n
  reached-end way from n reached out = record {
    passes = kept (nat_lt n seconds_in_range) (s n) (t n) reached.passes out;
    lies = reached.lies;
    nearest = reached.before;
  }

  between : (way : Way) (from : ℤ) (n k : ℕ) → IsReachedAt way (is_match s) (is_match (except s t)) from n → is_match t n ≡ true → LiesFrom way from k
      → (LiesFrom way (beyond way n) k → is_match (except s t) k ≡ false) → is_match (except s t) k ≡ false
  between way from n k reached has lies more =
      or_same way k n (is_match (except s t) k) (reached.before k lies)
      (λ same. ap (is_match (except s t)) same ∙ taken (nat_lt n seconds_in_range) (s n) (t n) has) more

  pub reached-next : (way : Way) (from : ℤ) (n : ℕ) (next : Option ℕ) → IsReachedAt way (is_match s) (is_match (except s t)) from n → is_match t n ≡ true
      → IsNearest way (is_match s) (beyond way n) next → IsReached way (is_match s) (is_match (except s t)) from next
  reached-next way from n None reached has none =
      λ k lies. between way from n k reached has lies (λ past. nothing_more k (none k past))
  reached-next way from n (Some m) reached has near = record {
    passes = near.passes;
    lies = beyond_from way from n m reached.lies near.lies;
    before = λ k lies past. between way from n k reached has lies (λ on. nothing_more k (near.nearest k on past));
  }

pub less : (way : Way) (s : Seconds) (n : ℕ) (next : Option ℕ) → n < seconds_in_range → IsNearest way (is_match s) (beyond way n) next
    → left_to_pass way seconds_in_range next < left_to_pass way seconds_in_range (Some n)
less Ahead s n None high none = omega arith
less Back s n None high none = omega arith
less Ahead s n (Some m) high near = let lies = near.lies in omega (arith, signed_arith)
less Back s n (Some m) high near = let lies = near.lies in omega (arith, signed_arith)

-- ---- one civil second

module _ (s : Seconds) (second : ℕ) where
  pub second_found : (next : ℕ) → IsNearestAt Ahead (is_match s) (pos second) next → (next == second) ≡ is_match s second
  second_found next found = elim (cases_eq next second) [
    | inl same ↦ eq-eqb next second same ∙ sym (ap (is_match s) (sym same) ∙ found.passes)
    | inr other ↦ let lies = found.lies in ne_eqb next second other ∙ sym (found.nearest second (omega (arith, signed_arith)) (after other (omega (arith, signed_arith))))
  ]
    where
      after : (next ≡ second → ⊥) → second ≤ next → second < next
      after other le = elim (cases_lt second next) [
        | inl less ↦ less
        | inr ge ↦ absurd (other (omega arith))
      ]

  pub second_missing : IsNearest Ahead (is_match s) (pos second) None → false ≡ is_match s second
  second_missing none = sym (none second (omega (arith, signed_arith)))

-- ---- from a number that may lie out of range

module _ (s : Seconds) (way : Way) (from : ℤ) where
  out_of_range : (k : ℕ) → is_match (λ c. true) k ≡ false → is_match s k ≡ false
  out_of_range k h = outside (nat_lt k seconds_in_range) (s k) h
    where
      outside : (r a : Bool) → (r && true) ≡ false → (r && a) ≡ false
      outside true a h = cc
      outside false a h = refl

  pub start_none : IsNearest way (is_match (λ c. true)) from None → IsNearest way (is_match s) from None
  start_none none = λ k lies. out_of_range k (none k lies)

  pub start_some : (start : ℕ) (found : Option ℕ) → IsNearestAt way (is_match (λ c. true)) from start → IsNearest way (is_match s) (pos start) found → IsNearest way (is_match s) from found
  start_some start None is none =
      λ k lies. or_not way k start (is_match s k) (λ past. out_of_range k (is.nearest k lies past)) (λ not. none k (behind way k start not))
  start_some start (Some n) is near = record {
    passes = near.passes;
    lies = lies_through way from start n is.lies near.lies;
    nearest = λ k lies past. or_not way k start (is_match s k) (λ early. out_of_range k (is.nearest k lies early)) (λ not. near.nearest k (behind way k start not) past);
  }
