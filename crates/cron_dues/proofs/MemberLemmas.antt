-- The due fires of civil seconds that pass a test, in order: which they are, the first and the last of them.
use Rattle.std.proofs.Common.{◌≡◌, ℕ, ◌<◌, ◌≤◌, ℤ, pos, ◌*ℤ◌, ◌+ℤ◌, ◌-ℤ◌, ◌≤ℤ◌, nat_lt, Bool, true, false, ◌&&◌, List, map, Option, Some, None, refl, sym, ap, ◌∙◌, inl, inr, arith}
use Rattle.std.specs.Prelude.{filter}
use Rattle.std.specs.Int.{int_div_euclid}
use Rattle.std.proofs.lemmas.Bool.{cases_lt}
use Rattle.std.proofs.lemmas.Int.{by_lt_z}
use Rattle.jiff_core.proofs.SignedLemmas.{signed_arith}
use Rattle.cron_units.specs.declared.way.Way.TheVariants.{Ahead, Back}
use Rattle.cron_units.specs.Nearest.{IsNearestAt}
use Rattle.cron_time.specs.Seconds.{Seconds, is_match, numbers_below, matching_seconds}
use Rattle.cron_moments.specs.Civil.{seconds_in_range}
use Rattle.cron_seconds.proofs.IntLemmas.{int_le-true, int_lt-true}
use Rattle.cron_clocks.proofs.Windows.{le_yes, lt_yes}
use Rattle.cron_dues.specs.Clock.Due.{Clock, Due, due, due_instant, instant}
use Rattle.cron_dues.specs.Clock.Dues.{is_due_after, is_due_by, is_past}
use Rattle.cron_dues.specs.Clock.FirstDues.{IsFirst, IsLast}
use Rattle.cron_dues.specs.Reached.{IsReachedBy}
use Rattle.cron_dues.specs.Nearest.{IsNearestDue}
use Rattle.cron_dues.proofs.DueLemmas.{fire_due}
use Rattle.cron_time.proofs.ListLemmas.{Among, among-map, map-among}
use Rattle.cron_seconds.proofs.SetLemmas.{among-matching, match_in_range, matching-among}
use Rattle.cron_dues.specs.Ascent.{Ascends}
use Rattle.cron_dues.proofs.ListLemmas.{ascends-filter, ascends-map, numbers-ascend}

-- ---- the civil seconds that pass a test

-- the list ascends, and has the civil seconds of the range that pass the test
pub record AreMatches (cs : List ℕ) (test : ℕ → Bool) : Type 0 where
  pub up : Ascends (λ k. k) cs
  pub among : (c : ℕ) → test c ≡ true → Among cs c
  pub passing : (c : ℕ) → Among cs c → test c ≡ true
  pub range : (c : ℕ) → test c ≡ true → c < seconds_in_range

matching-ascend : (s : Seconds) → Ascends (λ k. k) (matching_seconds s)
unfolding matching_seconds
matching-ascend s = ascends-filter (λ k. k) s (numbers_below seconds_in_range) (numbers-ascend seconds_in_range)

-- so has that of a set
pub sets-match : (s : Seconds) → AreMatches (matching_seconds s) (is_match s)
sets-match s = record {
  up = matching-ascend s;
  among = among-matching s;
  passing = matching-among s;
  range = match_in_range s;
}

-- ---- numbers

pub less-true : (a b : ℕ) → nat_lt a b ≡ true → a < b
less-true a b h = grind arith

pub true-less : (a b : ℕ) → a < b → nat_lt a b ≡ true
true-less a b h = grind arith

pub not_both : (b : Bool) → b ≡ true → b ≡ false → ⊥
not_both b t f = cc

abbrev pub second_of : ℤ → ℤ
second_of t = int_div_euclid t (pos 1_000_000_000)

-- ---- their due fires

module _ (cs : List ℕ) (test : ℕ → Bool) (clock : Clock) (are : AreMatches cs test) where
  pub all-ascend : Ascends (λ (d : Due). d.second) (map (due clock) cs)
  all-ascend = ascends-map (λ (d : Due). d.second) (due clock) cs are.up

  pub due-of : (c : ℕ) → test c ≡ true → Among (map (due clock) cs) (due clock c)
  due-of c h = map-among (due clock) cs c (are.among c h)

  -- a due fire is that of its nominal second, which passes the test
  pub record IsOwn (d : Due) : Type 0 where
    pub matching : test d.second ≡ true
    pub own : d ≡ due clock d.second

  pub own-of : (d : Due) → Among (map (due clock) cs) d → IsOwn d
  own-of d h =
      let source = among-map (due clock) cs d h in
      let second : d.second ≡ source.of = ap (λ (e : Due). e.second) source.is in
      record {
        matching = rw second (are.passing source.of source.there);
        own = source.is ∙ ap (due clock) (sym second);
      }

  pub nearest-own : (d : Due) → test d.second ≡ true → d ≡ due clock d.second → Among (map (due clock) cs) d
  nearest-own d match own = rw own (due-of d.second match)

  -- ---- the first and the last of them

  pub ahead_least : (start : ℤ) (c k : ℕ) → IsNearestAt Ahead test start c → test k ≡ true → start ≤ℤ pos k → c ≤ k
  ahead_least start c k near match lies = elim (cases_lt k c) [
    | inl less ↦ absurd (not_both (test k) match (near.nearest k lies less))
    | inr ge ↦ ge
  ]

  back_greatest : (start : ℤ) (c k : ℕ) → IsNearestAt Back test start c → test k ≡ true → pos k ≤ℤ start → k ≤ c
  back_greatest start c k near match lies = elim (cases_lt c k) [
    | inl less ↦ absurd (not_both (test k) match (near.nearest k lies less))
    | inr ge ↦ ge
  ]

  pub first-of : (p : Due → Bool) (start : ℤ) (answer : Option Due)
      → ((c : ℕ) → test c ≡ true → p (due clock c) ≡ true → start ≤ℤ pos c) → ((c : ℕ) → test c ≡ true → start ≤ℤ pos c → p (due clock c) ≡ true)
      → IsNearestDue Ahead test clock start answer → IsFirst (λ d. Among (map (due clock) cs) d × (p d ≡ true)) answer
  first-of p start None lies passes none = λ d both.
      let own = own-of d both.0 in
      not_both (test d.second) own.matching (none d.second (lies d.second own.matching (ap p (sym own.own) ∙ both.1)))
  first-of p start (Some d) lies passes near = (
    (nearest-own d near.nearest.passes near.own, ap p near.own ∙ passes d.second near.nearest.passes near.nearest.lies),
    λ e both.
        let own = own-of e both.0 in
        ahead_least start d.second e.second near.nearest own.matching (lies e.second own.matching (ap p (sym own.own) ∙ both.1)),
  )

  pub last-of : (p : Due → Bool) (start : ℤ) (answer : Option Due)
      → ((c : ℕ) → test c ≡ true → p (due clock c) ≡ true → pos c ≤ℤ start) → ((c : ℕ) → test c ≡ true → pos c ≤ℤ start → p (due clock c) ≡ true)
      → IsNearestDue Back test clock start answer → IsLast (λ d. Among (map (due clock) cs) d × (p d ≡ true)) answer
  last-of p start None lies passes none = λ d both.
      let own = own-of d both.0 in
      not_both (test d.second) own.matching (none d.second (lies d.second own.matching (ap p (sym own.own) ∙ both.1)))
  last-of p start (Some d) lies passes near = (
    (nearest-own d near.nearest.passes near.own, ap p near.own ∙ passes d.second near.nearest.passes near.nearest.lies),
    λ e both.
        let own = own-of e both.0 in
        back_greatest start d.second e.second near.nearest own.matching (lies e.second own.matching (ap p (sym own.own) ∙ both.1)),
  )

  -- ---- by an instant

  pub after-lies : (t m : ℤ) → IsReachedBy clock (second_of t) m → (c : ℕ) → test c ≡ true → is_due_after t (due clock c) ≡ true → (m +ℤ pos 1) ≤ℤ pos c
  after-lies t m reached c match after =
      let due_at = fire_due clock c in
      let less = int_lt-true t (instant (due clock c) *ℤ pos 1_000_000_000) after in
      by_lt_z m (pos c)
      (λ more. omega (arith, signed_arith))
      (λ le. let by = (reached c (are.range c match)).0 le in absurd (omega (arith, signed_arith)))

  pub lies-after : (t m : ℤ) → IsReachedBy clock (second_of t) m → (c : ℕ) → test c ≡ true → (m +ℤ pos 1) ≤ℤ pos c → is_due_after t (due clock c) ≡ true
  lies-after t m reached c match lies =
      let due_at = fire_due clock c in
      by_lt_z (second_of t) (due_instant clock c)
      (λ late. lt_yes t (instant (due clock c) *ℤ pos 1_000_000_000) (omega (arith, signed_arith)))
      (λ by. let le = (reached c (are.range c match)).1 by in absurd (omega (arith, signed_arith)))

  by-lies : (t m : ℤ) → IsReachedBy clock (second_of t) m → (c : ℕ) → test c ≡ true → is_due_by t (due clock c) ≡ true → pos c ≤ℤ m
  by-lies t m reached c match by =
      let due_at = fire_due clock c in
      let le = int_le-true (instant (due clock c) *ℤ pos 1_000_000_000) t by in
      (reached c (are.range c match)).1 (omega (arith, signed_arith))

  lies-by : (t m : ℤ) → IsReachedBy clock (second_of t) m → (c : ℕ) → test c ≡ true → pos c ≤ℤ m → is_due_by t (due clock c) ≡ true
  lies-by t m reached c match lies =
      let due_at = fire_due clock c in
      let le = (reached c (are.range c match)).0 lies in
      le_yes (instant (due clock c) *ℤ pos 1_000_000_000) t (omega (arith, signed_arith))

  pub first_after : (t m : ℤ) (answer : Option Due) → IsReachedBy clock (second_of t) m → IsNearestDue Ahead test clock (m +ℤ pos 1) answer
      → IsFirst (λ d. Among (map (due clock) cs) d × (is_due_after t d ≡ true)) answer
  first_after t m answer reached near =
      first-of (is_due_after t) (m +ℤ pos 1) answer (after-lies t m reached) (lies-after t m reached) near

  pub last_by : (t m : ℤ) (answer : Option Due) → IsReachedBy clock (second_of t) m → IsNearestDue Back test clock m answer
      → IsLast (λ d. Among (map (due clock) cs) d × (is_due_by t d ≡ true)) answer
  last_by t m answer reached near = last-of (is_due_by t) m answer (by-lies t m reached) (lies-by t m reached) near

  pub first_past : (fire : Due) (answer : Option Due) → IsNearestDue Ahead test clock (pos fire.second +ℤ pos 1) answer
      → IsFirst (λ d. Among (map (due clock) cs) d × (is_past fire d ≡ true)) answer
  first_past fire answer near =
      first-of (is_past fire) (pos fire.second +ℤ pos 1) answer
      (λ c match past. let less = less-true fire.second c past in omega (arith, signed_arith))
      (λ c match lies. true-less fire.second c (omega (arith, signed_arith))) near

  pub last_before : (fire : Due) (answer : Option Due) → IsNearestDue Back test clock (pos fire.second -ℤ pos 1) answer
      → IsLast (λ d. Among (map (due clock) cs) d × (is_past d fire ≡ true)) answer
  last_before fire answer near =
      last-of (λ d. is_past d fire) (pos fire.second -ℤ pos 1) answer
      (λ c match past. let less = less-true c fire.second past in omega (arith, signed_arith))
      (λ c match lies. true-less c fire.second (omega (arith, signed_arith))) near
