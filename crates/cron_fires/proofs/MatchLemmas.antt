-- The next match, from the nearest one by a search.
use Rattle.std.proofs.Common.{◌≡◌, ℕ, ◌<◌, true, ℤ, pos, ◌+ℤ◌, Option, Some, None, inl, inr, arith}
use Rattle.std.proofs.lemmas.Bool.{both_ways, cases_lt}
use Rattle.jiff_core.proofs.SignedLemmas.{signed_arith}
use Rattle.cron_units.specs.declared.way.Way.TheVariants.{Ahead}
use Rattle.cron_units.specs.Nearest.{IsNearest}
use Rattle.cron_time.specs.Seconds.{Seconds, is_match}
use Rattle.cron_seconds.proofs.SetLemmas.{passes_in, passes_of, range_of}
use Rattle.cron_fires.specs.Matches.{IsNextMatch, Matches}

pub is_match_of : (s : Seconds) (c : ℕ) → Matches s c → is_match s c ≡ true
is_match_of s c h = passes_in c (s c) h.0 h.1

pub matches_of : (s : Seconds) (c : ℕ) → is_match s c ≡ true → Matches s c
matches_of s c h = (range_of c (s c) h, passes_of c (s c) h)

pub next_of : (s : Seconds) (c : ℕ) (next : Option ℕ) → IsNearest Ahead (is_match s) (pos c +ℤ pos 1) next → IsNextMatch s c next
next_of s c None none = λ k h.
    elim (cases_lt c k) [
      | inl less ↦ absurd (both_ways (is_match s k) (none k (omega (arith, signed_arith))) (is_match_of s k h))
      | inr le ↦ le
    ]
next_of s c (Some n) found = (
  matches_of s n found.passes,
  (let lies = found.lies in omega (arith, signed_arith)),
  λ k h behind.
      elim (cases_lt k n) [
        | inl less ↦ absurd (both_ways (is_match s k) (found.nearest k (omega (arith, signed_arith)) less) (is_match_of s k h))
        | inr le ↦ le
      ],
)
