use Rattle.std.proofs.Common.{◌≡◌, ◌≤◌, ◌<◌, ◌*◌, ℕ, ℤ, pos, ◌+ℤ◌, length, get_or, take}
use Rattle.std.specs.Prelude.{MatchOption}
use Rattle.cron_collisions.specs.Collisions.{pairs, CollideFirst}
use Rattle.cron_collisions.specs.Inner.Below.{before, below}
use Rattle.cron_collisions.proofs.collisions.collisions_of.Given as goal

-- the pairs of the fires so far, the first of them, and what is known of the windows of the others
abbrev pub invariant-loop-place : goal.invariant-loop-place
invariant-loop-place l = record {
  count : l.pairs ≡ pairs l.length (take l.place l.first) l.second;
  fits : l.pairs ≤ l.place * length l.second;
  found : MatchOption l.found (pairs l.length (take l.place l.first) l.second ≡ 0) (λ f. CollideFirst l.length l.first l.second f.0 f.1);
  ended : (k : ℕ) (d : ℤ) → l.place ≤ k → k < length l.first → l.window.ended ≤ below (before l.length (get_or l.first k d)) l.second;
  begun : (k : ℕ) (d : ℤ) → l.place ≤ k → k < length l.first → l.window.begun ≤ below (get_or l.first k d +ℤ pos l.length) l.second;
}
