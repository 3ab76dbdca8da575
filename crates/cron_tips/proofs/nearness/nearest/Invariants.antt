use Rattle.std.proofs.Common.{◌≡◌, ◌<◌, ◌≤◌, ℕ, get_or, map}
use Rattle.std.specs.Prelude.{MatchOption}
use Rattle.cron_tips.specs.Nearest.{distances, reach}
use Rattle.cron_tips.proofs.nearness.nearest.Given as goal

-- no name so far takes fewer edits than the least, which is that of the first of the nearest, or
-- too many
abbrev pub invariant-loop-at : goal.invariant-loop-at
invariant-loop-at l = record {
  few : l.least ≤ reach l.word;
  least : (k : ℕ) → k < l.at → l.least ≤ get_or (distances l.word (map (λ n. n.now) l.names)) k 0;
  found : MatchOption l.found (l.least ≡ reach l.word) (λ i.
      (i < l.at) × (get_or (distances l.word (map (λ n. n.now) l.names)) i 0 ≡ l.least) × (l.least < reach l.word)
      × ((k : ℕ) → k < i → l.least < get_or (distances l.word (map (λ n. n.now) l.names)) k 0));
}
