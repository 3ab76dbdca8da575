use Rattle.std.proofs.Common.{◌≡◌, ◌+◌, ◌≤◌, ℕ, List, drop, map}
use Rattle.cron_tab_running.specs.Noted.{count_of, left_of}
use Rattle.cron_tab_running.proofs.noted.counts_of.Given as goal

-- what was counted, with what is to be counted of the entries that are left
abbrev pub invariant-loop-entry : goal.invariant-loop-entry
invariant-loop-entry l = record {
  counted : (e : List ℕ) → left_of l.counts e + count_of e (map (λ e. e.items) (drop l.entry-index l.entries)) ≡ count_of e (map (λ e. e.items) l.entries);
  few : (e : List ℕ) → left_of l.counts e ≤ l.entry-index;
}
