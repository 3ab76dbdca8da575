use Rattle.std.proofs.Common.{◌≡◌, ◌++◌, [], ◌∷◌, drop, map}
use Rattle.std.specs.List.{flat_map}
use Rattle.cron_tab_running.proofs.noted.push_entries.Given as goal

-- what was appended, with the lines of the entries that are left
abbrev pub invariant-loop-entry : goal.invariant-loop-entry
invariant-loop-entry l =
    l.text.items ++ flat_map (λ e. e ++ 10 ∷ []) (map (λ e. e.items) (drop l.entry-index l.entries))
    ≡ l.initial.text.items ++ flat_map (λ e. e ++ 10 ∷ []) (map (λ e. e.items) l.entries)
