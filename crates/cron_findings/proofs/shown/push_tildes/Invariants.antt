use Rattle.std.proofs.Common.{◌≡◌, ◌++◌, ◌∷◌, drop, map, take}
use Rattle.cron_findings.proofs.shown.push_tildes.Given as goal

-- a tilde was pushed for each column up to here
abbrev pub invariant-loop-column : goal.invariant-loop-column
invariant-loop-column l = l.text.items ≡ l.initial.text.items ++ map (λ _. 126) (take l.column-index l.columns)
