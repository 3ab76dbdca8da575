use Rattle.std.proofs.Common.{◌≡◌, ◌+◌, ◌==◌, drop, not}
use Rattle.std.specs.List.{prefix_len}
use Rattle.cron_spread.proofs.forms.position.Given as goal

-- no place up to here has the byte
abbrev pub invariant-loop-byte : goal.invariant-loop-byte
invariant-loop-byte l =
    (l.at + prefix_len (λ c. not (c == l.sign)) (drop l.byte-index l.text) ≡ prefix_len (λ c. not (c == l.sign)) l.text) × (l.at ≡ l.byte-index)
