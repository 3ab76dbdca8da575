use Rattle.std.proofs.Common.{◌≡◌, nat_lt, drop}
use Rattle.cron_text.specs.Meaning.{trimmed_front}
use Rattle.cron_text.specs.Tokens.{tokens, after_gap}
use Rattle.cron_text.proofs.tokens.skip_space.Given as goal

-- the bytes before the index are white space
abbrev pub invariant-loop-at : goal.invariant-loop-at
invariant-loop-at l =
    (tokens (drop l.from l.text) ≡ after_gap (nat_lt l.from l.at) (tokens (drop l.at l.text)))
    × (trimmed_front (drop l.from l.text) ≡ trimmed_front (drop l.at l.text))
