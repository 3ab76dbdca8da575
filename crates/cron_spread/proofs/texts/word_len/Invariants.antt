use Rattle.std.proofs.Common.{◌≡◌, ◌+◌, drop, not}
use Rattle.std.specs.List.{prefix_len}
use Rattle.cron_text.specs.Tokens.{is_space}
use Rattle.cron_spread.proofs.texts.word_len.Given as goal

-- the bytes up to here pass
abbrev pub invariant-loop-byte : goal.invariant-loop-byte
invariant-loop-byte l = (l.at + prefix_len (λ c. not (is_space c)) (drop l.byte-index l.text) ≡ prefix_len (λ c. not (is_space c)) l.text) × (l.at ≡ l.byte-index)
