use Rattle.std.proofs.Common.{◌≡◌, ℕ, List, ◌++◌}
use Rattle.std.specs.Prelude.{ℤ}
use Rattle.std.specs.Char.{encode_utf8}
use Rattle.cron_answers.specs.Instants.{IsCounted}
use Rattle.cron_answers.proofs.instant.counted.Goals as goal

-- a text that doesn't begin with `@`
no_count : (text : List ℕ) → ((rest : List ℕ) → text ≡ encode_utf8 64 ++ rest → ⊥) → (t : ℤ) → IsCounted text t → ⊥
unfolding encode_utf8
no_count text none t told = none told.0 told.1

pub returns-in_default : goal.returns-in_default
returns-in_default c = no_count c.args.text.now c.in_default.ensures.cases
