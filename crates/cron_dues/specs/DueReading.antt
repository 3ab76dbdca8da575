-- Due fires that are read from their texts.
use Rattle.std.specs.Prelude.{◌≡◌, ℕ, List}
use Rattle.cron_dues.specs.Due.{CanBeDue, Due}
use Rattle.cron_dues.specs.DueText.{due_text}

-- a clock can have the due fire, and this is its text
abbrev pub HasText : List ℕ → Due → Type 0
HasText text d = CanBeDue d × (due_text d ≡ text)

-- no two due fires that clocks can have share a text
abbrev pub TextsDiffer : Type 0
TextsDiffer = (d e : Due) → CanBeDue d → CanBeDue e → due_text d ≡ due_text e → d ≡ e
