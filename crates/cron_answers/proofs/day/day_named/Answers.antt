use Rattle.std.proofs.Common.{◌≡◌, ℕ, List, inl, inr, codes}
use Rattle.cron_answers.specs.Days.{IsDay, NamesWeekday}
use Rattle.cron_answers.proofs.day.day_named.Goals as goal

-- another word names no day
no_day : (word : List ℕ) (today day : ℕ) → (word ≡ codes "today" → ⊥) → (word ≡ codes "tomorrow" → ⊥) → (word ≡ codes "yesterday" → ⊥)
    → ((n : ℕ) → NamesWeekday word n → ⊥) → IsDay word today day → ⊥
no_day word today day a b c d (inl h) = a h.0
no_day word today day a b c d (inr (inl h)) = b h.0
no_day word today day a b c d (inr (inr (inl h))) = c h.0
no_day word today day a b c d (inr (inr (inr h))) = d h.0 h.1

pub returns-in-None-clause-names : goal.returns-in-None-clause-names
returns-in-None-clause-names c = λ day h.
    no_day c.args.word.now c.args.today day c.in_default.not-today c.in_default.not-tomorrow c.in_default.not-yesterday c.in-None.ensures.names h
