use Rattle.std.proofs.Common.{ℕ, ℤ, List, codes, inl, inr}
use Rattle.cron_answers.specs.Shifts.{IsDaysAway, IsSigned}
use Rattle.cron_answers.proofs.shift.days_away.Goals as goal

none : (text : List ℕ) (n : ℤ) → ((k : ℤ) → IsSigned (codes "d") text k → ⊥) → ((k : ℤ) → IsSigned (codes "w") text k → ⊥) → IsDaysAway text n → ⊥
none text n days weeks (inl h) = days n h
none text n days weeks (inr h) = weeks h.0 h.1

pub returns-in-None-clause-amount : goal.returns-in-None-clause-amount
returns-in-None-clause-amount c = λ n h. none c.args.text.now n c.in_default.ensures.number c.in-None.ensures.number h
