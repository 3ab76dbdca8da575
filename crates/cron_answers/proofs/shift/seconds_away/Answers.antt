use Rattle.std.proofs.Common.{ℕ, ℤ, List, codes, inl, inr}
use Rattle.cron_answers.specs.Shifts.{IsSecondsAway, IsSigned}
use Rattle.cron_answers.proofs.shift.seconds_away.Goals as goal

none : (text : List ℕ) (n : ℤ) → ((k : ℤ) → IsSigned (codes "s") text k → ⊥) → ((k : ℤ) → IsSigned (codes "m") text k → ⊥)
    → ((k : ℤ) → IsSigned (codes "h") text k → ⊥) → IsSecondsAway text n → ⊥
none text n seconds minutes hours (inl h) = seconds n h
none text n seconds minutes hours (inr (inl h)) = minutes h.0 h.1
none text n seconds minutes hours (inr (inr h)) = hours h.0 h.1

pub returns-in-None-clause-amount : goal.returns-in-None-clause-amount
returns-in-None-clause-amount c = λ n h.
    none c.args.text.now n c.in_default.ensures.number c.in_default-signed.ensures.number c.in-None.ensures.number h
