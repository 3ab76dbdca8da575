use Rattle.std.proofs.Common.{ℕ, ℤ, List, codes, inl, inr}
use Rattle.cron_answers.specs.Shifts.{IsCountOf, IsSigned}
use Rattle.cron_answers.proofs.shift.signed.Goals as goal

none : (unit text : List ℕ) (n : ℤ) → ((k : ℕ) → IsCountOf (codes "+") unit text k → ⊥) → ((k : ℕ) → IsCountOf (codes "-") unit text k → ⊥)
    → IsSigned unit text n → ⊥
none unit text n plus minus (inl h) = plus h.0 h.1
none unit text n plus minus (inr h) = minus h.0 h.1

pub returns-in-None-clause-number : goal.returns-in-None-clause-number
returns-in-None-clause-number c = λ n h. none c.args.unit.now c.args.text.now n c.in_default.ensures c.in-None.ensures h
