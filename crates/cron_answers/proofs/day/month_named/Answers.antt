use Rattle.std.proofs.Common.{◌≡◌, Option, Some, None, IfSome, MatchOption}
use Rattle.cron_answers.proofs.day.month_named.Goals as goal

None≢Some : {A : Type 0} {x : A} → None ≡ Some x → ⊥
None≢Some h = cc

-- an answer that has the property, and is what has it
tells : {A : Type 0} (P : A → Type 0) (r : Option A) → IfSome r P → ((x : A) → P x → r ≡ Some x) → MatchOption r ((x : A) → P x → ⊥) P
tells P None some only = λ x p. None≢Some (only x p)
tells P (Some x) some only = some

pub returns : goal.returns
returns c = rw (← c.as_bytes.ensures.value) (tells _ c.month_of.result c.month_of.ensures.names c.month_of.ensures.only)
