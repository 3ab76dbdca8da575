-- Calls one after another.
use Rattle.std.proofs.Common.{[], ◌∷◌, Result, Ok, Err, refl, inl, inr}
use Rattle.std.specs.Prelude.{⊤}
use Rattle.std.specs.declared.io.Error.{Error}
use Rattle.cron_notes.specs.Changes.{Change, AreMade}

-- the last call, whatever it answers
pub made_last : {S : Type 0} (does : S → Change → Result ⊤ Error → S → Type 0) (c : Change) (old new : S) (answer : Result ⊤ Error)
    → does old c answer new → AreMade does (c ∷ []) old answer new
made_last does c old new (Ok done) h = inr (new, h, (refl, refl))
made_last does c old new (Err e) h = inl (e, h, refl)
