-- Seconds of instants, and the state around one.
use Rattle.std.proofs.Common.{◌≡◌, ℤ, pos, ◌*ℤ◌, Bool, Option, Some, subst, arith}
use Rattle.std.specs.Prelude.{MatchOption}
use Rattle.std.specs.Bool.{beq}
use Rattle.jiff_core.proofs.SignedLemmas.{signed_arith}
use Rattle.jiff_core.specs.Timestamp.{IsTimestampNanos}
use Rattle.cron_stretches.specs.Fires.{IsInstant, second_of}
use Rattle.cron_stretches.specs.Stretches.{IsGreatest}
use Rattle.cron_stretches.specs.declared.stretch.Stretch.{Stretch}

-- each instant lies in a second that begins at one
pub instant-second : (t : ℤ) → IsTimestampNanos t → IsInstant (second_of t)
instant-second t h = (omega (arith, signed_arith), omega (arith, signed_arith))

-- the state that was found is that between the bounds
pub state-is : (test : ℤ → Bool) (None-case : Type 0) (from at to first second end : ℤ) (found : Option (Stretch Bool)) (s : Stretch Bool) → found ≡ Some s
    → MatchOption found None-case (IsGreatest beq test first second end) → first ≡ from → second ≡ at → end ≡ to → IsGreatest beq test from at to s
state-is test none from at to first second end found s is h e1 e2 e3 =
    let some : IsGreatest beq test first second end s = subst (λ f. MatchOption f none (IsGreatest beq test first second end)) is h in
    subst (λ (n : ℤ). IsGreatest beq test from at n s) e3 (subst (λ (n : ℤ). IsGreatest beq test from n end s) e2 (subst (λ (n : ℤ). IsGreatest beq test n second end s) e1 some))
