-- What a format shows of one moment.
use Rattle.std.proofs.Common.{◌≡◌, ◌⊎◌, ℕ, pos, List, Result, Ok, Err, IfErr, IfOk, inl, inr}
use Rattle.jiff_core.specs.declared.error.Error.{Error}
use Rattle.jiff_core.specs.declared.error.Error.TheVariants.{OutOfMemory}
use Rattle.cron_moments.specs.Readings.{Reading}
use Rattle.cron_looks.specs.Formats.{IsFormatted, IsTried}

pub tried : (format : List ℕ) (m : Reading) (shown : Result (List ℕ) Error) → (m.second ≡ 0) × (m.offset.seconds ≡ pos 0) → IsFormatted format m shown
    → IsTried format shown
tried format m shown at is = (m, at.0, at.1, is)

pub tried_ok : {A : Type 0} (format : List ℕ) (m : Reading) (items : A → List ℕ) (result : Result A Error) → (m.second ≡ 0) × (m.offset.seconds ≡ pos 0)
    → IfOk result (λ v. IsFormatted format m (Ok (items v))) → IfOk result (λ v. IsTried format (Ok (items v)))
tried_ok format m items (Ok v) at is = tried format m (Ok (items v)) at is
tried_ok format m items (Err e) at is = is

pub tried_err : {A : Type 0} (format : List ℕ) (m : Reading) (result : Result A Error) → (m.second ≡ 0) × (m.offset.seconds ≡ pos 0)
    → IfErr result (λ e. (e ≡ OutOfMemory) ⊎ IsFormatted format m (Err e)) → IfErr result (λ e. (e ≡ OutOfMemory) ⊎ IsTried format (Err e))
tried_err format m (Ok v) at is = is
tried_err format m (Err e) at is = elim is [ inl h ↦ inl h | inr h ↦ inr (tried format m (Err e) at h) ]
