use Rattle.std.proofs.Common.{◌≡◌, ◌+◌, ◌*◌, ◌<◌, ◌≤◌, ℕ, Bool, true, false, List, Some, arith, ap, sym, refl, ◌∙◌, length}
use Rattle.std.specs.Prelude.{nat_lt, slice_get}
use Rattle.std.proofs.lemmas.Option.{slice_get_within}
use Rattle.cron_c.specs.Savings.{first_flag}
use Rattle.cron_c.proofs.savings.types_tell_saving.Goals as goal

-- no flag is read past the end of the bytes
none_past : (bytes : List ℕ) (first at i flag : ℕ) (past : nat_lt (first + at * 6) (length bytes) ≡ false) (less : Bool)
    → nat_lt i at ≡ less
    → (i < at → slice_get bytes (first + i * 6) ≡ Some flag → flag ≤ 1) → slice_get bytes (first + i * 6) ≡ Some flag → flag ≤ 1
none_past bytes first at i flag past true e before get = before (grind arith) get
none_past bytes first at i flag past false e before get =
    let within = slice_get_within bytes (first + i * 6) flag get in absurd (grind arith)

pub returns-in-None : goal.returns-in-None
returns-in-None c = (
  λ is long i flag below get.
      none_past c.args.bytes.now (first_flag c.args.time_size c.args.bytes.now) c.loop-at.at i flag
      (ap (λ first. nat_lt (first + c.loop-at.at * 6) (length c.args.bytes.now)) (sym c.flag_of_first-first.ensures.value) ∙ sym c.in-None.ensures.lookup.0)
      (nat_lt i c.loop-at.at) refl
      (c.loop-at.invariant i flag) get,
  λ told. refl,
)
