use Rattle.std.proofs.Common.{◌≡◌, ◌∙◌, ap, ℤ, pos, neg_ℤ, ◌-ℤ◌, w32, to_z, of_z, to_z-of_z, FitsSigned, arith}
use Rattle.std.proofs.lemmas.Int.{ints}
use Rattle.jiff_core.proofs.SignedLemmas.{signed_arith}
use Rattle.cron_dues.proofs.ReaderLemmas.{minus-is, offset-found, plus-is}
use Rattle.cron_dues.proofs.reader.offset_of.Goals as goal
use Rattle.cron_dues.proofs.reader.offset_of.Goals.{then-text-eq45, else-text-eq45}

pub returns : goal.returns
returns c = λ o is.
    let size = c.offset_size-size.ensures.value o is in
    let bound = c.offset_size-size.ensures.bound in
    let fits : FitsSigned w32 c.offset_size-size.result = omega (arith, ints, signed_arith) in
    let plus : to_z w32 (of_z w32 c.offset_size-size.result) ≡ c.offset_size-size.result = to_z-of_z fits in
    let other : FitsSigned w32 (pos 0 -ℤ c.offset_size-size.result) = omega (arith, ints, signed_arith) in
    let minus : to_z w32 (of_z w32 (pos 0 -ℤ to_z w32 (of_z w32 c.offset_size-size.result))) ≡ neg_ℤ c.offset_size-size.result =
    ap (λ (z : ℤ). to_z w32 (of_z w32 (pos 0 -ℤ z))) plus ∙ (to_z-of_z other ∙ omega (arith, signed_arith)) in
    let seconds : to_z w32 c.if-text-eq45.seconds-bits ≡ o.seconds = elim c.if-text-eq45.branch [
      | then-text-eq45 w ↦ w.seconds-is ∙ (minus ∙ (ap neg_ℤ size ∙ minus-is o.seconds c.args.text.now is w.if-text-eq45.true))
      | else-text-eq45 w ↦ w.seconds-is ∙ (plus ∙ (size ∙ plus-is o.seconds c.args.text.now is w.if-text-eq45.false))
    ] in
    c.ok.ensures.value
    ∙ offset-found c.from_seconds.result _ o c.from_seconds.ensures.value (c.from_seconds.ensures.succeeds.1) seconds
