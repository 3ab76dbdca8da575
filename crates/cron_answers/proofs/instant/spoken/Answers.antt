use Rattle.std.proofs.Common.{inl, inr, refl, arith, FitsSigned, w64, to_z-of_z}
use Rattle.jiff_core.proofs.SignedLemmas.{signed_arith}
use Rattle.cron_answers.proofs.instant.spoken.Goals as goal

pub returns-in-Some : goal.returns-in-Some
returns-in-Some c =
    let fits : FitsSigned w64 c.in-Some.seconds = omega (arith, signed_arith, c.in-Some.ensures.bound) in
    inl (c.in-Some.seconds, c.in-Some.ensures.amount, rw (to_z-of_z fits) at c.later.ensures)

pub returns-in-Some-said_at : goal.returns-in-Some-said_at
returns-in-Some-said_at c =
    let fits : FitsSigned w64 c.in-Some-said_at.second = omega (arith, signed_arith, c.in-Some-said_at.ensures.bound) in
    inr (c.in_default.ensures.amount, inl (c.in-Some-said_at.second, c.in-Some-said_at.ensures.second, rw (to_z-of_z fits) at c.instant_at.ensures))

pub returns-in-None : goal.returns-in-None
returns-in-None c = inr (c.in_default.ensures.amount, inr (c.in-None.ensures.second, refl))
