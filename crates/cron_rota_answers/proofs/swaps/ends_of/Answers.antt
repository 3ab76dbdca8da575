use Rattle.std.proofs.Common.{refl, inl, inr, arith}
use Rattle.std.proofs.lemmas.Int.{ints}
use Rattle.cron_rota_answers.proofs.swaps.ends_of.Goals as goal

pub returns-in_default : goal.returns-in_default
returns-in_default c = inl (refl, c.in_default.ensures)

pub returns-in_default-instant_of : goal.returns-in_default-instant_of
returns-in_default-instant_of c = inr (_, (c.in-Some.first.nanosecond, c.in-Some.ensures, refl), refl, c.in_default-instant_of.ensures)

pub returns-then-until-from : goal.returns-then-until-from
returns-then-until-from c = (
  refl,
  refl,
  (
    c.second_of-from.result,
    c.second_of-until.result,
    (
      (c.in-Some.first.nanosecond, c.in-Some.ensures, c.second_of-from.ensures.second),
      (c.in-Some-instant_of.last.nanosecond, c.in-Some-instant_of.ensures, c.second_of-until.ensures.second),
    ),
    omega (arith, ints, c.if-until-from.true),
  ),
)
