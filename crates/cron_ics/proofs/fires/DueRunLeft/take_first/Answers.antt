use Rattle.std.proofs.Common.{◌≡◌, ap, map, of_z, to_z, ◌∙◌, arith}
use Rattle.std.proofs.lemmas.Int.{ints}
use Rattle.std.specs.Int.{w64}
use Rattle.jiff.specs.Words.{civil_nanos}
use Rattle.jiff_core.proofs.SignedLemmas.{signed_arith}
use Rattle.cron_dues.specs.Due.{instant}
use Rattle.cron_ics.specs.Fires.{told_due}
use Rattle.cron_ics.proofs.FireLemmas.{at_utc}
use Rattle.cron_ics.proofs.fires.DueRunLeft.take_first.Goals as goal

pub returns-in-Some : goal.returns-in-Some
returns-in-Some c =
    let second : to_z w64 (of_z w64 c.due_second.result) ≡ instant c.in-Some.due =
    omega (arith, ints, signed_arith, c.due_second.ensures.value, c.due_second.ensures.bound) in (
      told_due c.in-Some.due,
      ap (map told_due) c.in-Some.ensures.steps,
      (
        c.fire_of.ensures.second ∙ second,
        c.fire_of.ensures.civil ∙ c.nominal_second.ensures,
        ap civil_nanos c.fire_of.ensures.utc ∙ at_utc _ _ (instant c.in-Some.due) c.to_datetime.ensures c.timestamp.ensures,
      ),
    )
