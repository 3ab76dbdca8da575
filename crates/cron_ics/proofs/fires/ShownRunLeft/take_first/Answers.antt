use Rattle.std.proofs.Common.{◌≡◌, ap, map, of_z, to_z, ◌∙◌, arith}
use Rattle.std.proofs.lemmas.Int.{ints}
use Rattle.std.specs.Int.{w64}
use Rattle.jiff.specs.Words.{civil_nanos}
use Rattle.jiff_core.proofs.SignedLemmas.{signed_arith}
use Rattle.cron_moments.specs.Readings.{instant}
use Rattle.cron_ics.specs.Fires.{told_moment}
use Rattle.cron_ics.proofs.FireLemmas.{at_utc}
use Rattle.cron_ics.proofs.fires.ShownRunLeft.take_first.Goals as goal

pub returns-in-Some : goal.returns-in-Some
returns-in-Some c =
    let second : to_z w64 (of_z w64 c.instant_of.result) ≡ instant c.in-Some.moment =
    omega (arith, ints, signed_arith, c.instant_of.ensures.value, c.instant_of.ensures.bound) in (
      told_moment c.in-Some.moment,
      ap (map told_moment) c.in-Some.ensures.steps,
      (
        c.fire_of.ensures.second ∙ second,
        c.fire_of.ensures.civil ∙ c.civil_second.ensures,
        ap civil_nanos c.fire_of.ensures.utc ∙ at_utc _ _ (instant c.in-Some.moment) c.to_datetime.ensures c.timestamp.ensures,
      ),
    )
