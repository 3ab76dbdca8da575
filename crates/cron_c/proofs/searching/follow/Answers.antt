use Rattle.std.proofs.Common.{refl, sym, ◌∙◌}
use Rattle.jiff.specs.Words.{plain_zone}
use Rattle.cron_time.proofs.Walks.ResumeLemmas.{absent_past}
use Rattle.cron_c.specs.Structs.{sets_of}
use Rattle.cron_c.proofs.Items.{absent_item}
use Rattle.cron_c.proofs.searching.follow.Goals as goal

pub returns-in_default-moment_of : goal.returns-in_default-moment_of
returns-in_default-moment_of c =
    let zone = plain_zone c.in-Some.zone in
    (zone, c.in-Some.ensures, λ r is. absent_past (sets_of c.args.schedule.now) zone r (λ high. c.in_default-moment_of.ensures r is high), refl)

pub returns-in_default-beside : goal.returns-in_default-beside
returns-in_default-beside c =
    let zone = plain_zone c.in-Some.zone in
    let given = c.in-Some-moment_of.given in (
      zone,
      c.in-Some.ensures,
      λ r is. absent_item (sets_of c.args.schedule.now) zone given r c.args.item.now c.in-Some-moment_of.ensures.0
          c.in_default-beside.ensures is,
      refl,
    )

pub returns-in_default-answer : goal.returns-in_default-answer
returns-in_default-answer c =
    let (walk, resumed, answer) = c.in-Some-beside.ensures in (
      plain_zone c.in-Some.zone,
      walk,
      c.in-Some.ensures,
      (c.in-Some-moment_of.given, c.in-Some-moment_of.ensures.0, resumed),
      sym answer
          ∙ c.in_default-answer.is,
      refl,
    )

pub returns : goal.returns
returns c =
    let (walk, resumed, answer) = c.in-Some-beside.ensures in (
      plain_zone c.in-Some.zone,
      walk,
      c.in-Some-answer.found,
      c.in-Some.ensures,
      (c.in-Some-moment_of.given, c.in-Some-moment_of.ensures.0, resumed),
      sym answer ∙ c.in-Some-answer.is,
      c.item_of.ensures,
    )
