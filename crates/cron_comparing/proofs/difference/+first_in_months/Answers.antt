use Rattle.std.proofs.Common.{◌<◌, ◌+◌, length, take, get_or, refl, sym, subst, arith}
use Rattle.cron_unions.specs.declared.units.Unit.TheVariants.{Year}
use Rattle.cron_comparing.proofs.DifferenceLemmas.{IsSharing, all_units, part_in_months, sharing_all, sharing_kept, sharing_more}
use Rattle.cron_comparing.proofs.difference.+first_in_months.Goals.{then-begins_before, else-begins_before}
use Rattle.cron_comparing.proofs.difference.+first_in_months.Goals as goal

pub first_in_months-requires : goal.first_in_months-requires
first_in_months-requires t c =
    let less : length c.in-Some.rest.now < t = omega (arith, c.in-Some.ensures.cases.1, c.decreases) in
    let u = get_or all_units c.loop-unit.unit-index Year in (
      less,
      (
        c.requires.length,
        (
          c.outside-part.ensures.unmarked,
          part_in_months c.args.length c.args.fields.now c.in_months_of-other.result c.loop-unit.shared c.outside-part.result
              (take c.loop-unit.unit-index all_units) u c.requires.months c.loop-unit.invariant.matching c.outside-part.ensures.matches,
        ),
      ),
    )

pub loop-unit-preserved : goal.loop-unit-preserved
loop-unit-preserved t c =
    let u = get_or all_units c.loop-unit.unit-index Year in
    let i = c.loop-unit.unit-index in
    let P = IsSharing c.args.fields.now c.in_months_of-other.result c.in-Some.rest.now (take (i + 1) all_units) c.inside-shared.result in
    elim c.if-begins_before.branch [
      | then-begins_before w ↦ subst P (sym w.first-is)
          (sharing_more c.args.fields.now c.in_months_of-other.result c.loop-unit.shared c.outside-part.result c.inside-shared.result c.in-Some.rest.now
          all_units i u Year c.loop-unit.first w.first_in_months.result w.earlier-first.result c.loop-unit-test.true refl c.inside-shared.ensures.unmarked
          c.outside-part.ensures.matches c.inside-shared.ensures.matches w.earlier-first.ensures c.loop-unit.invariant w.first_in_months.ensures)
      | else-begins_before w ↦ subst P (sym w.first-is)
          (sharing_kept c.args.fields.now c.in_months_of-other.result c.loop-unit.shared c.outside-part.result c.inside-shared.result c.in-Some.rest.now
          all_units i u Year c.loop-unit.first c.loop-unit-test.true refl c.inside-shared.ensures.unmarked c.outside-part.ensures.matches
          c.inside-shared.ensures.matches (c.begins_before.ensures w.if-begins_before.false) c.loop-unit.invariant)
    ]

pub returns : goal.returns
returns t c =
    sharing_all c.args.fields.now c.in_months_of-other.result c.in-Some.other.now c.loop-unit.shared c.in-Some.rest.now c.args.union.now c.args.length
    c.loop-unit.unit-index c.loop-unit.first c.requires.months c.in_months_of-other.ensures.matches c.in_months_of-other.ensures.unmarked
    c.in-Some.ensures.cases.0 c.loop-unit.invariant (omega (arith, c.loop-unit-test.false, c.loop-unit.auto.unit-index-end))
