use Rattle.std.proofs.Common.{pos, ◌<ℤ◌, ◌≤ℤ◌, Some, arith, ◌∙◌, ap, w32, w64, FitsSigned, of_z, to_z-of_z, rules}
use Rattle.std.proofs.lemmas.Int.{ints}
use Rattle.jiff_core.proofs.SignedLemmas.{signed_arith}
use Rattle.cron_moments.specs.Civil.{seconds_in_range}
use Rattle.cron_moments.proofs.PartLemmas.{no_fraction_parts, parts_number, parts_are, parts_once}
use Rattle.cron_moments.proofs.moment.Moment.from_parts.Goals as goal

pub returns-then-subsec_nanosecond-ne0-clause-only : goal.returns-then-subsec_nanosecond-ne0-clause-only
returns-then-subsec_nanosecond-ne0-clause-only c = λ m parts.
    absurd (no_fraction_parts c.args.date_time c.args.offset m parts
    (λ none. c.if-subsec_nanosecond-ne0.true (ap (of_z w32) (c.subsec_nanosecond.ensures ∙ ap pos none))))

pub returns-then-second-lt0-clause-only : goal.returns-then-second-lt0-clause-only
returns-then-second-lt0-clause-only c = λ m parts.
    absurd (let same = parts_number c.args.date_time c.args.offset m parts in
    omega (arith, ints, signed_arith, c.civil_number-second.ensures, c.if-second-lt0.true))

pub returns-then-second-ge-SECONDS-clause-only : goal.returns-then-second-ge-SECONDS-clause-only
returns-then-second-ge-SECONDS-clause-only c = λ m parts.
    absurd (let same = parts_number c.args.date_time c.args.offset m parts in
    omega (arith, ints, signed_arith, c.civil_number-second.ensures, c.if-second-ge-SECONDS.true, parts.in_range))

pub returns-clause-parts : goal.returns-clause-parts
returns-clause-parts c =
    let fits : FitsSigned w64 c.civil_number-second.result = search rules in
    let low : pos 0 ≤ℤ c.civil_number-second.result = omega (arith, ints, signed_arith, c.if-second-lt0.false) in
    let high : c.civil_number-second.result <ℤ pos seconds_in_range = omega (arith, ints, signed_arith, c.if-second-ge-SECONDS.false) in
    let made = rw (to_z-of_z fits) at c.moment_numbered.ensures in
    parts_are c.moment_numbered.result c.civil_number-second.result c.args.offset c.args.date_time made low high c.civil_number-second.ensures
    (omega (arith, ints, signed_arith, c.subsec_nanosecond.ensures, c.if-subsec_nanosecond-ne0.false))

pub returns-clause-only : goal.returns-clause-only
returns-clause-only c = λ m parts.
    let fits : FitsSigned w64 c.civil_number-second.result = search rules in
    let made = rw (to_z-of_z fits) at c.moment_numbered.ensures in
    ap Some (parts_once m c.moment_numbered.result c.civil_number-second.result c.args.offset c.args.date_time made c.civil_number-second.ensures parts)
