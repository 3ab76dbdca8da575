use Rattle.std.proofs.Common.{arith, rules, FitsSigned, w32, to_z-of_z}
use Rattle.jiff_core.proofs.SignedLemmas.{signed_arith}
use Rattle.cron_instants.proofs.offset_range.offsets_with.Goals as goal

pub returns-in-Some-clause-rule : goal.returns-in-Some-clause-rule
returns-in-Some-clause-rule c =
    let fits : FitsSigned w32 c.args.rule.std_offset.seconds = search rules in
    let fits-dst : FitsSigned w32 c.in-Some.dst.offset.seconds = search rules in
    let least = rw (to_z-of_z fits) at c.at_one_offset.ensures.least in
    let greatest = rw (to_z-of_z fits) at c.at_one_offset.ensures.greatest in
    record {
      standard = c.with.ensures.others c.args.rule.std_offset.seconds
          (c.with-standard.ensures.others c.args.rule.std_offset.seconds (omega (arith, signed_arith), omega (arith, signed_arith)));
      saving = rw c.in-Some.is (rw (to_z-of_z fits-dst) at c.with.ensures.one);
    }

pub returns-in-Some-clause-last : goal.returns-in-Some-clause-last
returns-in-Some-clause-last c =
    let fits : FitsSigned w32 c.args.last = search rules in
    c.with.ensures.others c.args.last (rw (to_z-of_z fits) at c.with-standard.ensures.one)
