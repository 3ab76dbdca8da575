use Rattle.cron_crontab.proofs.ItemLemmas.{with_lone_step, with_two_steps}
use Rattle.cron_crontab.proofs.steps.read_steps.Goals as goal

pub returns-in-Single-clause-item : goal.returns-in-Single-clause-item
returns-in-Single-clause-item c =
    let cut = rw c.in-Some.is at c.cut_at.ensures.pieces in
    let base = rw c.in-Single.is at c.in_ok-base.ensures.base in
    with_lone_step c.args.field c.args.text.now c.cut_at.result.0.now c.in-Some.rest.now c.in-Single.field-0 cut base

pub returns-in-Some-more-clause-item : goal.returns-in-Some-more-clause-item
returns-in-Some-more-clause-item c =
    let cut = rw c.in-Some.is at c.cut_at.ensures.pieces in
    let behind = rw c.in-Some-more.is at c.cut_at-2.ensures.pieces in
    let base = rw c.in_default-base.is at c.in_ok-base.ensures.base in
    with_two_steps c.args.field c.args.text.now c.cut_at.result.0.now c.in-Some.rest.now c.cut_at-2.result.0.now c.in-Some-more.field-0.now
    c.in_default-base.field-0 c.in_default-base.field-1 c.in_ok-every.every cut behind base c.in_ok-every.ensures.step
