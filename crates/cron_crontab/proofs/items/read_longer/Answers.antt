use Rattle.cron_crontab.specs.Inner.Reading.{base_view}
use Rattle.cron_crontab.proofs.ItemLemmas.{without_step, with_lone_step, with_two_steps, with_step}
use Rattle.cron_crontab.proofs.items.read_longer.Goals as goal

pub returns-in_default-clause-item : goal.returns-in_default-clause-item
returns-in_default-clause-item c =
    let cut = rw c.in_default.is at c.cut_at.ensures.pieces in
    without_step c.args.field c.args.text.now c.cut_at.result.0.now (base_view c.in_ok-base.base) c.numbers_of.result cut c.in_ok-base.ensures.base c.numbers_of.ensures.bits

pub returns-in-Single-clause-item : goal.returns-in-Single-clause-item
returns-in-Single-clause-item c =
    let cut = rw c.in-Some.is at c.cut_at.ensures.pieces in
    let base = rw c.in-Single.is at c.in_ok-base.ensures.base in
    with_lone_step c.args.field c.args.text.now c.cut_at.result.0.now c.in-Some.rest.now c.in-Single.field-0 cut base

pub returns-in-None-clause-item : goal.returns-in-None-clause-item
returns-in-None-clause-item c =
    let cut = rw c.in-Some.is at c.cut_at.ensures.pieces in
    let behind = rw c.in-None.is at c.cut_at-2.ensures.pieces in
    let base = rw c.in_default-base.is at c.in_ok-base.ensures.base in
    let bits = rw c.in_default-base.is at c.numbers_of-in-None.ensures.bits in
    with_step c.args.field c.args.text.now c.cut_at.result.0.now c.in-Some.rest.now c.cut_at-2.result.0.now c.in_default-base.field-0 c.in_default-base.field-1 c.in_ok-every.every
    c.numbers_of-in-None.result cut behind base c.in_ok-every.ensures.step bits

pub returns-in-Some-more-clause-item : goal.returns-in-Some-more-clause-item
returns-in-Some-more-clause-item c =
    let cut = rw c.in-Some.is at c.cut_at.ensures.pieces in
    let behind = rw c.in-Some-more.is at c.cut_at-2.ensures.pieces in
    let base = rw c.in_default-base.is at c.in_ok-base.ensures.base in
    with_two_steps c.args.field c.args.text.now c.cut_at.result.0.now c.in-Some.rest.now c.cut_at-2.result.0.now c.in-Some-more.field-0.now c.in_default-base.field-0
    c.in_default-base.field-1 c.in_ok-every.every cut behind base c.in_ok-every.ensures.step
