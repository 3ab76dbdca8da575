use Rattle.std.proofs.Common.{◌+◌}
use Rattle.std.proofs.lemmas.Option.{none-some}
use Rattle.cron_dues.proofs.ReaderLemmas.{end_of, ends, small, some-once, spells-at}
use Rattle.cron_dues.proofs.reader.guess.Goals as goal

pub returns-in_err-end : goal.returns-in_err-end
returns-in_err-end c = λ d can is. absurd (none-some (end_of d) (c.in_err-end.ensures.only (end_of d) (ends d c.args.text.now is)))

pub returns-in_err-shown : goal.returns-in_err-shown
returns-in_err-shown c = λ d can is.
    let spelt = spells-at d c.args.text.now c.in_ok-end.end is c.in_ok-end.ensures.ends in
    absurd (none-some (d.second + d.past) (c.in_err-shown.ensures (d.second + d.past) (small d can) spelt.date spelt.time))

pub returns-in_err-nominal : goal.returns-in_err-nominal
returns-in_err-nominal c = λ d can is.
    let spelt = spells-at d c.args.text.now c.in_ok-end.end is c.in_ok-end.ensures.ends in
    let shown = some-once c.in_ok-shown.shown (d.second + d.past) (c.in_ok-shown.ensures (d.second + d.past) (small d can) spelt.date spelt.time) in
    absurd (none-some d.second (c.in_err-nominal.ensures d can is shown))

pub returns-in_err-offset_of : goal.returns-in_err-offset_of
returns-in_err-offset_of c = λ d can is.
    let spelt = spells-at d c.args.text.now c.in_ok-end.end is c.in_ok-end.ensures.ends in
    absurd (none-some d.offset (c.in_err-offset_of.ensures d.offset spelt.offset))

pub returns : goal.returns
returns c = λ d can is.
    let spelt = spells-at d c.args.text.now c.in_ok-end.end is c.in_ok-end.ensures.ends in
    let shown = some-once c.in_ok-shown.shown (d.second + d.past) (c.in_ok-shown.ensures (d.second + d.past) (small d can) spelt.date spelt.time) in
    let nominal = some-once c.in_ok-nominal.nominal d.second (c.in_ok-nominal.ensures d can is shown) in
    let offset = some-once c.in_ok-offset_of.field-0 d.offset (c.in_ok-offset_of.ensures d.offset spelt.offset) in
    c.fire_of.ensures d can nominal shown offset
