use Rattle.std.proofs.Common.{◌≡◌, ◌+◌, inl, inr, ap, ◌∙◌, arith, length}
use Rattle.std.specs.Prelude.{Some}
use Rattle.cron_dues.proofs.ReaderLemmas.{nominal-at, same-date, small, spells-at, to-the-end}
use Rattle.cron_dues.proofs.reader.nominal_of.Goals as goal

pub returns-then-text-end : goal.returns-then-text-end
returns-then-text-end c = λ d can is shown.
    let nominal = nominal-at d c.args.text.now c.args.end (spells-at d c.args.text.now c.args.end is c.requires) in
    ap Some (omega (arith, shown, nominal.none c.if-text-end.true))

pub returns-then-text-end-2 : goal.returns-then-text-end-2
returns-then-text-end-2 c = λ d can is shown.
    let spelt = spells-at d c.args.text.now c.args.end is c.requires in
    let nominal = (nominal-at d c.args.text.now c.args.end spelt).time c.if-text-end-2.true in
    c.second_of.ensures d.second (omega (arith, small d can)) (spelt.date ∙ same-date d.second (d.second + d.past) nominal.0)
    (to-the-end (c.args.end + 5) c.args.text.now ∙ nominal.1)

pub returns : goal.returns
returns c = λ d can is shown.
    let nominal = nominal-at d c.args.text.now c.args.end (spells-at d c.args.text.now c.args.end is c.requires) in
    let long : length c.args.text.now ≡ c.args.end + 24 = elim c.requires.1 [
      | inl none ↦ absurd (c.if-text-end.false none)
      | inr (inl time) ↦ absurd (c.if-text-end-2.false time)
      | inr (inr date) ↦ date
    ] in
    c.second_of-2.ensures d.second (omega (arith, small d can)) (nominal.date long)
    (to-the-end (c.args.end + 16) c.args.text.now ∙ nominal.date_time long)
