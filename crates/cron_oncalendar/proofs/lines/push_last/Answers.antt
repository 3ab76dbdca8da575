use Rattle.std.proofs.Common.{◌≡◌, ◌∙◌, ap, sym, true, false}
use Rattle.cron_moments.specs.Civil.{civil}
use Rattle.cron_units.specs.Sets.{Sets}
use Rattle.cron_oncalendar.proofs.PushLemmas.{if_ok, nothing_pushed, piece_pushed}
use Rattle.cron_oncalendar.proofs.UnionLemmas.{last_line, marked, no_lines, same_lines, unmarked}
use Rattle.cron_oncalendar.proofs.lines.push_last.Goals as goal

pub returns-then-not-last_day : goal.returns-then-not-last_day
returns-then-not-last_day c =
    let mark : c.args.fields.now.days_of_month.last_day ≡ false =
    ap (λ (s : Sets). s.days_of_month.last_day) (sym c.fields.view_is) ∙ (sym c.last_day.ensures ∙ c.if-not-last_day.true) in
    nothing_pushed _ _ (no_lines _ _ _ (sym (last_line c.args.fields.now false mark)) (λ k less. unmarked c.args.fields.now mark (civil k)))

pub returns : goal.returns
returns c =
    let mark : c.args.fields.now.days_of_month.last_day ≡ true =
    ap (λ (s : Sets). s.days_of_month.last_day) (sym c.fields.view_is) ∙ (sym c.last_day.ensures ∙ c.if-not-last_day.false) in
    if_ok c.push_line.result _ _
    (λ h. piece_pushed _ _ _ _ (λ piece lines. same_lines _ _ _ _ _ piece (last_line c.args.fields.now true mark) (marked c.args.fields.now mark) lines) h)
    c.push_line.ensures
