use Rattle.std.proofs.Common.{ap, refl}
use Rattle.cron_moments.specs.Civil.{civil}
use Rattle.cron_units.specs.Sets.{Sets}
use Rattle.cron_oncalendar.proofs.PushLemmas.{if_ok, nothing_pushed, piece_pushed}
use Rattle.cron_oncalendar.proofs.UnionLemmas.{no_lines, no_numbered_line, none_numbered, one_numbered_line, same_lines, unnumbered}
use Rattle.cron_oncalendar.proofs.lines.push_numbered.Goals as goal

pub returns-then-count-eq0 : goal.returns-then-count-eq0
returns-then-count-eq0 c =
    let none = none_numbered c.args.fields.now _ c.count.result (ap (λ (s : Sets). s.days_of_month) c.fields.view_is) c.count.ensures c.if-count-eq0.true in
    nothing_pushed _ _ (no_lines _ _ _ (no_numbered_line c.args.fields.now none) (λ k less. unnumbered c.args.fields.now none (civil k)))

pub returns : goal.returns
returns c =
    if_ok c.push_line.result _ _
    (λ h. piece_pushed _ _ _ _ (λ piece lines. same_lines _ _ _ _ _ piece (one_numbered_line c.args.fields.now _ c.count.result
    (ap (λ (s : Sets). s.days_of_month) c.fields.view_is) c.count.ensures c.if-count-eq0.false) (λ dt. refl) lines) h)
    c.push_line.ensures
