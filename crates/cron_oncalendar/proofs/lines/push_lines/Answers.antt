use Rattle.std.proofs.Common.{◌∙◌, sym}
use Rattle.cron_oncalendar.proofs.PushLemmas.{if_ok, nothing_pushed}
use Rattle.cron_oncalendar.proofs.UnionLemmas.{both_lines, lines_pushed, no_line, no_lines, none_matching, two_lines, whole_where_it_fires}
use Rattle.cron_oncalendar.proofs.lines.push_lines.Goals as goal

pub returns-then-never_fires : goal.returns-then-never_fires
returns-then-never_fires c =
    let never = sym c.never_fires.ensures ∙ c.if-never_fires.true in
    nothing_pushed _ _ (no_lines _ _ _ (no_line c.args.fields.now never) (none_matching c.args.fields.now never))

pub push_numbered-requires : goal.push_numbered-requires
push_numbered-requires c =
    record { whole = whole_where_it_fires c.args.fields.now (sym c.never_fires.ensures ∙ c.if-never_fires.false) }

pub push_last-requires : goal.push_last-requires
push_last-requires c =
    record { whole = whole_where_it_fires c.args.fields.now (sym c.never_fires.ensures ∙ c.if-never_fires.false) }

pub returns : goal.returns
returns c =
    if_ok c.push_last.result _ _
    (λ h. lines_pushed _ _ _ _ _ _ _ _ _ _ (both_lines c.args.fields.now (sym c.never_fires.ensures ∙ c.if-never_fires.false))
    (two_lines c.args.fields.now) c.in_ok-push_numbered.ensures h)
    c.push_last.ensures
