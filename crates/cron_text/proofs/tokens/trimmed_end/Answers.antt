use Rattle.std.proofs.Common.{sym, ap, ◌∙◌}
use Rattle.cron_text.specs.Meaning.{trimmed_end}
use Rattle.cron_text.proofs.Trims.{end_more, end_stays, end_empty}
use Rattle.cron_text.proofs.tokens.trimmed_end.Goals as goal

pub loop-last-preserved : goal.loop-last-preserved
loop-last-preserved c =
    c.loop-last.invariant ∙ (ap trimmed_end c.in-Some.ensures.cases.0
    ∙ end_more c.in-Some.others.now c.in-Some.last.now (sym c.is_space.ensures ∙ c.if-not-is_space.false))

pub returns-then-not-is_space : goal.returns-then-not-is_space
returns-then-not-is_space c =
    let same = c.in-Some.ensures.cases.0 in
    same ∙ (sym (end_stays c.in-Some.others.now c.in-Some.last.now (sym c.is_space.ensures ∙ c.if-not-is_space.true))
    ∙ (ap trimmed_end (sym same) ∙ sym c.loop-last.invariant))

pub returns-in_default : goal.returns-in_default
returns-in_default c = sym (c.loop-last.invariant ∙ end_empty c.loop-last.rest.now c.in_default.ensures.cases)
