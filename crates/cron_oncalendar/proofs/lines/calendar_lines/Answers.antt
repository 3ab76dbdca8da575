use Rattle.std.proofs.Common.{◌∙◌, sym}
use Rattle.cron_oncalendar.proofs.UnionLemmas.{is_empty_text, isnt_empty, named_by_word, says_never, says_union}
use Rattle.cron_oncalendar.proofs.lines.calendar_lines.Goals as goal

pub returns-then-is_empty : goal.returns-then-is_empty
returns-then-is_empty c =
    says_never c.args.schedules.now _ _ _ c.new-text.ensures.bytes
    (is_empty_text _ _ c.push_union.new.text.bytes.ok.0 (sym c.is_empty.ensures ∙ c.if-is_empty.true)) c.in_ok-push_union.ensures

pub returns : goal.returns
returns c =
    says_union c.args.schedules.now _ _ _ _ (c.as_str.ensures.value ∙ c.in_ok-after.ensures) (named_by_word _ _ c.requires) c.new-text.ensures.bytes
    (isnt_empty _ _ c.push_union.new.text.bytes.ok.0 (sym c.is_empty.ensures ∙ c.if-is_empty.false)) c.in_ok-push_union.ensures
