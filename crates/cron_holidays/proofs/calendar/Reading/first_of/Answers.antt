use Rattle.std.proofs.Common.{sym, ◌∙◌}
use Rattle.std.proofs.lemmas.Result.{err_from_is_err_and}
use Rattle.cron_holidays.specs.Views.{line_view, reading_view}
use Rattle.cron_holidays.proofs.ContentLemmas.{lines-first, read-first, refuses-then, whole}
use Rattle.cron_holidays.proofs.ListLemmas.{refuses-same}
use Rattle.cron_holidays.proofs.calendar.Reading.first_of.Goals as goal

pub returns-in_err-content-clause-reads : goal.returns-in_err-content-clause-reads
returns-in_err-content-clause-reads c =
    let n = c.more_len-end.result in
    let first = lines-first (reading_view c.args.self.now) c.args.lines.now c.in-Some.first.now c.in-Some.more.now n c.deref.result.now c.in-Some.ensures.cases.0 c.more_len-end.ensures.is (c.deref.ensures.value ∙ c.in_ok-text.ensures) in
    let p = err_from_is_err_and c.from_residual-in_err-content.result c.from_residual-in_err-content.ensures.1 in
    rw (p.1, p.2) (refuses-same _ _ _ (sym first) (refuses-then _ _ _ c.in_err-content.ensures))

pub returns-clause-reads : goal.returns-clause-reads
returns-clause-reads c =
    let n = c.more_len-end.result in
    let first = lines-first (reading_view c.args.self.now) c.args.lines.now c.in-Some.first.now c.in-Some.more.now n c.deref.result.now c.in-Some.ensures.cases.0 c.more_len-end.ensures.is (c.deref.ensures.value ∙ c.in_ok-text.ensures) in
    first
    ∙ read-first (reading_view c.args.self.now) (reading_view c.content.new.self) (whole (line_view c.in-Some.first.now) c.deref.result.now) c.args.lines.now n c.in_ok-content.ensures
