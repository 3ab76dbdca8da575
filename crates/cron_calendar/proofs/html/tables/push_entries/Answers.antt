use Rattle.cron_calendar.specs.declared.html.frames.TheConstants.{ENTRIES_START}
use Rattle.cron_calendar.proofs.PageLemmas.{on}
use Rattle.cron_calendar.proofs.html.tables.push_entries.Goals as goal

pub returns : goal.returns
returns c =
    let (rows, are, pushed) = c.in_ok-push_entry_rows.ensures in
    (rows, are, on c.args.page.now.items _ _ ENTRIES_START.now _ c.in_ok-push_text.ensures (on _ _ _ rows _ pushed c.in_ok-push_text-2.ensures))
