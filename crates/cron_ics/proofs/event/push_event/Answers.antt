use Rattle.std.proofs.Common.{◌++◌, codes}
use Rattle.std.specs.Fmt.{decimal}
use Rattle.cron_ics.specs.Folding.{folded}
use Rattle.cron_ics.specs.Stamps.{stamp_text}
use Rattle.cron_ics.proofs.LineLemmas.{eight_texts}
use Rattle.cron_ics.proofs.event.push_event.Goals as goal

pub returns : goal.returns
returns c =
    let stamp = stamp_text c.args.heading.now.stamp in
    let start = stamp_text c.args.fire.now.utc in
    eight_texts c.args.page.now.items _ _ _ _ _ _ (folded (codes "BEGIN:VEVENT")) _ (folded (codes "DTSTAMP:" ++ stamp))
    (folded (codes "DTSTART:" ++ start)) (folded (codes "DURATION:PT" ++ decimal c.args.heading.now.minutes ++ codes "M")) _
    (folded (codes "TRANSP:TRANSPARENT")) (folded (codes "END:VEVENT")) c.in_ok-push_line.ensures c.in_ok-push_uid.ensures
    c.in_ok-push_times.ensures c.in_ok-push_summary.ensures c.in_ok-push_line-2.ensures c.in_ok-push_line-3.ensures
