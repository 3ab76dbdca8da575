use Rattle.std.proofs.Common.{◌≡◌, List, length, not}
use Rattle.cron_printing.specs.Printing.{writer_calls}
use Rattle.cron_tab_running.specs.Following.{AreRounds, Round, goes_on, history, last_look, round_calls}
use Rattle.cron_tab_running.specs.Looks.{has_none}
use Rattle.cron_tab_running.specs.Noted.{noted_view}
use Rattle.cron_tab_running.proofs.FollowLemmas.{last_of}
use Rattle.cron_tab_running.proofs.following.follow.Given as goal

-- rounds were made, and what goes on is what they say
abbrev pub invariant-loop-rounds : goal.invariant-loop-rounds
invariant-loop-rounds g l =
    (rounds : List Round)
    × AreRounds (round_calls g.C.AlarmClock.shows g.C.AlarmClock.waits g.F.Changing.changes g.F.Crontabs.finds g.S.Store.does
    (writer_calls g.W.Watchable.writes g.W.Watchable.flushes g.W.Write.contents) (writer_calls g.E.Watchable.writes g.E.Watchable.flushes g.E.Write.contents)
    l.orders) (noted_view l.fn.noted) rounds (l.initial.clock, l.initial.writer, l.initial.complaints) (l.clock, l.writer, l.complaints)
    × (length rounds ≡ l.rounds)
    × (noted_view l.on ≡ goes_on (history (noted_view l.fn.noted) rounds))
    × (l.before ≡ not (has_none (last_of (noted_view l.fn.noted) rounds)))
    × (l.since ≡ last_look rounds)
