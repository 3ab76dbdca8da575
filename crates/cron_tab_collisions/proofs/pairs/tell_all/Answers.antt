use Rattle.std.proofs.Common.{◌+◌, List, map, refl, sym, subst}
use Rattle.cron_tab_fires.specs.Entries.{view}
use Rattle.cron_tab_fires.specs.Laws.{AllAscend}
use Rattle.cron_tab_fires.specs.declared.entries.TabFires as code
use Rattle.cron_tab_collisions.specs.Collisions.{TellsAll, TellsWith}
use Rattle.cron_replies.specs.Inner.Telling.{AppendsTold}
use Rattle.cron_tab_collisions.proofs.TellLemmas.{first_ascends, left_ascend, left_from, none_left, tail_is, told_all, told_each}
use Rattle.cron_tab_collisions.proofs.pairs.tell_all.Goals as goal

pub tell_with-requires : goal.tell_with-requires
tell_with-requires c =
    let entries = c.args.entries.now in
    let place = c.loop-place.place in
    let both = first_ascends _ _ (view c.index-entries-place.result) (left_from entries place c.index-entries-place.result c.loop-place-test.true c.index-entries-place.is)
    (left_ascend place entries c.requires) in
    record { first = both.0; others = subst (λ (es : List code.TabFires). AllAscend (map view es)) (sym (tail_is entries (place + 1))) both.1 }

pub loop-place-preserved : goal.loop-place-preserved
loop-place-preserved c =
    let entries = c.args.entries.now in
    let place = c.loop-place.place in
    told_each c.args.form c.args.length (view c.index-entries-place.result) (map view entries) _ _ _ _ _ c.loop-place.invariant
    (left_from entries place c.index-entries-place.result c.loop-place-test.true c.index-entries-place.is)
    (subst (λ (es : List code.TabFires). AppendsTold (TellsWith c.args.form c.args.length (view c.index-entries-place.result) (map view es)) c.loop-place.report.items
    c.tell_with.new.report.items) (tail_is entries (place + 1)) c.in_ok-tell_with.ensures)

pub returns : goal.returns
returns c =
    told_all (TellsAll c.args.form c.args.length) (map view c.args.entries.now) _ _ _ c.loop-place.invariant
    (none_left c.args.entries.now c.loop-place.place c.loop-place-test.false) refl
