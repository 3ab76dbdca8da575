use Rattle.std.proofs.Common.{rules, tests, ◌≡◌, ◌++◌, [], ◌∷◌, false, true≢false, length, map, ap, sym, ◌∙◌, refl, subst, eqb, All}
use Rattle.std.specs.Prelude.{filter}
use Rattle.std.specs.List.{slice_split}
use Rattle.std.specs.Slice.Iter.{split_rest, split_done}
use Rattle.std.proofs.lemmas.List.{map_push}
use Rattle.std.proofs.lemmas.Iterator.Splits.{YieldsList-from_slice_split}
use Rattle.std.proofs.lemmas.Iterator.Consumers.{YieldsList-turn, YieldsList-end}
use Rattle.cron_tab_running.specs.Noted.{IsEntry}
use Rattle.cron_tab_running.proofs.NoteTexts.{are_entries, has_tab, is_feed, is_last, passed, reads_back, seen, taken}
use Rattle.cron_tab_running.proofs.noted.read_entries.Goals as goal
use Rattle.cron_tab_running.proofs.noted.read_entries.Goals.{In-None}

pub loop-line-preserved-in_ok-push : goal.loop-line-preserved-in_ok-push
loop-line-preserved-in_ok-push c =
    ap (map (λ e. e.items)) c.in_ok-push.ensures.items
    ∙ map_push (λ e. e.items) c.loop-line.entries.items c.in_ok-from_slice.field-0
    ∙ ap (λ x. map (λ e. e.items) c.loop-line.entries.items ++ x ∷ []) c.in_ok-from_slice.ensures.items
    ∙ taken _ c.loop-line.yielded c.in-Some.line (sym c.contains.ensures.value ∙ c.if-contains.true) c.loop-line.invariant

pub loop-line-preserved : goal.loop-line-preserved
loop-line-preserved c =
    passed _ c.loop-line.yielded c.in-Some.line (sym c.contains.ensures.value ∙ c.if-contains.false) c.loop-line.invariant

pub returns-then-not-is_empty-clause-only : goal.returns-then-not-is_empty-clause-only
returns-then-not-is_empty-clause-only c = λ es h is.
    let same = c.into_iter-line-iterator.ensures.into_iter_gives in
    let rest : split_rest c.into_iter-line-iterator.result ≡ c.args.lines.now = cc in
    let done : split_done c.into_iter-line-iterator.result ≡ false = cc in
    let at = YieldsList-turn (YieldsList-from_slice_split _ is_feed c.args.lines.now rest done refl (λ x r q k. search (rules, tests))) c.loop-line.yielded _ c.loop-line.yielded_by _ _ c.in-Some.line c.in-Some.is c.next.ensures.steps in
    let empty = is_last c.args.lines.now es h is c.in-Some.line.now (length c.loop-line.yielded) at (sym c.contains.ensures.value ∙ c.if-contains.false) in
    true≢false (sym (ap (λ l. eqb (length l) 0) empty) ∙ sym c.is_empty.ensures ∙ c.if-not-is_empty.true)

all_came : (c : In-None) → seen c.loop-line.yielded ≡ slice_split is_feed c.args.lines.now
all_came c =
    let same = c.into_iter-line-iterator.ensures.into_iter_gives in
    let rest : split_rest c.into_iter-line-iterator.result ≡ c.args.lines.now = cc in
    let done : split_done c.into_iter-line-iterator.result ≡ false = cc in
    (YieldsList-end (YieldsList-from_slice_split _ is_feed c.args.lines.now rest done refl (λ x r q k. search (rules, tests))) c.loop-line.yielded _ c.loop-line.yielded_by _ _ c.in-None.is c.next.ensures.steps).0

pub returns-clause-entries : goal.returns-clause-entries
returns-clause-entries c = subst (All IsEntry) (sym (c.loop-line.invariant ∙ ap (filter has_tab) (all_came c))) (are_entries c.args.lines.now)

pub returns-clause-only : goal.returns-clause-only
returns-clause-only c = λ es h is. c.loop-line.invariant ∙ ap (filter has_tab) (all_came c) ∙ reads_back c.args.lines.now es h is
