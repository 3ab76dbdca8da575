use Rattle.std.proofs.Common.{◌≡◌, [], ◌∷◌, ◌++◌, Some, None, refl, sym, ap, ◌∙◌}
use Rattle.std.specs.Option.{option_map}
use Rattle.cron_units.specs.Views.{item_view}
use Rattle.cron_text.specs.Fields.{is_wildcard}
use Rattle.cron_text.specs.Inner.FieldReading.{field_at, furthest, lone_item}
use Rattle.cron_text.specs.Inner.Places.{tokens_from}
use Rattle.cron_text.specs.Inner.Views.{state_view, after_growth}
use Rattle.cron_text.specs.Tokens.{symbol_of}
use Rattle.cron_text.specs.declared.field_texts.Growth.{Growth}
use Rattle.cron_units.proofs.DenotedSets.{denotes_none, denotes_push}
use Rattle.cron_text.proofs.FieldSets.{unread_first, read_first, field_taken, unread_inside, unread_last}
use Rattle.cron_text.proofs.Longest.{read_none}
use Rattle.cron_text.proofs.Results.{on_err}
use Rattle.cron_text.proofs.field_texts.read_items.Goals as goal

pub returns-in_default-clause-refused : goal.returns-in_default-clause-refused
returns-in_default-clause-refused g c =
    read_none g.T.TimeUnitField.unit (tokens_from c.args.text.now c.args.place.now) (ap (field_at g.T.TimeUnitField.unit) c.in_default.ensures.token)

pub returns-in_default-lone_item-clause-refused : goal.returns-in_default-lone_item-clause-refused
returns-in_default-lone_item-clause-refused g c =
    let u = g.T.TimeUnitField.unit in
    let first = c.in-Some.ensures.token in
    let lone : lone_item u (symbol_of first.token) ≡ None = ap (lone_item u) (sym first.symbol)
    ∙ (sym c.lone_item.ensures ∙ ap (option_map item_view) c.in_default-lone_item.is) in
    read_none u (tokens_from c.args.text.now c.args.place.now) (ap (field_at u) first.rest
    ∙ unread_first u first.token (tokens_from c.args.text.now c.in-Some.after) lone)

pub loop-growth-init : goal.loop-growth-init
loop-growth-init g c =
    let u = g.T.TimeUnitField.unit in
    let first = c.in-Some.ensures.token in
    let item = item_view c.in-Some-lone_item.lone in
    let lone : lone_item u (symbol_of first.token) ≡ Some item = ap (lone_item u) (sym first.symbol)
    ∙ (sym c.lone_item.ensures ∙ ap (option_map item_view) c.in-Some-lone_item.is) in (
      [],
      first.token,
      ap (field_at u) first.rest ∙ read_first u first.token (tokens_from c.args.text.now c.in-Some.after) item lone,
      denotes_none u _ _ c.empty-joined.ensures.members c.empty-joined.ensures.mark,
      ap is_wildcard (sym first.symbol) ∙ sym c.is_wildcard-wildcard.ensures,
      c.in-Some.ensures.place,
    )

pub loop-growth-preserved-in-Grown : goal.loop-growth-preserved-in-Grown
loop-growth-preserved-in-Grown g c =
    let u = g.T.TimeUnitField.unit in
    let (done, last, read, joined, seen, here) = c.loop-growth.invariant in
    let more = c.in-Some-more_at.ensures.more done last seen in
    let on = more.on ∙ ap (λ (x : Growth). furthest u (after_growth done c.loop-growth.item more.token x)
    (tokens_from c.args.text.now c.in-Some-more_at.after)) c.in-Grown.is in
    (done, more.token, read ∙ ap Some on, joined, more.seen, c.in-Some-more_at.ensures.place)

pub loop-growth-preserved : goal.loop-growth-preserved
loop-growth-preserved g c =
    let u = g.T.TimeUnitField.unit in
    let (done, last, read, joined, seen, here) = c.loop-growth.invariant in
    let item = item_view c.loop-growth.item in
    let more = c.in-Some-more_at.ensures.more done last seen in
    let on = more.on ∙ ap (λ (x : Growth). furthest u (after_growth done c.loop-growth.item more.token x)
    (tokens_from c.args.text.now c.in-Some-more_at.after)) c.in-Next.is in (
      done ++ item ∷ [],
      more.token,
      read ∙ ap Some on,
      denotes_push u done item _ _ joined c.in_ok-add_to-in-Next.ensures.ok,
      more.seen,
      c.in-Some-more_at.ensures.place,
    )

pub returns-in_err-add_to-in-Next-clause-refused : goal.returns-in_err-add_to-in-Next-clause-refused
returns-in_err-add_to-in-Next-clause-refused g c =
    let u = g.T.TimeUnitField.unit in
    let (done, last, read, joined, seen, here) = c.loop-growth.invariant in
    let item = item_view c.loop-growth.item in
    let more = c.in-Some-more_at.ensures.more done last seen in
    let on = more.on ∙ ap (λ (x : Growth). furthest u (after_growth done c.loop-growth.item more.token x)
    (tokens_from c.args.text.now c.in-Some-more_at.after)) c.in-Next.is in
    on_err c.from_residual.result
    (unread_inside u (tokens_from c.args.text.now c.args.place.now) (tokens_from c.args.text.now c.in-Some-more_at.after) done item
    (state_view (done ++ item ∷ []) c.in-Next.other more.token) _ (read ∙ ap Some on) refl joined.unrefused c.in_err-add_to-in-Next.ensures.err)

pub returns-in_err-add_to-clause-refused : goal.returns-in_err-add_to-clause-refused
returns-in_err-add_to-clause-refused g c =
    let u = g.T.TimeUnitField.unit in
    let (done, last, read, joined, seen, here) = c.loop-growth.invariant in
    let state = state_view done c.loop-growth.item last in
    on_err c.from_residual-in_err-add_to.result
    (unread_last u (tokens_from c.args.text.now c.args.place.now) (tokens_from c.args.text.now c.loop-growth.next) state _ (read
    ∙ ap Some (c.in_default-more_at.ensures.more done last seen)) joined.unrefused c.in_err-add_to.ensures.err)

pub returns-clause-taken : goal.returns-clause-taken
returns-clause-taken g c =
    let u = g.T.TimeUnitField.unit in
    let (done, last, read, joined, seen, here) = c.loop-growth.invariant in
    let item = item_view c.loop-growth.item in
    let state = state_view done c.loop-growth.item last in
    field_taken u (tokens_from c.args.text.now c.args.place.now) (tokens_from c.args.text.now c.loop-growth.next) state _ (read
    ∙ ap Some (c.in_default-more_at.ensures.more done last seen))
    (denotes_push u done item _ _ joined c.in_ok-add_to.ensures.ok)
