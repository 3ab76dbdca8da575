use Rattle.std.proofs.Common.{◌≡◌, false, Option, Some, None, MatchOption, sym, ◌∙◌}
use Rattle.std.specs.Prelude.{is_some}
use Rattle.std.proofs.lemmas.Bool.{false≢true}
use Rattle.cron_text.specs.Inner.Places.{NoConnector, tokens_from}
use Rattle.cron_text.specs.declared.field_texts.Connector.{Connector}
use Rattle.cron_units.proofs.DenotedSets.{denotes_none}
use Rattle.cron_text.proofs.PlainItems.{list_first, list_next, list_taken}
use Rattle.cron_text.proofs.plain.read_plain.Goals as goal

pub loop-joined-init : goal.loop-joined-init
loop-joined-init g c =
    let field = g.T.TimeUnitField in
    list_first field.unit c.args.text.now c.args.place c.in_ok-end.end _ _ c.in_ok-end.ensures
    (denotes_none field.unit _ _ c.empty-joined.ensures.members c.empty-joined.ensures.mark)

pub loop-joined-preserved : goal.loop-joined-preserved
loop-joined-preserved g c =
    let text = c.args.text.now in
    let comma = c.stands.ensures c.loop-joined-test.true in
    list_next g.T.TimeUnitField.unit (tokens_from text c.args.place) text c.loop-joined.end c.in_ok-end-2.end _ _ c.loop-joined.invariant comma.0 comma.1
    c.in_ok-end-2.ensures

none_there : (o : Option Connector) (P : Type 0) (Q : Connector → Type 0) → is_some o ≡ false → MatchOption o P Q → P
none_there None P Q h m = m
none_there (Some k) P Q h m = absurd (false≢true (sym h))

pub returns-clause-taken : goal.returns-clause-taken
returns-clause-taken g c =
    let text = c.args.text.now in
    let after = c.skip_space-after.result in
    let apart : NoConnector (tokens_from text after) =
    none_there c.connector_at.result _ _ (sym c.is_some.ensures ∙ c.if-is_some.false) c.connector_at.ensures.connector in
    list_taken g.T.TimeUnitField.unit (tokens_from text c.args.place) text c.loop-joined.end _ (tokens_from text after) c.loop-joined.invariant
    c.skip_space-after.ensures.same apart
