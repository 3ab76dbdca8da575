use Rattle.std.proofs.Common.{◌≡◌, false, Option, Some, None, MatchOption, get_or, arith}
use Rattle.cron_text.specs.Fields.{is_connector}
use Rattle.cron_text.specs.Inner.Places.{IsConnector, NoConnector, tokens_from}
use Rattle.cron_text.specs.Inner.Views.{connector_view}
use Rattle.cron_text.specs.Tokens.{sign_of}
use Rattle.cron_text.specs.declared.field_texts.Connector.{Connector}
use Rattle.cron_text.proofs.Places.{no_connector_here, no_connector_end, connector_here, place_front}
use Rattle.cron_text.proofs.field_texts.connector_at.Goals as goal

pub returns-then-place-text-clause-connector : goal.returns-then-place-text-clause-connector
returns-then-place-text-clause-connector c = no_connector_end c.args.text.now c.args.place.at c.args.place.spaced (omega arith)

matched : (o : Option Connector) (P Q : Type 0) (R S : Connector → Type 0) → (P → Q) → ((k : Connector) → R k → S k) → MatchOption o P R → MatchOption o Q S
matched None P Q R S f g h = f h
matched (Some k) P Q R S f g h = g k h

pub returns-clause-connector : goal.returns-clause-connector
returns-clause-connector c =
    let text = c.args.text.now in
    let p = c.args.place in
    let front = place_front text p c.requires (omega arith) in
    matched c.connector_of.result (is_connector (sign_of (get_or text p.at 0)) ≡ false) (NoConnector (tokens_from text p))
    (λ k. connector_view k ≡ sign_of (get_or text p.at 0)) (IsConnector text p)
    (no_connector_here text p.at p.spaced (omega arith) front) (λ k h. connector_here text p k (omega arith) front h) c.connector_of.ensures
