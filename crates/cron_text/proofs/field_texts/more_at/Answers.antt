use Rattle.std.proofs.Common.{◌≡◌, Bool, true, false, ◌&&◌, List, [], ◌∷◌, drop, refl, sym, ap, ◌∙◌}
use Rattle.cron_units.specs.Units.{TimeUnit}
use Rattle.cron_text.specs.Fields.{is_wildcard}
use Rattle.cron_text.specs.Inner.FieldReading.{FieldState, furthest}
use Rattle.cron_text.specs.Inner.Places.{tokens_from}
use Rattle.cron_text.specs.Inner.Views.{state_view}
use Rattle.cron_text.specs.Tokens.{Token, symbol_of, tokens}
use Rattle.cron_text.proofs.Growing.{far_gap, grows_on, stays_alone, stuck_at_token, stuck_at_wildcard}
use Rattle.cron_text.proofs.field_texts.more_at.Goals as goal
use Rattle.cron_text.proofs.field_texts.more_at.Goals.{else-wildcard-via-then-wildcard+else-place, else-wildcard-via-else-wildcard, else-wildcard-2-via-then-wildcard-2+else-token, else-wildcard-2-via-else-wildcard-2}

not_both : (a b : Bool) → b ≡ false → (a && b) ≡ false
not_both true b h = h
not_both false b h = refl

not_first : (a b : Bool) → a ≡ false → (a && b) ≡ false
not_first a b h = rw h refl

-- what is read nowhere stays where it is
stays : (u : TimeUnit) (s : FieldState) (ts all : List Token) → all ≡ ts → furthest u s ts ≡ (s, ts) → furthest u s all ≡ (s, all)
stays u s ts all e h = ap (furthest u s) e ∙ (h ∙ ap (λ (zs : List Token). (s, zs)) (sym e))

pub returns-in_err-growth-clause-more : goal.returns-in_err-growth-clause-more
returns-in_err-growth-clause-more g c = λ done last e.
    let u = g.T.TimeUnitField.unit in
    let text = c.args.text.now in
    let s = state_view done c.args.item last in
    let con = rw c.as_bytes-bytes.ensures.value at c.in_ok-connector.ensures.connector in
    let next = rw c.as_bytes-bytes.ensures.value at c.skip_space.ensures.same in
    let read = c.in_ok-token.ensures.token in
    let all = con.rest ∙ ap (λ (ts : List Token). con.token ∷ ts) (sym next ∙ read.rest) in
    rw c.from_residual-in_err-growth.ensures (stays u s _ _ all
    (stuck_at_token u s con.token read.token (tokens_from text c.in_ok-token.after) c.in_ok-connector.connector con.symbol
    (c.in_err-growth.ensures done last read.token read.symbol)))

pub returns-clause-more : goal.returns-clause-more
returns-clause-more g c = λ done last e.
    let u = g.T.TimeUnitField.unit in
    let text = c.args.text.now in
    let s = state_view done c.args.item last in
    let con = rw c.as_bytes-bytes.ensures.value at c.in_ok-connector.ensures.connector in
    let next = rw c.as_bytes-bytes.ensures.value at c.skip_space.ensures.same in
    let read = c.in_ok-token.ensures.token in
    let all = con.rest ∙ ap (λ (ts : List Token). con.token ∷ ts) (sym next ∙ read.rest) in
    let seen : is_wildcard (symbol_of read.token) ≡ c.is_wildcard-wildcard.result = ap is_wildcard (sym read.symbol) ∙ sym c.is_wildcard-wildcard.ensures in
    let before : (is_wildcard (symbol_of last) && con.token.spaced) ≡ false = elim c.else-wildcard.branch [
      | else-wildcard-via-then-wildcard+else-place w ↦ not_both _ _ (sym con.spaced ∙ w.if-place.false)
      | else-wildcard-via-else-wildcard w ↦ not_first _ _ (e ∙ w.if-wildcard.false)
    ] in
    let behind : (is_wildcard (symbol_of read.token) && read.token.spaced) ≡ false = elim c.else-wildcard-2.branch [
      | else-wildcard-2-via-then-wildcard-2+else-token w ↦ not_both _ _ (sym read.spaced ∙ w.if-token.false)
      | else-wildcard-2-via-else-wildcard-2 w ↦ not_first _ _ (seen ∙ w.if-wildcard-2.false)
    ] in
    record {
      token = read.token;
      seen = seen;
      on = ap (furthest u s) all ∙ grows_on u s _ con.token read.token (tokens_from text c.in_ok-token.after) c.in_ok-connector.connector con.symbol
          before behind (c.in_ok-growth.ensures done last read.token read.symbol);
    }

pub returns-then-token-clause-more : goal.returns-then-token-clause-more
returns-then-token-clause-more g c = λ done last e.
    let u = g.T.TimeUnitField.unit in
    let text = c.args.text.now in
    let s = state_view done c.args.item last in
    let con = rw c.as_bytes-bytes.ensures.value at c.in_ok-connector.ensures.connector in
    let next = rw c.as_bytes-bytes.ensures.value at c.skip_space.ensures.same in
    let read = c.in_ok-token.ensures.token in
    let all = con.rest ∙ ap (λ (ts : List Token). con.token ∷ ts) (sym next ∙ read.rest) in
    let seen : is_wildcard (symbol_of read.token) ≡ true = ap is_wildcard (sym read.symbol) ∙ (sym c.is_wildcard-wildcard.ensures ∙ c.if-wildcard-2.true) in
    stays u s _ _ all (stuck_at_wildcard u s con.token read.token (tokens_from text c.in_ok-token.after) c.in_ok-connector.connector con.symbol seen
    (sym read.spaced ∙ c.if-token.true))

pub returns-in_err-connector-clause-more : goal.returns-in_err-connector-clause-more
returns-in_err-connector-clause-more g c = λ done last e.
    let none = rw c.as_bytes-bytes.ensures.value at c.in_err-connector.ensures.connector in
    rw c.from_residual.ensures
    (stays_alone g.T.TimeUnitField.unit (state_view done c.args.item last) (tokens_from c.args.text.now c.args.place) none)

pub returns-then-place-clause-more : goal.returns-then-place-clause-more
returns-then-place-clause-more g c = λ done last e.
    far_gap g.T.TimeUnitField.unit (state_view done c.args.item last) c.args.place.spaced (tokens (drop c.args.place.at c.args.text.now))
    c.if-place.true (e ∙ c.if-wildcard.true)

pub returns-in_err-token-clause-more : goal.returns-in_err-token-clause-more
returns-in_err-token-clause-more g c = λ done last e.
    let u = g.T.TimeUnitField.unit in
    let s = state_view done c.args.item last in
    let con = rw c.as_bytes-bytes.ensures.value at c.in_ok-connector.ensures.connector in
    let next = rw c.as_bytes-bytes.ensures.value at c.skip_space.ensures.same in
    let all = con.rest ∙ ap (λ (ts : List Token). con.token ∷ ts) (sym next ∙ c.in_err-token.ensures.token) in
    rw c.from_residual-in_err-token.ensures (stays u s (con.token ∷ []) (tokens_from c.args.text.now c.args.place) all refl)
