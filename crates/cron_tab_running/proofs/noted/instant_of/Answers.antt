use Rattle.std.proofs.Common.{◌≡◌, ℤ, sym, ◌∙◌, subst, ◌↔◌, IsOk, IfOk, Some}
use Rattle.std.specs.Fmt.{signed_decimal}
use Rattle.std.specs.Result.{result_ok}
use Rattle.std.proofs.lemmas.Option.{none-some, same_Some}
use Rattle.jiff_core.specs.Timestamp.{IsTimestampNanos, nanos_of_seconds}
use Rattle.cron_tab_running.proofs.NoteTexts.{comes_back, is_made, is_read, no_text, same_text}
use Rattle.cron_tab_running.proofs.noted.instant_of.Goals as goal
use Rattle.cron_tab_running.proofs.noted.instant_of.Goals.{After-parse}

read : (c : After-parse) (s : ℤ) → IsTimestampNanos (nanos_of_seconds s) → c.args.text.now ≡ signed_decimal s → result_ok c.parse.result ≡ Some s
read c s h is =
    let text = same_text _ _ c.args.text.now c.from_utf8.result c.in_ok-ok.field-0 c.from_utf8.ensures.cases (sym c.ok.ensures.value ∙ c.in_ok-ok.was) in
    is_read c.in_ok-ok.field-0.now s c.parse.result h (text ∙ is) c.parse.ensures.value.0

pub returns-in_err-ok : goal.returns-in_err-ok
returns-in_err-ok c = λ s h is.
    absurd (no_text _ _ c.args.text.now s c.from_utf8.result h is c.from_utf8.ensures.cases (sym c.ok.ensures.value ∙ c.in_err-ok.was))

pub returns-in_err-second : goal.returns-in_err-second
returns-in_err-second c = λ s h is.
    absurd (none-some s (sym c.in_err-second.was ∙ c.ok-2.ensures.value ∙ read (goal.at.returns-in_err-second c).After-parse s h is))

pub returns : goal.returns
returns c = λ s h is.
    let second = same_Some c.in_ok-second.second s (sym c.in_ok-second.was ∙ c.ok-2.ensures.value ∙ read (goal.at.returns c).After-parse s h is) in
    let same = comes_back c.in_ok-second.second s h second in
    is_made (nanos_of_seconds s) c.from_second.result c.ok-3.result h
    (subst (λ n. IsOk c.from_second.result ↔ IsTimestampNanos (nanos_of_seconds n)) same c.from_second.ensures.succeeds)
    (subst (λ n. IfOk c.from_second.result (λ t. t.nanosecond ≡ nanos_of_seconds n)) same c.from_second.ensures.value)
    c.ok-3.ensures.value
