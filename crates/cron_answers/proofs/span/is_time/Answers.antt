use Rattle.std.proofs.Common.{◌≡◌, ℕ, ℤ, List, Bool, true, false, Option, Some, None, MatchBool, MatchOption, is_some, inl, inr, sym}
use Rattle.std.proofs.lemmas.Bool.{true≢false}
use Rattle.jiff.specs.Words.{plain_zone}
use Rattle.jiff_tz.specs.declared.timezone.TimeZone.{TimeZone}
use Rattle.cron_answers.specs.Instants.{IsInstant}
use Rattle.cron_answers.specs.Spans.{IsNamedTime, IsOther, IsWhole}
use Rattle.cron_answers.specs.declared.span.Seconds.{Seconds}
use Rattle.cron_answers.proofs.SpanLemmas.{some_instant, no_instant}
use Rattle.cron_answers.proofs.span.is_time.Goals as goal

pub returns-then-is_some : goal.returns-then-is_some
returns-then-is_some c =
    inl (some_instant (IsInstant c.args.word.now (plain_zone c.args.zone.now) c.args.now.nanosecond) c.instant_of.result c.is_some.result c.instant_of.ensures c.is_some.ensures c.if-is_some.true)

tells : (word : List ℕ) (z : TimeZone) (now : ℤ) (r : Option Seconds) (t : Bool) → IsInstant word z now None
    → MatchOption r ((from end : ℕ) → IsWhole word z now from end → ⊥) (λ it. IsWhole word z now it.from it.end) → t ≡ is_some r
    → MatchBool t (IsNamedTime word z now) (IsOther word z now)
tells word z now None true none h is = absurd (true≢false is)
tells word z now None false none h is = (none, h)
tells word z now (Some it) true none h is = inr (it.from, it.end, h)
tells word z now (Some it) false none h is = absurd (true≢false (sym is))

pub returns : goal.returns
returns c =
    tells c.args.word.now (plain_zone c.args.zone.now) c.args.now.nanosecond c.whole.result c.is_some-2.result
    (no_instant (IsInstant c.args.word.now (plain_zone c.args.zone.now) c.args.now.nanosecond) c.instant_of.result c.is_some.result c.instant_of.ensures c.is_some.ensures c.if-is_some.false)
    c.whole.ensures c.is_some-2.ensures
