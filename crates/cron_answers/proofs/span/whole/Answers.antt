use Rattle.std.proofs.Common.{◌≡◌, ℕ, ℤ, pos, List, Option, Some, None, MatchOption, inl, inr, sym, ap, ◌∙◌, subst}
use Rattle.std.specs.Prelude.{unsigned_abs}
use Rattle.jiff.specs.Words.{plain_zone}
use Rattle.jiff_tz.specs.declared.timezone.TimeZone.{TimeZone}
use Rattle.cron_answers.specs.Instants.{IsDateSecond, IsShown}
use Rattle.cron_answers.specs.Spans.{IsNamed, IsWhole}
use Rattle.cron_answers.specs.declared.span.Seconds.{Seconds}
use Rattle.cron_answers.proofs.span.whole.Goals as goal

same : (a b : ℕ) → pos a ≡ pos b → a ≡ b
same a b h = ap unsigned_abs h

none : (text : List ℕ) (z : TimeZone) (now : ℤ) (shown from end : ℕ) → ((c : ℕ) → IsDateSecond text c → ⊥) → IsShown z now shown
    → ((from end : ℕ) → IsNamed text shown from end → ⊥) → IsWhole text z now from end → ⊥
none text z now shown from end date is names (inl h) = date from h.0
none text z now shown from end date is names (inr h) =
    names from end (subst (λ s. IsNamed text s from end) (same h.0 shown (h.1.1 ∙ sym is.1)) h.2)

tells : (text : List ℕ) (z : TimeZone) (now : ℤ) (shown : ℕ) (r : Option Seconds) → ((c : ℕ) → IsDateSecond text c → ⊥) → IsShown z now shown
    → MatchOption r ((from end : ℕ) → IsNamed text shown from end → ⊥) (λ it. IsNamed text shown it.from it.end)
    → MatchOption r ((from end : ℕ) → IsWhole text z now from end → ⊥) (λ it. IsWhole text z now it.from it.end)
tells text z now shown None date is h = λ from end w. none text z now shown from end date is h w
tells text z now shown (Some it) date is h = inr (shown, is, h)

pub returns-in-Some-shown_second : goal.returns-in-Some-shown_second
returns-in-Some-shown_second c =
    tells c.args.text.now (plain_zone c.args.zone.now) c.args.now.nanosecond c.in-Some-shown_second.shown c.named.result c.in_default.ensures
    c.in-Some-shown_second.ensures c.named.ensures
