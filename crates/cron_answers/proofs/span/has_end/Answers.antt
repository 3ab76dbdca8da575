use Rattle.std.proofs.Common.{◌≡◌, ◌<◌, ◌≤◌, ℕ, ℤ, List, [], ◌∷◌, length, slice_index_or, Bool, true, false, Option, None, MatchBool, is_some, option_map, Bor, ap, arith, refl, subst}
use Rattle.jiff.specs.Words.{plain_zone}
use Rattle.jiff.specs.declared.timestamp.Timestamp.{Timestamp}
use Rattle.jiff_tz.specs.declared.timezone.TimeZone.{TimeZone}
use Rattle.cron_answers.specs.Instants.{IsInstant}
use Rattle.cron_answers.specs.Spans.{HasEnd, HasNoEnd}
use Rattle.cron_answers.proofs.SpanLemmas.{some_instant, no_instant}
use Rattle.cron_answers.proofs.span.has_end.Goals as goal

-- fewer words than two have no second one
short : (words : List (Bor (List ℕ))) (z : TimeZone) (now : ℤ) → length words < 2 → HasNoEnd words z now
short words z now h = λ start end rest e. let two : length words ≡ length (start ∷ (end ∷ rest)) = ap length e in absurd (grind arith)

tells : (words : List (Bor (List ℕ))) (d : Bor (List ℕ)) (z : TimeZone) (now : ℤ) (r : Option Timestamp) (t : Bool) → 2 ≤ length words
    → IsInstant (slice_index_or words 1 d).now z now (option_map (λ t. t.nanosecond) r) → t ≡ is_some r
    → MatchBool t (HasEnd words z now) (HasNoEnd words z now)
tells [] d z now r t two h is = absurd (omega arith)
tells (a ∷ []) d z now r t two h is = absurd (omega arith)
tells (a ∷ (b ∷ rest)) d z now r true two h is = (a, b, rest, refl, some_instant (IsInstant b.now z now) r true h is refl)
tells (a ∷ (b ∷ rest)) d z now r false two h is =
    λ start end others e.
    subst (λ (w : Bor (List ℕ)). IsInstant w.now z now None) (ap (λ w. slice_index_or w 1 d) e) (no_instant (IsInstant b.now z now) r false h is refl)

pub returns-then-words-lt2-clause-end : goal.returns-then-words-lt2-clause-end
returns-then-words-lt2-clause-end c = short c.args.words.now (plain_zone c.args.zone.now) c.args.now.nanosecond c.if-words-lt2.true

pub returns-clause-end : goal.returns-clause-end
returns-clause-end c =
    tells c.args.words.now _ (plain_zone c.args.zone.now) c.args.now.nanosecond c.instant_of.result c.is_some.result c.if-words-lt2.false
    c.instant_of.ensures c.is_some.ensures
