-- A calendar of spans, one event for each.
use Rattle.std.specs.Prelude.{◌≡◌, ℕ, List, [], ◌∷◌, ◌++◌}
use Rattle.cron_ics.specs.Calendars.{end_text, head_text}
use Rattle.cron_ics.specs.Spans.{IsSpan}
use Rattle.cron_ics.specs.declared.error.IcsError.{IcsError}
use Rattle.cron_ics.specs.declared.error.IcsError.TheVariants.{NoEvents, OutOfMemory, TooMany}
use Rattle.cron_ics.specs.declared.span.Span.{Span}
use Rattle.cron_ics.specs.declared.spans.Series.{Series}

-- the text has the events of the spans, one after another
abbrev pub AreSpans : Series → List Span → List ℕ → Type 0
AreSpans s [] text = text ≡ []
AreSpans s (x ∷ xs) text =
    (own : List ℕ) × (rest : List ℕ) × IsSpan s x.summary.now x.from x.until own × (text ≡ own ++ rest) × AreSpans s xs rest

-- the text is the calendar of the spans
abbrev pub IsPage : Series → List Span → List ℕ → Type 0
IsPage s spans text = (events : List ℕ) × AreSpans s spans events × (text ≡ head_text ++ (events ++ end_text))

-- why there is no calendar: there is no span, or memory ran out
abbrev pub IsNoPage : List Span → IcsError → Type 0
IsNoPage spans NoEvents = spans ≡ []
IsNoPage spans TooMany = ⊥
IsNoPage spans OutOfMemory = Unit {0}
