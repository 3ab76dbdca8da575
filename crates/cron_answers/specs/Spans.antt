-- The words that name a span of time: START and END, or one word for a whole day, month or night.
use Rattle.std.specs.Prelude.{◌≡◌, ◌⊎◌, ◌<◌, ◌≤◌, ◌+◌, ◌*◌, ◌/◌, ◌-ℤ◌, ◌*ℤ◌, ◌≤ℤ◌, ◌<ℤ◌, ◌∷◌, ℕ, ℤ, pos, List, Option, Some, None, codes}
use Rattle.std.specs.Borrow.{Bor}
use Rattle.jiff_tz.specs.declared.timezone.TimeZone.{TimeZone}
use Rattle.cron_moments.specs.Civil.{seconds_in_range}
use Rattle.cron_dues.specs.Due.{due, instant}
use Rattle.cron_answers.specs.Days.{AreDays}
use Rattle.cron_answers.specs.Instants.{IsDateSecond, IsInstant, IsShown}
use Rattle.cron_answers.specs.declared.span.Span.{Span}
use Rattle.cron_answers.specs.declared.span.Span.TheVariants.{Ends, Whole}
use Rattle.cron_answers.specs.declared.trouble.Trouble.{Trouble}
use Rattle.cron_answers.specs.declared.trouble.Trouble.TheVariants as trouble

-- ---- a whole day, month or night

-- The civil seconds from `from` on and before `end` are the day, the month or the night that the
-- text names while the clock shows `shown`. Tonight is from 18:00 today to 06:00 tomorrow.
abbrev pub IsNamed : List ℕ → ℕ → ℕ → ℕ → Type 0
IsNamed text shown from end =
    ((first : ℕ) × (last : ℕ) × AreDays text (shown / 86_400) first last × (from ≡ first * 86_400) × (end ≡ last * 86_400))
    ⊎ ((text ≡ codes "tonight") × (from ≡ shown / 86_400 * 86_400 + 64_800) × (end ≡ from + 43_200))

-- they are a date's, or those of a name at the time `now`
abbrev pub IsWhole : List ℕ → TimeZone → ℤ → ℕ → ℕ → Type 0
IsWhole text z now from end =
    (IsDateSecond text from × (end ≡ from + 86_400)) ⊎ ((shown : ℕ) × IsShown z now shown × IsNamed text shown from end)

-- t is the last instant before the first one at which the zone's clock shows the civil second c or
-- a later one. From 2101 on, where nothing fires, it is the last of all.
abbrev pub IsLastBefore : TimeZone → ℕ → ℤ → Type 0
IsLastBefore z c t =
    ((c < seconds_in_range) × (t ≡ instant (due z c) *ℤ pos 1_000_000_000 -ℤ pos 1))
    ⊎ ((seconds_in_range ≤ c) × (t ≡ pos 253_402_207_200_999_999_999))

-- ---- a span

-- What comes after the instant t, up to and with u, is in the span.
abbrev pub IsSpan : Span → TimeZone → ℤ → ℤ → ℤ → Type 0
IsSpan (Ends start end) z now t u = IsInstant start.now z now (Some t) × IsInstant end.now z now (Some u) × (t ≤ℤ u)
IsSpan (Whole word) z now t u = (from : ℕ) × (end : ℕ) × IsWhole word.now z now from end × IsLastBefore z from t × IsLastBefore z end u

-- `word` is the first of START and END that is no instant.
abbrev pub IsNoEnd : Span → TimeZone → ℤ → List ℕ → Type 0
IsNoEnd (Ends start end) z now word =
    ((word ≡ start.now) × IsInstant start.now z now None)
    ⊎ ((t : ℤ) × IsInstant start.now z now (Some t) × (word ≡ end.now) × IsInstant end.now z now None)
IsNoEnd (Whole text) z now word = ⊥

-- START and END are instants, and START comes after END.
abbrev pub IsBackward : Span → TimeZone → ℤ → List ℕ → List ℕ → Type 0
IsBackward (Ends start end) z now first last =
    (first ≡ start.now) × (last ≡ end.now)
    × ((t : ℤ) × (u : ℤ) × IsInstant start.now z now (Some t) × IsInstant end.now z now (Some u) × (u <ℤ t))
IsBackward (Whole text) z now first last = ⊥

-- `word` is the only one, and names nothing whole.
abbrev pub IsNothingWhole : Span → TimeZone → ℤ → List ℕ → Type 0
IsNothingWhole (Ends start end) z now word = ⊥
IsNothingWhole (Whole text) z now word = (word ≡ text.now) × ((from : ℕ) (end : ℕ) → IsWhole text.now z now from end → ⊥)

-- why words name no span
abbrev pub IsNoSpan : Span → TimeZone → ℤ → Trouble → Type 0
IsNoSpan span z now (trouble.Instant word) = IsNoEnd span z now word.now
IsNoSpan span z now (trouble.Order first last) = IsBackward span z now first.now last.now
IsNoSpan span z now (trouble.Whole word) = IsNothingWhole span z now word.now
IsNoSpan span z now _ = ⊥

-- ---- the span in front of other words

-- the word is an instant
abbrev pub IsTime : List ℕ → TimeZone → ℤ → Type 0
IsTime word z now = (t : ℤ) × IsInstant word z now (Some t)

-- the word is an instant, or names something whole
abbrev pub IsNamedTime : List ℕ → TimeZone → ℤ → Type 0
IsNamedTime word z now = IsTime word z now ⊎ ((from : ℕ) × (end : ℕ) × IsWhole word z now from end)

-- the word is neither
abbrev pub IsOther : List ℕ → TimeZone → ℤ → Type 0
IsOther word z now = IsInstant word z now None × ((from : ℕ) (end : ℕ) → IsWhole word z now from end → ⊥)

-- the second word is an instant
abbrev pub HasEnd : List (Bor (List ℕ)) → TimeZone → ℤ → Type 0
HasEnd words z now =
    (start : Bor (List ℕ)) × (end : Bor (List ℕ)) × (rest : List (Bor (List ℕ))) × (words ≡ start ∷ (end ∷ rest)) × IsTime end.now z now

-- if there is a second word, it is no instant
abbrev pub HasNoEnd : List (Bor (List ℕ)) → TimeZone → ℤ → Type 0
HasNoEnd words z now =
    (start : Bor (List ℕ)) (end : Bor (List ℕ)) (rest : List (Bor (List ℕ))) → words ≡ start ∷ (end ∷ rest) → IsInstant end.now z now None

-- The words begin with a span, and `rest` are the others: START and END if the second word is an
-- instant; or else one word, if it is an instant or names something whole; or else none.
abbrev pub Begins : List (Bor (List ℕ)) → TimeZone → ℤ → Option Span → List (Bor (List ℕ)) → Type 0
Begins words z now (Some (Ends start end)) rest = (words ≡ start ∷ (end ∷ rest)) × IsTime end.now z now
Begins words z now (Some (Whole word)) rest = HasNoEnd words z now × (words ≡ word ∷ rest) × IsNamedTime word.now z now
Begins words z now None rest =
    HasNoEnd words z now × (words ≡ rest)
    × ((word : Bor (List ℕ)) (others : List (Bor (List ℕ))) → words ≡ word ∷ others → IsOther word.now z now)
