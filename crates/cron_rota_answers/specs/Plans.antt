-- What the words of `rota` mean in a zone.
use Rattle.std.specs.Prelude.{◌≡◌, ◌⊎◌, ℕ, ℤ, List, [], Option, Some, None}
use Rattle.jiff_tz.specs.declared.timezone.TimeZone.{TimeZone}
use Rattle.cron_answers.specs.Instants.{IsInstant}
use Rattle.cron_answers.specs.Spans.{IsNoSpan, IsSpan}
use Rattle.cron_answers.specs.declared.span.Span.{Span}
use Rattle.cron_answers.specs.declared.trouble.Trouble.{Trouble}
use Rattle.cron_answers.specs.declared.trouble.Trouble.TheVariants.{Instant}
use Rattle.cron_rotas.specs.declared.swap.Swap.{Swap}
use Rattle.cron_stretches.specs.Fires.{second_of, whole_second}
use Rattle.cron_rota_answers.specs.Lines.{lines_of}
use Rattle.cron_rota_answers.specs.People.{AreNoPeople, ArePeople}
use Rattle.cron_rota_answers.specs.Swaps.{AreSwaps, AreWrong, Given, given}
use Rattle.cron_rota_answers.specs.declared.report.Asked.{Asked}
use Rattle.cron_rota_answers.specs.declared.report.Asked.TheVariants as asked
use Rattle.cron_rota_answers.specs.declared.request.Request.{Request}
use Rattle.cron_rota_answers.specs.declared.request.SwapFile.{SwapFile}
use Rattle.cron_rota_answers.specs.declared.request.Which.{Which}
use Rattle.cron_rota_answers.specs.declared.request.Which.TheVariants.{Between, At}
use Rattle.cron_rota_answers.specs.declared.trouble.RotaTrouble.{RotaTrouble}
use Rattle.cron_rota_answers.specs.declared.trouble.RotaTrouble.TheVariants.{Words, People, Swaps}

-- ---- times

-- the first whole seconds from the two ends of a span on
abbrev pub AreWholeEnds : Span → TimeZone → ℤ → ℤ → ℤ → Type 0
AreWholeEnds span z now first end = (from : ℤ) × (to : ℤ) × IsSpan span z now from to × (first ≡ whole_second from) × (end ≡ whole_second to)

-- what is asked is what the words ask: between whole seconds, or at an instant
abbrev pub IsAsked : Which → TimeZone → ℤ → Asked → Type 0
IsAsked (Between span) z now (asked.Between t u) = AreWholeEnds span z now (second_of t.nanosecond) (second_of u.nanosecond)
IsAsked (At at) z now (asked.At t) = IsInstant at.now z now (Some t.nanosecond)
IsAsked _ z now _ = ⊥

-- the word is no instant
abbrev pub IsNoInstant : List ℕ → TimeZone → ℤ → Trouble → Type 0
IsNoInstant text z now (Instant word) = (word.now ≡ text) × IsInstant text z now None
IsNoInstant text z now _ = ⊥

abbrev pub IsNotAsked : Which → TimeZone → ℤ → Trouble → Type 0
IsNotAsked (Between span) z now t = IsNoSpan span z now t
IsNotAsked (At at) z now t = IsNoInstant at.now z now t

-- the instant at which the rota starts, in nanoseconds since 1970, and what is asked of it
abbrev pub AreTimes : Request → TimeZone → ℤ → ℤ → Asked → Type 0
AreTimes r z now start what = IsInstant r.from.now z now (Some start) × IsAsked r.which z now what

-- the start is no instant, or nothing is asked
abbrev pub AreNoTimes : Request → TimeZone → ℤ → Trouble → Type 0
AreNoTimes r z now t =
    IsNoInstant r.from.now z now t ⊎ ((start : ℤ) × IsInstant r.from.now z now (Some start) × IsNotAsked r.which z now t)

-- ---- swaps

-- the swaps of a file; none if there is no file
abbrev pub AreSwapsOf : Given → Option SwapFile → List Swap → Type 0
AreSwapsOf g None swaps = swaps ≡ []
AreSwapsOf g (Some file) swaps = AreSwaps g (lines_of file.bytes.now) swaps

-- why a file has no swaps
abbrev pub AreNoSwapsOf : Given → Option SwapFile → RotaTrouble → Type 0
AreNoSwapsOf g (Some file) (Swaps name why) = (name.now ≡ file.name.now) × AreWrong g (lines_of file.bytes.now) why
AreNoSwapsOf g _ _ = ⊥

-- ---- all words

-- the words mean a rota of these people, which starts at an instant, with these swaps, and this is
-- asked of it
pub record IsPlan (r : Request) (z : TimeZone) (now start : ℤ) (what : Asked) (names : List (List ℕ)) (swaps : List Swap) : Type 0 where
  pub times : AreTimes r z now start what
  pub people : ArePeople r.people.now names
  pub are_swaps : AreSwapsOf (given names z now) r.swaps swaps

-- the start and what is asked are known
abbrev pub HasTimes : Request → TimeZone → ℤ → Type 0
HasTimes r z now = (start : ℤ) × (what : Asked) × AreTimes r z now start what

-- why the words mean nothing: the first that is wrong of the start, what is asked, the people, and
-- the file of swaps
abbrev pub IsNoPlan : Request → TimeZone → ℤ → RotaTrouble → Type 0
IsNoPlan r z now (Words t) = AreNoTimes r z now t
IsNoPlan r z now (People why) = HasTimes r z now × AreNoPeople r.people.now why
IsNoPlan r z now (Swaps name why) =
    HasTimes r z now × ((names : List (List ℕ)) × ArePeople r.people.now names × AreNoSwapsOf (given names z now) r.swaps (Swaps name why))
