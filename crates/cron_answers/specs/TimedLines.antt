-- Fires as lines whose times a terminal shows, or that a format makes.
use Rattle.std.specs.Prelude.{◌≡◌, ◌⊎◌, ◌++◌, ℕ, List, [], ◌∷◌}
use Rattle.jiff_core.specs.declared.error.Error.{Error}
use Rattle.jiff_core.specs.declared.error.Error.TheVariants.{OutOfMemory}
use Rattle.jiff_tz.specs.declared.timezone.TimeZone.{TimeZone}
use Rattle.cron_dues.specs.DueText.{due_text, shown}
use Rattle.cron_fires.specs.declared.changes.ClockChanges.{ClockChanges}
use Rattle.cron_fires.specs.declared.changes.ClockChanges.TheVariants.{AsShown, Once}
use Rattle.cron_looks.specs.Times.{IsTime, IsTimeError}
use Rattle.cron_looks.specs.declared.times.Times.{Times}
use Rattle.cron_moments.specs.MomentText.{moment_text}
use Rattle.cron_moments.specs.Readings.{Reading}
use Rattle.cron_time.specs.Seconds.{Seconds}
use Rattle.cron_answers.specs.Fires.{dues_of, moments_of}
use Rattle.cron_answers.specs.declared.fires.Asked.{Asked}

-- the line is the time of a fire with this text, at whose instant the clock shows this moment, and
-- a line feed
abbrev pub IsLine : Times → List ℕ → Reading → List ℕ → Type 0
IsLine times text moment line = (cell : List ℕ) × (line ≡ cell ++ 10 ∷ []) × IsTime times text moment cell

-- the text has the lines of some fires, one after another
abbrev pub AreLines : {A : Type 0} → Times → (A → List ℕ) → (A → Reading) → List A → List ℕ → Type 0
AreLines times text moment [] lines = lines ≡ []
AreLines times text moment (f ∷ fires) lines =
    (here : List ℕ) × (rest : List ℕ) × (lines ≡ here ++ rest) × IsLine times (text f) (moment f) here × AreLines times text moment fires rest

-- why the lines of some fires can't be made: memory ran out, or the time of one can't be written
abbrev pub IsLinesError : {A : Type 0} → Times → (A → Reading) → List A → Error → Type 0
IsLinesError times moment [] why = why ≡ OutOfMemory
IsLinesError times moment (f ∷ fires) why = IsTimeError times (moment f) why ⊎ IsLinesError times moment fires why

-- the lines of the fires asked for, by a rule at clock changes
abbrev pub AreLinesBy : ClockChanges → Times → Asked → Seconds → TimeZone → List ℕ → Type 0
AreLinesBy AsShown times asked s z lines = AreLines times moment_text (λ moment. moment) (moments_of asked s z) lines
AreLinesBy Once times asked s z lines = AreLines times due_text shown (dues_of asked s z) lines

abbrev pub IsLinesErrorBy : ClockChanges → Times → Asked → Seconds → TimeZone → Error → Type 0
IsLinesErrorBy AsShown times asked s z why = IsLinesError times (λ moment. moment) (moments_of asked s z) why
IsLinesErrorBy Once times asked s z why = IsLinesError times shown (dues_of asked s z) why
