-- The fires of an expression as rows.
use Rattle.std.specs.Prelude.{ℕ, zero, suc, ◌-◌, ℤ, pos, ◌-ℤ◌, Bool, true, false, List, map, take, Option, Some, None, Result, ⊤}
use Rattle.std.specs.declared.io.Error.{Error}
use Rattle.jiff_tz.specs.declared.timezone.TimeZone.{TimeZone}
use Rattle.cron_time.specs.Seconds.{Seconds}
use Rattle.cron_dues.specs.Due as dues
use Rattle.cron_dues.specs.DueText.{due_text}
use Rattle.cron_moments.specs.MomentText.{moment_text}
use Rattle.cron_moments.specs.Readings as moments
use Rattle.cron_dues.specs.Dues.{dues_after, dues_back, dues_between}
use Rattle.cron_instants.specs.Fires as shown
use Rattle.cron_fires.specs.declared.changes.ClockChanges.{ClockChanges}
use Rattle.cron_fires.specs.declared.changes.ClockChanges.TheVariants.{AsShown, Once}
use Rattle.cron_writer.specs.Calls.{AreGathered, HandsOnLines, IsFlushed}
use Rattle.cron_writer.specs.Watching.{has_failed, writer_of}
use Rattle.cron_writer.specs.declared.watched.Watched.{Watched}
use Rattle.cron_answers.specs.Rows.{row, rows}
use Rattle.cron_answers.specs.declared.fires.Asked.{Asked}
use Rattle.cron_answers.specs.declared.fires.Asked.TheVariants.{Next, Back, Between}
use Rattle.cron_replies.specs.declared.form.Form.{Form}

-- the times before the instant t, in nanoseconds since 1970, at which a clock shows a match, the
-- latest first
abbrev pub moments_before : Seconds → TimeZone → ℤ → List moments.Reading
moments_before s z t = shown.fires_back s z (t -ℤ pos 1)

-- the matches, each once, whose instant is before t, in nanoseconds since 1970, the latest first
abbrev pub dues_before : Seconds → TimeZone → ℤ → List dues.Due
dues_before s z t = dues_back s z (t -ℤ pos 1)

-- the times asked for at which a clock shows a match, in order, or for `Back` the latest first
abbrev pub moments_of : Asked → Seconds → TimeZone → List moments.Reading
moments_of (Next start count) s z = take count (shown.fires_after s z start.nanosecond)
moments_of (Back end count) s z = take count (moments_before s z end.nanosecond)
moments_of (Between start end) s z = shown.fires_between s z start.nanosecond end.nanosecond

-- the matches asked for, each once, in order, or for `Back` the latest first
abbrev pub dues_of : Asked → Seconds → TimeZone → List dues.Due
dues_of (Next start count) s z = take count (dues_after s z start.nanosecond)
dues_of (Back end count) s z = take count (dues_before s z end.nanosecond)
dues_of (Between start end) s z = dues_between s z start.nanosecond end.nanosecond

-- the rows of the fires asked for, by a rule at clock changes
abbrev pub rows_by : ClockChanges → Form → Asked → Seconds → TimeZone → List ℕ
rows_by AsShown form asked s z = rows form moment_text moments.instant (moments_of asked s z)
rows_by Once form asked s z = rows form due_text dues.instant (dues_of asked s z)

-- ---- how the rows are gathered

-- the first `most` of some fires, or all of them if there is no number
abbrev pub first_of : {A : Type 0} → Option ℕ → List A → List A
first_of None fires = fires
first_of (Some most) fires = take most fires

abbrev pub is_none_wanted : Option ℕ → Bool
is_none_wanted None = false
is_none_wanted (Some zero) = true
is_none_wanted (Some (suc n)) = false

abbrev pub one_less : Option ℕ → Option ℕ
one_less None = None
one_less (Some n) = Some (n - 1)

-- the rows of some fires were gathered one after another
abbrev pub GathersRows : {A W : Type 0} → (W → List ℕ → Result ℕ Error → W → Type 0) → Form → (A → List ℕ) → (A → ℤ) → Watched W → Watched W → List ℕ → List ℕ → Type 0
GathersRows {A} writes form text second old new was kept =
    (fires : List A) × AreGathered writes (map (λ fire. row form (text fire) (second fire)) fires) old new was kept

-- The rows of some fires were gathered one after another, and at the end the rest of them was
-- passed to the writer.
abbrev pub HandsOnRows : {A W : Type 0} → (W → List ℕ → Result ℕ Error → W → Type 0) → Form → (A → List ℕ) → (A → ℤ) → Watched W → Watched W → Type 0
HandsOnRows {A} writes form text second old new =
    (fires : List A) × HandsOnLines writes (map (λ fire. row form (text fire) (second fire)) fires) old new

-- The rows of some fires, by a rule at clock changes, were gathered and passed to the writer.
abbrev pub HandsOnRowsBy : {W : Type 0} → ClockChanges → (W → List ℕ → Result ℕ Error → W → Type 0) → Form → Watched W → Watched W → Type 0
HandsOnRowsBy AsShown writes form old new = HandsOnRows writes form moment_text moments.instant old new
HandsOnRowsBy Once writes form old new = HandsOnRows writes form due_text dues.instant old new

-- The rows of some fires were passed to the writer, and then it was flushed once, unless a call had
-- failed.
abbrev pub HandsOnRowsFlushed : {W : Type 0} → ClockChanges → (W → List ℕ → Result ℕ Error → W → Type 0) → (W → Result ⊤ Error → W → Type 0) → Form
    → Watched W → Watched W → Type 0
HandsOnRowsFlushed {W} changes writes flushes form old new =
    (last : Watched W) × HandsOnRowsBy changes writes form old last × IsFlushed flushes (writer_of last) (has_failed last) (writer_of new) (has_failed new)
