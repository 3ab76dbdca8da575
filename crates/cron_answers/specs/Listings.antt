-- The list of the requested fires, in the form that is wanted, and why there is none.
use Rattle.std.specs.Prelude.{◌≡◌, ◌⊎◌, ℕ, Bool, true, false, List, Option, Ok, Err, ⊤}
use Rattle.jiff_core.specs.declared.error.Error.{Error}
use Rattle.jiff_tz.specs.declared.timezone.TimeZone.{TimeZone}
use Rattle.cron_looks.specs.Formats.{IsTried}
use Rattle.cron_looks.specs.Times.{is_out_of_memory}
use Rattle.cron_looks.specs.declared.times.Times.{Times}
use Rattle.cron_looks.specs.declared.times.Times.TheVariants.{Plain, Format}
use Rattle.cron_replies.specs.Statuses.{Ends}
use Rattle.cron_replies.specs.declared.status.Status.{Status}
use Rattle.cron_replies.specs.declared.status.Status.TheVariants.{Done}
use Rattle.cron_answers.specs.Expressions.{changes_by, matches_of}
use Rattle.cron_answers.specs.Fires.{rows_by}
use Rattle.cron_answers.specs.TimedLines.{AreLinesBy, IsLinesErrorBy}
use Rattle.cron_answers.specs.declared.answer.Request.{Request}
use Rattle.cron_answers.specs.declared.expression.Expression.{Expression}
use Rattle.cron_answers.specs.declared.fires.Asked.{Asked}
use Rattle.cron_answers.specs.declared.trouble.Trouble.{Trouble}
use Rattle.cron_answers.specs.declared.trouble.Trouble.TheVariants as trouble

abbrev pub is_plain : Times → Bool
is_plain Plain = true
is_plain _ = false

-- the text is the rows of the requested fires where times are plain, else their lines
abbrev pub IsListingBy : Times → Request → Expression → Asked → TimeZone → List ℕ → Type 0
IsListingBy Plain r e asked z text = text ≡ rows_by (changes_by r.changes e) r.form asked (matches_of r.plan e) z
IsListingBy times r e asked z text = AreLinesBy (changes_by r.changes e) times asked (matches_of r.plan e) z text

abbrev pub IsListing : Request → Expression → Asked → TimeZone → List ℕ → Type 0
IsListing r = IsListingBy r.times r

-- `strftime` takes the format of times, if they have one: it shows 1970-01-01 00:00:00 +00:00
abbrev pub IsTaken : Times → Type 0
IsTaken (Format format) = (text : List ℕ) × IsTried format.now (Ok text)
IsTaken _ = ⊤

-- the listing was written
abbrev pub ListsAs : Request → Expression → Asked → TimeZone → Option (List ℕ) → Option (List ℕ) → Status → Type 0
ListsAs r e asked z was is status = IsTaken r.times × ((text : List ℕ) × IsListing r e asked z text × Ends Done text was is status)

-- the word is the format of times, and `strftime` refuses it, by an error of which `Why` tells
abbrev pub IsRefusedFormat : Times → (Error → Type 0) → List ℕ → Type 0
IsRefusedFormat (Format format) Why word = (word ≡ format.now) × ((why : Error) × (is_out_of_memory why ≡ false) × Why why)
IsRefusedFormat _ Why word = ⊥

-- why times can't be written: `strftime` refuses the format, or memory ran out
abbrev pub IsFormatTrouble : Times → (Error → Type 0) → Trouble → Type 0
IsFormatTrouble times Why (trouble.Format word) = IsRefusedFormat times Why word.now
IsFormatTrouble times Why trouble.NoMemory = ⊤
IsFormatTrouble times Why _ = ⊥

-- `strftime` refuses the format of times at 1970-01-01 00:00:00 +00:00
abbrev pub IsTriedBy : Times → Error → Type 0
IsTriedBy (Format format) why = IsTried format.now (Err why)
IsTriedBy _ why = ⊥

-- why the requested fires can't be listed: the format of their times is refused, at that instant or
-- at one of the fires, or memory ran out
abbrev pub IsUnlisted : Request → Expression → Asked → TimeZone → Trouble → Type 0
IsUnlisted r e asked z t =
    IsFormatTrouble r.times (λ why. IsTriedBy r.times why ⊎ IsLinesErrorBy (changes_by r.changes e) r.times asked (matches_of r.plan e) z why) t
