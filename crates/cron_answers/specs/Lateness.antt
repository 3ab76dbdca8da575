-- Whether a fire was missed, and what is said of it.
use Rattle.std.specs.Prelude.{◌≡◌, false, ℕ, ℤ, pos, ◌+ℤ◌, ◌*ℤ◌, ◌<ℤ◌, ◌≤ℤ◌, int_le, List, ◌∷◌, ◌++◌, Option, Some, None, MatchOption, codes, if◌then◌else◌}
use Rattle.std.specs.Fmt.{signed_decimal}
use Rattle.jiff_core.specs.declared.Offset.{Offset}
use Rattle.jiff_tz.specs.declared.timezone.TimeZone.{TimeZone}
use Rattle.cron_time.specs.Seconds.{Seconds}
use Rattle.cron_dues.specs.Due as dues
use Rattle.cron_dues.specs.DueText.{due_text}
use Rattle.cron_instants.specs.Order.{comes_before}
use Rattle.cron_moments.specs.MomentText.{moment_text}
use Rattle.cron_moments.specs.Parts.{ShowsAt}
use Rattle.cron_moments.specs.Readings.{Reading}
use Rattle.cron_moments.specs.Readings as moments
use Rattle.cron_instants.specs.Instants.{IsItem}
use Rattle.cron_dues.specs.FirstDues.{IsDue}
use Rattle.cron_fires.specs.declared.changes.ClockChanges.{ClockChanges}
use Rattle.cron_fires.specs.declared.changes.ClockChanges.TheVariants.{AsShown, Once}
use Rattle.cron_replies.specs.declared.form.Form.{Form}
use Rattle.cron_replies.specs.declared.form.Form.TheVariants.{Text, Json}
use Rattle.cron_replies.specs.Statuses.{Ends}
use Rattle.cron_answers.specs.declared.missed.Missed.{Missed}
use Rattle.cron_replies.specs.declared.status.Status.{Status}
use Rattle.cron_replies.specs.declared.status.Status.TheVariants.{Done, No}

-- a second since 1970, in nanoseconds
abbrev pub nanos : ℤ → ℤ
nanos second = second *ℤ pos 1_000_000_000

-- A fire at this second is missed: it comes after the last run, and its grace is over. The instants of the last run and of the present are
-- in nanoseconds, the grace in seconds.
abbrev pub IsMissed : ℤ → ℕ → ℤ → ℤ → Type 0
IsMissed last grace now second = (last <ℤ nanos second) × (nanos (second +ℤ pos grace) ≤ℤ now)

-- The first fire that is missed, by instant, and if some share it by civil second. It is late since
-- its grace was over. `None` exactly if no fire is missed.
abbrev pub IsFirstMissed : {A : Type 0} → (A → Type 0) → (A → ℤ) → (A → ℕ) → ℤ → ℕ → ℤ → Option (Missed A) → Type 0
IsFirstMissed {A} IsFire second civil last grace now answer =
    MatchOption answer
    ((f : A) → IsFire f → IsMissed last grace now (second f) → ⊥)
    (λ m.
    IsFire m.fire × IsMissed last grace now (second m.fire)
    × ((f : A) → IsFire f → IsMissed last grace now (second f) → comes_before (second f) (civil f) (second m.fire) (civil m.fire) ≡ false)
    × (m.since ≡ second m.fire +ℤ pos grace))

abbrev pub in_time_sentence : List ℕ
in_time_sentence = codes "in time: no fire was missed\n"

-- what a clock at this offset shows at a second since 1970; `None` if that is outside of 1970 to
-- 2100
abbrev pub IsShown : ℤ → Offset → Option Reading → Type 0
IsShown second o shown = MatchOption shown ((m : Reading) → ShowsAt second o m → ⊥) (ShowsAt second o)

-- the text of the moment that a clock shows, or `@` and the second if there is none
abbrev pub since_text : ℤ → Option Reading → List ℕ
since_text second None = 64 ∷ signed_decimal second
since_text second (Some m) = moment_text m

abbrev pub IsSinceText : ℤ → Offset → List ℕ → Type 0
IsSinceText second o text = (shown : Option Reading) × IsShown second o shown × (text ≡ since_text second shown)

-- the sentence about a missed fire:
-- `late since 2022-11-06 01:40:00 -06:00: 2022-11-06 01:30:00 -06:00 was missed`
abbrev pub late_sentence : List ℕ → List ℕ → List ℕ
late_sentence since text = codes "late since " ++ (since ++ (codes ": " ++ (text ++ codes " was missed\n")))

abbrev pub in_time_object : List ℕ
in_time_object = codes "{\"late\":false}\n"

-- a missed fire as JSON, with its text and its instant, and since when it is late: `{"late":true,
-- "fire":"2022-11-06 01:30:00 -06:00","epoch":1667719800,"since":"2022-11-06 01:40:00 -06:00",
-- "since_epoch":1667720400}`, on one line
abbrev pub late_object : List ℕ → ℤ → List ℕ → ℤ → List ℕ
late_object since since_second text second =
    codes "{\"late\":true,\"fire\":\"" ++ (text ++ (codes "\",\"epoch\":" ++ (signed_decimal second ++ (codes ",\"since\":\"" ++ (since
    ++ (codes "\",\"since_epoch\":" ++ (signed_decimal since_second ++ codes "}\n")))))))

-- the sentence, or the object of JSON, if no fire was missed
abbrev pub in_time_text : Form → List ℕ
in_time_text Text = in_time_sentence
in_time_text Json = in_time_object

abbrev pub late_text : Form → List ℕ → ℤ → List ℕ → ℤ → List ℕ
late_text Text since since_second text second = late_sentence since text
late_text Json since since_second text second = late_object since since_second text second

-- The sentence, or the object of JSON, says which fire was missed and since when it is late, as the
-- clock shows it at the fire's offset, or that none was.
abbrev pub IsSentence : {A : Type 0} → Form → (A → List ℕ) → (A → ℤ) → (A → Offset) → Option (Missed A) → List ℕ → Type 0
IsSentence form text second offset None s = s ≡ in_time_text form
IsSentence form text second offset (Some m) s =
    (since : List ℕ) × IsSinceText m.since (offset m.fire) since × (s ≡ late_text form since m.since (text m.fire) (second m.fire))

abbrev pub late_status : {A : Type 0} → Option A → Status
late_status None = Done
late_status (Some m) = No

-- The sentence was written, and the status is `No` if a fire was missed.
abbrev pub Says : {A : Type 0} → Form → (A → List ℕ) → (A → ℤ) → (A → Offset) → Option (Missed A) → Option (List ℕ) → Option (List ℕ) → Status → Type 0
Says form text second offset missed was is status = (s : List ℕ) × IsSentence form text second offset missed s × Ends (late_status missed) s was is status

-- The sentence on whether one of these fires was missed was written.
abbrev pub SaysWhether :
    {A : Type 0} → Form → (A → List ℕ) → (A → Offset) → (A → ℤ) → (A → ℕ) → (A → Type 0) → ℤ → ℕ → ℤ → Option (List ℕ) → Option (List ℕ) → Status → Type 0
SaysWhether {A} form text offset second civil IsFire last grace now was is status =
    (missed : Option (Missed A)) × IsFirstMissed IsFire second civil last grace now missed × Says form text second offset missed was is status

-- The sentence on whether a fire of a set was missed in a zone, by a rule at clock
-- changes, was written.
abbrev pub SaysWhetherBy : ClockChanges → Form → Seconds → TimeZone → ℤ → ℕ → ℤ → Option (List ℕ) → Option (List ℕ) → Status → Type 0
SaysWhetherBy AsShown form s z = SaysWhether form moment_text (λ r. r.offset) moments.instant (λ r. r.second) (IsItem s z)
SaysWhetherBy Once form s z = SaysWhether form due_text (λ d. d.offset) dues.instant (λ d. d.second) (IsDue s z)

-- ---- how the missed fire is found

-- The first fire after the instant `last`, in nanoseconds since 1970: by instant, and if some share
-- it by civil second. `None` exactly if there is none.
abbrev pub IsFirstAfter : {A : Type 0} → (A → Type 0) → (A → ℤ) → (A → ℕ) → ℤ → Option A → Type 0
IsFirstAfter {A} IsFire second civil last answer =
    MatchOption answer
    ((f : A) → IsFire f → last <ℤ nanos (second f) → ⊥)
    (λ first.
    IsFire first × (last <ℤ nanos (second first))
    × ((f : A) → IsFire f → last <ℤ nanos (second f) → comes_before (second f) (civil f) (second first) (civil first) ≡ false))

-- since when a fire at this second is late, or `None` if its grace isn't over
abbrev pub since_of : ℤ → ℕ → ℤ → Option ℤ
since_of second grace now = if int_le (nanos (second +ℤ pos grace)) now then Some (second +ℤ pos grace) else None

abbrev pub missed_at : {A : Type 0} → A → Option ℤ → Option (Missed A)
missed_at f None = None
missed_at f (Some since) = Some (record { fire = f; since = since })

-- the first fire after the last run as a missed one, or `None` if there is none or its grace isn't
-- over
abbrev pub missed_of : {A : Type 0} → (A → ℤ) → ℕ → ℤ → Option A → Option (Missed A)
missed_of second grace now None = None
missed_of second grace now (Some f) = missed_at f (since_of (second f) grace now)
