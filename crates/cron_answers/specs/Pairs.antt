-- What the subcommands `compare` and `overlap` tell about two expressions.
use Rattle.std.specs.Prelude.{◌≡◌, ◌⊎◌, ◌++◌, ℕ, Bool, List, [], Option, Some, None, codes, if◌then◌else◌}
use Rattle.jiff.specs.Names.{iso_datetime_text}
use Rattle.cron_units.specs.Sets.{Sets}
use Rattle.cron_moments.specs.Civil.{civil}
use Rattle.cron_unions.specs.Unions.{matches_any}
use Rattle.cron_comparing.specs.Comparisons.{IsFirstCommon, IsFirstDifference}
use Rattle.cron_walk_listing.specs.Output.{complaint}
use Rattle.cron_answers.specs.Expressions.{schedules_of, IsReadAs, IsRefusedAs}
use Rattle.cron_replies.specs.declared.form.Form.{Form}
use Rattle.cron_replies.specs.declared.form.Form.TheVariants.{Text, Json}
use Rattle.cron_replies.specs.Statuses.{Ending, Ends, Reporting}
use Rattle.cron_answers.specs.Troubles.{IsTold}
use Rattle.cron_answers.specs.declared.expression.Expression.{Expression}
use Rattle.cron_answers.specs.declared.pair.Both.{Both}
use Rattle.cron_answers.specs.declared.pair.Pair.{Pair}
use Rattle.cron_replies.specs.declared.status.Status.{Status}
use Rattle.cron_replies.specs.declared.status.Status.TheVariants.{Done, No, Unreadable}
use Rattle.cron_answers.specs.declared.trouble.Trouble.{Trouble}
use Rattle.cron_answers.specs.declared.trouble.Trouble.TheVariants as trouble

-- The two words are these expressions.
pub record AreRead (p : Pair) (b : Both) : Type 0 where
  pub first : IsReadAs p.quartz p.first.now b.first
  pub second : IsReadAs p.quartz p.second.now b.second

-- The trouble is the first of the two words that is no expression, and why.
abbrev pub IsNoPair : Pair → Trouble → Type 0
IsNoPair p (trouble.Expression text refusal) =
    ((text.now ≡ p.first.now) × IsRefusedAs p.quartz p.first.now refusal)
    ⊎ ((text.now ≡ p.second.now) × ((e : Expression) × IsReadAs p.quartz p.first.now e) × IsRefusedAs p.quartz p.second.now refusal)
IsNoPair p _ = ⊥

abbrev pub no_memory : List ℕ
no_memory = codes "out of memory"

-- which of the two expressions matches: `: the first alone` if it is the first
abbrev pub side_text : Bool → List ℕ
side_text first = if first then codes ": the first alone\n" else codes ": the second alone\n"

-- the same in JSON, behind the civil second
abbrev pub side_member : Bool → List ℕ
side_member first = if first then codes "\",\"alone\":\"first\"}\n" else codes "\",\"alone\":\"second\"}\n"

-- the line of a difference at the civil second c, as `2028-02-29T00:00:00: the first alone`, or
-- `{"at":"2028-02-29T00:00:00","alone":"first"}` as JSON
abbrev pub difference_row : Form → List Sets → ℕ → List ℕ
difference_row Text ss c = iso_datetime_text (civil c) ++ side_text (matches_any ss (civil c))
difference_row Json ss c = codes "{\"at\":\"" ++ (iso_datetime_text (civil c) ++ side_member (matches_any ss (civil c)))

-- the line of the first difference, or nothing
abbrev pub difference_text : Form → List Sets → Option ℕ → List ℕ
difference_text form ss None = []
difference_text form ss (Some c) = difference_row form ss c

-- the status of `compare`: `Done` if there is no difference, else `No`
abbrev pub difference_status : Option ℕ → Status
difference_status None = Done
difference_status (Some c) = No

-- the line of a civil second that both match, as `2024-02-29T00:00:00`, or
-- `{"at":"2024-02-29T00:00:00"}` as JSON
abbrev pub common_row : Form → ℕ → List ℕ
common_row Text c = iso_datetime_text (civil c) ++ codes "\n"
common_row Json c = codes "{\"at\":\"" ++ (iso_datetime_text (civil c) ++ codes "\"}\n")

-- the line of the first civil second that both match, or nothing
abbrev pub common_text : Form → Option ℕ → List ℕ
common_text form None = []
common_text form (Some c) = common_row form c

-- the status of `overlap`: `Done` if both match some civil second, else `No`
abbrev pub common_status : Option ℕ → Status
common_status None = No
common_status (Some c) = Done

-- The first difference of the two expressions was written.
pub record IsCompared (p : Pair) (was is : Option (List ℕ)) (status : Status) : Type 0 where
  pub both : Both
  pub read : AreRead p both
  pub found : Option ℕ
  pub first : IsFirstDifference (schedules_of both.first) (schedules_of both.second) found
  pub ends : Ends (difference_status found) (difference_text p.form (schedules_of both.first) found) was is status

-- The first civil second that the two expressions both match was written.
pub record IsOverlapped (p : Pair) (was is : Option (List ℕ)) (status : Status) : Type 0 where
  pub both : Both
  pub read : AreRead p both
  pub found : Option ℕ
  pub first : IsFirstCommon (schedules_of both.first) (schedules_of both.second) found
  pub ends : Ends (common_status found) (common_text p.form found) was is status

-- What `Told` says was written. Or a complaint was: one word is no expression, or memory ran out.
-- Only one of the two writers was written to and flushed.
abbrev pub TellsOfPair : {W C : Type 0} → Ending → Pair → Reporting W → Reporting C → W × C → Status → W × C → Type 0
TellsOfPair Told p out complaints old status new =
    (out Told old.0 status new.0 × (new.1 ≡ old.1))
    ⊎ (((t : Trouble) × IsNoPair p t × complaints (IsTold t) old.1 status new.1 × (new.0 ≡ old.0))
    ⊎ (complaints (Ends Unreadable (complaint no_memory)) old.1 status new.1 × (new.0 ≡ old.0)))

abbrev pub Compares : {W C : Type 0} → Pair → Reporting W → Reporting C → W × C → Status → W × C → Type 0
Compares p = TellsOfPair (IsCompared p) p

abbrev pub Overlaps : {W C : Type 0} → Pair → Reporting W → Reporting C → W × C → Status → W × C → Type 0
Overlaps p = TellsOfPair (IsOverlapped p) p
