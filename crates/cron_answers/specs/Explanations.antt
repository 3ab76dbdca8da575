-- What the subcommand `explain` answers to its words, which are its arguments.
use Rattle.std.specs.Prelude.{◌≡◌, ◌⊎◌, ◌++◌, ℕ, ℤ, pos, ◌+ℤ◌, List, Option, Err}
use Rattle.jiff_core.specs.Timestamp.{IsTimestampNanos}
use Rattle.jiff_tz.specs.declared.timezone.TimeZone.{TimeZone}
use Rattle.cron_walk_listing.specs.Output.{complaint}
use Rattle.cron_zones.specs.Opening.{Opens}
use Rattle.cron_answers.specs.Answers.{Given, IsAsked, IsNotAsked, IsOpened}
use Rattle.cron_answers.specs.Expressions.{changes_by, matches_of}
use Rattle.cron_answers.specs.Fires.{rows_by}
use Rattle.cron_answers.specs.Pairs.{no_memory}
use Rattle.cron_answers.specs.Reports.{IsHead, tally_text}
use Rattle.cron_replies.specs.Statuses.{Ends, Reporting}
use Rattle.cron_answers.specs.Tallies.{IsTallyBy}
use Rattle.cron_answers.specs.Troubles.{IsTold, zone_word}
use Rattle.cron_answers.specs.Wholes.{IsReadWhole, IsRefusedWhole}
use Rattle.cron_answers.specs.declared.answer.Request.{Request}
use Rattle.cron_answers.specs.declared.expression.Expression.{Expression}
use Rattle.cron_answers.specs.declared.fires.Asked.{Asked}
use Rattle.cron_answers.specs.declared.fires.Asked.TheVariants.{Next, Back, Between}
use Rattle.cron_replies.specs.declared.status.Status.{Status}
use Rattle.cron_replies.specs.declared.status.Status.TheVariants.{Done, Unreadable}
use Rattle.cron_answers.specs.declared.tally.Tally.{Tally}
use Rattle.cron_answers.specs.declared.trouble.Trouble.{Trouble}
use Rattle.cron_answers.specs.declared.trouble.Trouble.TheVariants as trouble

-- the instant from which fires are asked for, or before which for `Back`, in nanoseconds since 1970
abbrev pub start_of : Asked → ℤ
start_of (Next start count) = start.nanosecond
start_of (Between start end) = start.nanosecond
start_of (Back end count) = end.nanosecond

-- 365 days, in nanoseconds
abbrev pub year : ℤ
year = pos 31_536_000_000_000_000

-- `end` is the instant 365 days after `start`, or the last one of a `Timestamp`, in nanoseconds
-- since 1970.
abbrev pub IsYearAfter : ℤ → ℤ → Type 0
IsYearAfter start end =
    (IsTimestampNanos (start +ℤ year) → end ≡ start +ℤ year) × ((IsTimestampNanos (start +ℤ year) → ⊥) → end ≡ pos 253_402_207_200_999_999_999)

-- What was written: the expression's sentence and warnings, the fires asked for, and a tally of the
-- fires in 365 days from the instant asked for.
pub record IsExplained (r : Request) (e : Expression) (z : TimeZone) (asked : Asked) (was is : Option (List ℕ)) (status : Status) : Type 0 where
  pub head : List ℕ
  pub is_head : IsHead r.form r.expression.now e r.plan_lines.now head
  pub end : ℤ
  pub is_end : IsYearAfter (start_of asked) end
  pub tally : Tally
  pub is_tally : IsTallyBy (changes_by r.changes e) (matches_of r.plan e) z (start_of asked) end tally
  pub ends : Ends Done ((head ++ rows_by (changes_by r.changes e) r.form asked (matches_of r.plan e) z) ++ tally_text r.form tally) was is status

-- The expression, perhaps of a crontab's line, the zone and the instants of the words were read, and
-- the expression was explained by them.
pub record Explains {F : Type 0} (g : Given F) (r : Request) (old new : F) (was is : Option (List ℕ)) (status : Status) : Type 0 where
  pub expression : Expression
  pub reads : IsReadWhole r.quartz r.expression.now expression
  pub zone : TimeZone
  pub opened : IsOpened g r old zone new
  pub asked : Asked
  pub asks : IsAsked r.which zone g.now asked
  pub explained : IsExplained r expression zone asked was is status

-- Why nothing can be explained: the first that is wrong of the expression, the zone and the instants.
abbrev pub IsUnexplained : {F : Type 0} → Given F → Request → F → F → Trouble → Type 0
IsUnexplained g r old new (trouble.Expression text refusal) = (text.now ≡ r.expression.now) × IsRefusedWhole r.quartz r.expression.now refusal × (new ≡ old)
IsUnexplained g r old new (trouble.Zone text error) =
    (text.now ≡ zone_word g.places.tz r.zone.now) × ((e : Expression) × IsReadWhole r.quartz r.expression.now e) × Opens g.reads r.zone.now g.places old (Err error) new
IsUnexplained g r old new other = ((e : Expression) × IsReadWhole r.quartz r.expression.now e) × ((z : TimeZone) × IsOpened g r old z new × IsNotAsked r.which z g.now other)

-- The expression was explained, and nothing was complained of; or a word is wrong, or memory ran out, and that was complained of.
abbrev pub AnswersExplain : {F W C : Type 0} → Given F → Request → Reporting W → Reporting C → F × W × C → Status → F × W × C → Type 0
AnswersExplain g r out complaints old status new =
    (out (Explains g r old.0 new.0) old.1 status new.1 × (new.2 ≡ old.2))
    ⊎ (((t : Trouble) × IsUnexplained g r old.0 new.0 t × complaints (IsTold t) old.2 status new.2 × (new.1 ≡ old.1))
    ⊎ (complaints (Ends Unreadable (complaint no_memory)) old.2 status new.2 × (new.1 ≡ old.1)))
