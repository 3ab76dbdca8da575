-- What the subcommand `oncalendar` writes of an expression, for systemd.
use Rattle.std.specs.Prelude.{◌≡◌, ◌⊎◌, ℕ, Bool, List, Option, codes}
use Rattle.cron_walk_listing.specs.Output.{complaint}
use Rattle.cron_oncalendar.specs.Unions.{IsNever, SaysUnion}
use Rattle.cron_answers.specs.Expressions.{schedules_of, IsReadAs, IsRefusedAs}
use Rattle.cron_answers.specs.Pairs.{no_memory}
use Rattle.cron_replies.specs.Statuses.{Ends, Reporting}
use Rattle.cron_answers.specs.Troubles.{IsTold}
use Rattle.cron_answers.specs.declared.expression.Expression.{Expression}
use Rattle.cron_replies.specs.declared.status.Status.{Status}
use Rattle.cron_replies.specs.declared.status.Status.TheVariants.{Done, No, Unreadable}
use Rattle.cron_answers.specs.declared.trouble.Trouble.{Trouble}
use Rattle.cron_answers.specs.declared.trouble.Trouble.TheVariants as trouble

-- Lines of `OnCalendar` were written that say the expression, with a zone if one is named.
pub record IsSaid (quartz : Bool) (text : List ℕ) (zone : Option (List ℕ)) (was is : Option (List ℕ)) (status : Status) : Type 0 where
  pub expression : Expression
  pub read : IsReadAs quartz text expression
  pub lines : List ℕ
  pub says : SaysUnion (schedules_of expression) zone lines
  pub ends : Ends Done lines was is status

abbrev pub never_text : List ℕ
never_text = codes "it never fires, and OnCalendar has no line for that"

-- The expression never fires, and a complaint says so.
pub record IsNeverTold (quartz : Bool) (text : List ℕ) (was is : Option (List ℕ)) (status : Status) : Type 0 where
  pub expression : Expression
  pub read : IsReadAs quartz text expression
  pub never : IsNever (schedules_of expression)
  pub ends : Ends No (complaint never_text) was is status

-- The text is no expression, for the reason that the trouble has.
abbrev pub IsNoExpression : Bool → List ℕ → Trouble → Type 0
IsNoExpression quartz text (trouble.Expression words refusal) = (words.now ≡ text) × IsRefusedAs quartz text refusal
IsNoExpression quartz text _ = ⊥

-- The lines were written. Or a complaint was: the expression never fires, the text is none, or
-- memory ran out. Only one of the two writers was written to and flushed.
abbrev pub AnswersCalendar : {W C : Type 0} → Bool → List ℕ → Option (List ℕ) → Reporting W → Reporting C → W × C → Status → W × C → Type 0
AnswersCalendar quartz text zone out complaints old status new =
    (out (IsSaid quartz text zone) old.0 status new.0 × (new.1 ≡ old.1))
    ⊎ ((complaints (IsNeverTold quartz text) old.1 status new.1 × (new.0 ≡ old.0))
    ⊎ (((t : Trouble) × IsNoExpression quartz text t × complaints (IsTold t) old.1 status new.1 × (new.0 ≡ old.0))
    ⊎ (complaints (Ends Unreadable (complaint no_memory)) old.1 status new.1 × (new.0 ≡ old.0))))
