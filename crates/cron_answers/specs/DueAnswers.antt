-- What the subcommand `due` answers to its words, which are its arguments.
use Rattle.std.specs.Prelude.{◌≡◌, ◌⊎◌, ◌*ℤ◌, ℕ, ℤ, pos, int_lt, Bool, List, Result, Ok, Err, MatchResult, if◌then◌else◌}
use Rattle.std.specs.declared.alloc.Global.{Global}
use Rattle.std.specs.declared.io.Error.{Error}
use Rattle.std.specs.declared.vec.Vec.{Vec}
use Rattle.jiff_tz.specs.declared.timezone.TimeZone.{TimeZone}
use Rattle.cron_dues.specs.Due.{instant}
use Rattle.cron_answers.specs.Answers.{Given}
use Rattle.cron_answers.specs.Expressions.{changes_by, schedules_of}
use Rattle.cron_answers.specs.Notices.{IsSaid}
use Rattle.cron_answers.specs.Pendings.{ListsPending}
use Rattle.cron_answers.specs.Stamps.{ReadsStamp}
use Rattle.cron_replies.specs.Statuses.{Reporting}
use Rattle.cron_answers.specs.Subjects.{IsBegun, IsNoSubject}
use Rattle.cron_answers.specs.Troubles.{IsTold}
use Rattle.cron_answers.specs.declared.due.Finding.{Finding}
use Rattle.cron_answers.specs.declared.due.Finding.TheVariants as findings
use Rattle.cron_answers.specs.declared.due.Request.{Request}
use Rattle.cron_answers.specs.declared.expression.Expression.{Expression}
use Rattle.cron_answers.specs.declared.noted.Noted.{Noted}
use Rattle.cron_answers.specs.declared.noted.Noted.TheVariants as noted
use Rattle.cron_answers.specs.declared.notice.Notice.TheVariants as notices
use Rattle.cron_answers.specs.declared.pending.Pending.{Pending}
use Rattle.cron_answers.specs.declared.pending.Pending.TheVariants.{Last, Past, LatestPast}
use Rattle.cron_replies.specs.declared.status.Status.{Status}
use Rattle.cron_replies.specs.declared.status.Status.TheVariants.{Done}
use Rattle.cron_answers.specs.declared.trouble.Trouble.{Trouble}

-- What is listed according to a stamp. If it notes a fire, it is the fires past that one, or the
-- last of them. If it notes none, or one later than now, it is the last fire. If the file is no
-- stamp, or can't be read, it is none.
abbrev pub finding_of : ℤ → Bool → Noted → Finding
finding_of now latest (noted.Fire d) =
    if int_lt now (instant d *ℤ pos 1_000_000_000) then findings.Anew notices.Ahead
    else if latest then findings.List (LatestPast d)
    else findings.List (Past d)
finding_of now latest noted.Nothing = findings.Anew notices.NoStamp
finding_of now latest noted.Broken = findings.Refuse notices.Broken
finding_of now latest noted.Unread = findings.Refuse notices.Unread

abbrev pub or_last : Status → Result Pending Status
or_last Done = Ok Last
or_last status = Err status

-- A finding came to the fires that are listed, or to the status with which the subcommand ends. Its
-- notice, if it has one, was written for the stamp at this path.
abbrev pub ComesTo : {C : Type 0} → Reporting C → List ℕ → Finding → C → Result Pending Status → C → Type 0
ComesTo complaints path (findings.List pending) old result new = (result ≡ Ok pending) × (new ≡ old)
ComesTo complaints path (findings.Anew notice) old result new =
    (said : Status) × complaints (IsSaid notice path) old said new × (result ≡ or_last said)
ComesTo complaints path (findings.Refuse notice) old result new =
    (said : Status) × complaints (IsSaid notice path) old said new × (result ≡ Err said)

-- The stamp was read once, and the pending fires follow from it.
abbrev pub FindsPending :
    {F C : Type 0} → (F → List ℕ → Result (Vec ℕ Global) Error → F → Type 0) → ℤ → Request → Reporting C → F × C → Result Pending Status → F × C
    → Type 0
FindsPending reads now r complaints old result new =
    (noted : Noted) × ReadsStamp reads r.stamp.now old.0 noted new.0
    × ComesTo complaints r.stamp.now (finding_of now r.latest noted) old.1 result new.1

-- The expression was read, the zone opened, and the pending fires found by the stamp. Then these
-- were listed, or the subcommand ended without a list.
pub record ListsDue {F W C : Type 0} (g : Given F) (r : Request) (out : Reporting W) (complaints : Reporting C) (old : F × W × C) (status : Status)
    (new : F × W × C) : Type 0 where
  pub expression : Expression
  pub zone : TimeZone
  pub opened : F
  pub begun : IsBegun g r.quartz r.expression.now r.zone.now old.0 expression zone opened
  pub found : Result Pending Status
  pub finds : FindsPending g.reads g.now r complaints (opened, old.2) found (new.0, new.2)
  pub lists :
      MatchResult found
      (λ pending. out (ListsPending (changes_by r.changes expression) r.form (schedules_of expression) zone g.now pending) old.1 status new.1)
      (λ ended. (status ≡ ended) × (new.1 ≡ old.1))

-- The pending fires were listed, or the stamp allows no list. Or the text is no expression, or the
-- zone can't be opened, and only a complaint was written.
abbrev pub AnswersDue : {F W C : Type 0} → Given F → Request → Reporting W → Reporting C → F × W × C → Status → F × W × C → Type 0
AnswersDue g r out complaints old status new =
    ListsDue g r out complaints old status new
    ⊎ ((t : Trouble) × IsNoSubject g.reads g.places r.quartz r.expression.now r.zone.now old.0 t new.0 × complaints (IsTold t) old.2 status new.2
    × (new.1 ≡ old.1))
