-- What the subcommand `done` answers to its words, which are its arguments.
use Rattle.std.specs.Prelude.{◌≡◌, ◌⊎◌, ℕ, Bool, List, Option, Some, None, MatchOption, Result, MatchResult, ⊤, if◌then◌else◌}
use Rattle.std.specs.declared.alloc.Global.{Global}
use Rattle.std.specs.declared.io.Error.{Error}
use Rattle.std.specs.declared.vec.Vec.{Vec}
use Rattle.cron_dues.specs.Due.{Due, instant}
use Rattle.cron_dues.specs.DueReading.{HasText}
use Rattle.cron_instants.specs.Order.{comes_before}
use Rattle.cron_notes.specs.Changes.{Change}
use Rattle.cron_notes.specs.Replacing.{Replaces}
use Rattle.cron_answers.specs.Notices.{IsSaid}
use Rattle.cron_answers.specs.Stamps.{ReadsStamp, stamp_text}
use Rattle.cron_replies.specs.Statuses.{Reporting}
use Rattle.cron_answers.specs.declared.done.Request.{Request}
use Rattle.cron_answers.specs.declared.noted.Noted.{Noted}
use Rattle.cron_answers.specs.declared.noted.Noted.TheVariants.{Fire, Nothing, Broken, Unread}
use Rattle.cron_answers.specs.declared.notice.Notice.{Notice}
use Rattle.cron_answers.specs.declared.notice.Notice.TheVariants as notices
use Rattle.cron_replies.specs.declared.status.Status.{Status}
use Rattle.cron_replies.specs.declared.status.Status.TheVariants.{Done, WriteFailed}

-- whether a due fire is before another: by instant, and if they share it by the civil second
-- matched
abbrev pub is_before : Due → Due → Bool
is_before d e = comes_before (instant d) d.second (instant e) e.second

-- why a fire isn't noted: the stamp notes a later one, or the file is no stamp, or can't be read;
-- `None` if it is noted
abbrev pub objection : Due → Noted → Option Notice
objection d (Fire e) = if is_before d e then Some notices.Older else None
objection d Nothing = None
objection d Broken = Some notices.Broken
objection d Unread = Some notices.Unread

-- The file at the path was replaced by the stamp of the fire. If that failed, a notice says so.
abbrev pub Notes : {S C : Type 0} → (S → Change → Result ⊤ Error → S → Type 0) → Reporting C → List ℕ → Due → S × C → Status → S × C → Type 0
Notes does complaints path d old status new =
    (answer : Result ⊤ Error) × Replaces does path (stamp_text d) old.0 answer new.0
    × MatchResult answer (λ done. (status ≡ Done) × (new.1 ≡ old.1))
    (λ e. (status ≡ WriteFailed) × ((said : Status) × complaints (IsSaid notices.Unwritten path) old.1 said new.1))

-- The word is no fire, and a notice says so. Or it is one, the stamp was read, and the fire was
-- noted, unless an objection to it was written instead.
abbrev pub AnswersDone : {S C : Type 0} → (S → List ℕ → Result (Vec ℕ Global) Error → S → Type 0) → (S → Change → Result ⊤ Error → S → Type 0)
    → Reporting C → Request → S × C → Status → S × C → Type 0
AnswersDone {S} reads does complaints r old status new =
    (((d : Due) → HasText r.fire.now d → ⊥) × complaints (IsSaid notices.NoFire r.fire.now) old.1 status new.1 × (new.0 ≡ old.0))
    ⊎ ((d : Due) × HasText r.fire.now d
    × ((noted : Noted) × (read : S) × ReadsStamp reads r.stamp.now old.0 noted read
    × MatchOption (objection d noted) (Notes does complaints r.stamp.now d (read, old.1) status new)
    (λ notice. complaints (IsSaid notice r.stamp.now) old.1 status new.1 × (new.0 ≡ read))))
