-- What notices say about stamps, which are files that hold the last fire that was done.
use Rattle.std.specs.Prelude.{◌⊎◌, ◌++◌, ℕ, List, Option, codes}
use Rattle.cron_walk_listing.specs.Output.{complaint}
use Rattle.cron_replies.specs.Statuses.{Ends}
use Rattle.cron_answers.specs.declared.notice.Notice.{Notice}
use Rattle.cron_answers.specs.declared.notice.Notice.TheVariants.{NoStamp, Ahead, Older, NoFire, Unread, Broken, Unwritten}
use Rattle.cron_replies.specs.declared.status.Status.{Status}
use Rattle.cron_replies.specs.declared.status.Status.TheVariants.{Done, WrongWords, Unreadable}

-- what is before the word in a notice, the stamp's path or the text that is no fire
abbrev pub front_of : Notice → List ℕ
front_of NoStamp = codes "note: there is no stamp "
front_of Ahead = codes "note: the stamp "
front_of Older = codes "note: the stamp "
front_of NoFire = codes "error: '"
front_of Unread = codes "error: the stamp "
front_of Broken = codes "error: "
front_of Unwritten = codes "error: the stamp "

-- what is after the word in a notice
abbrev pub back_of : Notice → List ℕ
back_of NoStamp = codes ", so the last fire is due\n"
back_of Ahead = codes " is later than now, so the last fire is due\n"
back_of Older = codes " notes a later fire, and is kept\n"
back_of NoFire = codes "' is no fire as it is printed\n"
back_of Unread = codes " can't be read\n"
back_of Broken = codes " is no stamp, or one that is cut short, and is kept\n"
back_of Unwritten = codes " can't be written\n"

abbrev pub notice_line : Notice → List ℕ → List ℕ
notice_line notice word = front_of notice ++ (word ++ back_of notice)

abbrev pub notice_status : Notice → Status
notice_status NoStamp = Done
notice_status Ahead = Done
notice_status Older = Done
notice_status NoFire = WrongWords
notice_status Unread = Unreadable
notice_status Broken = Unreadable
notice_status Unwritten = Unreadable

-- The line of the notice was written, or one that says that memory ran out.
abbrev pub IsSaid : Notice → List ℕ → Option (List ℕ) → Option (List ℕ) → Status → Type 0
IsSaid notice word old new status =
    Ends (notice_status notice) (notice_line notice word) old new status ⊎ Ends Unreadable (complaint (codes "out of memory")) old new status
