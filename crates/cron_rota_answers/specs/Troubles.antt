-- Why nothing can be told of a rota, and the line that says so.
use Rattle.std.specs.Prelude.{◌⊎◌, ℕ, List, Option, codes}
use Rattle.cron_answers.specs.Troubles as words
use Rattle.cron_replies.specs.Statuses.{Ends}
use Rattle.cron_replies.specs.declared.status.Status.{Status}
use Rattle.cron_replies.specs.declared.status.Status.TheVariants.{WrongWords, Unreadable}
use Rattle.cron_walk_listing.specs.Output.{complaint}
use Rattle.cron_rota_answers.specs.People.{people_error_text}
use Rattle.cron_rota_answers.specs.SwapErrors.{swaps_error_text}
use Rattle.cron_rota_answers.specs.declared.people.PeopleError.{PeopleError}
use Rattle.cron_rota_answers.specs.declared.people.PeopleError.TheVariants.{Name, TooMany, OutOfMemory}
use Rattle.cron_rota_answers.specs.declared.trouble.RotaTrouble.{RotaTrouble}
use Rattle.cron_rota_answers.specs.declared.trouble.RotaTrouble.TheVariants.{Words, People, Swaps}

abbrev pub trouble_text : RotaTrouble → List ℕ
trouble_text (Words trouble) = words.trouble_text trouble
trouble_text (People error) = people_error_text error
trouble_text (Swaps file error) = swaps_error_text file.now error

abbrev pub people_status : PeopleError → Status
people_status (Name wrong) = WrongWords
people_status TooMany = WrongWords
people_status OutOfMemory = Unreadable

abbrev pub status_of : RotaTrouble → Status
status_of (Words trouble) = words.status_of trouble
status_of (People error) = people_status error
status_of (Swaps file error) = Unreadable

-- The line that says why was written, or one that says that memory ran out.
abbrev pub IsTold : RotaTrouble → Option (List ℕ) → Option (List ℕ) → Status → Type 0
IsTold trouble old new status =
    Ends (status_of trouble) (complaint (trouble_text trouble)) old new status ⊎ Ends Unreadable (complaint (codes "out of memory")) old new status
