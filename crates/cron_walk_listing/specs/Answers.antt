-- What the program `cron_next` answers to the arguments of a command line.
use Rattle.std.specs.Prelude.{◌≡◌, ℕ, Bool, true, false, List, [], ◌∷◌, ◌++◌, ◌⊎◌, Option, codes}
use Rattle.std.specs.Io.KnownBytes.{Appends}
use Rattle.jiff.specs.Words.{plain_zone}
use Rattle.cron_walk_listing.specs.Output.{IsListing, Writes}
use Rattle.cron_writer.specs.Watching.{IsFrontSent}
use Rattle.cron_walk_listing.specs.Arguments.{IsReadable, Asks}
use Rattle.cron_walk_listing.specs.declared.answer.Status.{Status}
use Rattle.cron_walk_listing.specs.declared.answer.Status.TheVariants.{Listed, Refused, BadArguments, WriteFailed}
use Rattle.cron_walk_listing.specs.declared.run.Outcome.{Outcome}
use Rattle.cron_walk_listing.specs.declared.run.Outcome.TheVariants as run
use Rattle.cron_walk_listing.specs.declared.arguments.Request.{Request}

-- the exit status of the program
abbrev pub code_of : Status → ℕ
code_of Listed = 0
code_of Refused = 1
code_of BadArguments = 2
code_of WriteFailed = 3

abbrev pub status_of : Outcome → Status
status_of run.Listed = Listed
status_of run.Refused = Refused
status_of run.WriteFailed = WriteFailed

abbrev pub is_failed : Status → Bool
is_failed WriteFailed = true
is_failed _ = false

abbrev pub usage_line : List ℕ
usage_line = codes "usage: cron_next EXPRESSION START ZONE COUNT [back]" ++ 10 ∷ []

-- the usage line was written, or a write or the flush failed and a beginning of it was written
abbrev pub IsUsage : Option (List ℕ) → Option (List ℕ) → Status → Type 0
IsUsage old new BadArguments = Appends old new usage_line
IsUsage old new WriteFailed = IsFrontSent old new usage_line
IsUsage old new _ = ⊥

-- a run wrote what the request asks for, and the status is that of the run
abbrev pub Lists : Request → Option (List ℕ) → Option (List ℕ) → Status → Type 0
Lists r old new status =
    (outcome : Outcome) × Writes r.expression.now (IsListing r.expression.now (plain_zone r.zone) r.start.nanosecond r.count r.back) old new outcome × (status ≡ status_of outcome)

-- The arguments can be read, and what they ask for was listed; or they can't, and the usage line
-- was written.
abbrev pub IsAnswered : List (List ℕ) → Option (List ℕ) → Option (List ℕ) → Status → Type 0
IsAnswered arguments old new status =
    (IsReadable arguments × ((r : Request) × Asks arguments r × Lists r old new status)) ⊎ ((IsReadable arguments → ⊥) × IsUsage old new status)
