-- How a report of a crontab's lines is made.
use Rattle.std.specs.Prelude.{◌≡◌, ◌++◌, ℕ, Bool, true, false, List, [], Option, Result, Ok, Err, IfOk}
use Rattle.std.specs.declared.alloc.AllocError.{AllocError}
use Rattle.std.specs.declared.io.Error.{Error}
use Rattle.cron_writer.specs.Watching.{has_failed}
use Rattle.cron_writer.specs.declared.gathered.Gathered.{Gathered}
use Rattle.cron_writer.specs.declared.watched.Watched.{Watched}
use Rattle.cron_checking.specs.Puts.{Puts}
use Rattle.cron_tab_lines.specs.Files.{FileLine}
use Rattle.cron_tab_answers.specs.Checks.{any_refused, TellsLines}
use Rattle.cron_tab_answers.specs.declared.check.Wanted.{Wanted}
use Rattle.cron_replies.specs.declared.status.Status.{Status}
use Rattle.cron_replies.specs.declared.status.Status.TheVariants.{Done, No, Unreadable}

-- how a check ends if no write fails, by whether a line was refused or memory ran out
abbrev pub end_of : Result Bool AllocError → Status
end_of (Ok true) = No
end_of (Ok false) = Done
end_of (Err e) = Unreadable

-- Lines were reported, or the first of them, up to those that are left. If no write failed and
-- memory sufficed, all of them were.
pub record TellsFront {W : Type 0} (w : Wanted) (lines : List FileLine) (contents : W → Option (List ℕ))
    (writes : W → List ℕ → Result ℕ Error → W → Type 0) (old new : Gathered × Watched W) (answer : Result Bool AllocError) : Type 0 where
  pub checked : List FileLine
  pub left : List FileLine
  pub cut : lines ≡ checked ++ left
  pub report : List ℕ
  pub tells : TellsLines w checked report
  pub puts : Puts contents writes old.0 old.1 new.0 new.1 report
  pub whole : IfOk answer (λ refused. has_failed new.1 ≡ false → (left ≡ []) × (refused ≡ any_refused w lines))
