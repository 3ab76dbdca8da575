-- The messages of what was found.
use Rattle.std.specs.Prelude.{ℕ, Bool, true, false, List, ◌++◌, codes}
use Rattle.std.specs.Fmt.{decimal}
use Rattle.jiff.specs.Words.{date_text}
use Rattle.cron_tab_agenda.specs.declared.changed_days.ChangedDay as days
use Rattle.cron_tab_context.specs.declared.found.ContextWarning.{ContextWarning}
use Rattle.cron_tab_context.specs.declared.found.ContextWarning.TheVariants.{SystemCrontab, ChangedDay, NoFire, Twin}

-- what the clock does with times of a day, by whether it skips one and whether it doubles one
abbrev pub change_text : Bool → Bool → List ℕ
change_text true true = codes ": the clock skips a fixed time of the entry, and shows one twice"
change_text true false = codes ": the clock skips a fixed time of the entry"
change_text false doubled = codes ": the clock shows a fixed time of the entry twice"

abbrev pub context_text : ContextWarning → List ℕ
context_text SystemCrontab = codes "the file seems to be a system crontab: check it with --system, since its entries name a user"
context_text (ChangedDay day) = date_text day.date ++ change_text day.skipped day.doubled
context_text NoFire = codes "it has no fire within 366 days"
context_text (Twin line) = codes "line " ++ (decimal line ++ codes " has the same times, command, user and zone")
