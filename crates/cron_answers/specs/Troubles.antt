-- Why a subcommand can't be answered, and the line that says so.
use Rattle.std.specs.Prelude.{◌⊎◌, ◌++◌, ℕ, List, Option, Some, None, codes, if◌then◌else◌}
use Rattle.std.specs.Borrow.{Bor}
use Rattle.std.specs.Str.{bytes_eq}
use Rattle.cron_walk_listing.specs.Output.{complaint}
use Rattle.cron_zones.specs.Messages.{zone_error_text}
use Rattle.cron_zones.specs.declared.error.ZoneError.{ZoneError}
use Rattle.cron_zones.specs.declared.error.ZoneError.TheVariants.{NoZone}
use Rattle.cron_answers.specs.Refusals.{refusal_text}
use Rattle.cron_replies.specs.Statuses.{Ends}
use Rattle.cron_replies.specs.declared.status.Status.{Status}
use Rattle.cron_replies.specs.declared.status.Status.TheVariants.{WrongWords, Unreadable}
use Rattle.cron_answers.specs.declared.trouble.Trouble.{Trouble}
use Rattle.cron_answers.specs.declared.trouble.Trouble.TheVariants.{Expression, Zone, Instant, Whole, Order, Format, NoMemory}

abbrev pub trouble_text : Trouble → List ℕ
trouble_text (Expression text refusal) = codes "'" ++ (text.now ++ (codes "' is no expression: " ++ refusal_text refusal))
trouble_text (Zone text error) = codes "the zone '" ++ (text.now ++ (codes "' can't be had: " ++ zone_error_text error))
trouble_text (Instant text) = codes "'" ++ (text.now ++ codes "' is no instant, as now, today, tomorrow, yesterday, monday to sunday, 2024-02, 2024-02-29, '2024-02-29 14:30', 14:30, +8h, -90m, +30s, +2d, -1w, @1709217000 or 2024-02-29T14:30:00Z")
trouble_text (Whole text) = codes "'" ++ (text.now ++ codes "' is no whole day or month, as today, tonight, monday, 2024-02-29 or 2024-02; or an END is missing")
trouble_text (Order start end) = codes "START '" ++ (start.now ++ (codes "' comes after END '" ++ (end.now ++ codes "'")))
trouble_text (Format text) = codes "'" ++ (text.now ++ codes "' is no format of strftime, as '%F %T %z', or wants the name of a zone, as %Z")
trouble_text NoMemory = codes "out of memory"

-- the status if a zone can't be opened: a word is wrong if no zone has the name, else something
-- can't be read
abbrev pub zone_status : ZoneError → Status
zone_status NoZone = WrongWords
zone_status _ = Unreadable

abbrev pub status_of : Trouble → Status
status_of (Expression text refusal) = WrongWords
status_of (Zone text error) = zone_status error
status_of (Instant text) = WrongWords
status_of (Whole text) = WrongWords
status_of (Order start end) = WrongWords
status_of (Format text) = WrongWords
status_of NoMemory = Unreadable

-- the name of a zone in messages: for `local` it is the value of TZ, if that is set
abbrev pub zone_word : Option (Bor (List ℕ)) → List ℕ → List ℕ
zone_word None name = name
zone_word (Some tz) name = if bytes_eq name (codes "local") then tz.now else name

-- The line that says why was written, or one that says that memory ran out.
abbrev pub IsTold : Trouble → Option (List ℕ) → Option (List ℕ) → Status → Type 0
IsTold trouble old new status =
    Ends (status_of trouble) (complaint (trouble_text trouble)) old new status ⊎ Ends Unreadable (complaint (codes "out of memory")) old new status
