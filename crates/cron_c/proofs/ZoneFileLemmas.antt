-- How the reading of a zone file ends.
use Rattle.std.proofs.Common.{◌≡◌, ℕ, List, Result, Ok, Err, inl, inr, refl, sym, ◌∙◌}
use Rattle.jiff_core.specs.declared.error.Error.{Error}
use Rattle.jiff_core.specs.declared.error.Error.TheVariants.{OutOfMemory, Tzif as Fault}
use Rattle.jiff_tz.specs.Tzif.{IsParseFailure, IsRefused}
use Rattle.jiff_tz.specs.TzifReader.{Parsed, TzifText, read_tzif}
use Rattle.jiff_tz.specs.declared.tzif.Tzif.{Tzif}
use Rattle.cron_c.specs.ZoneFiles.{IsFileOf, ReadsHistory, WritesEras}
use Rattle.cron_c.specs.declared.era.CronEra.{CronEra}
use Rattle.cron_c.specs.declared.status.Status.{Status}
use Rattle.cron_c.proofs.RulesAlike.{IsNoFile, double_too}
use Rattle.cron_c.specs.declared.status.Status.TheVariants.{Done, NoItem, Refused, NotUtf8, BadZone, BadInstant, NotAnItem, Untold, More, NoMemory}

no_memory_by : (read : Parsed TzifText) (answer : Result Tzif Error) → IsRefused read answer → answer ≡ Err OutOfMemory → (text : TzifText) × (read ≡ Ok text)
no_memory_by (Ok text) answer refused e = (text, refl)
no_memory_by (Err fault) answer refused e = let both : Err (Fault fault) ≡ Err OutOfMemory = sym refused ∙ e in absurd (cc)

-- memory runs out only for what good bytes say
pub no_memory : (bytes : List ℕ) (answer : Result Tzif Error) → IsRefused (read_tzif bytes) answer → answer ≡ Err OutOfMemory
    → (text : TzifText) × (read_tzif bytes ≡ Ok text)
no_memory bytes answer refused e = no_memory_by (read_tzif bytes) answer refused e

pub no_file : (bytes : List ℕ) (e : Error) → IsParseFailure e bytes → ¬ (e ≡ OutOfMemory) → IsNoFile bytes
no_file bytes e (inl (inl memory)) other = absurd (other memory)
no_file bytes e (inl (inr fault)) other = inl (fault.0, fault.1)
no_file bytes e (inr rule) other = inr rule.1

pub reads : (bytes : List ℕ) (t : Tzif) (old new : List CronEra) (count : ℕ) (status : Status) → IsFileOf bytes t → WritesEras t old new count status
    → ReadsHistory bytes old new count status
reads bytes t old new count Done file w = (t, file, w)
reads bytes t old new count More file w = (t, file, w)
reads bytes t old new count BadZone file w = (λ u other. double_too bytes t u file other w.0, w.1, w.2)
reads bytes t old new count NoItem file w = absurd w
reads bytes t old new count Refused file w = absurd w
reads bytes t old new count NotUtf8 file w = absurd w
reads bytes t old new count BadInstant file w = absurd w
reads bytes t old new count NotAnItem file w = absurd w
reads bytes t old new count Untold file w = absurd w
reads bytes t old new count NoMemory file w = absurd w
