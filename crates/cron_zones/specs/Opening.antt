-- How a zone is opened: which file is read, and what the answer is.
use Rattle.std.specs.Prelude.{◌≡◌, ◌⊎◌, ◌++◌, ℕ, Bool, true, false, Option, List, [], ◌∷◌, Result, Ok, Err, Some, None, string_bytes, option_map, ⊤}
use Rattle.std.specs.IoError.{error_kind}
use Rattle.std.specs.declared.alloc.Global.{Global}
use Rattle.std.specs.declared.io.Error.{Error}
use Rattle.std.specs.declared.io.ErrorKind.{ErrorKind}
use Rattle.std.specs.declared.io.ErrorKind.TheVariants as Kinds
use Rattle.std.specs.declared.vec.Vec.{Vec}
use Rattle.jiff_core.specs.declared.error.TzifFault.{TzifFault}
use Rattle.jiff.specs.Words.{plain_zone}
use Rattle.jiff_tz.specs.Tzif.{tzif_view, HasBadRule}
use Rattle.jiff_tz.specs.TzifReader.{read_tzif}
use Rattle.jiff_tz.specs.declared.timezone.TimeZone.TheVariants.{UTC}
use Rattle.cron_zones.specs.Sources.{IsSource}
use Rattle.cron_zones.specs.declared.error.ZoneError.{ZoneError}
use Rattle.cron_zones.specs.declared.error.ZoneError.TheVariants.{NoZone, Unread, NoZoneFile, OutOfMemory}
use Rattle.cron_zones.specs.declared.open.Places.{Places}
use Rattle.cron_zones.specs.declared.source.Source.{Source}
use Rattle.cron_zones.specs.declared.source.Source.TheVariants as Sources
use Rattle.cron_zones.specs.declared.zone.Zone.{Zone}
use Rattle.cron_zones.specs.declared.zone.Zone.TheVariants as Zones

-- the path of a name in a folder
abbrev pub file_path : List ℕ → List ℕ → List ℕ
file_path folder name = folder ++ 47 ∷ name

abbrev pub is_out_of_memory : ErrorKind → Bool
is_out_of_memory Kinds.OutOfMemory = true
is_out_of_memory kind = false

abbrev pub is_not_found : ErrorKind → Bool
is_not_found Kinds.NotFound = true
is_not_found kind = false

-- the error of a read at a path that failed with this kind of error
abbrev pub IsFailedRead : List ℕ → ErrorKind → ZoneError → Type 0
IsFailedRead path kind NoZone = ⊥
IsFailedRead path kind (Unread at told) = (string_bytes at ≡ path) × (told ≡ kind) × (is_out_of_memory kind ≡ false)
IsFailedRead path kind (NoZoneFile at) = ⊥
IsFailedRead path kind OutOfMemory = is_out_of_memory kind ≡ true

-- The bytes break the format, or their rule contradicts their table.
abbrev pub IsNoZoneFile : List ℕ → Type 0
IsNoZoneFile bytes = ((f : TzifFault) × (read_tzif bytes ≡ Err f)) ⊎ HasBadRule (read_tzif bytes)

-- the answer for the bytes of the file at a path: its zone, or an error
abbrev pub IsParsed : List ℕ → List ℕ → Result Zone ZoneError → Type 0
IsParsed path bytes (Ok (Zones.Stated zone)) = ⊥
IsParsed path bytes (Ok (Zones.File table)) = read_tzif bytes ≡ Ok (tzif_view table)
IsParsed path bytes (Err NoZone) = ⊥
IsParsed path bytes (Err (Unread at kind)) = ⊥
IsParsed path bytes (Err (NoZoneFile at)) = (string_bytes at ≡ path) × IsNoZoneFile bytes
IsParsed path bytes (Err OutOfMemory) = ⊤

-- the answer for the result of one read
abbrev pub IsRead : List ℕ → Result (Vec ℕ Global) Error → Result Zone ZoneError → Type 0
IsRead path (Ok bytes) answer = IsParsed path bytes.items answer
IsRead path (Err e) (Ok zone) = ⊥
IsRead path (Err e) (Err error) = IsFailedRead path (error_kind e) error

-- the file at the path was read once, and this is the answer
abbrev pub ReadsAt : {F : Type 0} → (F → List ℕ → Result (Vec ℕ Global) Error → F → Type 0) → List ℕ → F → Result Zone ZoneError → F → Type 0
ReadsAt reads path old answer new =
    (read : Result (Vec ℕ Global) Error) × reads old path read new × IsRead path read answer

abbrev pub IsUtcZone : Result Zone ZoneError → Type 0
IsUtcZone (Ok (Zones.Stated zone)) = plain_zone zone ≡ UTC
IsUtcZone (Ok (Zones.File table)) = ⊥
IsUtcZone (Err error) = ⊥

-- The answer for the result of one read of the machine's own file. If there is no such file the
-- zone is UTC.
abbrev pub IsMachineRead : List ℕ → Result (Vec ℕ Global) Error → Result Zone ZoneError → Type 0
IsMachineRead path (Ok bytes) answer = IsRead path (Ok bytes) answer
IsMachineRead path (Err e) answer =
    ((is_not_found (error_kind e) ≡ true) × IsUtcZone answer)
    ⊎ ((is_not_found (error_kind e) ≡ false) × IsRead path (Err e) answer)

abbrev pub ReadsMachine : {F : Type 0} → (F → List ℕ → Result (Vec ℕ Global) Error → F → Type 0) → List ℕ → F → Result Zone ZoneError → F → Type 0
ReadsMachine reads path old answer new =
    (read : Result (Vec ℕ Global) Error) × reads old path read new × IsMachineRead path read answer

-- Memory ran out before a file was looked for.
abbrev pub IsUntried : {F : Type 0} → F → Result Zone ZoneError → F → Type 0
IsUntried old answer new = (answer ≡ Err OutOfMemory) × (new ≡ old)

-- What opening a source does. A file is read once. No file is read if the zone is stated, or if
-- there is no source.
abbrev pub OpensSource : {F : Type 0} → (F → List ℕ → Result (Vec ℕ Global) Error → F → Type 0)
    → Places → Option Source → F → Result Zone ZoneError → F → Type 0
OpensSource reads places None old answer new = (answer ≡ Err NoZone) × (new ≡ old)
OpensSource reads places (Some (Sources.Stated zone)) old answer new = (answer ≡ Ok (Zones.Stated zone)) × (new ≡ old)
OpensSource reads places (Some (Sources.Named name)) old answer new =
    IsUntried old answer new ⊎ ReadsAt reads (file_path places.folder.now name.now) old answer new
OpensSource reads places (Some (Sources.At path)) old answer new = IsUntried old answer new ⊎ ReadsAt reads path.now old answer new
OpensSource reads places (Some Sources.Machine) old answer new =
    IsUntried old answer new ⊎ ReadsMachine reads places.machine.now old answer new

abbrev pub Opens : {F : Type 0} → (F → List ℕ → Result (Vec ℕ Global) Error → F → Type 0)
    → List ℕ → Places → F → Result Zone ZoneError → F → Type 0
Opens reads text places old answer new =
    (source : Option Source) × IsSource text (option_map (λ s. s.now) places.tz) source × OpensSource reads places source old answer new
