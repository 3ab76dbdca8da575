-- What is reported of entries that collide, where each fire lasts `length` seconds. Two fires
-- collide if each begins before the other ends.
use Rattle.std.specs.Prelude.{◌≡◌, ◌⊎◌, ◌++◌, ◌*◌, ℕ, Bool, false, List, [], ◌∷◌, Option, Some, None, Result, Ok, Err, slice_get}
use Rattle.std.specs.List.{flat_map}
use Rattle.cron_agenda.specs.declared.fire.EntryFire.{EntryFire}
use Rattle.cron_collisions.specs.Collisions.{AreCollisions}
use Rattle.cron_collisions.specs.declared.collisions.Collisions.{Collisions}
use Rattle.cron_tab_fires.specs.Entries.{Given, TabFires, entries_in, seconds}
use Rattle.cron_tab_lines.specs.Files.{file_lines}
use Rattle.cron_tab_lines.specs.Views.{bytes_view}
use Rattle.cron_tab_fires.specs.Errors.{IsFiresError}
use Rattle.cron_tab_fires.specs.declared.error.FiresError.{FiresError}
use Rattle.cron_tab_fires.specs.declared.error.FiresError.TheVariants.{OutOfMemory}
use Rattle.cron_replies.specs.Statuses.{Ends, Reporting, is_write_failure}
use Rattle.cron_replies.specs.declared.form.Form.{Form}
use Rattle.cron_replies.specs.declared.status.Status.{Status}
use Rattle.cron_replies.specs.declared.status.Status.TheVariants.{Done, No}
use Rattle.cron_tab_agenda.specs.declared.tab_file.TabFile.{TabFile}
use Rattle.cron_tab_collisions.specs.Rows.{later, row}

-- the entries of crontabs, one file after another
abbrev pub entries_of : Given → List TabFile → List TabFires
entries_of g files = flat_map (λ f. entries_in g (bytes_view f.name) (Some 0) (file_lines f.kind f.bytes.now)) files

-- the text is a row with the first collision, which begins with the later of its two fires, and the
-- number of all collisions; or it is empty
abbrev pub TellsAs : Form → TabFires → TabFires → Option Collisions → List ℕ → Type 0
TellsAs form a b None text = text ≡ []
TellsAs form a b (Some c) text =
    (f : EntryFire) × (g : EntryFire) × (slice_get a.fires c.first ≡ Some f) × (slice_get b.fires c.second ≡ Some g) × (text ≡ row form a b (later f g) c.pairs)

-- the text is what is reported of two entries, by their collisions
abbrev pub TellsPair : Form → ℕ → TabFires → TabFires → List ℕ → Type 0
TellsPair form length a b text = (found : Option Collisions) × AreCollisions length (seconds a) (seconds b) found × TellsAs form a b found text

-- the text has what is reported of the entry a with each of the others, one after another
abbrev pub TellsWith : Form → ℕ → TabFires → List TabFires → List ℕ → Type 0
TellsWith form length a [] text = text ≡ []
TellsWith form length a (b ∷ es) text =
    (here : List ℕ) × (rest : List ℕ) × (text ≡ here ++ rest) × TellsPair form length a b here × TellsWith form length a es rest

-- the text has what is reported of each entry with those after it, so of each pair once
abbrev pub TellsAll : Form → ℕ → List TabFires → List ℕ → Type 0
TellsAll form length [] text = text ≡ []
TellsAll form length (a ∷ es) text =
    (here : List ℕ) × (rest : List ℕ) × (text ≡ here ++ rest) × TellsWith form length a es here × TellsAll form length es rest

-- the status of a report: `No` without a row, and else `Done`
abbrev pub found_status : List ℕ → Status
found_status [] = No
found_status (c ∷ cs) = Done

-- the rows of all that collide were written
pub record AreTold (form : Form) (length : ℕ) (es : List TabFires) (was is : Option (List ℕ)) (status : Status) : Type 0 where
  pub report : List ℕ
  pub tells : TellsAll form length es report
  pub ends : Ends (found_status report) report was is status

-- why the fires of the entries of one of the files can't be listed
abbrev pub IsFilesError : Given → List TabFile → FiresError → Type 0
IsFilesError g [] why = why ≡ OutOfMemory
IsFilesError g (f ∷ files) why = IsFiresError g (Some 0) (file_lines f.kind f.bytes.now) why ⊎ IsFilesError g files why

-- The rows of all entries that collide were written, where each fire lasts `minutes` minutes. Or
-- nothing was, since the zone of an entry isn't among the zones, or memory ran out.
abbrev pub TellsCollisions : {W : Type 0} → Form → ℕ → Given → List TabFile → Reporting W → W → Result Status FiresError → W → Type 0
TellsCollisions form minutes g files out old (Ok status) new = out (AreTold form (60 * minutes) (entries_of g files)) old status new
TellsCollisions form minutes g files out old (Err why) new = IsFilesError g files why × (new ≡ old)

-- whether the answer says that a write or a flush failed
abbrev pub is_failed : Result Status FiresError → Bool
is_failed (Ok status) = is_write_failure status
is_failed (Err why) = false
