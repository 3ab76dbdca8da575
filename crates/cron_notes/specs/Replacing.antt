-- How a file is replaced whole.
use Rattle.std.specs.Prelude.{◌≡◌, ◌≢◌, ◌⊎◌, ◌<◌, ◌++◌, ℕ, List, [], ◌∷◌, Result, ⊤, IsErrAnd, codes, length, slice_index}
use Rattle.std.specs.IoError.{error_kind}
use Rattle.std.specs.declared.io.Error.{Error}
use Rattle.std.specs.declared.io.ErrorKind.TheVariants.{OutOfMemory}
use Rattle.cron_notes.specs.Changes.{Change, AreMade}
use Rattle.cron_notes.specs.Changes.Change.{Write, Sync, Rename, SyncFolder}

-- the path of the file that is written first, in the same folder
abbrev pub draft_of : List ℕ → List ℕ
draft_of path = path ++ codes ".new"

abbrev pub HasNoSlash : List ℕ → Type 0
HasNoSlash text = (i : ℕ) → i < length text → slice_index text i ≢ 47

-- the path's folder: its bytes up to and with the last slash, or `.` if it has no slash
abbrev pub IsFolder : List ℕ → List ℕ → Type 0
IsFolder path folder =
    (HasNoSlash path × (folder ≡ codes "."))
    ⊎ ((front : List ℕ) × (name : List ℕ) × (path ≡ front ++ 47 ∷ name) × HasNoSlash name × (folder ≡ front ++ 47 ∷ []))

-- The four calls of a replacement: the new bytes are written to a file beside the path and synced,
-- that file gets the path, and the folder is synced.
abbrev pub replacing : List ℕ → List ℕ → List ℕ → List Change
replacing path bytes folder =
    Write (draft_of path) bytes ∷ Sync (draft_of path) ∷ Rename (draft_of path) path ∷ SyncFolder folder ∷ []

-- The file was replaced by these calls, up to and with the first that failed. Or memory ran out
-- before, and no call was made.
abbrev pub Replaces : {S : Type 0} → (S → Change → Result ⊤ Error → S → Type 0) → List ℕ → List ℕ → S → Result ⊤ Error → S → Type 0
Replaces does path bytes old answer new =
    ((folder : List ℕ) × IsFolder path folder × AreMade does (replacing path bytes folder) old answer new)
    ⊎ (IsErrAnd answer (λ e. error_kind e ≡ OutOfMemory) × (new ≡ old))
