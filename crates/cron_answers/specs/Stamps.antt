-- Stamps: files that note in one line the last fire that was done.
use Rattle.std.specs.Prelude.{◌≡◌, ◌++◌, ℕ, List, [], Result, Ok, Err, codes, true, false}
use Rattle.std.specs.IoError.{error_kind}
use Rattle.std.specs.declared.alloc.Global.{Global}
use Rattle.std.specs.declared.io.Error.{Error}
use Rattle.std.specs.declared.vec.Vec.{Vec}
use Rattle.cron_dues.specs.Due.{CanBeDue, Due}
use Rattle.cron_dues.specs.DueText.{due_text}
use Rattle.cron_zones.specs.Opening.{is_not_found}
use Rattle.cron_answers.specs.declared.noted.Noted.{Noted}
use Rattle.cron_answers.specs.declared.noted.Noted.TheVariants.{Fire, Nothing, Broken, Unread}

-- the text of a stamp: a head with the version, the fire as it is printed, and an end:
-- `crontool stamp 1: 2022-11-06 01:30:00 -05:00;`
abbrev pub stamp_text : Due → List ℕ
stamp_text d = codes "crontool stamp 1: " ++ (due_text d ++ codes ";\n")

-- The bytes are the stamp of the due fire d.
abbrev pub IsStamp : List ℕ → Due → Type 0
IsStamp bytes d = CanBeDue d × (stamp_text d ≡ bytes)

-- no stamp is a proper beginning of another
abbrev pub FrontsAreNoStamps : Type 0
FrontsAreNoStamps =
    (d e : Due) (front rest : List ℕ) → stamp_text d ≡ front ++ rest → (rest ≡ [] → ⊥) → IsStamp front e → ⊥

-- what a stamp notes, by the answer of a read of its file
abbrev pub IsNoted : Result (Vec ℕ Global) Error → Noted → Type 0
IsNoted (Ok bytes) (Fire d) = IsStamp bytes.items d
IsNoted (Ok bytes) Broken = (d : Due) → IsStamp bytes.items d → ⊥
IsNoted (Err e) Nothing = is_not_found (error_kind e) ≡ true
IsNoted (Err e) Unread = is_not_found (error_kind e) ≡ false
IsNoted answer noted = ⊥

-- The file at the path was read once, and the stamp notes this.
abbrev pub ReadsStamp : {F : Type 0} → (F → List ℕ → Result (Vec ℕ Global) Error → F → Type 0) → List ℕ → F → Noted → F → Type 0
ReadsStamp reads path old noted new = (answer : Result (Vec ℕ Global) Error) × reads old path answer new × IsNoted answer noted
