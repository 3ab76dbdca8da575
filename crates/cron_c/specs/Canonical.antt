-- The canonical text of a schedule: the one text that schedules with the same sets share.
use Rattle.std.specs.Prelude.{◌≡◌, ◌≤◌, ℕ, List, length, take}
use Rattle.cron_units.specs.Sets.{Sets}
use Rattle.cron_text.specs.Meaning.{Means}
use Rattle.cron_canonical.specs.Short.{sets_text}
use Rattle.cron_c.specs.Buffers.{laid_over}
use Rattle.cron_c.specs.Calls.{Answers, Parses}
use Rattle.cron_c.specs.Statuses.{code_of}
use Rattle.cron_c.specs.Structs.{sets_of}
use Rattle.cron_c.specs.declared.schedule.CronSchedule.{CronSchedule}
use Rattle.cron_c.specs.declared.status.Status.{Status}
use Rattle.cron_c.specs.declared.status.Status.TheVariants.{Done, NotAnItem}

-- The canonical text of the sets, which means them, is laid over a buffer, and `size` is its whole
-- length. Or no text means the sets, since one that must have an ordinal is empty.
abbrev pub WritesCanonical : Sets → List ℕ → List ℕ → ℕ → Status → Type 0
WritesCanonical s before after size Done =
    Means (sets_text s) s × (after ≡ laid_over 0 (sets_text s) before) × (size ≡ length (sets_text s)) × (size ≤ 1245)
WritesCanonical s before after size NotAnItem = ((text : List ℕ) → Means text s → ⊥) × (after ≡ before) × (size ≡ 0)
WritesCanonical s before after size _ = ⊥

-- If the buffer had room for the canonical text of a schedule, `cron_c_parse` reads that text back
-- to the same sets.
abbrev pub CanonicalIsReadBack : Type 0
CanonicalIsReadBack =
    (c : CronSchedule) (room text : List ℕ) (size : ℕ) (old new : CronSchedule) (before after : List ℕ) (needed number : ℕ)
    → WritesCanonical (sets_of c) room text size Done
    → size ≤ length room
    → Answers (Parses (take size text) old new before after needed) number
    → (number ≡ code_of Done) × (sets_of new ≡ sets_of c)
