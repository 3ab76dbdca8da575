-- A walk that goes on from an item, a reading on its timeline.
use Rattle.std.specs.Prelude.{◌≡◌, ℕ, Some, slice_get}
use Rattle.jiff_tz.specs.declared.timezone.TimeZone.{TimeZone}
use Rattle.cron_units.specs.Sets.{Sets}
use Rattle.cron_time.specs.Walk.Cursor.{Cursor, Place, Walk}
use Rattle.cron_moments.specs.Readings.{Reading}
use Rattle.cron_time.specs.Timeline.{timeline}

-- the item isn't on the timeline
abbrev pub IsAbsent : Sets → TimeZone → Reading → Type 0
IsAbsent s z r = (i : ℕ) → slice_get (timeline s z) i ≡ Some r → ⊥

-- the cursor is at the item's place
pub record IsAtItem (s : Sets) (z : TimeZone) (r : Reading) (c : Cursor) : Type 0 where
  pub place : ℕ
  pub item : slice_get (timeline s z) place ≡ Some r
  pub cursor : c ≡ Place place

-- a walk over these sets in this zone whose cursor is at the item's place
pub record IsResumed (s : Sets) (z : TimeZone) (r : Reading) (w : Walk) : Type 0 where
  pub sets : w.sets ≡ s
  pub zone : w.zone ≡ z
  pub at : IsAtItem s z r w.cursor
