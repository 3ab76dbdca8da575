-- What a page writes: the lines of the first items after an item, or before it.
use Rattle.std.specs.Prelude.{◌≡◌, ℕ, Bool, true, false, List, ◌⊎◌, Option, Some, None}
use Rattle.std.specs.Io.KnownBytes.{Appends}
use Rattle.jiff_tz.specs.declared.timezone.TimeZone.{TimeZone}
use Rattle.cron_units.specs.Sets.{Sets}
use Rattle.cron_time.specs.Walk.Cursor.{Walk}
use Rattle.cron_moments.specs.Readings.{Reading}
use Rattle.cron_time.specs.Walk.Resume.{IsAbsent, IsResumed}
use Rattle.cron_walk_listing.specs.Output.{answers_of, lines_of, last_item}
use Rattle.cron_writer.specs.Watching.{IsFrontSent}
use Rattle.cron_walk_listing.specs.declared.run.Page.{Page}
use Rattle.cron_walk_listing.specs.declared.run.Page.TheVariants.{Listed, NotAnItem, WriteFailed}

-- the last item among answers, or the given one where there is none
abbrev pub item_or : Reading → Option Reading → Reading
item_or r None = r
item_or r (Some x) = x

-- The text was written whole, and the outcome holds the item. Or a write or the flush failed, and a
-- beginning of the text was written.
abbrev pub EndsPage : List ℕ → Reading → Option (List ℕ) → Option (List ℕ) → Page → Type 0
EndsPage text item old new (Listed moment) = (moment ≡ item) × Appends old new text
EndsPage text item old new WriteFailed = IsFrontSent old new text
EndsPage text item old new NotAnItem = ⊥

-- The page after an item, or before it: the lines and the last item of the walk that goes on from
-- it. If it is no item of the timeline, the outcome is `NotAnItem`.
abbrev pub Pages : Sets → TimeZone → Reading → ℕ → Bool → Option (List ℕ) → Option (List ℕ) → Page → Type 0
Pages s z item size back old new outcome =
    (IsAbsent s z item × (outcome ≡ NotAnItem))
    ⊎ ((w : Walk) × IsResumed s z item w × EndsPage (lines_of back w size) (item_or item (last_item (answers_of back w size))) old new outcome)

abbrev pub is_page_failure : Page → Bool
is_page_failure WriteFailed = true
is_page_failure _ = false
