-- A calendar of events, one for each fire of each entry.
use Rattle.std.specs.Prelude.{◌≡◌, ◌<◌, ℕ, ◌+◌, List, [], ◌∷◌, ◌++◌, codes, length}
use Rattle.std.specs.List.{flat_map}
use Rattle.jiff_core.specs.DateTime.{civil_nanos}
use Rattle.jiff_core.specs.declared.civil.datetime.DateTime.{DateTime}
use Rattle.cron_ics.specs.Events.{Shared, copies, digest_text, event_text, folded_lines, summary_line}
use Rattle.cron_ics.specs.Fires.{AreTold, Told, fires_of}
use Rattle.cron_ics.specs.declared.calendar.Wanted.{Wanted}
use Rattle.cron_ics.specs.declared.entry.Entry.{Entry}
use Rattle.cron_ics.specs.declared.error.IcsError.{IcsError}
use Rattle.cron_ics.specs.declared.error.IcsError.TheVariants.{NoEvents, OutOfMemory, TooMany}
use Rattle.cron_ics.specs.declared.fires.Fire.{Fire}

abbrev pub wanted_fires : Wanted → Entry → List Told
wanted_fires w e = fires_of w.start.nanosecond w.end.nanosecond e

-- how many wanted fires the entries have together
abbrev pub total : Wanted → List Entry → ℕ
total w [] = 0
total w (e ∷ es) = length (wanted_fires w e) + total w es

-- what the events of the entry e share, which comes after the entries `before`
abbrev pub shared_by : Wanted → List Entry → Entry → DateTime → Shared
shared_by w before e stamp = record {
  digest = digest_text e.text.now;
  copy = copies e.text.now before;
  domain = w.domain.text.now;
  stamp = stamp;
  minutes = w.minutes;
  summary = summary_line e.summary.now;
}

-- The text has the events of the entry e, which comes after the entries `before`: one for each
-- fire, in order. `stamp` is the time of UTC when they are written.
abbrev pub AreEvents : Wanted → List Entry → Entry → List ℕ → Type 0
AreEvents w before e text =
    (fires : List Fire) × (stamp : DateTime) × AreTold (wanted_fires w e) fires × (civil_nanos stamp ≡ w.written.nanosecond)
    × (text ≡ flat_map (event_text (shared_by w before e stamp)) fires)

-- the text has the events of the entries, one entry after another, which come after the entries
-- `before`
abbrev pub IsBody : Wanted → List Entry → List Entry → List ℕ → Type 0
IsBody w before [] text = text ≡ []
IsBody w before (e ∷ es) text =
    (own : List ℕ) × (rest : List ℕ) × AreEvents w before e own × (text ≡ own ++ rest) × IsBody w (before ++ e ∷ []) es rest

abbrev pub head_text : List ℕ
head_text = folded_lines (codes "BEGIN:VCALENDAR" ∷ codes "VERSION:2.0" ∷ codes "PRODID:-//crontool//crontool ics//EN" ∷ [])

abbrev pub end_text : List ℕ
end_text = folded_lines (codes "END:VCALENDAR" ∷ [])

-- the text is the calendar of the entries
abbrev pub IsCalendar : Wanted → List Entry → List ℕ → Type 0
IsCalendar w entries text = (body : List ℕ) × IsBody w [] entries body × (text ≡ head_text ++ (body ++ end_text))

-- why there is no calendar: it would have no event, or more than are wanted, or memory ran out
abbrev pub IsRefusal : Wanted → List Entry → IcsError → Type 0
IsRefusal w entries NoEvents = total w entries ≡ 0
IsRefusal w entries TooMany = w.most < total w entries
IsRefusal w entries OutOfMemory = Unit {0}
