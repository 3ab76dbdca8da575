-- The entries of crontabs in words, each with its next fire.
use Rattle.std.specs.Prelude.{ℕ, ℤ, ◌++◌, List, [], ◌∷◌, Option, Some, None, Result, Ok, codes, map, slice_get}
use Rattle.json.specs.Token.{Token}
use Rattle.jiff.specs.Words.{plain_zone}
use Rattle.jiff_tz.specs.declared.timezone.TimeZone.{TimeZone}
use Rattle.cron_agenda.specs.Fires.{fires_after}
use Rattle.cron_agenda.specs.Messages.{fire_text}
use Rattle.cron_agenda.specs.declared.fire.EntryFire.{EntryFire}
use Rattle.cron_crontab.specs.Crontab.{Meaning, reboot, schedules}
use Rattle.cron_fires.specs.declared.changes.ClockChanges.{ClockChanges}
use Rattle.cron_replies.specs.declared.form.Form.{Form}
use Rattle.cron_replies.specs.declared.form.Form.TheVariants.{Text, Json}
use Rattle.cron_tab_agenda.specs.Adding.{changes_of}
use Rattle.cron_tab_answers.specs.TabFiles.{Given}
use Rattle.cron_tab_answers.specs.declared.explained.Explaining.{Explaining}
use Rattle.cron_tab_lines.specs.Entries.{Entry}
use Rattle.cron_tab_lines.specs.Files.{FileLine}
use Rattle.cron_tab_lines.specs.Lines as lines
use Rattle.cron_tab_lines.specs.Lines.{entry}
use Rattle.cron_tab_lines.specs.Refusals.{Refusal}
use Rattle.cron_tab_lines.specs.Zones.{zone_below}
use Rattle.cron_tab_rows.specs.Cells.{place_cell}
use Rattle.cron_tab_rows.specs.Members.{fire_members, object_row, place_members, string_member}
use Rattle.cron_unions.specs.Unions.{any_of}
use Rattle.cron_words.specs.Sentence.{sentence}

-- the first fire of an entry after the instant t, in nanoseconds since 1970; `@reboot` has none
abbrev pub next_of : TimeZone → ClockChanges → ℤ → Meaning → Option EntryFire
next_of z changes t (schedules some) = slice_get (fires_after (any_of some) z changes t) 0
next_of z changes t reboot = None

abbrev pub sentence_of : Meaning → List ℕ
sentence_of (schedules some) = sentence some
sentence_of reboot = codes "When the machine starts"

-- ---- as text

abbrev pub fire_cell : Option EntryFire → List ℕ
fire_cell None = codes "none"
fire_cell (Some fire) = fire_text fire

-- the next fire, where the entry stands, and the sentence, with tabs between, and a line feed
abbrev pub text_row : Option (List ℕ) → ℕ → Option EntryFire → List ℕ → List ℕ
text_row file line fire text = fire_cell fire ++ 9 ∷ (place_cell file line ++ (text ++ 10 ∷ []))

-- ---- as an object of JSON

-- the members with the next fire; nothing if there is none
abbrev pub next_members : Option EntryFire → List Token
next_members None = []
next_members (Some fire) = fire_members (codes "fire") (codes "epoch") fire

abbrev pub members : Option (List ℕ) → ℕ → Option EntryFire → List ℕ → List Token
members file line fire text =
    next_members fire ++ (place_members (codes "line") (codes "file") file line ++ string_member (codes "sentence") text)

abbrev pub json_row : Option (List ℕ) → ℕ → Option EntryFire → List ℕ → List ℕ
json_row file line fire text = object_row (members file line fire text)

abbrev pub row_of : Form → Option (List ℕ) → ℕ → Option EntryFire → List ℕ → List ℕ
row_of Text file line fire text = text_row file line fire text
row_of Json file line fire text = json_row file line fire text

-- ---- the rows of a file

abbrev pub given_of : Explaining → Given
given_of e = record { zones = map plain_zone e.zones.now; names = e.names.now; clock = e.clock; t = e.start.nanosecond }

-- the zone with this number, if there is one
abbrev pub zone_at : {Z : Type 0} → List Z → Option ℕ → Option Z
zone_at zones (Some here) = slice_get zones here
zone_at zones None = None

abbrev pub entry_row : Form → Given → Option (List ℕ) → FileLine → Entry → Option TimeZone → List ℕ
entry_row form g file line e None = []
entry_row form g file line e (Some z) = row_of form file line.number (next_of z (changes_of g.clock line.bytes) g.t e.meaning) (sentence_of e.meaning)

-- the row of a line in the zone with number `here`; nothing if it is no entry, or has no zone
abbrev pub outcome_row : Form → Given → Option (List ℕ) → Option ℕ → FileLine → Result lines.Meaning Refusal → List ℕ
outcome_row form g file here line (Ok (entry e)) = entry_row form g file line e (zone_at g.zones here)
outcome_row form g file here line _ = []

abbrev pub line_row : Form → Given → Option (List ℕ) → Option ℕ → FileLine → List ℕ
line_row form g file here line = outcome_row form g file here line line.outcome

-- the rows of lines, each in the zone of the last `CRON_TZ` above it, or at first in the zone with
-- number `here`
abbrev pub rows_of : Form → Given → Option (List ℕ) → Option ℕ → List FileLine → List ℕ
rows_of form g file here [] = []
rows_of form g file here (line ∷ lines) = line_row form g file here line ++ rows_of form g file (zone_below g.names here line.outcome) lines
