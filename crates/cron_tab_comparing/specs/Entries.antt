-- The entries of a crontab, as its file has them.
use Rattle.std.specs.Prelude.{◌++◌, ℕ, List, [], ◌∷◌, Option, Result, Ok}
use Rattle.std.specs.Borrow.{Bor}
use Rattle.std.specs.Option.{option_map}
use Rattle.cron_units.specs.Sets.{Sets}
use Rattle.cron_crontab.specs.Crontab as crontab
use Rattle.cron_tab_lines.specs.Entries as read
use Rattle.cron_tab_lines.specs.Files.{FileLine, without_feed}
use Rattle.cron_tab_lines.specs.Lines.{Meaning, entry, zone}
use Rattle.cron_tab_lines.specs.Refusals.{Refusal}
use Rattle.cron_tab_lines.specs.Views.{bytes_view}
use Rattle.cron_tab_comparing.specs.declared.entries.Known.{Known}

-- An entry: the number of its line, the line, the value of the last `CRON_TZ` before it, or
-- nothing, and what it runs. Its schedules are none if no clock fires it.
pub record Entry : Type 0 where
  pub line : ℕ
  pub text : List ℕ
  pub zone : List ℕ
  pub user : Option (List ℕ)
  pub command : List ℕ
  pub input : Option (List ℕ)
  pub schedules : List Sets

abbrev pub view : Known → Entry
view k = record {
  line = k.line;
  text = k.text.now;
  zone = k.zone.now;
  user = bytes_view k.user;
  command = k.command.now;
  input = bytes_view k.input;
  schedules = k.schedules.items;
}

abbrev pub other_view : Option (Bor Known) → Option Entry
other_view k = option_map (λ b. view b.now) k

-- the schedules of an expression; none for `@reboot`, which no clock fires
abbrev pub schedules_of : crontab.Meaning → List Sets
schedules_of (crontab.schedules ss) = ss
schedules_of crontab.reboot = []

abbrev pub entry_of : List ℕ → FileLine → read.Entry → Entry
entry_of here l e = record {
  line = l.number;
  text = without_feed l.bytes;
  zone = here;
  user = e.user;
  command = e.command;
  input = e.input;
  schedules = schedules_of e.meaning;
}

-- the entry of a line, if it is one; `here` is the value of the last `CRON_TZ` before it
abbrev pub entry_in : List ℕ → FileLine → Result Meaning Refusal → List Entry
entry_in here l (Ok (entry e)) = entry_of here l e ∷ []
entry_in here l _ = []

-- the value of the last `CRON_TZ` up to and including a line; `above` is its value before the line
abbrev pub zone_below : List ℕ → Result Meaning Refusal → List ℕ
zone_below above (Ok (zone value)) = value
zone_below above _ = above

abbrev pub entries_in : List ℕ → List FileLine → List Entry
entries_in here [] = []
entries_in here (l ∷ lines) = entry_in here l l.outcome ++ entries_in (zone_below here l.outcome) lines
