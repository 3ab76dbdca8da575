-- The row of an entry, with what it missed.
use Rattle.std.specs.Prelude.{◌++◌, List, [], ◌∷◌, ℕ, Option, Some, None, codes}
use Rattle.std.specs.Fmt.{decimal}
use Rattle.json.specs.Token.{Token}
use Rattle.cron_agenda.specs.Messages.{fire_text}
use Rattle.cron_replies.specs.declared.form.Form.{Form}
use Rattle.cron_replies.specs.declared.form.Form.TheVariants.{Text, Json}
use Rattle.cron_tab_rows.specs.Cells.{place_cell, task_cell}
use Rattle.cron_tab_rows.specs.Members.{fire_members, number_member, object_row, place_members, task_members}
use Rattle.cron_tab_missed.specs.Entries.{TabMissed}
use Rattle.cron_tab_missed.specs.declared.counting.Ends.{Ends}

-- the first fire and the last, with a tab after each; hyphens if there are none
abbrev pub ends_cells : Option Ends → List ℕ
ends_cells None = codes "-\t-\t"
ends_cells (Some e) = fire_text e.first ++ 9 ∷ (fire_text e.last ++ 9 ∷ [])

-- the row of an entry as text: how many fires it missed, the first and the last of them, where it
-- stands, and what it runs, with tabs between, and a line feed
abbrev pub text_row : TabMissed → List ℕ
text_row e = decimal e.missed.count ++ 9 ∷ (ends_cells e.missed.ends ++ (place_cell e.source.file e.line ++ task_cell e.source))

-- the members with the first fire and the last; nothing if there are none
abbrev pub ends_members : Option Ends → List Token
ends_members None = []
ends_members (Some e) = fire_members (codes "first") (codes "first_epoch") e.first ++ fire_members (codes "last") (codes "last_epoch") e.last

abbrev pub members : TabMissed → List Token
members e =
    number_member (codes "missed") e.missed.count
    ++ (ends_members e.missed.ends ++ (place_members (codes "line") (codes "file") e.source.file e.line ++ task_members e.source))

-- the row of an entry as JSON
abbrev pub json_row : TabMissed → List ℕ
json_row e = object_row (members e)

abbrev pub row : Form → TabMissed → List ℕ
row Text e = text_row e
row Json e = json_row e
