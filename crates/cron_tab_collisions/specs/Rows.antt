-- The row of two entries that collide.
use Rattle.std.specs.Prelude.{◌++◌, ℕ, List, [], ◌∷◌, codes, int_lt, if◌then◌else◌}
use Rattle.std.specs.Fmt.{decimal}
use Rattle.json.specs.Token.{Token}
use Rattle.cron_agenda.specs.Fires.{instant}
use Rattle.cron_agenda.specs.Messages.{fire_text}
use Rattle.cron_agenda.specs.declared.fire.EntryFire.{EntryFire}
use Rattle.cron_replies.specs.declared.form.Form.{Form}
use Rattle.cron_replies.specs.declared.form.Form.TheVariants.{Text, Json}
use Rattle.cron_tab_fires.specs.Entries.{TabFires}
use Rattle.cron_tab_rows.specs.Cells.{place_cell}
use Rattle.cron_tab_rows.specs.Members.{fire_members, number_member, object_row, place_members}

-- the later of two fires, or the first one if they share an instant
abbrev pub later : EntryFire → EntryFire → EntryFire
later f g = if int_lt (instant f) (instant g) then g else f

-- the row of two entries as text: where each stands, a fire and a number, with tabs between, and a
-- line feed
abbrev pub text_row : TabFires → TabFires → EntryFire → ℕ → List ℕ
text_row a b fire number = place_cell a.file a.line ++ (place_cell b.file b.line ++ (fire_text fire ++ 9 ∷ (decimal number ++ 10 ∷ [])))

abbrev pub members : TabFires → TabFires → EntryFire → ℕ → List Token
members a b fire number =
    place_members (codes "line") (codes "file") a.file a.line
    ++ (place_members (codes "other_line") (codes "other_file") b.file b.line
    ++ (fire_members (codes "fire") (codes "epoch") fire ++ number_member (codes "collisions") number))

-- the row of two entries as JSON
abbrev pub json_row : TabFires → TabFires → EntryFire → ℕ → List ℕ
json_row a b fire number = object_row (members a b fire number)

abbrev pub row : Form → TabFires → TabFires → EntryFire → ℕ → List ℕ
row Text a b fire number = text_row a b fire number
row Json a b fire number = json_row a b fire number
