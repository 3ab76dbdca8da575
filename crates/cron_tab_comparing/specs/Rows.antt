-- The rows of a report on entries.
use Rattle.std.specs.Prelude.{◌++◌, ℕ, List, [], ◌∷◌, codes}
use Rattle.std.specs.Fmt.{decimal}
use Rattle.jiff.specs.Names.{iso_datetime_text}
use Rattle.json.specs.Token.{Token}
use Rattle.cron_moments.specs.Civil.{civil}
use Rattle.cron_replies.specs.declared.form.Form.{Form}
use Rattle.cron_replies.specs.declared.form.Form.TheVariants.{Text, Json}
use Rattle.cron_tab_rows.specs.Members.{number_member, object_row, string_member, text_members}
use Rattle.cron_tab_comparing.specs.Entries.{Entry}
use Rattle.cron_tab_comparing.specs.declared.rows.Change.{Change}
use Rattle.cron_tab_comparing.specs.declared.rows.Change.TheVariants.{Gone, New}

-- ---- an entry that is gone or new

-- `-` if it is gone, `+` if it is new
abbrev pub sign : Change → ℕ
sign Gone = 45
sign New = 43

abbrev pub change_name : Change → List ℕ
change_name Gone = codes "gone"
change_name New = codes "new"

-- its row as text: a sign, the number of its line and the line, as `- 12`, a tab and the line
abbrev pub entry_text : Change → Entry → List ℕ
entry_text change e = sign change ∷ 32 ∷ (decimal e.line ++ 9 ∷ (e.text ++ 10 ∷ []))

abbrev pub entry_members : Change → Entry → List Token
entry_members change e =
    string_member (codes "change") (change_name change) ++ (number_member (codes "line") e.line ++ text_members (codes "text") (codes "bytes") e.text)

abbrev pub entry_json : Change → Entry → List ℕ
entry_json change e = object_row (entry_members change e)

abbrev pub entry_row : Form → Change → Entry → List ℕ
entry_row Text change e = entry_text change e
entry_row Json change e = entry_json change e

-- ---- two corresponding entries

-- their row as text: the numbers of their lines and a civil second, as `~ 12 14`, a tab and
-- `2028-02-29T00:00:00`
abbrev pub difference_text : Entry → Entry → ℕ → List ℕ
difference_text a b c =
    codes "~ " ++ (decimal a.line ++ (codes " " ++ (decimal b.line ++ (codes "\t" ++ (iso_datetime_text (civil c) ++ codes "\n")))))

abbrev pub difference_members : Entry → Entry → ℕ → List Token
difference_members a b c =
    string_member (codes "change") (codes "other")
    ++ (number_member (codes "line") a.line
    ++ (number_member (codes "other_line") b.line ++ string_member (codes "at") (iso_datetime_text (civil c))))

abbrev pub difference_json : Entry → Entry → ℕ → List ℕ
difference_json a b c = object_row (difference_members a b c)

abbrev pub difference_row : Form → Entry → Entry → ℕ → List ℕ
difference_row Text a b c = difference_text a b c
difference_row Json a b c = difference_json a b c
