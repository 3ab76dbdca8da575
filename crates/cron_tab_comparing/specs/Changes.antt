-- What is reported of the entries of two crontabs.
use Rattle.std.specs.Prelude.{◌≡◌, ◌++◌, ℕ, List, [], ◌∷◌, Option, Some, None}
use Rattle.cron_comparing.specs.Comparisons.{IsFirstDifference}
use Rattle.cron_replies.specs.declared.form.Form.{Form}
use Rattle.cron_tab_comparing.specs.Entries.{Entry}
use Rattle.cron_tab_comparing.specs.Keys.{other_of}
use Rattle.cron_tab_comparing.specs.Rows.{difference_row, entry_row}
use Rattle.cron_tab_comparing.specs.declared.rows.Change.TheVariants.{Gone, New}

abbrev pub difference_told : Form → Entry → Entry → Option ℕ → List ℕ
difference_told form a b None = []
difference_told form a b (Some c) = difference_row form a b c

-- the text is a row with the first civil second that one entry matches and the other doesn't; it is
-- empty if there is none
abbrev pub TellsDifference : Form → Entry → Entry → List ℕ → Type 0
TellsDifference form a b text = (found : Option ℕ) × IsFirstDifference a.schedules b.schedules found × (text ≡ difference_told form a b found)

-- the text is what is reported of an entry of the first crontab: it is gone, or corresponds to an
-- entry of the second
abbrev pub TellsOfOld : Form → Entry → Option Entry → List ℕ → Type 0
TellsOfOld form a None text = text ≡ entry_row form Gone a
TellsOfOld form a (Some b) text = TellsDifference form a b text

-- the text is what is reported of each entry of the first crontab that comes after the entries
-- `before`
abbrev pub TellsOld : Form → List Entry → List Entry → List Entry → List ℕ → Type 0
TellsOld form others before [] text = text ≡ []
TellsOld form others before (a ∷ es) text =
    (here : List ℕ) × (rest : List ℕ) × (text ≡ here ++ rest) × TellsOfOld form a (other_of others before a) here × TellsOld form others (before ++ a ∷ []) es rest

-- the row of an entry of the second crontab that is new; nothing if it corresponds to one of the
-- first
abbrev pub new_row : Form → Entry → Option Entry → List ℕ
new_row form a None = entry_row form New a
new_row form a (Some b) = []

abbrev pub new_rows : Form → List Entry → List Entry → List Entry → List ℕ
new_rows form others before [] = []
new_rows form others before (a ∷ es) = new_row form a (other_of others before a) ++ new_rows form others (before ++ a ∷ []) es

-- the text has the rows of the first crontab's entries that are gone or match other civil seconds,
-- and then of the second's that are new
abbrev pub TellsAll : Form → List Entry → List Entry → List ℕ → Type 0
TellsAll form es fs text = (old : List ℕ) × TellsOld form fs [] es old × (text ≡ old ++ new_rows form es [] fs)
