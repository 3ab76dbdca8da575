-- What is written of the duty of people.
use Rattle.std.specs.Prelude.{◌≡◌, ◌++◌, ◌*ℤ◌, ℕ, ℤ, pos, List, [], ◌∷◌, Option, Some, None, codes, slice_index_or}
use Rattle.jiff_core.specs.declared.Offset.{Offset}
use Rattle.jiff_tz.specs.Zone.{offset_at}
use Rattle.jiff_tz.specs.declared.timezone.TimeZone.{TimeZone}
use Rattle.json.specs.Token.{Token, key, null}
use Rattle.cron_answers.specs.Lateness.{IsSinceText}
use Rattle.cron_replies.specs.declared.form.Form.{Form}
use Rattle.cron_replies.specs.declared.form.Form.TheVariants.{Text, Json}
use Rattle.cron_replies.specs.declared.status.Status.{Status}
use Rattle.cron_replies.specs.declared.status.Status.TheVariants.{Done, No}
use Rattle.cron_stretches.specs.declared.stretch.Stretch.{Stretch}
use Rattle.cron_tab_rows.specs.Members.{object_row, string_member}

-- the text of an instant, in seconds since 1970: what the zone's clock shows then, with its offset;
-- outside of 1970 to 2100 `@` and the seconds
abbrev pub IsTime : TimeZone → ℤ → List ℕ → Type 0
IsTime z second text = (o : Offset) × (o.seconds ≡ offset_at z (second *ℤ pos 1_000_000_000)) × IsSinceText second o text

-- the name of the person with a number
abbrev pub name_of : List (List ℕ) → ℕ → List ℕ
name_of names person = slice_index_or names person []

-- ---- shifts

-- the first second of a shift, its end and the person, with tabs between, and a line feed
abbrev pub text_row : List ℕ → List ℕ → List ℕ → List ℕ
text_row from until name = from ++ 9 ∷ (until ++ 9 ∷ (name ++ 10 ∷ []))

-- the same as JSON: `{"from":"..","until":"..","person":".."}` and a line feed
abbrev pub json_row : List ℕ → List ℕ → List ℕ → List ℕ
json_row from until name =
    object_row (string_member (codes "from") from ++ (string_member (codes "until") until ++ string_member (codes "person") name))

abbrev pub row : Form → List ℕ → List ℕ → List ℕ → List ℕ
row Text from until name = text_row from until name
row Json from until name = json_row from until name

-- the text is the row of a shift
abbrev pub IsRow : Form → TimeZone → List (List ℕ) → Stretch ℕ → List ℕ → Type 0
IsRow form z names s text =
    (from : List ℕ) × (until : List ℕ) × IsTime z s.first from × IsTime z s.end until × (text ≡ row form from until (name_of names s.value))

-- the text is the rows of some shifts, one after another
abbrev pub AreRows : Form → TimeZone → List (List ℕ) → List (Stretch ℕ) → List ℕ → Type 0
AreRows form z names [] text = text ≡ []
AreRows form z names (s ∷ shifts) text =
    (here : List ℕ) × (rest : List ℕ) × (text ≡ here ++ rest) × IsRow form z names s here × AreRows form z names shifts rest

-- ---- who is on duty

-- the name of who is on duty, or `nobody`, and a line feed
abbrev pub who_text : Option (List ℕ) → List ℕ
who_text None = codes "nobody\n"
who_text (Some name) = name ++ 10 ∷ []

abbrev pub person_member : Option (List ℕ) → List Token
person_member None = key (codes "person") ∷ null ∷ []
person_member (Some name) = string_member (codes "person") name

-- the instant, and the name of who is on duty then, as JSON: `{"at":"..","person":".."}` and a line
-- feed; `null` if nobody is
abbrev pub who_json : List ℕ → Option (List ℕ) → List ℕ
who_json at who = object_row (string_member (codes "at") at ++ person_member who)

-- the text says who is on duty at an instant, in seconds since 1970
abbrev pub IsWhoRow : Form → TimeZone → ℤ → Option (List ℕ) → List ℕ → Type 0
IsWhoRow Text z at who text = text ≡ who_text who
IsWhoRow Json z at who text = (time : List ℕ) × IsTime z at time × (text ≡ who_json time who)

-- `No` if nobody is on duty
abbrev pub who_status : Option (List ℕ) → Status
who_status None = No
who_status (Some name) = Done
