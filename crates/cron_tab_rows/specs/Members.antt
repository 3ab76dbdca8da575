-- The members of an object of JSON about an entry.
use Rattle.std.specs.Prelude.{◌++◌, ℕ, Bool, true, false, List, [], ◌∷◌, Option, Some, None, codes}
use Rattle.std.specs.Fmt.{decimal, signed_decimal}
use Rattle.std.specs.Str.{is_utf8}
use Rattle.std.specs.Str.Lossy.{utf8_lossy}
use Rattle.hex.specs.Hex.{encode_lower}
use Rattle.json.specs.Print.{print}
use Rattle.json.specs.Token.{Token, begin_object, end_object, key, number, string}
use Rattle.cron_agenda.specs.Fires.{instant}
use Rattle.cron_agenda.specs.Messages.{fire_text}
use Rattle.cron_agenda.specs.declared.fire.EntryFire.{EntryFire}
use Rattle.cron_tab_rows.specs.Sources.{Source}

abbrev pub string_member : List ℕ → List ℕ → List Token
string_member name text = key name ∷ string text ∷ []

abbrev pub number_member : List ℕ → ℕ → List Token
number_member name n = key name ∷ number (decimal n) ∷ []

-- a fire as it is printed, and its instant, in seconds since 1970
abbrev pub fire_members : List ℕ → List ℕ → EntryFire → List Token
fire_members name epoch_name f = string_member name (fire_text f) ++ (key epoch_name ∷ number (signed_decimal (instant f)) ∷ [])

abbrev pub file_member : List ℕ → Option (List ℕ) → List Token
file_member name None = []
file_member name (Some file) = string_member name file

-- where an entry stands: the number of its line, and its file, if there is a file
abbrev pub place_members : List ℕ → List ℕ → Option (List ℕ) → ℕ → List Token
place_members line_name file_name file line = number_member line_name line ++ file_member file_name file

-- the member with bytes in hexadecimal, or nothing if they are a text
abbrev pub raw_member : List ℕ → Bool → List ℕ → List Token
raw_member name true bytes = []
raw_member name false bytes = key name ∷ string (encode_lower bytes) ∷ []

-- the members with bytes: as a text, with U+FFFD for what is none, and then in hexadecimal if they
-- aren't all a text
abbrev pub text_members : List ℕ → List ℕ → List ℕ → List Token
text_members name raw_name bytes = key name ∷ string (utf8_lossy bytes) ∷ raw_member raw_name (is_utf8 bytes) bytes

abbrev pub user_members : Option (List ℕ) → List Token
user_members None = []
user_members (Some user) = text_members (codes "user") (codes "user_bytes") user

abbrev pub input_members : Option (List ℕ) → List Token
input_members None = []
input_members (Some input) = text_members (codes "input") (codes "input_bytes") input

-- what an entry runs: the user, if there is a user, the command, and its input, if there is any
abbrev pub task_members : Source → List Token
task_members s = user_members s.user ++ (text_members (codes "command") (codes "bytes") s.command ++ input_members s.input)

-- an object with these members, and a line feed
abbrev pub object_row : List Token → List ℕ
object_row members = print (begin_object ∷ (members ++ end_object ∷ [])) ++ 10 ∷ []
