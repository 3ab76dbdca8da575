-- Findings as JSON.
use Rattle.std.specs.Prelude.{◌≡◌, ℕ, List, [], ◌∷◌, ◌++◌, Option, Some, None, codes}
use Rattle.std.specs.Fmt.{decimal}
use Rattle.json.specs.Print.{print}
use Rattle.json.specs.Token.{Token, begin_array, begin_object, end_array, end_object, key, null, number, string}
use Rattle.json.specs.Written.{Written}
use Rattle.cron_findings.specs.Findings.{Finding, Hint, told}
use Rattle.cron_findings.specs.Escapes.{uri}
use Rattle.cron_findings.specs.Places.{column, end_column}
use Rattle.cron_findings.specs.Texts.{severity_word}

-- tokens were written after those that there were
abbrev pub Writes : List Token → Written → Written → Type 0
Writes tokens old new = (new.tokens ≡ old.tokens ++ tokens) × (new.before ≡ old.before)

abbrev pub string_member : List ℕ → List ℕ → List Token
string_member name text = key name ∷ string text ∷ []

abbrev pub number_member : List ℕ → ℕ → List Token
number_member name n = key name ∷ number (decimal n) ∷ []

-- an object with these members, and a line feed
abbrev pub object_line : List Token → List ℕ
object_line members = print (begin_object ∷ (members ++ end_object ∷ [])) ++ 10 ∷ []

-- ---- an object of JSON

abbrev pub bytes_member : ℕ → ℕ → List Token
bytes_member start end = key (codes "bytes") ∷ begin_array ∷ number (decimal start) ∷ number (decimal end) ∷ end_array ∷ []

-- the place: the file, the number of the line, the columns of the span's first character and
-- behind its last, and the span's bytes from and up to
abbrev pub place_members : Finding → List Token
place_members f =
    string_member (codes "file") f.file
    ++ (number_member (codes "line") f.line
    ++ (number_member (codes "column") (column f)
    ++ (number_member (codes "end") (end_column f) ++ bytes_member f.start f.end)))

abbrev pub text_tokens : Option (List ℕ) → List Token
text_tokens None = null ∷ []
text_tokens (Some text) = string text ∷ []

abbrev pub hint_object : Hint → List Token
hint_object h = begin_object ∷ (string_member (codes "message") h.told ++ (key (codes "text") ∷ (text_tokens h.text ++ end_object ∷ [])))

abbrev pub hint_tokens : Option Hint → List Token
hint_tokens None = null ∷ []
hint_tokens (Some h) = hint_object h

-- what is found: how grave it is, its code, its message, and the hint
abbrev pub matter_members : Finding → List Token
matter_members f =
    string_member (codes "severity") (severity_word f.severity)
    ++ (string_member (codes "code") f.code ++ (string_member (codes "message") f.message ++ (key (codes "hint") ∷ hint_tokens f.hint)))

abbrev pub json_line : Finding → List ℕ
json_line f = object_line (place_members f ++ matter_members f)

-- ---- a result of SARIF

-- an object whose one member has the name `text`
abbrev pub message_object : List ℕ → List Token
message_object text = begin_object ∷ (string_member (codes "text") text ++ end_object ∷ [])

abbrev pub artifact_member : Finding → List Token
artifact_member f = key (codes "artifactLocation") ∷ begin_object ∷ (string_member (codes "uri") (uri f.file) ++ end_object ∷ [])

abbrev pub region_member : Finding → List Token
region_member f =
    key (codes "region") ∷ begin_object
    ∷ (number_member (codes "startLine") f.line
    ++ (number_member (codes "startColumn") (column f) ++ (number_member (codes "endColumn") (end_column f) ++ end_object ∷ [])))

-- the file as a reference of a URI, and the span in it
abbrev pub location_object : Finding → List Token
location_object f =
    begin_object ∷ key (codes "physicalLocation") ∷ begin_object ∷ (artifact_member f ++ (region_member f ++ end_object ∷ end_object ∷ []))

abbrev pub told_member : Finding → List Token
told_member f = key (codes "message") ∷ message_object (told f)

abbrev pub locations_member : Finding → List Token
locations_member f = key (codes "locations") ∷ begin_array ∷ (location_object f ++ end_array ∷ [])

abbrev pub result_members : Finding → List Token
result_members f =
    string_member (codes "ruleId") f.code
    ++ (string_member (codes "level") (severity_word f.severity) ++ (told_member f ++ locations_member f))

abbrev pub result_line : Finding → List ℕ
result_line f = object_line (result_members f)
