-- Texts as GitHub's workflows and SARIF write them.
use Rattle.std.specs.Prelude.{ℕ, ◌==◌, ◌||◌, ◌&&◌, Bool, List, [], ◌∷◌, ◌++◌, codes, slice_index, if◌then◌else◌}
use Rattle.std.specs.Char.{is_ascii_alphanumeric}
use Rattle.std.specs.Fmt.{decimal}
use Rattle.std.specs.List.{flat_map}
use Rattle.percent_encoding.specs.Percent.{percent_encode_byte}
use Rattle.cron_findings.specs.declared.finding.Severity.{Severity}
use Rattle.cron_findings.specs.declared.finding.Severity.TheVariants.{Error, Warning, Note}
use Rattle.cron_findings.specs.Findings.{Finding, told}
use Rattle.cron_findings.specs.Places.{column, last_column}

-- ---- commands of a workflow

abbrev pub is_data_escaped : ℕ → Bool
is_data_escaped c = (c == 37) || ((c == 13) || (c == 10))

-- a byte of a message, where `%`, carriage returns and line feeds are escaped
abbrev pub data_byte : ℕ → List ℕ
data_byte c = if is_data_escaped c then percent_encode_byte c else c ∷ []

-- a byte of a property, where colons and commas are escaped too
abbrev pub property_byte : ℕ → List ℕ
property_byte c = if is_data_escaped c || ((c == 58) || (c == 44)) then percent_encode_byte c else c ∷ []

abbrev pub data_text : List ℕ → List ℕ
data_text text = flat_map data_byte text

abbrev pub property_text : List ℕ → List ℕ
property_text text = flat_map property_byte text

abbrev pub command_word : Severity → List ℕ
command_word Error = codes "error"
command_word Warning = codes "warning"
command_word Note = codes "notice"

abbrev pub github_file : Finding → List ℕ
github_file f = codes "::" ++ (command_word f.severity ++ (codes " file=" ++ property_text f.file))

abbrev pub github_place : Finding → List ℕ
github_place f = codes ",line=" ++ (decimal f.line ++ (codes ",col=" ++ (decimal (column f) ++ (codes ",endColumn=" ++ decimal (last_column f)))))

abbrev pub github_matter : Finding → List ℕ
github_matter f = codes ",title=" ++ (property_text f.code ++ (codes "::" ++ (data_text (told f) ++ 10 ∷ [])))

-- `::error file=FILE,line=LINE,col=COLUMN,endColumn=LAST,title=CODE::MESSAGE`
abbrev pub github_line : Finding → List ℕ
github_line f = github_file f ++ (github_place f ++ github_matter f)

-- ---- URIs

-- a byte that a path of a URI has as it is: RFC 3986 never gives it another meaning there
abbrev pub is_path_byte : ℕ → Bool
is_path_byte c = is_ascii_alphanumeric c || ((c == 45) || ((c == 46) || ((c == 95) || ((c == 126) || (c == 47)))))

abbrev pub path_byte : ℕ → List ℕ
path_byte c = if is_path_byte c then c ∷ [] else percent_encode_byte c

-- whether a path begins with two slashes, behind which a URI has the name of a machine
abbrev pub begins_with_machine : List ℕ → Bool
begins_with_machine file = (slice_index file 0 == 47) && (slice_index file 1 == 47)

-- the name of a file as a reference of a URI
unfoldable pub uri : List ℕ → List ℕ
uri file = (if begins_with_machine file then codes "/." else []) ++ flat_map path_byte file
