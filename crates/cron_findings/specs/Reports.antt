-- The report of a check in a format.
use Rattle.std.specs.Prelude.{ℕ, List, [], ◌∷◌, ◌++◌, codes}
use Rattle.std.specs.List.{flat_map}
use Rattle.cron_controls.specs.declared.Controls.TheVariants.{Raw}
use Rattle.json.specs.Print.{print}
use Rattle.json.specs.Token.{Token, begin_array, begin_object, end_array, end_object, key, string}
use Rattle.cron_findings.specs.Findings.{Finding}
use Rattle.cron_findings.specs.Texts.{gcc_line, plain_line, underlined_lines}
use Rattle.cron_findings.specs.Escapes.{github_line}
use Rattle.cron_findings.specs.Members.{json_line, message_object, result_line, string_member}
use Rattle.cron_findings.specs.declared.finding.Rule.{Rule}
use Rattle.cron_findings.specs.declared.finding.Format.{Format}
use Rattle.cron_findings.specs.declared.finding.Format.TheVariants.{Text, Underlined, Gcc, Json, Github, Sarif}

-- a finding as this format has it
abbrev pub finding_text : Format → Finding → List ℕ
finding_text (Text named) f = plain_line Raw named f
finding_text (Underlined named colored) f = underlined_lines named colored f
finding_text Gcc f = gcc_line f
finding_text Json f = json_line f
finding_text Github f = github_line f
finding_text Sarif f = result_line f

-- ---- the log of SARIF 2.1.0

-- a rule: its code, its title, and what helps
abbrev pub rule_object : Rule → List Token
rule_object r =
    begin_object
    ∷ (string_member (codes "id") r.code.now
    ++ (key (codes "shortDescription") ∷ (message_object r.title.now ++ (key (codes "help") ∷ (message_object r.help.now ++ end_object ∷ [])))))

-- the tool of this name, with its rules
abbrev pub driver_object : List ℕ → List Rule → List Token
driver_object tool rules =
    begin_object
    ∷ (string_member (codes "name") tool ++ (key (codes "rules") ∷ begin_array ∷ (flat_map rule_object rules ++ end_array ∷ end_object ∷ [])))

abbrev pub tool_member : List ℕ → List Rule → List Token
tool_member tool rules = key (codes "tool") ∷ begin_object ∷ key (codes "driver") ∷ (driver_object tool rules ++ end_object ∷ [])

-- a run up to its results
abbrev pub run_front : List ℕ → List Rule → List Token
run_front tool rules =
    begin_object
    ∷ (tool_member tool rules ++ (string_member (codes "columnKind") (codes "unicodeCodePoints") ++ (key (codes "results") ∷ begin_array ∷ [])))

-- the log up to its results
abbrev pub log_head : List ℕ → List Rule → List Token
log_head tool rules =
    begin_object
    ∷ (string_member (codes "$schema") (codes "https://json.schemastore.org/sarif-2.1.0.json")
    ++ (string_member (codes "version") (codes "2.1.0") ++ (key (codes "runs") ∷ begin_array ∷ run_front tool rules)))

-- what stands in front of all findings, between two of them, and behind all
abbrev pub head_text : Format → List ℕ → List Rule → List ℕ
head_text Sarif tool rules = print (log_head tool rules) ++ 10 ∷ []
head_text _ tool rules = []

abbrev pub between_text : Format → List ℕ
between_text Sarif = codes ","
between_text _ = []

abbrev pub end_text : Format → List ℕ
end_text Sarif = codes "]}]}\n"
end_text _ = []

abbrev pub further_text : Format → List Finding → List ℕ
further_text format [] = []
further_text format (f ∷ fs) = between_text format ++ (finding_text format f ++ further_text format fs)

abbrev pub findings_text : Format → List Finding → List ℕ
findings_text format [] = []
findings_text format (f ∷ fs) = finding_text format f ++ further_text format fs

-- the whole report of these findings
abbrev pub report_text : Format → List ℕ → List Rule → List Finding → List ℕ
report_text format tool rules fs = head_text format tool rules ++ (findings_text format fs ++ end_text format)
