-- A service is read back.
use Rattle.std.proofs.Common.{◌≡◌, ℕ, ◌<◌, ◌==◌, Bool, true, false, not, nat_lt, List, [], ◌∷◌, ◌++◌, Some, None, length, map, refl, sym, ap, ◌∙◌, append_assoc, append-nil, subst, inl, inr}
use Rattle.std.specs.Prelude.{◌&&◌, ◌||◌, ◌-◌, Option, codes, slice_index}
use Rattle.std.specs.Char.{is_ascii_alphanumeric}
use Rattle.std.specs.List.{flat_map, list_all}
use Rattle.std.specs.Option.{option_map, option_to_list}
use Rattle.std.specs.Str.{bytes_eq}
use Rattle.std.proofs.lemmas.Bool.{and_from, and_parts, cases_Bool, eqb-true, false≢true, or_cases}
use Rattle.cron_systemd.specs.Sayable.{begins_with_slash, is_byte, is_path, is_user, is_user_byte, is_user_name}
use Rattle.cron_systemd.specs.Services.{IsSayable, SaysService, Service, fed, input_of, service_text}
use Rattle.cron_systemd.specs.Texts.{command_text, escaped, fed_text, input_text, is_plain, service_head, user_text, variable_text, without_feed, written, written_byte}
use Rattle.cron_systemd.specs.Units.{Setting, begins, settings_below, settings_of, stands, values_of}
use Rattle.cron_systemd.specs.Values.{begins_name, command_of, is_bare, is_variable, variables_of}
use Rattle.cron_systemd.specs.declared.checks.End.TheVariants.{Plain}
use Rattle.cron_systemd.specs.declared.values.Form.TheVariants.{Argument, Input, Variable}
use Rattle.cron_shell.specs.Lines.{assignment}
use Rattle.cron_systemd.proofs.LineLemmas.{one_setting, solid, written_follows}
use Rattle.cron_systemd.proofs.TestLemmas.{all_pass, all_take, bare_within, name_bare, other}
use Rattle.cron_systemd.proofs.WordLemmas.{command_back, command_value, input_back, letter_named, path_bare, variable_bytes, variable_value, variables_back}

-- ---- the settings of a service

abbrev pub service : List ℕ
service = codes "Service"

abbrev pub of_service : List ℕ → List ℕ → Setting
of_service name value = record { section = service; name = name; value = value }

abbrev pub fed_settings : List ℕ → List Setting
fed_settings [] = of_service (codes "StandardInputData") (codes "Cg==") ∷ []
fed_settings (c ∷ cs) = of_service (codes "StandardInputText") (written Input (c ∷ cs)) ∷ []

abbrev pub input_settings : List ℕ → List Setting
input_settings [] = []
input_settings (c ∷ cs) = fed_settings (without_feed (c ∷ cs))

abbrev pub command_settings : Service → List Setting
command_settings s = of_service (codes "ExecStart") (command_value s.shell s.command) ∷ input_settings s.input

abbrev pub variable_setting : List ℕ × List ℕ → Setting
variable_setting v = of_service (codes "Environment") (variable_value v)

abbrev pub user_settings : Option (List ℕ) → List Setting
user_settings None = []
user_settings (Some user) = of_service (codes "User") user ∷ []

abbrev pub service_settings : Service → List Setting
service_settings s =
    of_service (codes "Type") (codes "oneshot") ∷ of_service (codes "KillMode") (codes "process") ∷ of_service (codes "IgnoreSIGPIPE") (codes "no")
    ∷ of_service (codes "WorkingDirectory") (codes "~") ∷ (user_settings s.user ++ (map variable_setting s.variables ++ command_settings s))

-- ---- lines

bare_stands : (text rest : List ℕ) → list_all is_bare text ≡ true → stands rest Plain ≡ true → stands (text ++ rest) Plain ≡ true
bare_stands [] rest all standing = standing
bare_stands (c ∷ cs) rest all standing =
    let parts = and_parts (is_bare c) (list_all is_bare cs) all in
    let within = bare_within c parts.0 in
    solid Plain c (cs ++ rest) within.0 within.1 (other is_bare c 92 parts.0 refl) ∙ bare_stands cs rest parts.1 standing

bare_begins : (c : ℕ) → is_bare c ≡ true → not (c == 32) ≡ true
bare_begins c is = rw (other is_bare c 32 is refl) refl

-- the user
user_bare : (c : ℕ) → is_user_byte c ≡ true → is_bare c ≡ true
user_bare c is = elim (or_cases (is_ascii_alphanumeric c || (c == 45)) (c == 95) is) [
  | inl front ↦ elim (or_cases (is_ascii_alphanumeric c) (c == 45) front) [
    | inl it ↦ rw it refl
    | inr it ↦ rw (eqb-true c 45 it) refl
  ]
  | inr it ↦ rw (eqb-true c 95 it) refl
]

user_all : (user : List ℕ) → is_user_name user ≡ true → list_all is_bare user ≡ true
user_all [] is = refl
user_all (c ∷ cs) is =
    let parts = and_parts (begins_name c) (nat_lt (length cs) 31 && list_all is_user_byte cs) is in
    let rest = (and_parts (nat_lt (length cs) 31) (list_all is_user_byte cs) parts.1).1 in
    and_from (is_bare c) (list_all is_bare cs) (name_bare c (letter_named c parts.0)) (all_pass is_user_byte is_bare user_bare cs rest)

user_begins : (user : List ℕ) → is_user_name user ≡ true → begins user ≡ true
user_begins [] is = absurd (false≢true is)
user_begins (c ∷ cs) is = bare_begins c (and_parts (is_bare c) (list_all is_bare cs) (user_all (c ∷ cs) is)).0

user_read : (user : Option (List ℕ)) (rest : List ℕ) (others : List Setting) → is_user user ≡ true → settings_below service rest ≡ Some others
    → settings_below service (user_text user ++ rest) ≡ Some (user_settings user ++ others)
user_read None rest others is read = read
user_read (Some user) rest others is read =
    let standing : stands user Plain ≡ true =
    subst (λ t. stands t Plain ≡ true) (append-nil user) (bare_stands user [] (user_all user is) refl) in
    ap (λ t. settings_below service (codes "User=" ++ t)) (append_assoc user (10 ∷ []) rest)
    ∙ one_setting service (codes "User") user (codes "User=" ++ user) rest others (rw (standing, user_begins user is) refl) standing read

-- what stands between the quotes, the last quote and the line feed
quote_end : (text rest : List ℕ) → (text ++ 34 ∷ 10 ∷ []) ++ rest ≡ (text ++ 34 ∷ []) ++ 10 ∷ rest
quote_end text rest = append_assoc text (34 ∷ 10 ∷ []) rest ∙ sym (append_assoc text (34 ∷ []) (10 ∷ rest))

-- the variables
variable_read : (v : List ℕ × List ℕ) (rest : List ℕ) (others : List Setting) → is_variable v ≡ true → settings_below service rest ≡ Some others
    → settings_below service (variable_text v ++ rest) ≡ Some (variable_setting v ∷ others)
unfolding variable_text
variable_read v rest others is read =
    let text = written Variable (assignment v) in
    let standing : stands (text ++ 34 ∷ []) Plain ≡ true = (written_follows Variable (assignment v) (34 ∷ []) (variable_bytes v is) (refl, refl)).0 in
    ap (λ t. settings_below service (codes "Environment=\"" ++ t)) (quote_end text rest)
    ∙ one_setting service (codes "Environment") (variable_value v) (codes "Environment=" ++ variable_value v) rest others (rw standing refl) standing read

variables_read : (vs : List (List ℕ × List ℕ)) (rest : List ℕ) (others : List Setting) → list_all is_variable vs ≡ true
    → settings_below service rest ≡ Some others → settings_below service (flat_map variable_text vs ++ rest) ≡ Some (map variable_setting vs ++ others)
variables_read [] rest others all read = read
variables_read (v ∷ vs) rest others all read =
    let parts = and_parts (is_variable v) (list_all is_variable vs) all in
    ap (settings_below service) (append_assoc (variable_text v) (flat_map variable_text vs) rest)
    ∙ variable_read v (flat_map variable_text vs ++ rest) (map variable_setting vs ++ others) parts.0 (variables_read vs rest others parts.1 read)

-- the command
slash_begins : (path rest : List ℕ) → begins_with_slash path ≡ true → begins (path ++ rest) ≡ true
slash_begins [] rest is = absurd (false≢true is)
slash_begins (c ∷ cs) rest is = rw (eqb-true c 47 is) refl

command_end : (shell text rest : List ℕ)
    → (shell ++ (codes " -c \"" ++ (text ++ 34 ∷ 10 ∷ []))) ++ rest ≡ (shell ++ (codes " -c \"" ++ (text ++ 34 ∷ []))) ++ 10 ∷ rest
command_end shell text rest =
    append_assoc shell (codes " -c \"" ++ (text ++ 34 ∷ 10 ∷ [])) rest
    ∙ (ap (λ t. shell ++ (codes " -c \"" ++ t)) (quote_end text rest)
    ∙ sym (append_assoc shell (codes " -c \"" ++ (text ++ 34 ∷ [])) (10 ∷ rest)))

command_read : (shell command rest : List ℕ) (others : List Setting) → is_path shell ≡ true → list_all is_byte command ≡ true
    → settings_below service rest ≡ Some others
    → settings_below service (command_text shell command ++ rest) ≡ Some (of_service (codes "ExecStart") (command_value shell command) ∷ others)
command_read shell command rest others path said read =
    let text = written Argument command in
    let slash = (and_parts (begins_with_slash shell) (nat_lt (length shell) 256 && (not (slice_index shell (length shell - 1) == 47) && list_all is_bare shell)) path).0 in
    let quoted : stands (text ++ 34 ∷ []) Plain ≡ true = (written_follows Argument command (34 ∷ []) said (refl, refl)).0 in
    let standing : stands (command_value shell command) Plain ≡ true = bare_stands shell (codes " -c \"" ++ (text ++ 34 ∷ [])) (path_bare shell path) quoted in
    ap (λ t. settings_below service (codes "ExecStart=" ++ t)) (command_end shell text rest)
    ∙ one_setting service (codes "ExecStart") (command_value shell command) (codes "ExecStart=" ++ command_value shell command) rest others
    (rw (standing, slash_begins shell (codes " -c \"" ++ (text ++ 34 ∷ [])) slash) refl) standing read

-- the input
escaped_begins : (c : ℕ) (rest : List ℕ) → begins (escaped false c ++ rest) ≡ true
escaped_begins c rest = elim (cases_Bool ((c == 92) || (c == 34))) [
  | inl it ↦ rw it refl
  | inr quote ↦ elim (cases_Bool (is_plain false c)) [
    | inl it ↦ rw (quote, it) (plain_begins c it)
    | inr it ↦ rw (quote, it) refl
  ]
]
  where
    plain_begins : (c : ℕ) → is_plain false c ≡ true → not (c == 32) ≡ true
    plain_begins c it = rw (other (is_plain false) c 32 it refl) refl

written_begins : (c : ℕ) (cs : List ℕ) → begins (written Input (c ∷ cs)) ≡ true
written_begins c cs = elim (cases_Bool (c == 37)) [
  | inl it ↦ rw it (subst (λ t. begins t ≡ true) (sym (append_assoc (escaped false c) (escaped false c) (written Input cs)))
      (escaped_begins c (escaped false c ++ written Input cs)))
  | inr it ↦ rw it (escaped_begins c (written Input cs))
]

fed_read : (text : List ℕ) → list_all is_byte text ≡ true → settings_below service (fed_text text) ≡ Some (fed_settings text)
fed_read [] said = refl
fed_read (c ∷ cs) said =
    let text = written Input (c ∷ cs) in
    let standing : stands text Plain ≡ true = subst (λ t. stands t Plain ≡ true) (append-nil text) (written_follows Input (c ∷ cs) [] said refl) in
    one_setting service (codes "StandardInputText") text (codes "StandardInputText=" ++ text) [] [] (rw (standing, written_begins c cs) refl) standing refl

pub without_feed_bytes : (input : List ℕ) → list_all is_byte input ≡ true → list_all is_byte (without_feed input) ≡ true
without_feed_bytes input said = elim (cases_Bool (slice_index input (length input - 1) == 10)) [
  | inl it ↦ rw it (all_take is_byte (length input - 1) input said)
  | inr it ↦ rw it said
]

input_read : (input : List ℕ) → list_all is_byte input ≡ true → settings_below service (input_text input) ≡ Some (input_settings input)
input_read [] said = refl
input_read (c ∷ cs) said = fed_read (without_feed (c ∷ cs)) (without_feed_bytes (c ∷ cs) said)

head_read : (rest : List ℕ) (others : List Setting) → settings_below service rest ≡ Some others
    → settings_below [] (service_head ++ rest)
    ≡ Some (of_service (codes "Type") (codes "oneshot") ∷ of_service (codes "KillMode") (codes "process") ∷ of_service (codes "IgnoreSIGPIPE") (codes "no")
    ∷ of_service (codes "WorkingDirectory") (codes "~") ∷ others)
head_read rest others read = rw read refl

pub all_read : (s : Service) → IsSayable s → settings_below [] (service_text s) ≡ Some (service_settings s)
all_read s is =
    head_read (user_text s.user ++ (flat_map variable_text s.variables ++ (command_text s.shell s.command ++ input_text s.input)))
    (user_settings s.user ++ (map variable_setting s.variables ++ command_settings s))
    (user_read s.user (flat_map variable_text s.variables ++ (command_text s.shell s.command ++ input_text s.input))
    (map variable_setting s.variables ++ command_settings s) is.user
    (variables_read s.variables (command_text s.shell s.command ++ input_text s.input) (command_settings s) is.variables
    (command_read s.shell s.command (input_text s.input) (input_settings s.input) is.shell is.command (input_read s.input is.input))))

-- ---- what the settings say

passed : (name : List ℕ) (vs : List (List ℕ × List ℕ)) (rest : List Setting) → bytes_eq (codes "Environment") name ≡ false
    → values_of service name (map variable_setting vs ++ rest) ≡ values_of service name rest
passed name [] rest differs = refl
passed name (v ∷ vs) rest differs = rw differs (passed name vs rest differs)

taken : (vs : List (List ℕ × List ℕ)) (rest : List Setting)
    → values_of service (codes "Environment") (map variable_setting vs ++ rest) ≡ map variable_value vs ++ values_of service (codes "Environment") rest
taken [] rest = refl
taken (v ∷ vs) rest = ap (λ values. variable_value v ∷ values) (taken vs rest)

-- settings of other names
no_user : (name : List ℕ) (user : Option (List ℕ)) (rest : List Setting) → bytes_eq (codes "User") name ≡ false
    → values_of service name (user_settings user ++ rest) ≡ values_of service name rest
no_user name None rest differs = refl
no_user name (Some user) rest differs = rw differs refl

no_input : (name input : List ℕ) → bytes_eq (codes "StandardInputData") name ≡ false → bytes_eq (codes "StandardInputText") name ≡ false
    → values_of service name (input_settings input) ≡ []
no_input name [] first second = refl
no_input name (c ∷ cs) first second = no_fed (without_feed (c ∷ cs))
  where
    no_fed : (text : List ℕ) → values_of service name (fed_settings text) ≡ []
    no_fed [] = rw first refl
    no_fed (c ∷ cs) = rw second refl

fed_back : (text : List ℕ) → list_all is_byte text ≡ true
    → input_of (values_of service (codes "StandardInputText") (fed_settings text)) (values_of service (codes "StandardInputData") (fed_settings text))
    ≡ Some (text ++ 10 ∷ [])
fed_back [] said = refl
fed_back (c ∷ cs) said = input_back (c ∷ cs) said

inputs_back : (input : List ℕ) → list_all is_byte input ≡ true
    → input_of (values_of service (codes "StandardInputText") (input_settings input)) (values_of service (codes "StandardInputData") (input_settings input))
    ≡ Some (fed input)
inputs_back [] said = refl
inputs_back (c ∷ cs) said = fed_back (without_feed (c ∷ cs)) (without_feed_bytes (c ∷ cs) said)

all_variables : (vs : List (List ℕ × List ℕ)) → list_all is_variable vs ≡ true
    → map variables_of (map variable_value vs) ≡ map (λ v. Some (v ∷ [])) vs
all_variables [] all = refl
all_variables (v ∷ vs) all =
    let parts = and_parts (is_variable v) (list_all is_variable vs) all in
    rw (variables_back v parts.0, all_variables vs parts.1) refl

pub says_service : (s : Service) → IsSayable s → nat_lt (length (service_text s)) 1_048_576 ≡ true → SaysService s (service_text s)
says_service s is small =
    let rest = map variable_setting s.variables ++ command_settings s in
    let exec = no_user (codes "ExecStart") s.user rest refl ∙ (passed (codes "ExecStart") s.variables (command_settings s) refl
    ∙ ap (λ values. command_value s.shell s.command ∷ values) (no_input (codes "ExecStart") s.input refl refl)) in
    let environment = no_user (codes "Environment") s.user rest refl ∙ (taken s.variables (command_settings s)
    ∙ (ap (λ values. map variable_value s.variables ++ values) (no_input (codes "Environment") s.input refl refl) ∙ append-nil (map variable_value s.variables))) in
    let text = no_user (codes "StandardInputText") s.user rest refl ∙ passed (codes "StandardInputText") s.variables (command_settings s) refl in
    let base64 = no_user (codes "StandardInputData") s.user rest refl ∙ passed (codes "StandardInputData") s.variables (command_settings s) refl in
    record {
      settings = service_settings s;
      read = rw small (all_read s is);
      runs = rw (exec, command_back s.shell s.command is.shell is.command) refl;
      variables = ap (map variables_of) environment ∙ all_variables s.variables is.variables;
      input = rw (text, base64) (inputs_back s.input is.input);
      user = users s.user rest (passed (codes "User") s.variables (command_settings s) refl ∙ no_input (codes "User") s.input refl refl);
    }
  where
    users : (user : Option (List ℕ)) (rest : List Setting) → values_of service (codes "User") rest ≡ []
        → values_of service (codes "User") (user_settings user ++ rest) ≡ option_to_list user
    users None rest none = none
    users (Some user) rest none = ap (λ values. user ∷ values) none
