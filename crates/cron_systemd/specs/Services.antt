-- A service that runs a command by a shell.
use Rattle.std.specs.Prelude.{◌≡◌, ℕ, ◌&&◌, nat_lt, true, false, List, [], ◌∷◌, ◌++◌, Option, Some, None, codes, length, map, ⊤}
use Rattle.std.specs.List.{flat_map, list_all}
use Rattle.std.specs.Option.{option_to_list}
use Rattle.cron_shell.specs.Lines.{path_view, variable_view}
use Rattle.cron_systemd.specs.Sayable.{is_byte, is_path, is_user}
use Rattle.cron_systemd.specs.Texts.{command_text, input_text, service_head, user_text, variable_text, without_feed}
use Rattle.cron_systemd.specs.Units.{Setting, settings_of, values_of}
use Rattle.cron_systemd.specs.Values.{command_of, data_of, is_variable, text_of, variables_of}
use Rattle.cron_systemd.specs.declared.error.UnitError.{UnitError}
use Rattle.cron_systemd.specs.declared.error.UnitError.TheVariants.{Calendar, Input, Long, OutOfMemory, Shell, User, Variable}
use Rattle.cron_systemd.specs.declared.service.Service as code

pub record Service : Type 0 where
  pub user : Option (List ℕ)
  pub variables : List (List ℕ × List ℕ)
  pub shell : List ℕ
  pub command : List ℕ
  pub input : List ℕ

abbrev pub service_view : code.Service → Service
service_view s = record {
  user = path_view s.user;
  variables = map variable_view s.variables.now;
  shell = s.shell.now;
  command = s.command.now;
  input = s.input.now;
}

abbrev pub service_text : Service → List ℕ
service_text s =
    service_head ++ (user_text s.user ++ (flat_map variable_text s.variables ++ (command_text s.shell s.command ++ input_text s.input)))

-- the input as a command reads it: with a line feed at its end, unless it is empty
abbrev pub fed : List ℕ → List ℕ
fed [] = []
fed (c ∷ cs) = without_feed (c ∷ cs) ++ 10 ∷ []

-- the input that these texts and these data give, of which there is at most one
abbrev pub input_of : List (List ℕ) → List (List ℕ) → Option (List ℕ)
input_of [] [] = Some []
input_of (text ∷ []) [] = text_of text
input_of [] (data' ∷ []) = data_of data'
input_of _ _ = None

-- systemd reads the service from the text: what it runs, with which variables and input, and as whom
pub record SaysService (s : Service) (text : List ℕ) : Type 0 where
  pub settings : List Setting
  pub read : settings_of text ≡ Some settings
  pub runs : map command_of (values_of (codes "Service") (codes "ExecStart") settings) ≡ Some (s.shell ∷ codes "-c" ∷ s.command ∷ []) ∷ []
  pub variables : map variables_of (values_of (codes "Service") (codes "Environment") settings) ≡ map (λ v. Some (v ∷ [])) s.variables
  pub input :
      input_of (values_of (codes "Service") (codes "StandardInputText") settings) (values_of (codes "Service") (codes "StandardInputData") settings)
      ≡ Some (fed s.input)
  pub user : values_of (codes "Service") (codes "User") settings ≡ option_to_list s.user

-- a unit can hold what the service is made of
pub record IsSayable (s : Service) : Type 0 where
  pub user : is_user s.user ≡ true
  pub variables : list_all is_variable s.variables ≡ true
  pub shell : is_path s.shell ≡ true
  pub command : list_all is_byte s.command ≡ true
  pub input : list_all is_byte s.input ≡ true

-- a unit can't hold the service for this
abbrev pub IsUnsaid : Service → UnitError → Type 0
IsUnsaid s User = is_user s.user ≡ false
IsUnsaid s Variable = list_all is_variable s.variables ≡ false
IsUnsaid s Shell = is_path s.shell ≡ false
IsUnsaid s Input = (list_all is_byte s.command && list_all is_byte s.input) ≡ false
IsUnsaid s Long = nat_lt (length (service_text s)) 1_048_576 ≡ false
IsUnsaid s Calendar = ⊥
IsUnsaid s OutOfMemory = ⊤
