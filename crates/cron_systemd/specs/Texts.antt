-- The texts that are written.
use Rattle.std.specs.Prelude.{ℕ, ◌/◌, ◌%◌, ◌-◌, ◌==◌, ◌&&◌, ◌||◌, nat_lt, Bool, true, false, List, [], ◌∷◌, ◌++◌, Option, Some, None, codes, length, take, slice_index, if◌then◌else◌}
use Rattle.std.specs.Char.{digit_char}
use Rattle.std.specs.List.{flat_map}
use Rattle.cron_shell.specs.Lines.{assignment, input_lines}
use Rattle.cron_systemd.specs.declared.values.Form.{Form}
use Rattle.cron_systemd.specs.declared.values.Form.TheVariants.{Argument, Variable, Input}

-- ---- bytes

-- whether a text of this form stands in quotes
abbrev pub is_quoted : Form → Bool
is_quoted Argument = true
is_quoted Variable = true
is_quoted Input = false

-- whether a text of this form has the byte twice
abbrev pub is_sign : Form → ℕ → Bool
is_sign Argument c = (c == 37) || (c == 36)
is_sign Variable c = c == 37
is_sign Input c = c == 37

-- whether a byte stands for itself: it is printable, and a space only between quotes
abbrev pub is_plain : Bool → ℕ → Bool
is_plain q c = (nat_lt 32 c && nat_lt c 127) || (q && (c == 32))

abbrev pub escaped : Bool → ℕ → List ℕ
escaped q c =
    if (c == 92) || (c == 34) then 92 ∷ c ∷ []
    else if is_plain q c then c ∷ []
    else 92 ∷ 120 ∷ digit_char (c / 16) ∷ digit_char (c % 16) ∷ []

abbrev pub written_byte : Form → ℕ → List ℕ
written_byte form c = if is_sign form c then escaped (is_quoted form) c ++ escaped (is_quoted form) c else escaped (is_quoted form) c

abbrev pub written : Form → List ℕ → List ℕ
written form text = flat_map (written_byte form) text

-- ---- services

-- the input without a line feed at its end
abbrev pub without_feed : List ℕ → List ℕ
without_feed input = if slice_index input (length input - 1) == 10 then take (length input - 1) input else input

abbrev pub service_head : List ℕ
service_head = codes "[Service]\nType=oneshot\nKillMode=process\nIgnoreSIGPIPE=no\nWorkingDirectory=~\n"

abbrev pub user_text : Option (List ℕ) → List ℕ
user_text None = []
user_text (Some user) = codes "User=" ++ (user ++ 10 ∷ [])

unfoldable pub variable_text : List ℕ × List ℕ → List ℕ
variable_text v = codes "Environment=\"" ++ (written Variable (assignment v) ++ 34 ∷ 10 ∷ [])

abbrev pub command_text : List ℕ → List ℕ → List ℕ
command_text shell command = codes "ExecStart=" ++ (shell ++ (codes " -c \"" ++ (written Argument command ++ 34 ∷ 10 ∷ [])))

-- the lines of an input; the text alone can't mean one line feed
abbrev pub fed_text : List ℕ → List ℕ
fed_text [] = codes "StandardInputData=Cg==\n"
fed_text (c ∷ cs) = codes "StandardInputText=" ++ (written Input (c ∷ cs) ++ 10 ∷ [])

abbrev pub input_text : List ℕ → List ℕ
input_text [] = []
input_text (c ∷ cs) = fed_text (without_feed (c ∷ cs))

-- ---- timers

abbrev pub calendar_text : List ℕ → List ℕ
calendar_text line = codes "OnCalendar=" ++ (line ++ 10 ∷ [])

abbrev pub persistent_text : Bool → List ℕ
persistent_text true = codes "AccuracySec=1s\nPersistent=yes\n"
persistent_text false = codes "AccuracySec=1s\nPersistent=no\n"

abbrev pub timer_end : List ℕ
timer_end = codes "\n[Install]\nWantedBy=timers.target\n"

-- the text of a timer with these lines of calendars
abbrev pub timer_text : List ℕ → Bool → List ℕ
timer_text calendars persistent =
    codes "[Timer]\n" ++ (flat_map calendar_text (input_lines calendars) ++ (persistent_text persistent ++ timer_end))
