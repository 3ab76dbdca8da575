-- A timer that starts the service of its name.
use Rattle.std.specs.Prelude.{◌≡◌, ℕ, nat_lt, Bool, true, false, List, [], ◌∷◌, Some, codes, length, map, ⊤}
use Rattle.std.specs.List.{list_all}
use Rattle.cron_shell.specs.Lines.{input_lines}
use Rattle.cron_systemd.specs.Sayable.{is_calendar}
use Rattle.cron_systemd.specs.Texts.{timer_text}
use Rattle.cron_systemd.specs.Units.{Setting, settings_of, values_of}
use Rattle.cron_systemd.specs.Values.{halved}
use Rattle.cron_systemd.specs.declared.error.UnitError.{UnitError}
use Rattle.cron_systemd.specs.declared.error.UnitError.TheVariants.{Calendar, Input, Long, OutOfMemory, Shell, User, Variable}

abbrev pub answer : Bool → List ℕ
answer true = codes "yes"
answer false = codes "no"

-- systemd reads the timer from the text: its calendars, and whether it starts the service at once
-- for what was missed
pub record SaysTimer (calendars : List ℕ) (persistent : Bool) (text : List ℕ) : Type 0 where
  pub settings : List Setting
  pub read : settings_of text ≡ Some settings
  pub calendar : map (halved 37 false) (values_of (codes "Timer") (codes "OnCalendar") settings) ≡ map (λ line. Some line) (input_lines calendars)
  pub persist : values_of (codes "Timer") (codes "Persistent") settings ≡ answer persistent ∷ []
  pub wanted : values_of (codes "Install") (codes "WantedBy") settings ≡ codes "timers.target" ∷ []

-- the calendars can't be written for this: one of them isn't taken, or memory ran out
abbrev pub IsNoCalendar : List ℕ → UnitError → Type 0
IsNoCalendar calendars Calendar = list_all is_calendar (input_lines calendars) ≡ false
IsNoCalendar calendars OutOfMemory = ⊤
IsNoCalendar calendars _ = ⊥

-- there is no timer for this
abbrev pub IsNoTimer : List ℕ → Bool → UnitError → Type 0
IsNoTimer calendars persistent Long = nat_lt (length (timer_text calendars persistent)) 1_048_576 ≡ false
IsNoTimer calendars persistent why = IsNoCalendar calendars why
