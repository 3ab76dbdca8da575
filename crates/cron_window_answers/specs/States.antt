-- Whether a window is open at an instant, since when and until when.
use Rattle.std.specs.Prelude.{ℕ, ℤ, pos, neg_ℤ, ◌+ℤ◌, ◌-ℤ◌, Bool, true, false, List, [], ◌++◌, Option, codes, if◌then◌else◌}
use Rattle.std.specs.Bool.{beq}
use Rattle.std.specs.Int.{int_max, int_min}
use Rattle.std.specs.Ordering.{int_eq}
use Rattle.jiff_tz.specs.declared.timezone.TimeZone.{TimeZone}
use Rattle.cron_stretches.specs.Fires.{second_of}
use Rattle.cron_stretches.specs.Stretches.{IsGreatest}
use Rattle.cron_stretches.specs.declared.stretch.Stretch.{Stretch}
use Rattle.cron_windows.specs.Windows.{WindowFires, is_open}
use Rattle.cron_replies.specs.Statuses.{Ends}
use Rattle.cron_replies.specs.declared.form.Form.{Form}
use Rattle.cron_replies.specs.declared.form.Form.TheVariants.{Text, Json}
use Rattle.cron_replies.specs.declared.status.Status.{Status}
use Rattle.cron_replies.specs.declared.status.Status.TheVariants.{Done, No}
use Rattle.cron_window_answers.specs.Texts.{instant_text}
use Rattle.cron_window_answers.specs.declared.state.Bounds.{Bounds}

-- ---- how far the state is followed

-- the second that an instant lies in, which is in nanoseconds since 1970. The last of all counts as the one before it
abbrev pub asked_second : ℤ → ℤ
asked_second t = int_min (second_of t) (pos 253_402_207_199)

-- 400 days before a second, as far as there are instants
abbrev pub first_of : ℤ → ℤ
first_of n = int_max (n -ℤ pos 34_560_000) (neg_ℤ (pos 377_705_023_201))

-- 400 days after a second, as far as there are instants
abbrev pub end_of : ℤ → ℤ
end_of n = int_min (n +ℤ pos 34_560_000) (pos 253_402_207_200)

-- the second in question, and those up to which the state is followed
abbrev pub bounds_around : ℤ → Bounds
bounds_around t = record { from = first_of (asked_second t); at = asked_second t; to = end_of (asked_second t) }

-- ---- what is written

abbrev pub state_word : Bool → List ℕ
state_word true = codes "open"
state_word false = codes "closed"

-- since when, or ` or earlier` behind it if the state isn't followed further back
abbrev pub since_text : TimeZone → Bounds → ℤ → List ℕ
since_text z b n = instant_text z n ++ (if int_eq n b.from then codes " or earlier" else [])

abbrev pub until_text : TimeZone → Bounds → ℤ → List ℕ
until_text z b n = instant_text z n ++ (if int_eq n b.to then codes " or later" else [])

-- `open since 2024-01-05 22:00:00 -06:00 until 2024-01-08 06:00:00 -06:00`
abbrev pub text_line : TimeZone → Bounds → Stretch Bool → List ℕ
text_line z b s =
    state_word s.value ++ (codes " since " ++ (since_text z b s.first ++ (codes " until " ++ (until_text z b s.end ++ codes "\n"))))

abbrev pub bool_word : Bool → List ℕ
bool_word true = codes "true"
bool_word false = codes "false"

-- an instant as JSON, or null if the state isn't followed further
abbrev pub edge_text : TimeZone → ℤ → ℤ → List ℕ
edge_text z bound n = if int_eq n bound then codes "null" else codes "\"" ++ (instant_text z n ++ codes "\"")

-- `{"open":true,"since":"2024-01-05 22:00:00 -06:00","until":null}`
abbrev pub json_line : TimeZone → Bounds → Stretch Bool → List ℕ
json_line z b s =
    codes "{\"open\":" ++ (bool_word s.value ++ (codes ",\"since\":" ++ (edge_text z b.from s.first
    ++ (codes ",\"until\":" ++ (edge_text z b.to s.end ++ codes "}\n")))))

abbrev pub line : Form → TimeZone → Bounds → Stretch Bool → List ℕ
line Text z b s = text_line z b s
line Json z b s = json_line z b s

-- the status of `inside`: `Done` if a window is open, else `No`
abbrev pub state_status : Bool → Status
state_status true = Done
state_status false = No

-- The line of the greatest stretch of one state around an instant was written, cut at the bounds.
pub record SaysState (form : Form) (z : TimeZone) (w : WindowFires) (t : ℤ) (was is : Option (List ℕ)) (status : Status) : Type 0 where
  pub stretch : Stretch Bool
  pub greatest : let b = bounds_around t in IsGreatest beq (is_open w) b.from b.at b.to stretch
  pub ends : Ends (state_status stretch.value) (line form z (bounds_around t) stretch) was is status
