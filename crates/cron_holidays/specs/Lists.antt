-- Lists of dates: `YYYY-MM-DD` on a line, spaces and tabs around it, and comments from `#` on.
use Rattle.std.specs.Prelude.{ℕ, ◌==◌, Bool, true, List, [], ◌∷◌, ◌++◌, Option, Some, None, option_to_list, Result, Ok, Err, drop, take, if◌then◌else◌}
use Rattle.cron_crontab.specs.Items.{and_then}
use Rattle.cron_tab_lines.specs.Bytes.{behind, is_blank}
use Rattle.cron_moments.specs.Civil.{days_in_range}
use Rattle.cron_holidays.specs.Lines.{Line}
use Rattle.cron_holidays.specs.Dates.{day_of_dashed}
use Rattle.cron_holidays.specs.declared.fault.Reason.{Reason}
use Rattle.cron_holidays.specs.declared.fault.Reason.TheVariants.{NoDate}
use Rattle.cron_holidays.specs.declared.fault.Refused.{Refused}

-- a comment, or nothing
abbrev pub is_comment : List ℕ → Bool
is_comment [] = true
is_comment (c ∷ cs) = c == 35

-- only spaces, tabs and a comment, or nothing
abbrev pub is_over : List ℕ → Bool
is_over text = is_comment (behind is_blank text)

-- the day of a text that begins with a date
abbrev pub dated : List ℕ → Result (Option ℕ) Reason
dated text =
    if is_over (drop 10 text) then and_then (day_of_dashed days_in_range (take 10 text)) (λ day. Ok (Some day))
    else Err NoDate

-- the day of a line, if it has one
abbrev pub listed_in : List ℕ → Result (Option ℕ) Reason
listed_in text = if is_over text then Ok None else dated (behind is_blank text)

-- the answer about a line, with the line's number where it is refused
abbrev pub on_line : {A : Type 0} → ℕ → Result A Reason → Result A Refused
on_line number (Ok a) = Ok a
on_line number (Err reason) = Err (record { line = number; reason = reason })

abbrev pub listed_on : Line → Result (Option ℕ) Refused
listed_on line = on_line line.number (listed_in line.text)

-- the days listed so far, with that of one more line
abbrev pub with_listed : List ℕ → Line → Result (List ℕ) Refused
with_listed days line = and_then (listed_on line) (λ day. Ok (days ++ option_to_list day))

-- the days listed so far, with those of more lines
abbrev pub with_lines : List ℕ → List Line → Result (List ℕ) Refused
with_lines days [] = Ok days
with_lines days (line ∷ lines) = and_then (with_listed days line) (λ more. with_lines more lines)

-- the days of a list, in its order, or its first line that is refused
abbrev pub days_listed : List Line → Result (List ℕ) Refused
days_listed lines = with_lines [] lines
