-- Lists of days as stretches of days in a row.
use Rattle.std.specs.Prelude.{ℕ, ◌<◌, ◌≤◌, Bool, ◌&&◌, not, nat_le, nat_lt, if◌then◌else◌, List, length, get_or}
use Rattle.std.specs.List.{list_any}
use Rattle.cron_moments.specs.Civil.{days_in_range}
use Rattle.cron_days.specs.declared.runs.Run.{Run}

-- the day lies in the stretch
abbrev pub is_in_run : ℕ → Run → Bool
is_in_run n run = nat_le run.first n && nat_lt n run.end

-- the day lies in one of them
abbrev pub is_in_runs : List Run → ℕ → Bool
is_in_runs runs n = list_any (is_in_run n) runs

-- each stretch has a day, and lies in the range and before those behind it
pub record AreApart (runs : List Run) : Type 0 where
  pub some : (i : ℕ) (d : Run) → i < length runs → (get_or runs i d).first < (get_or runs i d).end
  pub in_range : (i : ℕ) (d : Run) → i < length runs → (get_or runs i d).end ≤ days_in_range
  pub apart : (i j : ℕ) (d : Run) → i < j → j < length runs → (get_or runs i d).end ≤ (get_or runs j d).first

-- days, and whether a rule allows them or all others
pub record Listed : Type 0 where
  pub runs : List Run
  pub kept : Bool

-- the day is allowed
abbrev pub allows_listed : Listed → ℕ → Bool
allows_listed listed n = if listed.kept then is_in_runs listed.runs n else not (is_in_runs listed.runs n)
