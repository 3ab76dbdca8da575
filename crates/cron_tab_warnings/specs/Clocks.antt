-- Entries at a fixed time, and entries that follow the clock.
use Rattle.std.specs.Prelude.{ℕ, Bool, ◌||◌, List, codes, if◌then◌else◌}
use Rattle.std.specs.Str.{bytes_eq}
use Rattle.cron_crontab.specs.Crontab.{begins_with_at}
use Rattle.cron_crontab.specs.Items.{begins_with_star}
use Rattle.cron_tab_warnings.specs.Written.{word_at}

-- whether an entry follows the clock: its minute or its hour begins with a star, or it is `@hourly`
abbrev pub follows_clock : List ℕ → Bool
follows_clock text =
    if begins_with_at (word_at text 0) then bytes_eq (word_at text 0) (codes "@hourly")
    else begins_with_star (word_at text 0) || begins_with_star (word_at text 1)
