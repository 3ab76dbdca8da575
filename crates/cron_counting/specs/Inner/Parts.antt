-- How many items lie in parts of equal size.
use Rattle.std.specs.Prelude.{ℕ, ◌+◌, ◌*◌, List, length, map}
use Rattle.std.specs.List.{range_with_len}
use Rattle.jiff_tz.specs.declared.timezone.TimeZone.{TimeZone}
use Rattle.cron_time.specs.Seconds.{Seconds}
use Rattle.cron_counting.specs.Counts.{items_in}

-- how many items there are in each of `parts` parts of `size` civil seconds, from part `first` on
abbrev pub counts_by : ℕ → Seconds → TimeZone → ℕ → ℕ → List ℕ
counts_by size s z first parts = map (λ part. length (items_in s z (part * size) (part * size + size))) (range_with_len first parts)
