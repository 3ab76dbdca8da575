-- The text of an instant in a zone.
use Rattle.std.specs.Prelude.{ℕ, ℤ, pos, negsuc, nat_lt, List, ◌∷◌, if◌then◌else◌}
use Rattle.std.specs.Fmt.{signed_decimal}
use Rattle.jiff_core.specs.declared.Offset.{Offset}
use Rattle.jiff_tz.specs.declared.timezone.TimeZone.{TimeZone}
use Rattle.cron_moments.specs.Civil.{seconds_in_range}
use Rattle.cron_moments.specs.MomentText.{moment_text}
use Rattle.cron_moments.specs.Readings.{reading}
use Rattle.cron_dues.specs.Due.{clock_of}
use Rattle.cron_dues.specs.Clock.Due.{shows}

-- `@` and the second n since 1970: `@4133980800`
abbrev pub counted_text : ℤ → List ℕ
counted_text n = 64 ∷ signed_decimal n

-- the text of the second n since 1970, at which a clock with this offset shows this civil second: it is that of the
-- moment, or, outside of 1970 to 2100, `@` and n
abbrev pub shown_text : ℤ → Offset → ℤ → List ℕ
shown_text n o (pos c) = if nat_lt c seconds_in_range then moment_text (reading c o) else counted_text n
shown_text n o (negsuc c) = counted_text n

-- the text of the second n since 1970, as the clock of a zone shows it: `2022-11-06 01:30:00 -05:00`
unfoldable pub instant_text : TimeZone → ℤ → List ℕ
instant_text z n = shown_text n (clock_of z n) (shows (clock_of z) n)
