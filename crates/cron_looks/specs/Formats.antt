-- Times by a format of `strftime`.
use Rattle.std.specs.Prelude.{◌≡◌, ◌*ℤ◌, ℕ, pos, false, List, Some, Result}
use Rattle.jiff_core.specs.declared.error.Error.{Error}
use Rattle.jiff_strtime.specs.Show.{IsShownAs}
use Rattle.jiff_strtime.specs.Text.{date_parts, parts_of, time_parts}
use Rattle.jiff_strtime.specs.declared.directive.Config.{Config}
use Rattle.jiff_strtime.specs.declared.directive.Locale.TheVariants.{Default}
use Rattle.jiff_strtime.specs.declared.tm.BrokenDownTime.{BrokenDownTime}
use Rattle.cron_moments.specs.Civil.{civil}
use Rattle.cron_moments.specs.Readings.{Reading, instant}

-- the parts are the date and the time that the clock shows, its offset, and the instant; a name of
-- a zone is not among them
abbrev pub IsMomentParts : Reading → BrokenDownTime → Type 0
IsMomentParts m tm =
    let shown = civil m.second in
    parts_of tm
    ≡ record (date_parts shown.date (time_parts shown.time)) { offset = Some m.offset.seconds; timestamp = Some (instant m *ℤ pos 1_000_000_000) }

-- `strftime` shows a moment so by a format, or refuses it; a directive that fails is refused
abbrev pub IsFormatted : List ℕ → Reading → Result (List ℕ) Error → Type 0
IsFormatted format m shown =
    (config : Config) × (config.locale ≡ Default) × (config.lenient ≡ false)
    × (tm : BrokenDownTime) × IsMomentParts m tm × IsShownAs config format tm shown

-- `strftime` shows 1970-01-01 00:00:00 +00:00 so by a format, or refuses it
abbrev pub IsTried : List ℕ → Result (List ℕ) Error → Type 0
IsTried format shown = (m : Reading) × (m.second ≡ 0) × (m.offset.seconds ≡ pos 0) × IsFormatted format m shown
