-- Zones as plain numbers. A zone of a rule has one offset, or two with a turn of the clock from
-- each to the other every year.
use Rattle.std.specs.Prelude.{◌≡◌, ℕ, pos, List, Option, Some, None, replicate}
use Rattle.std.specs.Str.{IsUtf8}
use Rattle.jiff_core.specs.declared.offset.Offset.{Offset}
use Rattle.jiff_tz.specs.declared.posix.Day.{Day}
use Rattle.jiff_tz.specs.declared.posix.Day.TheVariants.{JulianOne, JulianZero, WeekdayOfMonth}
use Rattle.jiff_tz.specs.declared.posix.DayTime.{DayTime}
use Rattle.jiff_tz.specs.declared.posix.Dst.{Dst}
use Rattle.jiff_tz.specs.declared.timezone.TimeZone.{TimeZone}
use Rattle.jiff_tz.specs.declared.timezone.TimeZone.TheVariants.{UTC, Posix}
use Rattle.cron_moments.specs.Zones.{NamesZone, IsZoneOf}
use Rattle.cron_c.specs.declared.zone.CronTurn.{CronTurn}
use Rattle.cron_c.specs.declared.zone.CronZone.{CronZone}
use Rattle.cron_c.specs.declared.status.Status.{Status}
use Rattle.cron_c.specs.declared.status.Status.TheVariants.{Done, BadZone}

-- the struct means this day of the year
abbrev pub IsDayIn : CronTurn → Day → Type 0
IsDayIn t (JulianOne n) = (t.kind ≡ 1) × (t.day ≡ n)
IsDayIn t (JulianZero n) = (t.kind ≡ 2) × (t.day ≡ n)
IsDayIn t (WeekdayOfMonth month week weekday) = (t.kind ≡ 3) × (t.month ≡ month) × (t.week ≡ week) × (t.day ≡ weekday)

-- the struct means this day of the year, and this time from its midnight on
abbrev pub IsTurnIn : CronTurn → DayTime → Type 0
IsTurnIn t turn = IsDayIn t turn.date × (t.time ≡ turn.time)

-- the struct means this saving time: its offset and its two turns; or none
abbrev pub IsSavingIn : CronZone → Option Dst → Type 0
IsSavingIn c None = c.kind ≡ 1
IsSavingIn c (Some dst) = (c.kind ≡ 2) × (c.saving ≡ dst.offset.seconds) × IsTurnIn c.starts dst.rule.start × IsTurnIn c.ends dst.rule.end

-- the struct means this zone, which is UTC or a rule; the names of its offsets don't count
abbrev pub IsZoneIn : CronZone → TimeZone → Type 0
IsZoneIn c UTC = c.kind ≡ 0
IsZoneIn c (Posix rule) = (c.offset ≡ rule.std_offset.seconds) × IsSavingIn c rule.dst
IsZoneIn c _ = ⊥

-- all numbers of the turn are 0
abbrev pub IsBlankTurn : CronTurn → Type 0
IsBlankTurn t = (t.kind ≡ 0) × (t.month ≡ 0) × (t.week ≡ 0) × (t.day ≡ 0) × (t.time ≡ pos 0)

-- all numbers of the struct after its kind and its offset are 0
abbrev pub IsBlank : CronZone → Type 0
IsBlank c = (c.saving ≡ pos 0) × IsBlankTurn c.starts × IsBlankTurn c.ends × (c.reserved ≡ replicate 3 0)

-- the month and the week are 0, unless the day is a weekday of a month
abbrev pub IsBareDay : CronTurn → Day → Type 0
IsBareDay t (WeekdayOfMonth month week weekday) = Unit {0}
IsBareDay t _ = (t.month ≡ 0) × (t.week ≡ 0)

-- the numbers of the struct that mean nothing for this saving time are 0
abbrev pub IsBareSaving : CronZone → Option Dst → Type 0
IsBareSaving c None = IsBlank c
IsBareSaving c (Some dst) = IsBareDay c.starts dst.rule.start.date × IsBareDay c.ends dst.rule.end.date × (c.reserved ≡ replicate 3 0)

abbrev pub IsBare : CronZone → TimeZone → Type 0
IsBare c UTC = (c.offset ≡ pos 0) × IsBlank c
IsBare c (Posix rule) = IsBareSaving c rule.dst
IsBare c _ = ⊥

-- the struct is the one that is written for this zone: it means the zone, and its other numbers are
-- 0
abbrev pub IsZoneStruct : CronZone → TimeZone → Type 0
IsZoneStruct c z = IsZoneIn c z × IsBare c z

-- the struct means no zone
abbrev pub IsNoZone : CronZone → Type 0
IsNoZone c = (z : TimeZone) → IsZoneIn c z → ⊥

-- the struct means some zone
abbrev pub IsSomeZone : CronZone → Type 0
IsSomeZone c = (z : TimeZone) × IsZoneIn c z

-- the zone is neither UTC nor a rule
abbrev pub IsOther : TimeZone → Type 0
IsOther UTC = ⊥
IsOther (Posix rule) = ⊥
IsOther _ = Unit {0}

-- the zone is a rule with this offset and this saving time, under any name
abbrev pub IsRuleOf : Offset → Option Dst → TimeZone → Type 0
IsRuleOf offset dst (Posix rule) = (rule.std_offset ≡ offset) × (rule.dst ≡ dst)
IsRuleOf offset dst _ = ⊥

-- What each status of `cron_c_zone_parse` means: the zone that a text names is written; or it names
-- none.
abbrev pub ReadsZone : List ℕ → CronZone → CronZone → Status → Type 0
ReadsZone text old new Done = (z : TimeZone) × IsUtf8 text × IsZoneOf text z × IsZoneStruct new z
ReadsZone text old new BadZone = (IsUtf8 text → NamesZone text → ⊥) × (new ≡ old)
ReadsZone text old new _ = ⊥
