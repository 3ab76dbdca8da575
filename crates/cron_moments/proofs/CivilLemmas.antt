-- What the number of a civil second says of its date and time.
use Rattle.std.proofs.Common.{◌≡◌, ℕ, ◌*◌, ◌/◌, ◌%◌, ◌<◌, ◌^◌, ◌≤◌, pos, arith, ◌∙◌, sym, refl}
use Rattle.jiff_core.specs.declared.civil.datetime.DateTime.{DateTime}
use Rattle.jiff_core.specs.declared.civil.date.Date.{Date}
use Rattle.jiff_core.specs.Date.{epoch_day}
use Rattle.jiff_core.specs.Time.{time_seconds}
use Rattle.jiff_core.specs.DateTime.{civil_nanos, civil_seconds}
use Rattle.jiff_core.proofs.SignedLemmas.{signed_arith}
use Rattle.jiff.proofs.Family.{same_date, same_datetime, civil_nanos-civil_seconds}
use Rattle.cron_moments.specs.Civil.{civil, time_numbered}
use Rattle.cron_moments.specs.CivilDates.{date_numbered}

-- the day of a civil second
pub epoch_day-civil : (c : ℕ) → c < 2 ^ 32 → epoch_day (civil c).date ≡ pos (c / 86_400)
unfolding civil
epoch_day-civil c h = (date_numbered (c / 86_400)).1 (omega arith)

time_seconds-civil : (c : ℕ) → time_seconds (civil c).time ≡ c % 86_400
unfolding civil time_numbered
time_seconds-civil c = omega arith

pub no_fraction-civil : (c : ℕ) → (civil c).time.subsec_nanosecond ≡ 0
unfolding civil time_numbered
no_fraction-civil c = refl

-- the number names the civil second
pub civil_seconds-civil : (c : ℕ) → c < 2 ^ 32 → civil_seconds (civil c) ≡ pos c
unfolding civil_seconds
civil_seconds-civil c h = omega (arith, signed_arith, epoch_day-civil c h, time_seconds-civil c)

pub civil_nanos-civil : (c : ℕ) → c < 2 ^ 32 → civil_nanos (civil c) ≡ pos (c * 1_000_000_000)
civil_nanos-civil c h = omega (arith, signed_arith, civil_nanos-civil_seconds (civil c), civil_seconds-civil c h, no_fraction-civil c)

-- a datetime that has the number's nanoseconds is the civil second
pub is_civil : (dt : DateTime) (c : ℕ) → c < 2 ^ 32 → civil_nanos dt ≡ pos (c * 1_000_000_000) → dt ≡ civil c
is_civil dt c h e = same_datetime dt (civil c) (e ∙ sym (civil_nanos-civil c h))

-- so is one with its day's date and its seconds since midnight
pub is_civil_of : (dt : DateTime) (c : ℕ) → c < 2 ^ 32 → dt.date ≡ (date_numbered (c / 86_400)).0 → time_seconds dt.time ≡ c % 86_400
    → dt.time.subsec_nanosecond ≡ 0 → dt ≡ civil c
unfolding civil_seconds
is_civil_of dt c h date time whole =
    let day : epoch_day dt.date ≡ pos (c / 86_400) = rw date ((date_numbered (c / 86_400)).1 (omega arith)) in
    let seconds : civil_seconds dt ≡ pos c = omega (arith, signed_arith, day, time) in
    is_civil dt c h (omega (arith, signed_arith, civil_nanos-civil_seconds dt, seconds, whole))

-- the date of a civil second is that of its day
pub date-civil : (c : ℕ) → (civil c).date ≡ (date_numbered (c / 86_400)).0
unfolding civil
date-civil c = refl

-- a date with this day number is the date with this number
pub is_date_numbered : (d : Date) (n : ℕ) → n ≤ 2_932_896 → epoch_day d ≡ pos n → d ≡ (date_numbered n).0
is_date_numbered d n h e = same_date d (date_numbered n).0 (e ∙ sym ((date_numbered n).1 h))
