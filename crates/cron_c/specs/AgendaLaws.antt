-- Laws of agendas: the fire that is taken comes first of all fires that the entries have left.
use Rattle.std.specs.Prelude.{◌≡◌, ◌↔◌, ◌⊎◌, ℕ, ℤ, pos, ◌+ℤ◌, ◌-ℤ◌, ◌<ℤ◌, false, List, Some, slice_get}
use Rattle.cron_moments.specs.Readings.{Reading}
use Rattle.cron_time.specs.Seconds.{Seconds}
use Rattle.cron_instants.specs.Order.{comes_before}
use Rattle.cron_dues.specs.Clock.Due.{Clock, Due}
use Rattle.cron_dues.specs.Clock.FirstDues.{IsDue}
use Rattle.cron_c.specs.Agendas.{IsAgenda, IsTaken, gone_on, is_none, own_eras, own_seconds}
use Rattle.cron_c.specs.Dues.{IsDueItem}
use Rattle.cron_c.specs.Histories.{IsHistory, IsHistoryItem}
use Rattle.cron_c.specs.HistoryClocks.{IsClockOf}
use Rattle.cron_c.specs.Structs.{IsItem}
use Rattle.cron_c.specs.declared.entry.CronEntry.{CronEntry}
use Rattle.cron_c.specs.declared.era.CronEra.{CronEra}
use Rattle.cron_c.specs.declared.item.CronItem.{CronItem}
use Rattle.cron_c.specs.declared.schedule.CronSchedule.{CronSchedule}

-- the struct holds an item of the history
abbrev pub IsShownFire : Seconds → List CronEra → CronItem → Type 0
IsShownFire s eras x = (q : Reading) × IsHistoryItem s eras q × IsItem q x

-- the struct holds a due fire of the civil seconds by the clock
abbrev pub IsDueFire : Seconds → Clock → CronItem → Type 0
IsDueFire s clock x = (q : Due) × IsDue s clock q × IsDueItem q x

-- the civil second that an item or a due fire is for, by the numbers of its struct
abbrev pub nominal : CronItem → ℤ
nominal x = x.instant +ℤ x.offset -ℤ pos x.reserved

-- b is later than a: by instant, or by civil second if they share the instant
abbrev pub IsLater : CronItem → CronItem → Type 0
IsLater a b = (a.instant <ℤ b.instant) ⊎ ((a.instant ≡ b.instant) × (nominal a <ℤ nominal b))

-- an entry has the fire x left, by its rule: x is its next fire, or one after that
abbrev pub HasLeft : List CronSchedule → List CronEra → Clock → CronEntry → CronItem → Type 0
HasLeft schedules eras clock e x =
    (x ≡ e.next)
    ⊎ ((e.rule ≡ 1) × IsShownFire (own_seconds schedules e) (own_eras eras e) x × IsLater e.next x)
    ⊎ ((e.rule ≡ 2) × IsDueFire (own_seconds schedules e) clock x × (nominal e.next <ℤ nominal x))

-- an entry has the fire x left; a place without an entry (rule 0) has none
abbrev pub StillHas : List CronSchedule → List CronEra → Clock → CronEntry → CronItem → Type 0
StillHas schedules eras clock e x = (is_none e ≡ false) × HasLeft schedules eras clock e x

-- If an entry fires by due fires, `clock` is the clock of its eras, and its next fire is one of its
-- due fires.
abbrev pub HasDueFire : List CronSchedule → List CronEra → Clock → CronEntry → Type 0
HasDueFire schedules eras clock e = e.rule ≡ 2 → IsClockOf (own_eras eras e) clock × IsDueFire (own_seconds schedules e) clock e.next

-- No fire that an entry has left comes before the one that is taken: by instant, or by place if
-- they share the instant.
abbrev pub TakenIsTheFirst : Type 0
TakenIsTheFirst =
    (schedules : List CronSchedule) (eras : List CronEra) (now : ℤ) (old new : List CronEntry) (place : ℕ) (item : CronItem) (clocks : ℕ → Clock)
    → IsAgenda old
    → ((i : ℕ) (e : CronEntry) → slice_get old i ≡ Some e → HasDueFire schedules eras (clocks i) e)
    → IsTaken schedules eras now old new place item
    → (i : ℕ) (e : CronEntry) (x : CronItem)
    → slice_get old i ≡ Some e
    → is_none e ≡ false
    → HasLeft schedules eras (clocks i) e x
    → comes_before x.instant i item.instant place ≡ false

-- The taken fire's entry had left that fire and those that it has left now, if its eras are a
-- history. No other entry is changed.
abbrev pub TheRestIsLeft : Type 0
TheRestIsLeft =
    (schedules : List CronSchedule) (eras : List CronEra) (now : ℤ) (old new : List CronEntry) (place : ℕ) (item : CronItem) (clock : Clock)
    → (taken : IsTaken schedules eras now old new place item)
    → IsHistory (own_eras eras taken.comes.entry)
    → HasDueFire schedules eras clock taken.comes.entry
    → (x : CronItem)
    → HasLeft schedules eras clock taken.comes.entry x
    ↔ ((x ≡ item) ⊎ StillHas schedules eras clock (gone_on taken.comes.entry taken.next taken.status) x)
