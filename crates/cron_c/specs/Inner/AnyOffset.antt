-- All zones that one struct means have the same offset at each instant: they differ only in the
-- names of their offsets.
use Rattle.std.proofs.Common.{◌≡◌, Bool, true, false, cond, ℤ, Option, Some, None, refl, sym, ap, ◌∙◌, arith}
use Rattle.jiff_core.specs.Timestamp.{nanos_of_seconds}
use Rattle.jiff_core.specs.declared.Offset.{Offset}
use Rattle.jiff_tz.specs.PosixRule.{dst_at_by, in_window, match_some, rule_nanos, utc_window}
use Rattle.jiff_tz.specs.Year.{year_of_nanos}
use Rattle.jiff_tz.specs.Zone.{offset_at}
use Rattle.jiff_tz.specs.declared.posix.Day.{Day}
use Rattle.jiff_tz.specs.declared.posix.Day.TheVariants.{JulianOne, JulianZero, WeekdayOfMonth}
use Rattle.jiff_tz.specs.declared.posix.DayTime.{DayTime}
use Rattle.jiff_tz.specs.declared.posix.Dst.{Dst}
use Rattle.jiff_tz.specs.declared.timezone.TimeZone.{TimeZone}
use Rattle.jiff_tz.specs.declared.timezone.TimeZone.TheVariants.{UTC, Unknown, Fixed, Posix, Tzif}
use Rattle.cron_clocks.specs.Clocks.{shown_offset}
use Rattle.cron_clocks.proofs.TableLemmas.{same_offset}
use Rattle.cron_c.specs.Zones.{IsDayIn, IsSavingIn, IsTurnIn, IsZoneIn}
use Rattle.cron_c.specs.declared.zone.CronTurn.{CronTurn}
use Rattle.cron_c.specs.declared.zone.CronZone.{CronZone}

day_once : (t : CronTurn) (a b : Day) → IsDayIn t a → IsDayIn t b → a ≡ b
day_once t (JulianOne n) (JulianOne m) p q = ap JulianOne (sym p.1 ∙ q.1)
day_once t (JulianOne n) (JulianZero m) p q = absurd (omega (arith, p.0, q.0))
day_once t (JulianOne n) (WeekdayOfMonth month week weekday) p q = absurd (omega (arith, p.0, q.0))
day_once t (JulianZero n) (JulianOne m) p q = absurd (omega (arith, p.0, q.0))
day_once t (JulianZero n) (JulianZero m) p q = ap JulianZero (sym p.1 ∙ q.1)
day_once t (JulianZero n) (WeekdayOfMonth month week weekday) p q = absurd (omega (arith, p.0, q.0))
day_once t (WeekdayOfMonth month week weekday) (JulianOne m) p q = absurd (omega (arith, p.0, q.0))
day_once t (WeekdayOfMonth month week weekday) (JulianZero m) p q = absurd (omega (arith, p.0, q.0))
day_once t (WeekdayOfMonth m w d) (WeekdayOfMonth n x e) p q =
    let (kind, month, week, day) = p in
    let (kind', month', week', day') = q in
    rw (sym month ∙ month', sym week ∙ week', sym day ∙ day') refl

pub turn_once : (t : CronTurn) (a b : DayTime) (y s : ℤ) → IsTurnIn t a → IsTurnIn t b → rule_nanos y a s ≡ rule_nanos y b s
unfolding rule_nanos
turn_once t a b y s p q = rw (day_once t a.date b.date p.0 q.0, sym p.1 ∙ q.1) refl

pub not_utc : (c : CronZone) (dst : Option Dst) → c.kind ≡ 0 → IsSavingIn c dst → ⊥
not_utc c None zero one = absurd (omega (arith, zero, one))
not_utc c (Some dst) zero two = absurd (omega (arith, zero, two.0))

window_once : (c : CronZone) (d e : Dst) (y : ℤ) (std : Offset) → IsSavingIn c (Some d) → IsSavingIn c (Some e) → utc_window d y std ≡ utc_window e y std
unfolding utc_window
window_once c d e y std (kind, saving, starts, ends) (kind', saving', starts', ends') =
    let offset : d.offset ≡ e.offset = same_offset d.offset e.offset (sym saving ∙ saving') in
    let start = turn_once c.starts d.rule.start e.rule.start y std.seconds starts starts' in
    let finish = turn_once c.ends d.rule.end e.rule.end y d.offset.seconds ends ends' in
    let same = ap (λ (o : Offset). rule_nanos y e.rule.end o.seconds) offset in
    rw (start, finish, same) refl

picked_once : (d e : Dst) (std : Offset) (x : Bool) → d.offset ≡ e.offset
    → match_some (cond x (Some d) None) std (λ s. s.offset) ≡ match_some (cond x (Some e) None) std (λ s. s.offset)
picked_once d e std true same = same
picked_once d e std false same = refl

saving_offset : (c : CronZone) (std : Offset) (a b : Option Dst) (n : ℤ) → IsSavingIn c a → IsSavingIn c b
    → match_some (dst_at_by std a n) std (λ d. d.offset) ≡ match_some (dst_at_by std b n) std (λ d. d.offset)
saving_offset c std None None n p q = refl
saving_offset c std None (Some b) n p q = absurd (omega (arith, p, q.0))
saving_offset c std (Some a) None n p q = absurd (omega (arith, p.0, q))
saving_offset c std (Some a) (Some b) n p q =
    let offset : a.offset ≡ b.offset = same_offset a.offset b.offset (sym p.1 ∙ q.1) in
    rw (window_once c a b (year_of_nanos n) std p q) (picked_once a b std (in_window (utc_window b (year_of_nanos n) std) n) offset)

-- two zones that one struct means have the same offset at each instant
pub offset_in_any : (c : CronZone) (a b : TimeZone) (n : ℤ) → IsZoneIn c a → IsZoneIn c b → shown_offset a n ≡ shown_offset b n
unfolding offset_at
offset_in_any c UTC UTC n p q = refl
offset_in_any c UTC Unknown n p q = absurd q
offset_in_any c UTC (Fixed o) n p q = absurd q
offset_in_any c UTC (Posix b) n p q = absurd (not_utc c b.dst p q.1)
offset_in_any c UTC (Tzif t) n p q = absurd q
offset_in_any c Unknown b n p q = absurd p
offset_in_any c (Fixed o) b n p q = absurd p
offset_in_any c (Posix a) UTC n p q = absurd (not_utc c a.dst q p.1)
offset_in_any c (Posix a) Unknown n p q = absurd q
offset_in_any c (Posix a) (Fixed o) n p q = absurd q
offset_in_any c (Posix a) (Posix b) n p q =
    rw (same_offset a.std_offset b.std_offset (sym p.0 ∙ q.0)) (ap (λ (o : Offset). o.seconds) (saving_offset c b.std_offset a.dst b.dst (nanos_of_seconds n) p.1 q.1))
offset_in_any c (Posix a) (Tzif t) n p q = absurd q
offset_in_any c (Tzif t) b n p q = absurd p
