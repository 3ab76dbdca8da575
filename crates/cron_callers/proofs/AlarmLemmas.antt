-- The instants of the first two items at one offset.
use Rattle.std.proofs.Common.{◌≡◌, ℤ, pos, ◌*ℤ◌, Option, Some, None, MatchOption, refl, sym, subst}
use Rattle.std.specs.Option.{option_map}
use Rattle.jiff_core.specs.declared.Timestamp.{Timestamp}
use Rattle.cron.specs.Words.{Sets, Reading, instant, IsLeastIfAny, IsNextIfAny}
use Rattle.cron_callers.specs.Alarms.{IsAlarmAfter}

-- an alarm goes off at the instant of its item
abbrev GoesOffAt : Option Timestamp → Option Reading → Type 0
GoesOffAt alarm item = option_map (λ t. t.nanosecond) alarm ≡ option_map (λ r. instant r *ℤ pos 1_000_000_000) item

some_same : (x y : ℤ) → Some x ≡ Some y → x ≡ y
some_same x y e = cc

-- the item is the least after t that shows a match, so its instant is the alarm
pub alarm_after : (s : Sets) (o t : ℤ) (r : Option Reading) (q : Option Timestamp) → GoesOffAt q r → IsLeastIfAny s o t r → IsAlarmAfter s o t q
alarm_after s o t None None e h = h
alarm_after s o t (Some r) None e h = absurd (cc)
alarm_after s o t None (Some q) e h = absurd (cc)
alarm_after s o t (Some r) (Some q) e h = record {
  second = instant r;
  is = some_same _ _ e;
  after = h.after;
  shows = h.shows;
  least = h.least;
}

-- the second item is the least after the first, so its instant is the alarm after the first one
pub second_alarm : (s : Sets) (o : ℤ) (r p : Option Reading) (q u : Option Timestamp) → GoesOffAt q r → GoesOffAt u p → IsNextIfAny s o r p
    → MatchOption q (u ≡ None) (λ first. IsAlarmAfter s o first.nanosecond u)
second_alarm s o None p None None e f h = refl
second_alarm s o None None None (Some u) e f h = absurd (cc)
second_alarm s o None (Some p) None (Some u) e f h = absurd (cc)
second_alarm s o (Some r) p None u e f h = absurd (cc)
second_alarm s o None p (Some q) u e f h = absurd (cc)
second_alarm s o (Some r) p (Some q) u e f h =
    alarm_after s o q.nanosecond p u f (subst (λ (t : ℤ). IsLeastIfAny s o t p) (sym (some_same _ _ e)) h)
