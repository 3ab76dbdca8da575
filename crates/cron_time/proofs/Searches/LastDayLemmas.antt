-- The days of a month where the last one is marked besides the numbered ones.
use Rattle.std.proofs.Common.{◌≡◌, ℕ, ◌<◌, ◌==◌, Bool, true, false, ◌&&◌, ◌||◌, nat_le, ℤ, List, Option, Some, None, refl, sym, ◌∙◌, eqb-true, arith}
use Rattle.std.proofs.lemmas.Bool.{le-leb, lt-leb}
use Rattle.cron_units.specs.declared.way.Way.{Way}
use Rattle.cron_units.specs.Nearest.{IsNearest}
use Rattle.cron_units.specs.Sets.{Sets}
use Rattle.cron_units.specs.Units.{contains}
use Rattle.cron_time.specs.Search.Inner.Days.{has_number}
use Rattle.cron_time.specs.Search.Inner.Numbers.{matches_day}
use Rattle.cron_moments.specs.Calendar.{length_of}

-- tests that agree
pub same_nearest : (way : Way) (p r : ℕ → Bool) (start : ℤ) (found : Option ℕ) → ((k : ℕ) → p k ≡ r k) → IsNearest way p start found
    → IsNearest way r start found
same_nearest way p r start None e h = λ k lies. sym (e k) ∙ h k lies
same_nearest way p r start (Some n) e h =
    record { passes = sym (e n) ∙ h.passes; lies = h.lies; nearest = λ k lies early. sym (e k) ∙ h.nearest k lies early }

marked_bits : (number mark last fits : Bool) → mark ≡ true → (last ≡ true → fits ≡ true) → ((number && fits) || last) ≡ ((number || (mark && last)) && fits)
marked_bits number false last fits h f = absurd (cc)
marked_bits true true true true h f = refl
marked_bits true true false true h f = refl
marked_bits true true true false h f = absurd (let g = f refl in cc)
marked_bits true true false false h f = refl
marked_bits false true true true h f = refl
marked_bits false true false true h f = refl
marked_bits false true true false h f = absurd (let g = f refl in cc)
marked_bits false true false false h f = refl

-- where the last day is marked, a day of the set is a number of it that the month has, or the last one
pub marked_day : (s : Sets) (month last day : ℕ) → last ≡ length_of month → s.days_of_month.last_day ≡ true
    → (has_number s.days_of_month.ordinals last day || day == last) ≡ matches_day s month day
marked_day s month last day e marked =
    rw e (marked_bits (contains s.days_of_month.ordinals day) s.days_of_month.last_day (day == length_of month) (nat_le day (length_of month)) marked
    (λ same. le-leb day (length_of month) (omega (arith, eqb-true day (length_of month) same))))

-- no number past the length of a month
pub none_past : (numbers : List ℕ) (last day : ℕ) → last < day → has_number numbers last day ≡ false
none_past numbers last day l = rw (lt-leb day last l) (and_false (contains numbers day)) where
  and_false : (b : Bool) → (b && false) ≡ false
  and_false true = refl
  and_false false = refl
