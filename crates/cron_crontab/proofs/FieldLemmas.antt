-- Five fields, one after another, and their sets.
use Rattle.std.proofs.Common.{◌≡◌, ◌≤◌, ◌-◌, ◌==◌, ◌&&◌, ◌||◌, ℕ, Bool, true, false, List, [], ◌∷◌, get_or, length, refl, ap, ◌∙◌, arith, nat_eq}
use Rattle.std.proofs.lemmas.Bool.{eqb-true}
use Rattle.cron_units.specs.Steps.{in_steps}
use Rattle.cron_bits.specs.Words.{has_bit}
use Rattle.cron_units.specs.Units.{TimeUnit, set_of}
use Rattle.cron_units.specs.Units as units
use Rattle.cron_units.proofs.SetLemmas.{set_same}
use Rattle.cron_crontab.specs.Fields.{least, greatest}
use Rattle.cron_crontab.specs.Items.{begins_with_star}
use Rattle.cron_crontab.specs.Crontab.{FieldRead, field_read, lies_in, on_weekday}
use Rattle.cron_crontab.specs.Inner.Reading.{AreBits, AreRead, IsKept, IsFieldRead, AreFiveRead}
use Rattle.cron_crontab.specs.declared.field.Field.{Field}
use Rattle.cron_crontab.specs.declared.field.Field.TheVariants.{Minute, Hour, DayOfMonth, Month, DayOfWeek}
use Rattle.cron_crontab.specs.declared.fields.FieldNumbers.{FieldNumbers}

-- ---- a star

one_byte : (word : List ℕ) → length word ≡ 1 → get_or word 0 0 ≡ 42 → word ≡ 42 ∷ []
one_byte [] long star = absurd (omega arith)
one_byte (c ∷ []) long star = ap (λ v. v ∷ []) star
one_byte (c ∷ d ∷ ds) long star = absurd (omega arith)

or_false : (b : Bool) → b ≡ (b || false)
or_false true = refl
or_false false = refl

pub star_read : (f : Field) (word : List ℕ) (bits : ℕ) → length word ≡ 1 → begins_with_star word ≡ true
    → AreBits f (in_steps (record { first = least f; last = greatest f; every = 1 })) bits → AreRead f word bits
star_read f word bits long star numbers = record {
  done = record { first = least f; last = greatest f; every = 1 } ∷ [];
  is = rw (one_byte word long (eqb-true (get_or word 0 0) 42 star)) refl;
  numbers = λ x low. numbers x low ∙ or_false (in_steps (record { first = least f; last = greatest f; every = 1 }) x);
}

-- ---- fields, one after another

pub field_kept : (f : Field) (ws : List (List ℕ)) (word : List ℕ) (more : List (List ℕ)) (kept : FieldNumbers) → ws ≡ word ∷ more → AreRead f word kept.numbers
    → kept.star ≡ begins_with_star word → IsFieldRead f ws kept more
field_kept f ws word more kept cut read star = record {
  read = field_read word read.done;
  is = rw (cut, read.is) refl;
  keeps = record { numbers = read.numbers; star = star };
}

pub five_kept : (ws wa wb wc wd we : List (List ℕ)) (a b c d e : FieldNumbers) → IsFieldRead Minute ws a wa → IsFieldRead Hour wa b wb → IsFieldRead DayOfMonth wb c wc
    → IsFieldRead Month wc d wd → IsFieldRead DayOfWeek wd e we → we ≡ []
    → AreFiveRead ws (record { minute = a; hour = b; day_of_month = c; month = d; day_of_week = e })
five_kept ws wa wb wc wd we a b c d e ra rb rc rd re none = record {
  five = record { minute = ra.read; hour = rb.read; day_of_month = rc.read; month = rd.read; day_of_week = re.read };
  is = rw (ra.is, rb.is, rc.is, rd.is, re.is, none) refl;
  keep = record { minute = ra.keeps; hour = rb.keeps; day_of_month = rc.keeps; month = rd.keeps; day_of_week = re.keeps };
}

-- ---- a field's numbers as a set

pub set_bits : (u : TimeUnit) (f : Field) (read : FieldRead) (kept : FieldNumbers) → u.least ≡ least f → IsKept f read kept
    → set_of u (λ x. has_bit kept.numbers (x - u.least)) ≡ set_of u (lies_in read)
set_bits u f read kept same keeps =
    set_same u (λ x. has_bit kept.numbers (x - u.least)) (lies_in read) (λ x low high. rw same (keeps.numbers x (omega arith)))

first_day : (x : ℕ) → 1 ≤ x → nat_eq (x - 1) 0 ≡ nat_eq x 1
first_day x low = grind arith

pub set_weekdays : (read : FieldRead) (kept : FieldNumbers) (days : ℕ) → IsKept DayOfWeek read kept
    → ((k : ℕ) → has_bit days k ≡ (has_bit kept.numbers k || (k == 0 && has_bit kept.numbers 7)))
    → set_of units.days_of_week (λ x. has_bit days (x - units.days_of_week.least)) ≡ set_of units.days_of_week (on_weekday read)
set_weekdays read kept days keeps is = set_same units.days_of_week (λ x. has_bit days (x - units.days_of_week.least)) (on_weekday read) each
  where
    each : (x : ℕ) → 1 ≤ x → x ≤ 7 → has_bit days (x - 1) ≡ on_weekday read x
    each x low high =
        let here : (x - 1) - 0 ≡ x - 1 = omega arith in
        let day : has_bit kept.numbers (x - 1) ≡ lies_in read (x - 1) = rw here at (keeps.numbers (x - 1) (omega arith)) in
        let seven : has_bit kept.numbers 7 ≡ lies_in read 7 = keeps.numbers 7 (omega arith) in
        is (x - 1) ∙ rw (day, seven, first_day x low) refl
