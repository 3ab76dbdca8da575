-- The days of the week by their pieces, and days of the month as sets.
use Rattle.std.proofs.Common.{◌≡◌, ◌≤◌, ◌&&◌, ℕ, false, List, ◌∷◌, refl, ap, ◌∙◌, nat_le}
use Rattle.std.specs.Prelude.{Ok, Err, Result}
use Rattle.cron_crontab.specs.Items.{pieces}
use Rattle.cron_crontab.proofs.ItemLemmas.{has_piece}
use Rattle.cron_units.specs.Units.{FieldSet, set_of, with_mark}
use Rattle.cron_units.specs.Units as units
use Rattle.cron_units.proofs.SetLemmas.{set_same}
use Rattle.cron_quartz.specs.Refusals.{Reason, ignored}
use Rattle.cron_quartz.specs.Items.{End, end_of, number_in, told}
use Rattle.cron_quartz.specs.Days.{Days, from_to}
use Rattle.cron_quartz.specs.Quartz.{cut_weekdays, nth_of}

-- a second `#` isn't read
pub second_place : (day rest place more : List ℕ) (w : End) (n : ℕ) → pieces 35 rest ≡ place ∷ pieces 35 more → end_of units.days_of_week day ≡ Ok w
    → number_in 1 5 place ≡ Ok n → nth_of day (pieces 35 rest) ≡ Err (ignored place)
second_place day rest place more w n cut is number = let other = has_piece 35 more in rw (cut, other.is, is, number) refl

-- a word that is cut is the n-th such day
pub cut_form : (word day rest : List ℕ) (read : Result Days Reason) → pieces 35 word ≡ day ∷ pieces 35 rest → nth_of day (pieces 35 rest) ≡ read
    → cut_weekdays word (pieces 35 word) ≡ told units.days_of_week word read
cut_form word day rest read cut is = let place = has_piece 35 rest in rw (cut, place.is, rw place.is at is) refl

made : (set : FieldSet) (xs : List ℕ) → set.ordinals ≡ xs → set.last_day ≡ false → set ≡ with_mark xs false
made set xs is mark = ap (λ ys. with_mark ys set.last_day) is ∙ ap (λ m. with_mark xs m) mark

-- no day of the month lies behind the 31st
pub days_from : (set : FieldSet) (first last least : ℕ) → ((d : ℕ) → d ≤ 31 → nat_le d least ≡ nat_le d last)
    → set.ordinals ≡ set_of units.days_of_month (λ d. nat_le first d && nat_le d least) → set.last_day ≡ false → set ≡ from_to first last
days_from set first last least same is mark =
    made set (set_of units.days_of_month (λ d. nat_le first d && nat_le d last))
    (is ∙ set_same units.days_of_month (λ d. nat_le first d && nat_le d least) (λ d. nat_le first d && nat_le d last)
    (λ d low high. ap (λ b. nat_le first d && b) (same d high)))
    mark
