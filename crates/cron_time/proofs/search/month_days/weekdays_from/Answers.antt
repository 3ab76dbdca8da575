use Rattle.std.proofs.Common.{ℕ, Bool, ◌&&◌, nat_lt, ◌+◌, ◌-◌, ◌*◌, ◌%◌, ◌^◌, ◌<◌, ◌≡◌, refl, ap, sym, ◌∙◌, arith, bit_or}
use Rattle.cron_bits.specs.Words.{has_bit}
use Rattle.cron_units.specs.Sets.{Sets}
use Rattle.cron_units.specs.Units.{contains}
use Rattle.cron_moments.specs.CivilDates.{date_numbered}
use Rattle.cron_moments.proofs.DateLemmas.{epoch_at}
use Rattle.cron_moments.proofs.NumberLemmas.{weekday_by_number}
use Rattle.cron_time.proofs.Searches.WeekLemmas.{once, repeats, twice, week_from}
use Rattle.cron_time.proofs.search.month_days.weekdays_from.Goals as goal

pub returns : goal.returns
returns c = λ k less.
    let p : ℕ → Bool = λ j. contains c.args.fields.now.days_of_week (1 + j) in
    let w : ℕ = c.below-week.result in
    let w2 : ℕ = bit_or w (w * 2 ^ 7 % 2 ^ 64) in
    let w4 : ℕ = bit_or w2 (w2 * 2 ^ 14 % 2 ^ 64) in
    let w8 : ℕ = bit_or w4 (w4 * 2 ^ 28 % 2 ^ 64) in
    let one : (j : ℕ) → j < 64 → has_bit w j ≡ repeats p 7 j = λ j l.
    c.below-week.ensures.bits j
    ∙ ap (λ (b : Bool). nat_lt j 7 && b) (c.bits.ensures.bits j ∙ ap (λ (t : Sets). contains t.days_of_week (1 + j)) c.fields.view_is)
    ∙ once p j in
    let two : (j : ℕ) → j < 64 → has_bit w2 j ≡ repeats p 14 j = λ j l. twice p w 7 j l refl one in
    let four : (j : ℕ) → j < 64 → has_bit w4 j ≡ repeats p 28 j = λ j l. twice p w2 14 j l refl two in
    let eight : (j : ℕ) → j < 64 → has_bit w8 j ≡ repeats p 56 j = λ j l. twice p w4 28 j l refl four in
    let shift : c.weekday_of.result ≡ (c.args.day + 4) % 7 + 1 = c.weekday_of.ensures
    ∙ sym (weekday_by_number (date_numbered c.args.day).0 c.args.day (epoch_at c.args.day c.requires)) in
    let at : 1 + (k + (c.weekday_of.result - 1)) % 7 ≡ (c.args.day + k + 4) % 7 + 1 = omega (arith, shift) in
    week_from p w8 (c.weekday_of.result - 1) k less (omega (arith, shift)) eight ∙ ap (contains c.args.fields.now.days_of_week) at
