-- What holds of rules of days and of what is moved by them.
use Rattle.std.proofs.Common.{◌≡◌, ℕ, ◌+◌, ◌*◌, ◌/◌, ◌%◌, ◌<◌, pos, nat_lt, Bool, true, ◌⊎◌, inl, inr, ap, ◌∙◌, subst, arith}
use Rattle.std.proofs.Math.Nat.{mul-mod_left}
use Rattle.std.proofs.lemmas.Bool.{and_from, and_parts, cases_lt, eq-eqb, eqb-true, lt-ltb, ltb-true}
use Rattle.std.proofs.lemmas.Nat.{div-add-mod'}
use Rattle.jiff_core.proofs.SignedLemmas.{signed_arith}
use Rattle.cron_units.specs.declared.way.Way.{Way}
use Rattle.cron_units.specs.declared.way.Way.TheVariants.{Ahead, Back}
use Rattle.cron_units.specs.Nearest.{IsNearestAt}
use Rattle.cron_moments.specs.Civil.{days_in_range, seconds_in_range}
use Rattle.cron_moments.specs.CivilDates.{date_numbered}
use Rattle.cron_moments.proofs.DateLemmas.{epoch_at}
use Rattle.cron_moments.proofs.NumberLemmas.{weekday_by_number}
use Rattle.cron_time.specs.Seconds.{is_match}
use Rattle.cron_days.specs.Days.{is_day}
use Rattle.cron_days.specs.Inner.Times.{has_time}
use Rattle.cron_days.specs.Moved.{moved}
use Rattle.cron_days.specs.Laws.{AllowedDaysStay, MovedLieOnAllowedDays, NoneIsLost, StepsGoBothWays, WeeksBeginOnMonday}
use Rattle.cron_days.specs.Rules.{distance, is_steps_apart}
use Rattle.cron_days.proofs.MovedLemmas.{from-moved, moved-from}
use Rattle.cron_days.proofs.SourceLemmas.{day_allowed, day_below}
use Rattle.cron_days.proofs.TimeLemmas.{as_match}

pub weeks_begin : WeeksBeginOnMonday
weeks_begin n h =
    let is = weekday_by_number (date_numbered (n + 1)).0 (n + 1) (epoch_at (n + 1) h) in
    (λ begins. omega arith, λ monday. omega arith)

-- the steps from one number to another
apart-some : (step a b : ℕ) → is_steps_apart step a b ≡ true → (count : ℕ) × ((b ≡ a + count * step) ⊎ (a ≡ b + count * step))
apart-some step a b h =
    let whole : distance a b % step ≡ 0 = eqb-true (distance a b % step) 0 h in
    let made = div-add-mod' (distance a b) step in (
      distance a b / step,
      elim (cases_lt a b) [
        | inl less ↦ inl (omega arith)
        | inr ge ↦ inr (omega arith)
      ],
    )

some-apart : (step a b count : ℕ) → (b ≡ a + count * step) ⊎ (a ≡ b + count * step) → is_steps_apart step a b ≡ true
some-apart step a b count (inl up) =
    let is : distance a b ≡ count * step = omega arith in eq-eqb (distance a b % step) 0 (ap (λ d. d % step) is ∙ mul-mod_left count step)
some-apart step a b count (inr down) =
    let is : distance a b ≡ count * step = omega arith in eq-eqb (distance a b % step) 0 (ap (λ d. d % step) is ∙ mul-mod_left count step)

pub steps_both : StepsGoBothWays
steps_both step a b some = (apart-some step a b, λ found. some-apart step a b found.0 found.1)

pub moved_allowed : MovedLieOnAllowedDays
moved_allowed way allows s c h = day_allowed allows (c / 86_400) (moved-from way allows s c h).1.goes.passes

pub none_lost : NoneIsLost
none_lost way allows s c target h goes =
    let low : c < seconds_in_range = ltb-true c seconds_in_range (and_parts (nat_lt c seconds_in_range) (s c) h).0 in
    let below = day_below allows target goes.passes in
    let day : target ≡ (target * 86_400 + c % 86_400) / 86_400 = omega arith in
    let time : c % 86_400 ≡ (target * 86_400 + c % 86_400) % 86_400 = omega arith in
    let whole : c ≡ c / 86_400 * 86_400 + c % 86_400 = omega arith in
    from-moved way allows s (target * 86_400 + c % 86_400) (c / 86_400) (omega arith) (record {
      in_range = omega arith;
      goes = subst (IsNearestAt way (is_day allows) (pos (c / 86_400))) day goes;
      has = subst (λ m. has_time s (c / 86_400) m ≡ true) time
          (as_match s (c / 86_400) (omega arith) (c % 86_400) (omega arith) ∙ subst (λ m. is_match s m ≡ true) whole h);
    })

itself : (way : Way) (allows : ℕ → Bool) (day : ℕ) → is_day allows day ≡ true → IsNearestAt way (is_day allows) (pos day) day
itself Ahead allows day has = record { passes = has; lies = omega (arith, signed_arith); nearest = λ k lies less. absurd (omega (arith, signed_arith)) }
itself Back allows day has = record { passes = has; lies = omega (arith, signed_arith); nearest = λ k lies past. absurd (omega (arith, signed_arith)) }

pub days_stay : AllowedDaysStay
days_stay way allows s c h has =
    let low : c < seconds_in_range = ltb-true c seconds_in_range (and_parts (nat_lt c seconds_in_range) (s c) h).0 in
    let own : is_day allows (c / 86_400) ≡ true = and_from (nat_lt (c / 86_400) days_in_range) (allows (c / 86_400)) (lt-ltb (c / 86_400) days_in_range (omega arith)) has in
    let whole : c / 86_400 * 86_400 + c % 86_400 ≡ c = omega arith in
    subst (λ m. is_match (moved way allows s) m ≡ true) whole (none_lost way allows s c (c / 86_400) h (itself way allows (c / 86_400) own))
