use Rattle.std.proofs.Common.{◌≡◌, ◌<◌, ◌≤◌, ◌+◌, ◌-◌, ◌%◌, ℕ, sym, ◌∙◌, arith}
use Rattle.cron_moments.specs.Calendar.{weekday_number}
use Rattle.cron_moments.specs.CivilDates.{date_numbered}
use Rattle.cron_moments.proofs.NumberLemmas.{weekday_by_number}
use Rattle.cron_answers.specs.Days.{IsNextOn}
use Rattle.cron_answers.proofs.day.next_on.Goals as goal

weekday_at : (n : ℕ) → n ≤ 2_932_896 → (n + 4) % 7 + 1 ≡ weekday_number (date_numbered n).0
weekday_at n h = weekday_by_number (date_numbered n).0 n ((date_numbered n).1 h)

-- the day falls on the day of the week
falls : (w t x d : ℕ) → 1 ≤ w → w ≤ 7 → x ≡ (t + 4) % 7 + 1 → d ≡ t + 1 + (w + 6 - x) % 7 → (d + 4) % 7 + 1 ≡ w
falls w t x d low high is_x is_d = omega arith

-- and none before it does
none : (w t x d e : ℕ) → 1 ≤ w → w ≤ 7 → x ≡ (t + 4) % 7 + 1 → d ≡ t + 1 + (w + 6 - x) % 7 → t < e → e < d → (e + 4) % 7 + 1 ≡ w → ⊥
none w t x d e low high is_x is_d after before on = omega arith

next : (w t x d : ℕ) → 1 ≤ w → w ≤ 7 → t ≤ 100_000 → x ≡ weekday_number (date_numbered t).0 → d ≡ t + 1 + (w + 6 - x) % 7 → IsNextOn w t d
next w t x d low high small x_is d_is =
    let is_x : x ≡ (t + 4) % 7 + 1 = x_is ∙ sym (weekday_at t (omega arith)) in
    record {
      after = omega arith;
      is_on = sym (weekday_at d (omega arith)) ∙ falls w t x d low high is_x d_is;
      first = λ e a b on. none w t x d e low high is_x d_is a b (weekday_at e (omega arith) ∙ on);
    }

pub returns-clause-next : goal.returns-clause-next
returns-clause-next c =
    next c.args.weekday c.args.today c.weekday_of.result _ c.requires.weekday.0 c.requires.weekday.1 (omega (arith, c.requires.today)) c.weekday_of.ensures (omega arith)
