use Rattle.std.proofs.Common.{◌≡◌, ◌+◌, ◌*◌, ◌%◌, ℕ, List, sym, subst, arith}
use Rattle.cron_dues.specs.Inner.Digits.{number_at}
use Rattle.cron_dues.proofs.ReaderLemmas.{time-at}
use Rattle.cron_dues.proofs.reader.seconds_of_day.Goals as goal

pub returns-clause-value : goal.returns-clause-value
returns-clause-value c = λ n is.
    let spelt = subst (λ (l : List ℕ). number_at l 0 * 3600 + number_at l 3 * 60 + number_at l 6 ≡ n % 86_400) (sym is) (time-at n) in
    omega (arith, spelt, c.two_at.ensures.value, c.two_at-2.ensures.value, c.two_at-3.ensures.value)
