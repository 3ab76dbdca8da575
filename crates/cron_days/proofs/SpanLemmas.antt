-- The days between two dates, either of which may be left out.
use Rattle.std.proofs.Common.{◌≡◌, ℕ, ◌<◌, pos, ◌&&◌, nat_le, int_le, Option, Some, None, sym, ap, ◌∙◌, arith}
use Rattle.std.proofs.lemmas.Bool.{le-leb}
use Rattle.jiff_core.specs.declared.civil.date.Date.{Date}
use Rattle.cron_moments.specs.Civil.{days_in_range}
use Rattle.cron_days.specs.Inner.Ends.{IsNumberOr}
use Rattle.cron_days.specs.Rules.{is_between, is_from, is_up_to}

from_number : (date : Option Date) (a n : ℕ) → IsNumberOr date 0 a → nat_le a n ≡ is_from date n
from_number None a n is = ap (λ k. nat_le k n) is ∙ le-leb 0 n (omega arith)
from_number (Some d) a n is = ap (λ z. int_le z (pos n)) (sym is)

to_number : (date : Option Date) (a n : ℕ) → n < days_in_range → IsNumberOr date 47_846 a → nat_le n a ≡ is_up_to date n
to_number None a n high is = ap (λ k. nat_le n k) is ∙ le-leb n 47_846 (omega arith)
to_number (Some d) a n high is = ap (λ z. int_le (pos n) z) (sym is)

pub between : (first last : Option Date) (a b n : ℕ) → n < days_in_range → IsNumberOr first 0 a → IsNumberOr last 47_846 b → (nat_le a n && nat_le n b) ≡ is_between first last n
between first last a b n high from to = ap (λ v. v && nat_le n b) (from_number first a n from) ∙ ap (λ v. is_from first n && v) (to_number last b n high to)
