-- What is left from a civil second on: where a run begins, after a call, and at the end.
use Rattle.std.proofs.Common.{◌≡◌, ℕ, ℤ, pos, ◌*ℤ◌, ◌+ℤ◌, Bool, true, false, List, [], Option, Some, None, refl, sym, ap, ◌∙◌, arith}
use Rattle.jiff_core.proofs.SignedLemmas.{signed_arith}
use Rattle.cron_units.specs.declared.way.Way.TheVariants.{Ahead}
use Rattle.cron_clocks.proofs.Windows.{le_no, le_yes}
use Rattle.cron_moments.specs.Civil.{seconds_in_range}
use Rattle.cron_time.specs.Seconds.{Seconds, is_match, matching_seconds}
use Rattle.cron_time.proofs.ListLemmas.{Among, filter-alike, filter-none}
use Rattle.cron_seconds.specs.Rules.{IsFirstOf}
use Rattle.cron_seconds.proofs.IntLemmas.{int_le-true, same_tests}
use Rattle.cron_dues.specs.Clock.Due.{Clock, Due}
use Rattle.cron_dues.specs.Clock.Dues.{dues, dues_after, dues_past, is_due_after, is_past}
use Rattle.cron_dues.specs.Clock.FirstDues.{IsDue, IsFirst}
use Rattle.cron_dues.specs.Left.{is_from, left_from}
use Rattle.cron_dues.specs.Nearest.{IsNearestDue}
use Rattle.cron_dues.specs.Reached.{IsReachedBy}
use Rattle.cron_dues.proofs.MemberLemmas.{after-lies, first-of, less-true, lies-after, own-of, second_of, sets-match, true-less}
use Rattle.cron_dues.proofs.RuleLemmas.{first-of_dues}

-- ---- where a run begins

from-past : (from : ℤ) (fire d : Due) → from ≡ pos fire.second +ℤ pos 1 → is_from from d ≡ is_past fire d
from-past from fire d e =
    same_tests (is_from from d) (is_past fire d)
    (λ h. let le = int_le-true from (pos d.second) h in true-less fire.second d.second (omega (arith, signed_arith)))
    (λ h. let less = less-true fire.second d.second h in le_yes from (pos d.second) (omega (arith, signed_arith)))

module _ (s : Seconds) (clock : Clock) where
  from-after : (t m : ℤ) → IsReachedBy clock (second_of t) m → (d : Due) → Among (dues s clock) d → is_from (m +ℤ pos 1) d ≡ is_due_after t d
  from-after t m reached d h =
      let own = own-of (matching_seconds s) (is_match s) clock (sets-match s) d h in
      same_tests (is_from (m +ℤ pos 1) d) (is_due_after t d)
      (λ e. ap (is_due_after t) own.own
      ∙ lies-after (matching_seconds s) (is_match s) clock (sets-match s) t m reached d.second own.matching (int_le-true (m +ℤ pos 1) (pos d.second) e))
      (λ e. le_yes (m +ℤ pos 1) (pos d.second)
      (after-lies (matching_seconds s) (is_match s) clock (sets-match s) t m reached d.second own.matching (ap (is_due_after t) (sym own.own) ∙ e)))

  pub left-after : (t m : ℤ) → IsReachedBy clock (second_of t) m → left_from s clock (m +ℤ pos 1) ≡ dues_after s clock t
  left-after t m reached = filter-alike (is_from (m +ℤ pos 1)) (is_due_after t) (dues s clock) (from-after t m reached)

  pub left-past : (from : ℤ) (fire : Due) → from ≡ pos fire.second +ℤ pos 1 → left_from s clock from ≡ dues_past s clock fire
  left-past from fire e = filter-alike (is_from from) (is_past fire) (dues s clock) (λ d h. from-past from fire d e)

  -- ---- a call

  from-keeps_on : (from : ℤ) (a b : Due) → is_from from a ≡ true → is_past a b ≡ true → is_from from b ≡ true
  from-keeps_on from a b h k =
      let le = int_le-true from (pos a.second) h in
      let less = less-true a.second b.second k in
      le_yes from (pos b.second) (omega (arith, signed_arith))

  first_from : (from : ℤ) (answer : Option Due) → IsNearestDue Ahead (is_match s) clock from answer
      → IsFirst (λ d. IsDue s clock d × (is_from from d ≡ true)) answer
  first_from from answer near =
      first-of (matching_seconds s) (is_match s) clock (sets-match s) (is_from from) from answer (λ c match h. int_le-true from (pos c) h)
      (λ c match le. le_yes from (pos c) le) near

  -- the nearest is the first one, and those past it are left
  pub left-first : (from : ℤ) (answer : Option Due) → IsNearestDue Ahead (is_match s) clock from answer
      → IsFirstOf (left_from s clock from) (dues_past s clock) answer
  left-first from answer near =
      first-of_dues s clock (is_from from) answer (λ a b one other h k. from-keeps_on from a b h k) (first_from from answer near)

  -- ---- the end

  pub left-end : (from : ℤ) → from ≡ pos seconds_in_range → left_from s clock from ≡ []
  left-end from is =
      filter-none (is_from from) (dues s clock) (λ d h.
      let own = own-of (matching_seconds s) (is_match s) clock (sets-match s) d h in
      let range = (sets-match s).range d.second own.matching in
      le_no from (pos d.second) (omega (arith, signed_arith)))
