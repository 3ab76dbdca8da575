-- The due fires of a set in the order of their nominal seconds: what is left of them by the first and the last one.
use Rattle.std.proofs.Common.{◌≡◌, ℕ, ◌<◌, ◌≤◌, ℤ, pos, ◌*ℤ◌, ◌≤ℤ◌, nat_lt, Bool, true, false, List, [], ◌∷◌, Option, Some, None, ap, ◌∙◌, subst, arith}
use Rattle.std.specs.Prelude.{filter, reverse}
use Rattle.jiff_core.proofs.SignedLemmas.{signed_arith}
use Rattle.cron_clocks.proofs.Windows.{le_yes, lt_yes}
use Rattle.cron_time.specs.Seconds.{Seconds}
use Rattle.cron_seconds.specs.Rules.{AreInOrder, IsFirstOf, IsGreatest, IsLeast, IsOrder, Rises}
use Rattle.cron_seconds.proofs.IntLemmas.{int_le-true, int_lt-true}
use Rattle.cron_seconds.proofs.OrderLemmas as order
use Rattle.cron_dues.specs.Ascent.{Ascends}
use Rattle.cron_dues.specs.Clock.Due.{Clock, Due, instant}
use Rattle.cron_dues.specs.Clock.Dues.{dues, dues_after, dues_back, dues_before, dues_past, is_due_after, is_due_by, is_past}
use Rattle.cron_dues.specs.DueLaws.{CutListsGoOn}
use Rattle.cron_dues.specs.Clock.FirstDues.{IsDue, IsFirst, IsFirstDueAfter, IsFirstDuePast, IsLast, IsLastDueBefore, IsLastDueBy}
use Rattle.cron_dues.proofs.LawLemmas.{due_no_later, dues-ascend}
use Rattle.cron_dues.proofs.MemberLemmas.{less-true, true-less}

not_past : (a b : Due) → b.second ≤ a.second → is_past a b ≡ false
not_past a b le = grind arith

pub due-order : IsOrder is_past
due-order = record {
  not_itself = λ a. not_past a a (omega arith);
  through = λ a b c one other.
      let less = less-true a.second b.second one in
      let more = less-true b.second c.second other in
      true-less a.second c.second (omega arith);
}

rises-of : (l : List Due) → Ascends (λ (d : Due). d.second) l → Rises is_past l
rises-of [] up = tt
rises-of (x ∷ l) up = (λ y h. true-less x.second y.second (up.0 y h), rises-of l up.1)

module _ (s : Seconds) (clock : Clock) where
  pub dues-rise : Rises is_past (dues s clock)
  dues-rise = rises-of (dues s clock) (dues-ascend s clock)

  keeps_up : (a b : Due) → IsDue s clock a → IsDue s clock b → is_past a b ≡ true → instant a ≤ℤ instant b
  keeps_up a b one other h = let less = less-true a.second b.second h in due_no_later s clock a b one other (omega arith)

  pub dues-in_order : AreInOrder instant is_past (dues s clock)
  dues-in_order = record { rise = dues-rise; keep_up = keeps_up }

  -- ---- by the first

  least_of : (p : Due → Bool) (o : Option Due) → IsFirst (λ d. IsDue s clock d × (p d ≡ true)) o
      → IsLeast is_past (λ d. IsDue s clock d × (p d ≡ true)) o
  least_of p None none = none
  least_of p (Some d) found = (found.0, λ e h. not_past e d (found.1 e h))

  pub first-of_dues : (p : Due → Bool) (answer : Option Due) → order.KeepsOn is_past due-order p (dues s clock)
      → IsFirst (λ d. IsDue s clock d × (p d ≡ true)) answer → IsFirstOf (filter p (dues s clock)) (dues_past s clock) answer
  first-of_dues p answer on found = order.first-left is_past due-order p (dues s clock) answer on dues-rise (least_of p answer found)

  pub after-keeps_on : (t : ℤ) → order.KeepsOn is_past due-order (is_due_after t) (dues s clock)
  after-keeps_on t a b one other h k =
      let late = int_lt-true t (instant a *ℤ pos 1_000_000_000) h in
      let le = keeps_up a b one other k in
      lt_yes t (instant b *ℤ pos 1_000_000_000) (omega (arith, signed_arith))

  pub past-keeps_on : (fire : Due) → order.KeepsOn is_past due-order (is_past fire) (dues s clock)
  past-keeps_on fire a b one other h k = due-order.through fire a b h k

  pub first-after : (t : ℤ) (answer : Option Due) → IsFirstDueAfter s clock t answer → IsFirstOf (dues_after s clock t) (dues_past s clock) answer
  first-after t answer first = first-of_dues (is_due_after t) answer (after-keeps_on t) first

  pub first-past : (fire : Due) (answer : Option Due) → IsFirstDuePast s clock fire answer → IsFirstOf (dues_past s clock fire) (dues_past s clock) answer
  first-past fire answer first = first-of_dues (is_past fire) answer (past-keeps_on fire) first

  -- ---- by the last

  greatest_of : (p : Due → Bool) (o : Option Due) → IsLast (λ d. IsDue s clock d × (p d ≡ true)) o
      → IsGreatest is_past (λ d. IsDue s clock d × (p d ≡ true)) o
  greatest_of p None none = none
  greatest_of p (Some d) found = (found.0, λ e h. not_past d e (found.1 e h))

  last-of_dues : (p : Due → Bool) (answer : Option Due) → order.KeepsBack is_past due-order p (dues s clock)
      → IsLast (λ d. IsDue s clock d × (p d ≡ true)) answer → IsFirstOf (reverse (filter p (dues s clock))) (dues_before s clock) answer
  last-of_dues p answer back found = order.last-left is_past due-order p (dues s clock) answer back dues-rise (greatest_of p answer found)

  by-keeps_back : (t : ℤ) → order.KeepsBack is_past due-order (is_due_by t) (dues s clock)
  by-keeps_back t a b one other h k =
      let by = int_le-true (instant b *ℤ pos 1_000_000_000) t h in
      let le = keeps_up a b one other k in
      le_yes (instant a *ℤ pos 1_000_000_000) t (omega (arith, signed_arith))

  pub last-by : (t : ℤ) (answer : Option Due) → IsLastDueBy s clock t answer → IsFirstOf (dues_back s clock t) (dues_before s clock) answer
  last-by t answer last = last-of_dues (is_due_by t) answer (by-keeps_back t) last

  pub last-before : (fire : Due) (answer : Option Due) → IsLastDueBefore s clock fire answer
      → IsFirstOf (dues_before s clock fire) (dues_before s clock) answer
  last-before fire answer last =
      last-of_dues (λ d. is_past d fire) answer (λ a b one other h k. due-order.through a b fire k h) last

-- ---- cut lists

pub cut_lists : CutListsGoOn
cut_lists s clock done fire rest e =
    ap (filter (is_past fire)) e ∙ order.cut-behind is_past due-order done fire rest (subst (Rises is_past) e (dues-rise s clock))
