-- Numbers in a range, in ascending order and round the end of the unit.
use Rattle.std.proofs.Common.{◌≡◌, ◌≤◌, ◌<◌, ◌+◌, ◌-◌, ◌%◌, ◌&&◌, ◌||◌, ℕ, Bool, true, false, cond, refl, ap, ◌∙◌, arith, nat_eq, nat_le}
use Rattle.std.proofs.lemmas.Bool.Decides.{nat_tests}
use Rattle.std.proofs.lemmas.Bool.{le-leb, leb-true, leb-false}
use Rattle.cron_units.specs.Units.{TimeUnit}
use Rattle.cron_quartz.specs.Items.{way_on}
use Rattle.cron_quartz_days.specs.Ranges.{IsOf, RangesComeRound, StepsGoOn}

steps_by : (u : TimeUnit) (first last every x : ℕ) → IsOf u x → IsOf u last → first ≤ last → (b : Bool) → nat_le first x ≡ b
    → (nat_le (cond b (x - first) ((x - u.least) + (u.greatest + 1 - first))) (last - first) && nat_eq (cond b (x - first) ((x - u.least) + (u.greatest + 1 - first)) % every) 0)
    ≡ (b && nat_le x last && nat_eq ((x - first) % every) 0)
steps_by u first last every x of end le true is =
    let low = leb-true first x is in
    ap (λ b. b && nat_eq ((x - first) % every) 0) (grind (arith, nat_tests))
steps_by u first last every x of end le false is =
    let past = leb-false first x is in
    let high = end.high in
    let off : nat_le ((x - u.least) + (u.greatest + 1 - first)) (last - first) ≡ false = grind (arith, nat_tests) in
    rw off refl

pub steps_go_on : StepsGoOn
steps_go_on u item x of end le =
    rw (le-leb item.first item.last le) (steps_by u item.first item.last item.every x of end le (nat_le item.first x) refl)

whole_step : (n : ℕ) → nat_eq (n % 1) 0 ≡ true
whole_step n = grind arith

and_true : (b : Bool) → (b && true) ≡ b
and_true true = refl
and_true false = refl

round_by : (u : TimeUnit) (first last x : ℕ) → IsOf u x → IsOf u first → IsOf u last → last < first → (b : Bool) → nat_le first x ≡ b
    → nat_le (cond b (x - first) ((x - u.least) + (u.greatest + 1 - first))) ((last - u.least) + (u.greatest + 1 - first)) ≡ (b || nat_le x last)
round_by u first last x of start end past true is =
    let low = leb-true first x is in
    let high = of.high in
    let top = start.high in
    let least = end.low in
    le-leb (x - first) ((last - u.least) + (u.greatest + 1 - first)) (omega arith)
round_by u first last x of start end past false is =
    let low = of.low in
    let least = end.low in
    grind (arith, nat_tests)

pub ranges_come_round : RangesComeRound
ranges_come_round u first last x of start end past =
    let apart : nat_le first last ≡ false = grind (arith, nat_tests) in
    rw (apart, whole_step (way_on u first x)) (and_true _ ∙ round_by u first last x of start end past (nat_le first x) refl)
