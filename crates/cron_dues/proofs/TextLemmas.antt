-- The text of a moment by places.
use Rattle.std.proofs.Common.{◌≡◌, ℕ, ◌+◌, ◌/◌, ◌==◌, ◌≤◌, Bool, true, false, cond, List, [], ◌++◌, length, refl, sym, ap, ◌∙◌, arith}
use Rattle.std.specs.Prelude.{codes, slice_range}
use Rattle.std.proofs.lemmas.List.{append-nil}
use Rattle.cron_moments.specs.Civil.{civil}
use Rattle.cron_moments.specs.MomentText.{date_text, moment_text, time_text}
use Rattle.cron_moments.specs.Readings.{Reading, reading}
use Rattle.cron_dues.specs.Clock.Due.{Due}
use Rattle.cron_dues.specs.DueText.{due_text, nominal_text, shown}

pub time-at : (r : Reading) → slice_range (moment_text r) 11 19 ≡ time_text (civil r.second).time
unfolding moment_text
time-at r = refl

pub date_and_time-at : (r : Reading)
    → slice_range (moment_text r) 0 19 ≡ date_text (civil r.second).date ++ (codes " " ++ time_text (civil r.second).time)
unfolding moment_text
date_and_time-at r = refl

pub nineteen : (r : Reading) → 19 ≤ length (moment_text r)
unfolding moment_text
nineteen r = omega arith

-- the nominal time stands in the text of its moment
pub nominal-at : (d : Due) (from : ℕ) → from ≡ cond (d.second / 86_400 == (d.second + d.past) / 86_400) 11 0
    → slice_range (moment_text (reading d.second d.offset)) from 19 ≡ nominal_text d
nominal-at d from is = by_day (d.second / 86_400 == (d.second + d.past) / 86_400) is
  where
    by_day : (same : Bool) → from ≡ cond same 11 0
        → slice_range (moment_text (reading d.second d.offset)) from 19
        ≡ cond same (time_text (civil d.second).time) (date_text (civil d.second).date ++ (codes " " ++ time_text (civil d.second).time))
    by_day true e = rw e (time-at (reading d.second d.offset))
    by_day false e = rw e (date_and_time-at (reading d.second d.offset))

test_yes : (n : ℕ) → n ≡ 0 → (n == 0) ≡ true
test_yes n e = grind arith

test_no : (n : ℕ) → (n ≡ 0 → ⊥) → (n == 0) ≡ false
test_no n some = grind arith

-- what each step appends
pub plain-is : (d : Due) (line l0 l1 : List ℕ) → l0 ≡ [] → line ≡ moment_text (shown d) → l1 ≡ l0 ++ line → d.past ≡ 0 → l1 ≡ due_text d
unfolding due_text
plain-is d line l0 l1 e0 e e1 none = let test = test_yes d.past none in rw test (e1 ∙ ap (λ l. l ++ line) e0 ∙ e ∙ sym (append-nil (moment_text (shown d))))

pub past-is : (d : Due) (line l0 l1 l2 : List ℕ) → l0 ≡ [] → line ≡ moment_text (shown d) → l1 ≡ l0 ++ line
    → l2 ≡ l1 ++ (codes " for " ++ nominal_text d) → (d.past ≡ 0 → ⊥) → l2 ≡ due_text d
unfolding due_text
past-is d line l0 l1 l2 e0 e e1 e2 some =
    let test = test_no d.past some in rw test (e2 ∙ ap (λ l. l ++ (codes " for " ++ nominal_text d)) (e1 ∙ ap (λ l. l ++ line) e0 ∙ e))
