-- The line of an item with other digits.
use Rattle.std.proofs.Common.{◌≡◌, ℕ, Bool, true, false, ◌+◌, ◌/◌, ◌%◌, ◌<◌, ◌≤◌, List, [], ◌∷◌, ◌++◌, length, take, refl, sym, ap, ◌∙◌, arith}
use Rattle.std.specs.Prelude.{codes, not, slice_set}
use Rattle.std.specs.Ordering.{int_eq}
use Rattle.std.proofs.lemmas.Bool.Decides.{Decides-int_eq}
use Rattle.std.proofs.Math.Seq.{take-set-lt}
use Rattle.std.proofs.lemmas.List.{length-take}
use Rattle.jiff_core.specs.declared.civil.date.Date.{Date}
use Rattle.jiff_core.specs.declared.Offset.{Offset}
use Rattle.cron_moments.specs.Civil.{civil, time_numbered}
use Rattle.cron_moments.specs.CivilDates.{date_numbered}
use Rattle.cron_moments.specs.MomentText.{two_digits, date_text, offset_text, moment_text, item_line}
use Rattle.cron_moments.specs.Readings.{Reading}
use Rattle.cron_walk_listing.specs.Digits.{with_two_digits}

-- a line by its parts
line_by : Date → ℕ → ℕ → ℕ → List ℕ → List ℕ
line_by d h m s rest =
    (date_text d ++ (codes " " ++ ((two_digits h ++ (codes ":" ++ (two_digits m ++ (codes ":" ++ two_digits s)))) ++ (codes " " ++ rest)))) ++ 10 ∷ []

line_is : (r : Reading) → item_line r
    ≡ line_by (date_numbered (r.second / 86_400)).0 (r.second % 86_400 / 3600) (r.second % 3600 / 60) (r.second % 60) (offset_text r.offset.seconds)
unfolding line_by moment_text civil time_numbered
line_is r = refl

hour_put : (d : Date) (h m s n : ℕ) (rest : List ℕ) → with_two_digits (line_by d h m s rest) 11 n ≡ line_by d n m s rest
unfolding line_by with_two_digits
hour_put d h m s n rest = refl

minute_put : (d : Date) (h m s n : ℕ) (rest : List ℕ) → with_two_digits (line_by d h m s rest) 14 n ≡ line_by d h n s rest
unfolding line_by with_two_digits
minute_put d h m s n rest = refl

second_put : (d : Date) (h m s n : ℕ) (rest : List ℕ) → with_two_digits (line_by d h m s rest) 17 n ≡ line_by d h m n rest
unfolding line_by with_two_digits
second_put d h m s n rest = refl

long_by : (d : Date) (h m s : ℕ) (rest : List ℕ) → 20 ≤ length (line_by d h m s rest)
unfolding line_by
long_by d h m s rest = omega arith

long : (r : Reading) → 20 ≤ length (item_line r)
long r = rw (line_is r) (long_by _ _ _ _ _)

-- digits before the end of a front stand in the front
put_in_front : (n : ℕ) (xs : List ℕ) (at x : ℕ) → at + 1 < n → take n (with_two_digits xs at x) ≡ with_two_digits (take n xs) at x
unfolding with_two_digits
put_in_front n xs at x below =
    take-set-lt n (slice_set xs at (48 + x / 10 % 10)) (at + 1) (48 + x % 10) below
    ∙ ap (λ (l : List ℕ). slice_set l (at + 1) (48 + x % 10)) (take-set-lt n xs at (48 + x / 10 % 10) (omega arith))

-- a line in front of an array has so many bytes at least
long_front : (r : Reading) (n : ℕ) (xs : List ℕ) → take n xs ≡ item_line r → 20 ≤ n
long_front r n xs e = let l : length (take n xs) ≡ length (item_line r) = ap length e in omega (arith, long r, length-take n xs)

same_hour : (a b : ℕ) → a / 60 ≡ b / 60 → a % 86_400 / 3600 ≡ b % 86_400 / 3600
same_hour a b e = omega arith

same_minute : (a b : ℕ) → a / 60 ≡ b / 60 → a % 3600 / 60 ≡ b % 3600 / 60
same_minute a b e = omega arith

-- what is known of an item and of another one of its day: the number of each, and that of neither day nor offset differs
pub record SameDay (r s : Reading) (was now : ℕ) (o p : Offset) : Type 0 where
  pub was_is : was ≡ r.second
  pub now_is : now ≡ s.second
  pub day : now / 86_400 ≡ was / 86_400
  pub before_is : o ≡ r.offset
  pub after_is : p ≡ s.offset
  pub offset : false ≡ not (int_eq p.seconds o.seconds)

settled : (b : Bool) → false ≡ not b → b ≡ true
settled true e = refl
settled false e = absurd (cc)

day_same : (r s : Reading) (was now : ℕ) (o p : Offset) → SameDay r s was now o p → r.second / 86_400 ≡ s.second / 86_400
day_same r s was now o p k =
    ap (λ (n : ℕ). n / 86_400) (sym k.was_is) ∙ (sym k.day ∙ ap (λ (n : ℕ). n / 86_400) k.now_is)

offset_same : (r s : Reading) (was now : ℕ) (o p : Offset) → SameDay r s was now o p → r.offset.seconds ≡ s.offset.seconds
offset_same r s was now o p k =
    ap (λ (x : Offset). x.seconds) (sym k.before_is)
    ∙ (sym ((Decides-int_eq p.seconds o.seconds).0 (settled (int_eq p.seconds o.seconds) k.offset)) ∙ ap (λ (x : Offset). x.seconds) k.after_is)

-- within a minute the line differs in its seconds
pub same_but_second : (r s : Reading) (was now : ℕ) (o p : Offset) (n : ℕ) (xs ys : List ℕ) → SameDay r s was now o p → now / 60 ≡ was / 60
    → take n xs ≡ item_line r → ys ≡ with_two_digits xs 17 (now % 60) → take n ys ≡ item_line s
same_but_second r s was now o p n xs ys k minute kept put =
    let few : 18 < n = omega (arith, long_front r n xs kept) in
    let same : r.second / 60 ≡ s.second / 60
    = ap (λ (n : ℕ). n / 60) (sym k.was_is) ∙ (sym minute ∙ ap (λ (n : ℕ). n / 60) k.now_is) in
    ap (take n) put ∙ (put_in_front n xs 17 (now % 60) few ∙ (ap (λ (l : List ℕ). with_two_digits l 17 (now % 60)) (kept ∙ line_is r)
    ∙ (second_put _ _ _ _ (now % 60) _
    ∙ rw (line_is s, k.now_is, day_same r s was now o p k, same_hour r.second s.second same, same_minute r.second s.second same, offset_same r s was now o p k)
    refl)))

-- within a day it differs in its time
pub same_but_time : (r s : Reading) (was now : ℕ) (o p : Offset) (n : ℕ) (xs ys zs vs : List ℕ) → SameDay r s was now o p → take n xs ≡ item_line r
    → ys ≡ with_two_digits xs 11 (now % 86_400 / 3600) → zs ≡ with_two_digits ys 14 (now % 3600 / 60) → vs ≡ with_two_digits zs 17 (now % 60)
    → take n vs ≡ item_line s
same_but_time r s was now o p n xs ys zs vs k kept hour minute second =
    let few : 18 < n = omega (arith, long_front r n xs kept) in
    let with_hour = ap (take n) hour ∙ (put_in_front n xs 11 (now % 86_400 / 3600) (omega arith)
    ∙ (ap (λ (l : List ℕ). with_two_digits l 11 (now % 86_400 / 3600)) (kept ∙ line_is r) ∙ hour_put _ _ _ _ (now % 86_400 / 3600) _)) in
    let with_minute = ap (take n) minute ∙ (put_in_front n ys 14 (now % 3600 / 60) (omega arith)
    ∙ (ap (λ (l : List ℕ). with_two_digits l 14 (now % 3600 / 60)) with_hour ∙ minute_put _ _ _ _ (now % 3600 / 60) _)) in
    ap (take n) second ∙ (put_in_front n zs 17 (now % 60) few ∙ (ap (λ (l : List ℕ). with_two_digits l 17 (now % 60)) with_minute
    ∙ (second_put _ _ _ _ (now % 60) _ ∙ rw (line_is s, k.now_is, day_same r s was now o p k, offset_same r s was now o p k) refl)))
