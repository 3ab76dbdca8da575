-- The windows that are listed, and their rows one after another.
use Rattle.std.proofs.Common.{◌≡◌, ℕ, zero, suc, ℤ, pos, ◌+ℤ◌, ◌-ℤ◌, ◌≤ℤ◌, ◌<ℤ◌, Bool, true, false, cond, List, [], ◌∷◌, ◌++◌, sym, ap, ◌∙◌, subst, append_assoc, arith}
use Rattle.std.specs.Prelude.{filter}
use Rattle.std.specs.Bool.{beq}
use Rattle.std.proofs.lemmas.Int.{ints, by_lt_z}
use Rattle.jiff_tz.specs.declared.timezone.TimeZone.{TimeZone}
use Rattle.cron_stretches.specs.Fires.{IsInstant}
use Rattle.cron_stretches.specs.Stretches.{put_before, seconds_from, stretches, stretches_between}
use Rattle.cron_stretches.specs.declared.stretch.Stretch.{Stretch}
use Rattle.cron_stretches.proofs.StretchLemmas.{seconds_from-is, seconds_from-none}
use Rattle.cron_windows.specs.Windows.{windows_between}
use Rattle.cron_replies.specs.declared.form.Form.{Form}
use Rattle.cron_window_answers.specs.Rows.{row, rows}

-- ---- they lie between the two seconds

-- the stretches lie between two seconds
abbrev AreWithin : ℤ → ℤ → List (Stretch Bool) → Type 0
AreWithin from to [] = Unit {0}
AreWithin from to (s ∷ l) = (from ≤ℤ s.first) × (s.first ≤ℤ s.end) × (s.end ≤ℤ to) × AreWithin from to l

-- instants begin and end the stretches
abbrev pub AreInstants : List (Stretch Bool) → Type 0
AreInstants [] = Unit {0}
AreInstants (s ∷ l) = IsInstant s.first × IsInstant s.end × AreInstants l

wider : (from to : ℤ) (l : List (Stretch Bool)) → AreWithin (from +ℤ pos 1) to l → AreWithin from to l
wider from to [] h = tt
wider from to (s ∷ l) (low, some, high, more) = (omega (arith, ints), some, high, wider from to l more)

put-within : (from to : ℤ) (v : Bool) (l : List (Stretch Bool)) → from <ℤ to → AreWithin (from +ℤ pos 1) to l → AreWithin from to (put_before beq from v l)
put-within from to v [] less h = (omega (arith, ints), omega (arith, ints), omega (arith, ints), tt)
put-within from to v (s ∷ l) less (low, some, high, more) = by_test (beq v s.value)
  where
    by_test : (b : Bool)
        → AreWithin from to (cond b (record { first = from; end = s.end; value = v } ∷ l) (record { first = from; end = from +ℤ pos 1; value = v } ∷ s ∷ l))
    by_test true = (omega (arith, ints), omega (arith, ints), high, wider from to l more)
    by_test false =
        (omega (arith, ints), omega (arith, ints), omega (arith, ints), (omega (arith, ints), some, high, wider from to l more))

all-within : (test : ℤ → Bool) (k : ℕ) (from to : ℤ) → to ≡ from +ℤ pos k → AreWithin from to (stretches beq test from k)
unfolding stretches
all-within test zero from to is = tt
all-within test (suc k) from to is =
    put-within from to (test from) (stretches beq test (from +ℤ pos 1) k) (omega (arith, ints))
    (all-within test k (from +ℤ pos 1) to (omega (arith, ints)))

kept-instants : (from to : ℤ) (l : List (Stretch Bool)) → IsInstant from → IsInstant to → AreWithin from to l → AreInstants (filter (λ s. s.value) l)
kept-instants from to [] low high h = tt
kept-instants from to (s ∷ l) low high (first, some, end, more) =
    kept (omega (arith, ints)) (omega (arith, ints)) (kept-instants from to l low high more) s.value
  where
    kept : IsInstant s.first → IsInstant s.end → AreInstants (filter (λ s. s.value) l) → (b : Bool)
        → AreInstants (cond b (s ∷ filter (λ s. s.value) l) (filter (λ s. s.value) l))
    kept one other rest true = (one, other, rest)
    kept one other rest false = rest

pub windows-instants : (test : ℤ → Bool) (from to : ℤ) → IsInstant from → IsInstant to → AreInstants (windows_between test from to)
unfolding stretches
windows-instants test from to low high =
    by_lt_z from to
    (λ less. let is : to ≡ from +ℤ pos (seconds_from (to -ℤ from)) = ends less in
    kept-instants from to (stretches_between beq test from to) low high (all-within test (seconds_from (to -ℤ from)) from to is))
    (λ le. subst (λ (k : ℕ). AreInstants (filter (λ s. s.value) (stretches beq test from k))) (sym (seconds_from-none (to -ℤ from) (omega (arith, ints)))) tt)
  where
    ends : from <ℤ to → to ≡ from +ℤ pos (seconds_from (to -ℤ from))
    ends less = let whole = seconds_from-is (to -ℤ from) (omega (arith, ints)) in omega (arith, ints)

-- ---- their rows

pub one_more : (form : Form) (z : TimeZone) (all sent line : List ℕ) (left rest : List (Stretch Bool)) (w : Stretch Bool)
    → all ≡ sent ++ rows form z left → left ≡ w ∷ rest → line ≡ row form z w → all ≡ (sent ++ line) ++ rows form z rest
one_more form z all sent line left rest w e cut is =
    e ∙ ap (λ (l : List (Stretch Bool)). sent ++ rows form z l) cut
    ∙ ap (λ (l : List ℕ). sent ++ (l ++ rows form z rest)) (sym is)
    ∙ sym (append_assoc sent line (rows form z rest))

pub more-instants : (left rest : List (Stretch Bool)) (w : Stretch Bool) → left ≡ w ∷ rest → AreInstants left → IsInstant w.first × IsInstant w.end × AreInstants rest
more-instants left rest w cut h = subst AreInstants cut h
