-- The hours of a day on which the zone has no transition and at most one schedule fires.
use Rattle.std.proofs.Common.{◌≡◌, ℕ, ◌+◌, ◌*◌, ◌<◌, ◌≤◌, Bool, true, false, ◌&&◌, ◌||◌, List, [], ◌∷◌, ◌++◌, ◌⊎◌, length, inl, inr, refl, sym, ap, ◌∙◌, nat_lt, arith}
use Rattle.std.specs.Prelude.{OnOk, Option, Some, None, Result, Ok, Err, map}
use Rattle.std.specs.List.{range_with_len}
use Rattle.std.proofs.lemmas.Bool.{le-leb, le-ltb, lt-leb, lt-ltb}
use Rattle.jiff_core.specs.declared.Offset.{Offset}
use Rattle.jiff_tz.specs.declared.timezone.TimeZone.{TimeZone}
use Rattle.cron_bits.specs.Words.{has_bit}
use Rattle.cron_clocks.specs.Steady.{IsKnown, readings_at}
use Rattle.cron_clocks.specs.declared.stretch.Stretch.{Stretch}
use Rattle.cron_moments.specs.Readings.{readings}
use Rattle.cron_counting.specs.declared.times.Times.{Times}
use Rattle.cron_counting.specs.Inner.Times.{fits_any, fits_in, has_rest, hour_span, is_within, readings_in}
use Rattle.cron_counting.specs.Inner.Totals.{ones, only_if, total}
use Rattle.cron_counting.proofs.DayLemmas.{none-yet, stretch-more}
use Rattle.cron_counting.proofs.ListLemmas.{map_alike}
use Rattle.cron_counting.proofs.ProductLemmas.{in_parts}
use Rattle.cron_counting.proofs.TimeLemmas.{fits-none}
use Rattle.cron_counting.proofs.TotalLemmas.{total-alike, total-window, total-zero}

or_false : (a : Bool) → (a || false) ≡ a
or_false true = refl
or_false false = refl

and_none : (a b : Bool) → b ≡ false → (a && b) ≡ false
and_none true b e = e
and_none false b e = refl

if_none : (b : Bool) → only_if b 0 ≡ 0
if_none true = refl
if_none false = refl

if_total : (b : Bool) (p : ℕ → Bool) (n : ℕ) → total (λ k. ones (b && p k)) n ≡ only_if b (total (λ k. ones (p k)) n)
if_total true p n = refl
if_total false p n = total-zero (λ k. ones (false && p k)) n (λ k less. refl)

if_times : (b : Bool) (k n : ℕ) → only_if b (k * n) ≡ k * only_if b n
if_times true k n = refl
if_times false k n = omega arith

-- ---- no schedule

pub empty-in : (xs : List Times) → length xs < 1 → xs ≡ []
empty-in [] none = refl
empty-in (x ∷ xs) none = absurd (omega arith)

pub hour-of-none : (xs : List Times) (z : TimeZone) (day hours hour : ℕ) → xs ≡ []
    → only_if (has_bit hours hour) 0 ≡ total (readings_in xs z day (hour_span hour)) 86_400
hour-of-none xs z day hours hour e =
    if_none (has_bit hours hour)
    ∙ sym (total-zero (readings_in xs z day (hour_span hour)) 86_400
    (λ t less. ap (λ b. only_if b (length (readings z (day * 86_400 + t)))) (and_none (is_within (hour_span hour) t) (fits_any xs t) (fits-none xs t e))))

-- ---- one schedule

as_many : (c d : ℕ) (a b : Option Offset) → length (readings_at c a b) ≡ length (readings_at d a b)
as_many c d None b = refl
as_many c d (Some o) None = refl
as_many c d (Some o) (Some p) = refl

module _ (x : Times) (hour : ℕ) where
  timely : ℕ → ℕ
  timely t = ones (fits_in (x ∷ []) (hour_span hour) t)

  outside : (t : ℕ) → (t < hour * 3600) ⊎ (hour * 3600 + 3600 ≤ t) → is_within (hour_span hour) t ≡ false
  outside t (inl before) = ap (λ b. b && nat_lt t (hour * 3600 + 3600)) (lt-leb (hour * 3600) t before)
  outside t (inr behind) = rw (le-leb (hour * 3600) t (omega (arith, behind)), le-ltb t (hour * 3600 + 3600) behind) refl

  inside : (u : ℕ) → u < 3600 → is_within (hour_span hour) (hour * 3600 + u) ≡ true
  inside u less = rw (le-leb (hour * 3600) (hour * 3600 + u) (omega arith), lt-ltb (hour * 3600 + u) (hour * 3600 + 3600) (omega (arith, less))) refl

  fits-rest : (u : ℕ) → u < 3600 → fits_any (x ∷ []) (hour * 3600 + u) ≡ (has_bit x.hours hour && has_rest x u)
  unfolding fits_any
  fits-rest u less = or_false _ ∙ in_parts (has_bit x.hours) (has_bit x.minutes) (has_bit x.seconds) hour u less

  pub hour-of-one : (n : ℕ) → hour < 24 → n ≡ total (λ u. ones (has_rest x u)) 3600
      → only_if (has_bit x.hours hour) n ≡ total (λ t. ones (fits_in (x ∷ []) (hour_span hour) t)) 86_400
  hour-of-one n early counted =
      let whole = total-window (λ t. ones (fits_in (x ∷ []) (hour_span hour) t)) (hour * 3600) 3600 86_400 (omega (arith, early))
      (λ t out. ap (λ b. ones (b && fits_any (x ∷ []) t)) (outside t out)) in
      let part = total-alike (λ u. ones (fits_in (x ∷ []) (hour_span hour) (hour * 3600 + u))) (λ u. ones (has_bit x.hours hour && has_rest x u)) 3600
      (λ u less. ap (λ b. ones (b && fits_any (x ∷ []) (hour * 3600 + u))) (inside u less) ∙ ap ones (fits-rest u less)) in
      ap (λ m. only_if (has_bit x.hours hour) m) counted ∙ sym (whole ∙ (part ∙ if_total (has_bit x.hours hour) (has_rest x) 3600))

pub hour-of-stretch : (xs : List Times) (x : Times) (z : TimeZone) (day hour n : ℕ) (st : Stretch) → xs ≡ x ∷ [] → hour < 24 → IsKnown z st
    → st.first ≤ day * 86_400 → day * 86_400 + 86_400 ≤ st.end
    → ((c : ℕ) → n ≡ length (readings_at c st.earlier st.later) * total (λ u. ones (has_rest x u)) 3600)
    → only_if (has_bit x.hours hour) n ≡ total (readings_in xs z day (hour_span hour)) 86_400
hour-of-stretch xs x z day hour n st e early known low high counted =
    let k = length (readings_at 0 st.earlier st.later) in
    let each = total (λ u. ones (has_rest x u)) 3600 in
    let fits = total (λ t. ones (fits_in xs (hour_span hour) t)) 86_400 in
    let own : only_if (has_bit x.hours hour) each ≡ fits =
    hour-of-one x hour each early refl ∙ ap (λ l. total (λ t. ones (fits_in l (hour_span hour) t)) 86_400) (sym e) in
    let step : 0 + k * fits ≡ total (readings_in xs z day (hour_span hour)) 86_400 =
    stretch-more xs z day (hour * 3600) st (hour * 3600) (hour * 3600 + 3600) k fits 0 known (omega (arith, low)) (omega (arith, high, early)) (omega arith) (omega arith)
    (λ c. as_many 0 c st.earlier st.later) refl (none-yet xs z day (hour * 3600) (hour * 3600) refl) in
    let here : only_if (has_bit x.hours hour) n ≡ k * fits =
    ap (λ m. only_if (has_bit x.hours hour) m) (counted 0) ∙ (if_times (has_bit x.hours hour) k each ∙ ap (λ m. k * m) own) in
    omega (arith, here, step)

-- ---- the hours of the day

pub pushed-alike : {E : Type 0} (r : Result (Unit {0}) E) (f g : ℕ → ℕ) (n : ℕ) (old new : List ℕ) → ((k : ℕ) → k < n → f k ≡ g k)
    → OnOk r (new ≡ old ++ map f (range_with_len 0 n)) → OnOk r (new ≡ old ++ map g (range_with_len 0 n))
pushed-alike (Ok v) f g n old new same is = is ∙ ap (λ l. old ++ l) (map_alike f g 0 0 n (λ k less. ap f (one k) ∙ (same k less ∙ ap g (sym (one k)))))
  where
    one : (k : ℕ) → 0 + k ≡ k
    one k = omega arith
pushed-alike (Err error) f g n old new same is = is
