-- Counts of days and hours, with some more.
use Rattle.std.proofs.Common.{◌≡◌, ℕ, zero, suc, ◌+◌, ◌-◌, ◌*◌, ◌<◌, ◌≤◌, List, [], ◌∷◌, ◌++◌, length, refl, sym, ap, ◌∙◌, append_assoc, arith}
use Rattle.std.specs.Prelude.{map}
use Rattle.std.specs.List.{range_with_len}
use Rattle.std.proofs.lemmas.List.FromFn.{map-range_with_len_more}
use Rattle.jiff_tz.specs.declared.timezone.TimeZone.{TimeZone}
use Rattle.cron_units.specs.Sets.{Sets}
use Rattle.cron_moments.specs.Civil.{days_in_range}
use Rattle.cron_unions.specs.Unions.{any_of}
use Rattle.cron_counting.specs.declared.span.Span.{Span}
use Rattle.cron_counting.specs.declared.times.Times.{Times}
use Rattle.cron_counting.specs.Counts.{counts_by_day, counts_by_hour, items_in_hour, items_on_day}
use Rattle.cron_counting.specs.Inner.Times.{fits_any, hour_span, readings_in, IsGathered}
use Rattle.cron_counting.specs.Inner.Totals.{total}
use Rattle.cron_counting.proofs.PartLemmas.{part-count}

abbrev whole_day : Span
whole_day = record { first = 0; end = 86_400 }

lent : (ss : List Sets) (day : ℕ) (xs ys : List Times) → ys ≡ xs → IsGathered ss day xs → IsGathered ss day ys
lent ss day xs ys e own t less = ap (λ l. fits_any l t) e ∙ own t less

pub map_alike : (f g : ℕ → ℕ) (a b n : ℕ) → ((k : ℕ) → k < n → f (a + k) ≡ g (b + k)) → map f (range_with_len a n) ≡ map g (range_with_len b n)
map_alike f g a b zero same = refl
map_alike f g a b (suc n) same =
    let first : f a ≡ g b = rw (one a, one b) at (same 0 (omega arith)) in
    let rest : map f (range_with_len (a + 1) n) ≡ map g (range_with_len (b + 1) n) =
    map_alike f g (a + 1) (b + 1) n (λ k less. ap f (next a k) ∙ (same (k + 1) (omega arith) ∙ ap g (sym (next b k)))) in
    rw (first, rest) refl
  where
    one : (i : ℕ) → i + 0 ≡ i
    one i = omega arith

    next : (i k : ℕ) → (i + 1) + k ≡ i + (k + 1)
    next i k = omega arith

map_joined : (f : ℕ → ℕ) (a m n whole behind : ℕ) → whole ≡ m + n → behind ≡ a + m
    → map f (range_with_len a whole) ≡ map f (range_with_len a m) ++ map f (range_with_len behind n)
map_joined f a zero n whole behind e g =
    let one : whole ≡ n = omega arith in
    let other : behind ≡ a = omega arith in
    rw (one, other) refl
map_joined f a (suc m) n whole behind e g =
    let one : whole ≡ suc (m + n) = omega arith in
    rw one (ap (λ l. f a ∷ l) (map_joined f (a + 1) m n (m + n) behind refl (omega arith)))

pub hour-more : (f : ℕ → ℕ) (hour : ℕ) (base old new : List ℕ) (count : ℕ) → old ≡ base ++ map f (range_with_len 0 hour) → count ≡ f hour
    → new ≡ old ++ count ∷ [] → new ≡ base ++ map f (range_with_len 0 (hour + 1))
hour-more f hour base old new count before counted is =
    let here : 0 + hour ≡ hour = omega arith in
    let more = map-range_with_len_more f 0 hour hour here in
    is ∙ (ap (λ l. l ++ count ∷ []) before ∙ (append_assoc base (map f (range_with_len 0 hour)) (count ∷ [])
    ∙ ap (λ l. base ++ l) (ap (λ k. map f (range_with_len 0 hour) ++ k ∷ []) counted ∙ sym more)))

module _ (ss : List Sets) (z : TimeZone) where
  pub day-more : (first day : ℕ) (xs ys : List Times) (old new : List ℕ) (count : ℕ) → first ≤ day → day < days_in_range → ys ≡ xs → IsGathered ss day xs
      → old ≡ counts_by_day (any_of ss) z first (day - first) → count ≡ total (readings_in ys z day whole_day) 86_400 → new ≡ old ++ count ∷ []
      → new ≡ counts_by_day (any_of ss) z first (day + 1 - first)
  day-more first day xs ys old new count low high e own before counted is =
      let n : day + 1 - first ≡ day - first + 1 = omega arith in
      let at : first + (day - first) ≡ day = omega arith in
      let here : count ≡ length (items_on_day (any_of ss) z day) =
      counted ∙ part-count ss ys z day whole_day (day * 86_400) (day * 86_400 + 86_400) high (omega arith) (lent ss day xs ys e own) (omega arith) refl in
      let more = map-range_with_len_more (λ d. length (items_on_day (any_of ss) z d)) first (day - first) day at in
      rw n (is ∙ (ap (λ l. l ++ count ∷ []) before ∙ (ap (λ k. counts_by_day (any_of ss) z first (day - first) ++ k ∷ []) here ∙ sym more)))

  hours_of : (day : ℕ) (xs : List Times) → day < days_in_range → IsGathered ss day xs
      → map (λ hour. total (readings_in xs z day (hour_span hour)) 86_400) (range_with_len 0 24) ≡ counts_by_hour (any_of ss) z (day * 24) 24
  hours_of day xs high own =
      map_alike (λ hour. total (readings_in xs z day (hour_span hour)) 86_400) (λ hour. length (items_in_hour (any_of ss) z hour)) 0 (day * 24) 24
      (λ k less. ap (λ h. total (readings_in xs z day (hour_span h)) 86_400) (same k)
      ∙ part-count ss xs z day (hour_span k) ((day * 24 + k) * 3600) ((day * 24 + k) * 3600 + 3600) high (omega arith) own (omega arith) (omega arith))
    where
      same : (k : ℕ) → 0 + k ≡ k
      same k = omega arith

  pub hours-more : (first day : ℕ) (xs ys : List Times) (old new : List ℕ) → first ≤ day → day < days_in_range → ys ≡ xs → IsGathered ss day xs
      → old ≡ counts_by_hour (any_of ss) z (first * 24) ((day - first) * 24)
      → new ≡ old ++ map (λ hour. total (readings_in ys z day (hour_span hour)) 86_400) (range_with_len 0 24)
      → new ≡ counts_by_hour (any_of ss) z (first * 24) ((day + 1 - first) * 24)
  hours-more first day xs ys old new low high e own before is =
      let joined = map_joined (λ hour. length (items_in_hour (any_of ss) z hour)) (first * 24) ((day - first) * 24) 24 ((day + 1 - first) * 24) (day * 24) (omega arith) (omega arith) in
      is ∙ (ap (λ l. l ++ map (λ hour. total (readings_in ys z day (hour_span hour)) 86_400) (range_with_len 0 24)) before
      ∙ (ap (λ l. counts_by_hour (any_of ss) z (first * 24) ((day - first) * 24) ++ l) (hours_of day ys high (lent ss day xs ys e own)) ∙ sym joined))
