-- No time lies in a span before it begins or after its end.
use Rattle.std.proofs.Common.{◌≡◌, ℕ, ◌+◌, ◌-◌, ◌<◌, ◌≤◌, ◌⊎◌, false, ◌&&◌, List, inl, inr, refl, sym, ap, ◌∙◌, nat_lt, arith}
use Rattle.std.proofs.lemmas.Bool.{cases_lt, le-leb, le-ltb, lt-leb}
use Rattle.cron_counting.specs.declared.span.Span.{Span}
use Rattle.cron_counting.specs.declared.times.Times.{Times}
use Rattle.cron_counting.specs.Inner.Times.{fits_any, fits_in, is_within}
use Rattle.cron_counting.specs.Inner.Totals.{ones, total}
use Rattle.cron_counting.proofs.TotalLemmas.{total-split, total-zero}

within-none : (span : Span) (t : ℕ) → (t < span.first) ⊎ (span.end ≤ t) → is_within span t ≡ false
within-none span t (inl before) = ap (λ b. b && nat_lt t span.end) (lt-leb span.first t before)
within-none span t (inr behind) = elim (cases_lt t span.first) [
  | inl before ↦ ap (λ b. b && nat_lt t span.end) (lt-leb span.first t before)
  | inr from ↦ rw (le-leb span.first t from, le-ltb t span.end behind) refl
]

module _ (xs : List Times) (span : Span) where
  none-at : (t : ℕ) → (t < span.first) ⊎ (span.end ≤ t) → ones (fits_in xs span t) ≡ 0
  none-at t out = ap (λ b. ones (b && fits_any xs t)) (within-none span t out)

  pub none-before : (n : ℕ) → n ≤ span.first → 0 ≡ total (λ t. ones (fits_in xs span t)) n
  none-before n low = sym (total-zero (λ t. ones (fits_in xs span t)) n (λ t less. none-at t (inl (omega (arith, less, low)))))

  -- up to a number from which on there are none
  pub none-behind : (n count : ℕ) → n ≤ 86_400 → (n < 86_400 → span.end ≤ n) → count ≡ total (λ t. ones (fits_in xs span t)) n
      → count ≡ total (λ t. ones (fits_in xs span t)) 86_400
  none-behind n count early high counted = elim (cases_lt n 86_400) [
    | inl less ↦ ended (high less)
    | inr past ↦ (let e : n ≡ 86_400 = omega (arith, past, early) in counted ∙ ap (λ k. total (λ t. ones (fits_in xs span t)) k) e)
  ]
    where
      ended : span.end ≤ n → count ≡ total (λ t. ones (fits_in xs span t)) 86_400
      ended end =
          let e : n + (86_400 - n) ≡ 86_400 = omega (arith, early) in
          let split = total-split (λ t. ones (fits_in xs span t)) n (86_400 - n) in
          let rest = total-zero (λ t. ones (fits_in xs span (n + t))) (86_400 - n) (λ t less. none-at (n + t) (inr (omega (arith, end)))) in
          let whole : total (λ t. ones (fits_in xs span t)) (n + (86_400 - n)) ≡ count = omega (arith, split, rest, counted) in
          sym (rw e at whole)
