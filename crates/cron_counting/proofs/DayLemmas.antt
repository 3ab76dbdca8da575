-- The readings of a day's times, a stretch of the zone after another.
use Rattle.std.proofs.Common.{◌≡◌, ℕ, ◌+◌, ◌*◌, ◌<◌, ◌≤◌, Bool, true, false, ◌&&◌, cond, List, [], ◌∷◌, length, inl, inr, refl, sym, ap, ◌∙◌, nat_le, nat_lt, arith}
use Rattle.std.specs.Ordering.{int_eq}
use Rattle.std.proofs.lemmas.Bool.{cases_lt, le-leb, le-ltb, lt-leb, lt-ltb}
use Rattle.jiff_tz.specs.Zone.{ambiguous_at}
use Rattle.jiff_tz.specs.declared.timezone.TimeZone.{TimeZone}
use Rattle.jiff_tz.specs.declared.ambiguous.AmbiguousOffset.{AmbiguousOffset}
use Rattle.jiff_tz.specs.declared.ambiguous.AmbiguousOffset.TheVariants.{Unambiguous, Gap, Fold}
use Rattle.cron_clocks.specs.Steady.{IsKnown, readings_at}
use Rattle.cron_clocks.specs.declared.stretch.Stretch.{Stretch}
use Rattle.cron_moments.specs.Civil.{civil}
use Rattle.cron_moments.specs.Readings.{Reading, reading, readings, readings_by}
use Rattle.cron_counting.specs.declared.span.Span.{Span}
use Rattle.cron_counting.specs.declared.times.Times.{Times}
use Rattle.cron_counting.specs.Inner.Times.{fits_any, fits_in, readings_in}
use Rattle.cron_counting.specs.Inner.Totals.{ones, only_if, total}
use Rattle.cron_counting.proofs.TotalLemmas.{total-alike, total-both, total-le, total-times, total-zero}

-- ---- a civil second has two readings at most

few_if : (b : Bool) (x y : Reading) → length (cond b (x ∷ []) (x ∷ y ∷ [])) ≤ 2
few_if true x y = omega arith
few_if false x y = omega arith

few_by : (c : ℕ) (a : AmbiguousOffset) → length (readings_by c a) ≤ 2
few_by c (Unambiguous o) = omega arith
few_by c (Gap b a) = omega arith
few_by c (Fold b a) = few_if (int_eq b.seconds a.seconds) (reading c b) (reading c a)

pub readings-few : (z : TimeZone) (c : ℕ) → length (readings z c) ≤ 2
unfolding readings
readings-few z c = few_by c (ambiguous_at z (civil c))

pub if_few : (b : Bool) (n : ℕ) → n ≤ 2 → only_if b n ≤ 2
if_few true n h = h
if_few false n h = omega arith

-- ---- a stretch more

last_part : (fits : Bool) (n k : ℕ) → n ≡ k → only_if fits n ≡ 0 + k * only_if fits 1
last_part true n k e = omega arith
last_part false n k e = omega arith

part-more : (fits : Bool) (n k low at end t : ℕ) → low ≤ at → at ≤ end → (at ≤ t → t < end → n ≡ k)
    → only_if ((nat_le low t && nat_lt t end) && fits) n
    ≡ only_if ((nat_le low t && nat_lt t at) && fits) n + k * only_if ((nat_le at t && nat_lt t end) && fits) 1
part-more fits n k low at end t g h same = elim (cases_lt t low) [
  | inl before ↦ rw (lt-leb low t before, lt-leb at t (omega arith)) (omega arith)
  | inr from ↦ elim (cases_lt t at) [
    | inl less ↦ rw (le-leb low t from, lt-ltb t at less, lt-ltb t end (omega arith), lt-leb at t less) (omega arith)
    | inr past ↦ elim (cases_lt t end) [
      | inl inside ↦ rw (le-leb low t from, le-ltb t at past, lt-ltb t end inside, le-leb at t past) (last_part fits n k (same past inside))
      | inr behind ↦ rw (le-leb low t from, le-ltb t at past, le-ltb t end behind, le-leb at t past) (omega arith)
    ]
  ]
]

module _ (xs : List Times) (z : TimeZone) (day low : ℕ) where
  abbrev up_to : ℕ → Span
  up_to end = record { first = low; end = end }

  pub none-yet : (at : ℕ) → at ≡ low → 0 ≡ total (readings_in xs z day (up_to at)) 86_400
  none-yet at e =
      sym (total-zero (readings_in xs z day (up_to at)) 86_400 (λ t less. outside t))
    where
      outside : (t : ℕ) → readings_in xs z day (up_to at) t ≡ 0
      outside t = elim (cases_lt t low) [
        | inl before ↦ rw (lt-leb low t before) refl
        | inr from ↦ rw (le-leb low t from, le-ltb t at (omega arith)) refl
      ]

  pub stretch-more : (st : Stretch) (at end k n count : ℕ) → IsKnown z st → st.first ≤ day * 86_400 + at → day * 86_400 + end ≤ st.end
      → low ≤ at → at ≤ end → ((c : ℕ) → k ≡ length (readings_at c st.earlier st.later))
      → n ≡ total (λ t. ones (fits_in xs (record { first = at; end = end }) t)) 86_400
      → count ≡ total (readings_in xs z day (up_to at)) 86_400 → count + k * n ≡ total (readings_in xs z day (up_to end)) 86_400
  stretch-more st at end k n count known first last g h size counted before =
      let part = λ (t : ℕ). ones (fits_in xs (record { first = at; end = end }) t) in
      let parts = total-alike (readings_in xs z day (up_to end)) (λ t. readings_in xs z day (up_to at) t + k * part t) 86_400
      (λ t less. part-more (fits_any xs t) (length (readings z (day * 86_400 + t))) k low at end t g h (inside t)) in
      let both = total-both (readings_in xs z day (up_to at)) (λ t. k * part t) 86_400 in
      let scaled : total (λ t. k * part t) 86_400 ≡ k * n = total-times k part 86_400 ∙ ap (λ m. k * m) (sym counted) in
      omega (arith, parts, both, scaled, before)
    where
      inside : (t : ℕ) → at ≤ t → t < end → length (readings z (day * 86_400 + t)) ≡ k
      inside t from less = ap length (known (day * 86_400 + t) (omega arith) (omega arith)) ∙ sym (size (day * 86_400 + t))

  pub readings-within : (span : Span) (count : ℕ) → count ≡ total (readings_in xs z day span) 86_400 → count ≤ 172_800
  readings-within span count e =
      let few = total-le (readings_in xs z day span) 2 86_400
      (λ t less. if_few (fits_in xs span t) (length (readings z (day * 86_400 + t))) (readings-few z (day * 86_400 + t))) in
      omega arith
