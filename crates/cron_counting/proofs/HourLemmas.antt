-- The times of an hour, by second and then by minute.
use Rattle.std.proofs.Common.{◌≡◌, ℕ, zero, suc, ◌+◌, ◌*◌, ◌/◌, ◌%◌, ◌<◌, ◌≤◌, Bool, true, false, ◌&&◌, ◌||◌, cond, List, [], ◌∷◌, length, refl, sym, ap, ◌∙◌, nat_lt, arith}
use Rattle.std.specs.Prelude.{filter}
use Rattle.std.specs.List.{list_any, range_with_len}
use mir.Val.{bool_byte}
use Rattle.std.proofs.lemmas.Bool.{le-leb, lt-ltb, le-ltb}
use Rattle.cron_bits.specs.Words.{count_below, has_bit}
use Rattle.cron_bits.proofs.LongerLemmas.{count_split}
use Rattle.cron_counting.specs.declared.span.Span.{Span}
use Rattle.cron_counting.specs.declared.times.Times.{Times}
use Rattle.cron_counting.specs.Inner.Times.{fits_any, fits_in, has_minute, has_second, is_within}
use Rattle.cron_counting.specs.Inner.Totals.{ones, total}
use Rattle.cron_counting.proofs.TotalLemmas.{total-alike, total-more, total-none, total-rows, total-split, total-zero}

-- ---- bits that are counted

length_if : (b : Bool) (x : ℕ) → length (cond b (x ∷ []) []) ≡ ones b
length_if true x = refl
length_if false x = refl

counted-more : (p : ℕ → Bool) (n k : ℕ) → k ≡ n + 1 → length (filter p (range_with_len 0 n)) ≡ total (λ i. ones (p i)) n
    → length (filter p (range_with_len 0 k)) ≡ total (λ i. ones (p i)) k
counted-more p n k e before =
    let f : 0 + n ≡ n = omega arith in
    let split = count_split p 0 n 1 in
    let last = length_if (p (0 + n)) (0 + n) in
    let more = total-more (λ i. ones (p i)) n in
    let same : ones (p (0 + n)) ≡ ones (p n) = ap (λ i. ones (p i)) f in
    rw e (omega arith)

pub count-total : (p : ℕ → Bool) (n : ℕ) → count_below p n ≡ total (λ k. ones (p k)) n
unfolding count_below
count-total p zero = sym (total-none (λ k. ones (p k)))
count-total p (suc n) = counted-more p n (suc n) (omega arith) (count-total p n)

-- of the bits below 60
pub count-minutes : (p q : ℕ → Bool) → ((k : ℕ) → p k ≡ (nat_lt k 60 && q k)) → count_below p 64 ≡ total (λ k. ones (q k)) 60
count-minutes p q same =
    let split : total (λ k. ones (p k)) 64 ≡ total (λ k. ones (p k)) 60 + total (λ k. ones (p (60 + k))) 4 = total-split (λ k. ones (p k)) 60 4 in
    let inside : (k : ℕ) → k < 60 → p k ≡ q k = λ k less. same k ∙ ap (λ b. b && q k) (lt-ltb k 60 less) in
    let outside : (k : ℕ) → p (60 + k) ≡ false = λ k. same (60 + k) ∙ ap (λ b. b && q (60 + k)) (le-ltb (60 + k) 60 (omega arith)) in
    let low : total (λ k. ones (p k)) 60 ≡ total (λ k. ones (q k)) 60 =
    total-alike (λ k. ones (p k)) (λ k. ones (q k)) 60 (λ k less. ap ones (inside k less)) in
    let none : total (λ k. ones (p (60 + k))) 4 ≡ 0 = total-zero (λ k. ones (p (60 + k))) 4 (λ k less. ap ones (outside k)) in
    let counted = count-total p 64 in
    omega arith

pub byte-ones : (b : Bool) → bool_byte b ≡ ones b
byte-ones true = refl
byte-ones false = refl

pub byte-few : (b : Bool) (n : ℕ) → n ≡ bool_byte b → n ≤ 1
byte-few true n e = omega arith
byte-few false n e = omega arith

-- ---- a time of an hour

module _ (h m s : ℕ) (minute : m < 60) (second : s < 60) where
  hour_of : (h * 3600 + (m * 60 + s)) / 3600 ≡ h
  hour_of = omega arith

  minute_of : (h * 3600 + (m * 60 + s)) % 3600 / 60 ≡ m
  minute_of = omega arith

  second_of : (h * 3600 + (m * 60 + s)) % 60 ≡ s
  second_of = omega arith

  pub fits-at : (xs : List Times) → fits_any xs (h * 3600 + (m * 60 + s)) ≡ list_any (has_minute h m s) xs
  unfolding fits_any
  fits-at xs = rw (hour_of, minute_of, second_of) refl

neither : (a b : Bool) → (a || b) ≡ false → (a ≡ false) × (b ≡ false)
neither true b e = (e, absurd (cc))
neither false b e = (refl, e)

-- without the second there is no minute with it
pub none-with : (h m s : ℕ) (xs : List Times) → list_any (has_second h s) xs ≡ false → list_any (has_minute h m s) xs ≡ false
none-with h m s [] none = refl
none-with h m s (x ∷ xs) none =
    let parts = neither (has_second h s x) (list_any (has_second h s) xs) none in
    ap (λ b. (b && has_bit x.minutes m) || list_any (has_minute h m s) xs) parts.0 ∙ none-with h m s xs parts.1

-- ---- a second of the hour

module _ (xs : List Times) (span : Span) (h s : ℕ) (second : s < 60) where
  all_in : span.first ≤ h * 3600 → h * 3600 + 3600 ≤ span.end → (m : ℕ) → m < 60 → is_within span (h * 3600 + (m * 60 + s)) ≡ true
  all_in low high m less =
      ap (λ b. b && nat_lt (h * 3600 + (m * 60 + s)) span.end) (le-leb span.first (h * 3600 + (m * 60 + s)) (omega arith))
      ∙ lt-ltb (h * 3600 + (m * 60 + s)) span.end (omega arith)

  -- in a whole hour
  pub whole-second : (minutes : ℕ) (low : ℕ → Bool) (count : ℕ) → span.first ≤ h * 3600 → h * 3600 + 3600 ≤ span.end
      → ((m : ℕ) → has_bit minutes m ≡ list_any (has_minute h m s) xs) → ((m : ℕ) → low m ≡ (nat_lt m 60 && has_bit minutes m))
      → count ≡ count_below low 64 → count ≡ total (λ m. ones (fits_in xs span (h * 3600 + (m * 60 + s)))) 60
  whole-second minutes low count from to bits lower e =
      e ∙ (count-minutes low (has_bit minutes) lower
      ∙ total-alike (λ m. ones (has_bit minutes m)) (λ m. ones (fits_in xs span (h * 3600 + (m * 60 + s)))) 60
      (λ m less. ap ones (bits m ∙ (sym (fits-at h m s less second xs)
      ∙ ap (λ b. b && fits_any xs (h * 3600 + (m * 60 + s))) (sym (all_in from to m less))))))

  -- in an hour that the span cuts
  pub cut-second : (minutes : ℕ) (count : ℕ) → ((m : ℕ) → has_bit minutes m ≡ list_any (has_minute h m s) xs)
      → count ≡ total (λ m. ones (is_within span (m * 60 + (h * 3600 + s)) && has_bit minutes m)) 60
      → count ≡ total (λ m. ones (fits_in xs span (h * 3600 + (m * 60 + s)))) 60
  cut-second minutes count bits e =
      e ∙ total-alike (λ m. ones (is_within span (m * 60 + (h * 3600 + s)) && has_bit minutes m)) (λ m. ones (fits_in xs span (h * 3600 + (m * 60 + s)))) 60
      (λ m less. ap ones (ap (λ t. is_within span t && has_bit minutes m) (moved m)
      ∙ ap (λ b. is_within span (h * 3600 + (m * 60 + s)) && b) (bits m ∙ sym (fits-at h m s less second xs))))
    where
      moved : (m : ℕ) → m * 60 + (h * 3600 + s) ≡ h * 3600 + (m * 60 + s)
      moved m = omega arith

  and_none : (a b : Bool) → b ≡ false → (a && b) ≡ false
  and_none true b e = e
  and_none false b e = refl

  -- without the second
  pub no-second : list_any (has_second h s) xs ≡ false → total (λ m. ones (fits_in xs span (h * 3600 + (m * 60 + s)))) 60 ≡ 0
  no-second none =
      total-zero (λ m. ones (fits_in xs span (h * 3600 + (m * 60 + s)))) 60
      (λ m less. ap ones (and_none (is_within span (h * 3600 + (m * 60 + s))) (fits_any xs (h * 3600 + (m * 60 + s)))
      (fits-at h m s less second xs ∙ none-with h m s xs none)))

-- ---- the hour

module _ (xs : List Times) (span : Span) (h : ℕ) where
  pub missed-hour : ((u : ℕ) → u < 3600 → is_within span (h * 3600 + u) ≡ false) → 0 ≡ total (λ u. ones (fits_in xs span (h * 3600 + u))) 3600
  missed-hour none =
      sym (total-zero (λ u. ones (fits_in xs span (h * 3600 + u))) 3600
      (λ u less. ap (λ b. ones (b && fits_any xs (h * 3600 + u))) (none u less)))

  pub by-seconds : (count last : ℕ) → last ≡ 60
      → count ≡ total (λ s. total (λ m. ones (fits_in xs span (h * 3600 + (m * 60 + s)))) 60) last
      → count ≡ total (λ u. ones (fits_in xs span (h * 3600 + u))) 3600
  by-seconds count last e counted =
      counted ∙ (ap (total (λ s. total (λ m. ones (fits_in xs span (h * 3600 + (m * 60 + s)))) 60)) e
      ∙ sym (total-rows (λ u. ones (fits_in xs span (h * 3600 + u))) 60 60))
