-- How many items of a timeline lie in a stretch of civil seconds.
use Rattle.std.proofs.Common.{◌≡◌, ℕ, zero, suc, ◌+◌, ◌<◌, ◌≤◌, Bool, true, false, ◌&&◌, cond, List, [], ◌∷◌, ◌++◌, ◌⊎◌, length, Some, inl, inr, refl, sym, ap, ◌∙◌, nat_le, nat_lt, arith, length-append}
use Rattle.std.specs.Prelude.{filter, slice_get}
use Rattle.std.proofs.lemmas.Bool.{cases_lt, le-leb, le-ltb, lt-leb}
use Rattle.jiff_tz.specs.declared.timezone.TimeZone.{TimeZone}
use Rattle.cron_moments.specs.Civil.{seconds_in_range}
use Rattle.cron_moments.specs.Readings.{Reading, readings}
use Rattle.cron_time.specs.Seconds.{Seconds, items_below, numbers_below, timeline}
use Rattle.cron_time.proofs.JoinedLemmas.{flat_map-filter, joined, joined-suc, joined-zero}
use Rattle.cron_time.proofs.ListLemmas.{filter-all, filter-none}
use Rattle.cron_time.proofs.PlaceLemmas.{nothing_in_nil}
use Rattle.cron_time.proofs.TimelineLemmas.{readings-second}
use Rattle.cron_counting.specs.Counts.{is_in, items_in}
use Rattle.cron_counting.specs.Inner.Totals.{only_if, total}
use Rattle.cron_counting.proofs.TotalLemmas.{total-alike, total-none, total-suc, total-window}

-- ---- a filter of joined lists

filter-append : {A : Type 0} (p : A → Bool) (xs ys : List A) → filter p (xs ++ ys) ≡ filter p xs ++ filter p ys
filter-append p [] ys = refl
filter-append p (x ∷ xs) ys =
    elim (p x) as (λ b. cond b (x ∷ filter p (xs ++ ys)) (filter p (xs ++ ys)) ≡ cond b (x ∷ filter p xs) (filter p xs) ++ filter p ys) [
      | true ↦ ap (λ l. x ∷ l) (filter-append p xs ys)
      | false ↦ filter-append p xs ys
    ]

filter-joined : {A : Type 0} (p : A → Bool) (g : ℕ → List A) (n : ℕ) → length (filter p (joined g n)) ≡ total (λ c. length (filter p (g c))) n
filter-joined p g zero = ap (λ l. length (filter p l)) (joined-zero g) ∙ sym (total-none (λ c. length (filter p (g c))))
filter-joined p g (suc n) =
    let whole = ap (λ l. length (filter p l)) (joined-suc g n) in
    let parts = ap length (filter-append p (joined g n) (g n)) ∙ length-append (filter p (joined g n)) (filter p (g n)) in
    let before = filter-joined p g n in
    let more = total-suc (λ c. length (filter p (g c))) n in
    omega (arith, whole, parts, before, more)

-- ---- the items of one civil second

module _ (s : Seconds) (z : TimeZone) where
  abbrev pub items_at : ℕ → List Reading
  items_at c = cond (s c) (readings z c) []

  timeline-joined : timeline s z ≡ joined items_at seconds_in_range
  unfolding timeline items_below
  timeline-joined = flat_map-filter (readings z) s (numbers_below seconds_in_range)

  own_if : (b : Bool) (c i : ℕ) (r : Reading) → slice_get (cond b (readings z c) []) i ≡ Some r → r.second ≡ c
  own_if true c i r e = readings-second z c i r e
  own_if false c i r e = absurd (nothing_in_nil i r e)

  in_at : (first end c : ℕ) (b : Bool) → (nat_le first c && nat_lt c end) ≡ b → length (filter (is_in first end) (items_at c)) ≡ only_if b (length (items_at c))
  in_at first end c true e =
      ap length (filter-all (is_in first end) (items_at c)
      (λ r at. ap (λ n. nat_le first n && nat_lt n end) (own_if (s c) c at.0 r at.1) ∙ e))
  in_at first end c false e =
      ap length (filter-none (is_in first end) (items_at c)
      (λ r at. ap (λ n. nat_le first n && nat_lt n end) (own_if (s c) c at.0 r at.1) ∙ e))

  outside : (first end a b c : ℕ) → a ≤ first → end ≤ b → (c < a) ⊎ (b ≤ c) → (nat_le first c && nat_lt c end) ≡ false
  outside first end a b c low high (inl before) = ap (λ v. v && nat_lt c end) (lt-leb first c (omega arith))
  outside first end a b c low high (inr behind) = elim (cases_lt c first) [
    | inl before ↦ ap (λ v. v && nat_lt c end) (lt-leb first c before)
    | inr from ↦ rw (le-leb first c from, le-ltb c end (omega arith)) refl
  ]

  -- those of a stretch are in a longer one
  pub items_in-total : (first end a size : ℕ) → a ≤ first → end ≤ a + size → a + size ≤ seconds_in_range
      → length (items_in s z first end) ≡ total (λ t. only_if (nat_le first (a + t) && nat_lt (a + t) end) (length (items_at (a + t)))) size
  items_in-total first end a size low high room =
      ap (λ l. length (filter (is_in first end) l)) timeline-joined
      ∙ (filter-joined (is_in first end) items_at seconds_in_range
      ∙ (total-alike (λ c. length (filter (is_in first end) (items_at c))) (λ c. only_if (nat_le first c && nat_lt c end) (length (items_at c))) seconds_in_range
      (λ c less. in_at first end c (nat_le first c && nat_lt c end) refl)
      ∙ total-window (λ c. only_if (nat_le first c && nat_lt c end) (length (items_at c))) a size seconds_in_range room
      (λ c out. ap (λ b. only_if b (length (items_at c))) (outside first end a (a + size) c low high out))))
