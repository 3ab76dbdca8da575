-- The fires of a day, one civil second after another.
use Rattle.std.proofs.Common.{◌≡◌, ℕ, zero, suc, ◌+◌, ◌<◌, ◌≤◌, ◌⊎◌, Bool, true, false, ◌&&◌, cond, List, [], ◌∷◌, ◌++◌, length, Some, inl, inr, refl, sym, ap, ◌∙◌, append_assoc, append-nil, nat_le, nat_lt, arith}
use Rattle.std.specs.Prelude.{filter, map, replicate, slice_get, take}
use Rattle.std.specs.Ordering.{int_eq}
use Rattle.std.proofs.lemmas.Bool.{cases_lt, le-leb, le-ltb, lt-leb, lt-ltb}
use Rattle.std.proofs.lemmas.List.{map-append, take-append-le}
use Rattle.std.proofs.lemmas.List.Elements.{filter-append}
use Rattle.jiff_tz.specs.Zone.{ambiguous_at}
use Rattle.jiff_tz.specs.declared.ambiguous.AmbiguousOffset.{AmbiguousOffset}
use Rattle.jiff_tz.specs.declared.ambiguous.AmbiguousOffset.TheVariants.{Unambiguous, Gap, Fold}
use Rattle.jiff_tz.specs.declared.timezone.TimeZone.{TimeZone}
use Rattle.cron_moments.specs.Civil.{civil, seconds_in_range}
use Rattle.cron_moments.specs.Readings.{Reading, reading, readings, readings_by}
use Rattle.cron_time.specs.Seconds.{Seconds, items_below, numbers_below, timeline}
use Rattle.cron_time.proofs.JoinedLemmas.{flat_map-filter, joined, joined-suc, joined-zero}
use Rattle.cron_time.proofs.ListLemmas.{filter-all, filter-none}
use Rattle.cron_time.proofs.PlaceLemmas.{nothing_in_nil}
use Rattle.cron_time.proofs.TimelineLemmas.{readings-second}
use Rattle.cron_counting.specs.Counts.{is_in}

-- ---- the civil seconds of the readings of one

second_if : (b : Bool) (c : ℕ) (x y : Reading) → x.second ≡ c → y.second ≡ c
    → map (λ (r : Reading). r.second) (cond b (x ∷ []) (x ∷ y ∷ [])) ≡ replicate (length (cond b (x ∷ []) (x ∷ y ∷ []))) c
second_if true c x y e g = ap (λ n. n ∷ []) e
second_if false c x y e g = rw (e, g) refl

second_by : (c : ℕ) (a : AmbiguousOffset) → map (λ (r : Reading). r.second) (readings_by c a) ≡ replicate (length (readings_by c a)) c
second_by c (Unambiguous o) = refl
second_by c (Gap b a) = refl
second_by c (Fold b a) = second_if (int_eq b.seconds a.seconds) c (reading c b) (reading c a) refl refl

seconds-of : (z : TimeZone) (c : ℕ) → map (λ (r : Reading). r.second) (readings z c) ≡ replicate (length (readings z c)) c
unfolding readings
seconds-of z c = second_by c (ambiguous_at z (civil c))

module _ (s : Seconds) (z : TimeZone) where
  abbrev at : ℕ → List Reading
  at c = cond (s c) (readings z c) []

  timeline-joined : timeline s z ≡ joined at seconds_in_range
  unfolding timeline items_below
  timeline-joined = flat_map-filter (readings z) s (numbers_below seconds_in_range)

  own_if : (b : Bool) (c i : ℕ) (r : Reading) → slice_get (cond b (readings z c) []) i ≡ Some r → r.second ≡ c
  own_if true c i r e = readings-second z c i r e
  own_if false c i r e = absurd (nothing_in_nil i r e)

  all_at : (a b c : ℕ) → a ≤ c → c < b → filter (is_in a b) (at c) ≡ at c
  all_at a b c low high =
      filter-all (is_in a b) (at c)
      (λ r there. ap (λ n. nat_le a n && nat_lt n b) (own_if (s c) c there.0 r there.1) ∙ (rw (le-leb a c low, lt-ltb c b high) refl))

  none_at : (a b c : ℕ) → (c < a) ⊎ (b ≤ c) → filter (is_in a b) (at c) ≡ []
  none_at a b c out =
      filter-none (is_in a b) (at c) (λ r there. ap (λ n. nat_le a n && nat_lt n b) (own_if (s c) c there.0 r there.1) ∙ outside out)
    where
      outside : (c < a) ⊎ (b ≤ c) → (nat_le a c && nat_lt c b) ≡ false
      outside (inl before) = ap (λ v. v && nat_lt c b) (lt-leb a c before)
      outside (inr behind) = elim (cases_lt c a) [
        | inl before ↦ ap (λ v. v && nat_lt c b) (lt-leb a c before)
        | inr from ↦ rw (le-leb a c from, le-ltb c b behind) refl
      ]

  abbrev below : ℕ → ℕ → ℕ → List Reading
  below a b n = filter (is_in a b) (joined at n)

  below-suc : (a b n : ℕ) → below a b (suc n) ≡ below a b n ++ filter (is_in a b) (at n)
  below-suc a b n = ap (filter (is_in a b)) (joined-suc at n) ∙ filter-append (is_in a b) (joined at n) (at n)

  none-below : (a b n : ℕ) → ((c : ℕ) → c < n → a ≤ c → c < b → s c ≡ false) → below a b n ≡ []
  none-below a b zero none = ap (filter (is_in a b)) (joined-zero at)
  none-below a b (suc n) none =
      below-suc a b n ∙ (ap (λ l. l ++ filter (is_in a b) (at n)) (none-below a b n (λ c less. none c (omega arith))) ∙ last)
    where
      last : filter (is_in a b) (at n) ≡ []
      last = elim (cases_lt n a) [
        | inl before ↦ none_at a b n (inl before)
        | inr from ↦ elim (cases_lt n b) [
          | inl less ↦ ap (λ v. filter (is_in a b) (cond v (readings z n) [])) (none n (omega arith) from less)
          | inr past ↦ none_at a b n (inr past)
        ]
      ]

  first-below : (a b m n : ℕ) → m < n → a ≤ m → m < b → ((c : ℕ) → a ≤ c → c < m → s c ≡ false) → below a b n ≡ at m ++ below (m + 1) b n
  first-below a b m zero less low high none = absurd (omega arith)
  first-below a b m (suc n) less low high none = elim (cases_lt m n) [
    | inl before ↦
        below-suc a b n
        ∙ (ap (λ l. l ++ filter (is_in a b) (at n)) (first-below a b m n before low high none)
        ∙ (append_assoc (at m) (below (m + 1) b n) (filter (is_in a b) (at n))
        ∙ ap (λ l. at m ++ l) (ap (λ l. below (m + 1) b n ++ l) (alike before) ∙ sym (below-suc (m + 1) b n))))
    | inr from ↦
        let here : n ≡ m = omega arith in
        let before : below a b n ≡ [] = none-below a b n (λ c l f h. none c f (omega arith)) in
        let behind : below (m + 1) b n ≡ [] = none-below (m + 1) b n (λ c l f h. absurd (omega arith)) in
        below-suc a b n
        ∙ (ap (λ l. l ++ filter (is_in a b) (at n)) before
        ∙ (all_at a b n (omega arith) (omega arith)
        ∙ (ap at here
        ∙ (sym (append-nil (at m))
        ∙ ap (λ l. at m ++ l) (sym (below-suc (m + 1) b n ∙ (ap (λ l. l ++ filter (is_in (m + 1) b) (at n)) behind ∙ none_at (m + 1) b n (inl (omega arith)))))))))
  ]
    where
      alike : m < n → filter (is_in a b) (at n) ≡ filter (is_in (m + 1) b) (at n)
      alike before = elim (cases_lt n b) [
        | inl inside ↦ all_at a b n (omega arith) inside ∙ sym (all_at (m + 1) b n (omega arith) inside)
        | inr past ↦ none_at a b n (inr past) ∙ sym (none_at (m + 1) b n (inr past))
      ]

  abbrev pub seconds_in : ℕ → ℕ → List ℕ
  seconds_in a b = map (λ (r : Reading). r.second) (filter (is_in a b) (timeline s z))

  of_below : (a b : ℕ) → filter (is_in a b) (timeline s z) ≡ below a b seconds_in_range
  of_below a b = ap (filter (is_in a b)) timeline-joined

  -- no civil second of the set is left
  pub none-left : (a b : ℕ) → ((c : ℕ) → a ≤ c → c < b → c < seconds_in_range → s c ≡ false) → seconds_in a b ≡ []
  none-left a b none = ap (map (λ (r : Reading). r.second)) (of_below a b ∙ none-below a b seconds_in_range (λ c l f h. none c f h l))

  -- the next civil second of the set, and those behind it
  pub next-left : (a b m : ℕ) → m < seconds_in_range → a ≤ m → m < b → s m ≡ true → ((c : ℕ) → a ≤ c → c < m → s c ≡ false)
      → seconds_in a b ≡ replicate (length (readings z m)) m ++ seconds_in (m + 1) b
  next-left a b m range low high has none =
      ap (map (λ (r : Reading). r.second)) (of_below a b ∙ (first-below a b m seconds_in_range range low high none
      ∙ (ap (λ l. l ++ below (m + 1) b seconds_in_range) (ap (λ v. cond v (readings z m) []) has) ∙ ap (λ l. readings z m ++ l) (sym (of_below (m + 1) b)))))
      ∙ (map-append (λ (r : Reading). r.second) (readings z m) (filter (is_in (m + 1) b) (timeline s z)) ∙ ap (λ l. l ++ seconds_in (m + 1) b) (seconds-of z m))

  -- the readings of the next civil second follow those before it
  pub times-more : (a b from m n : ℕ) (old new : List ℕ) → m < seconds_in_range → from ≤ m → m < b → s m ≡ true
      → ((c : ℕ) → from ≤ c → c < m → s c ≡ false) → n ≡ length (readings z m) → seconds_in a b ≡ old ++ seconds_in from b
      → new ≡ old ++ replicate n m → seconds_in a b ≡ new ++ seconds_in (m + 1) b
  times-more a b from m n old new range low high has none count before is =
      before
      ∙ (ap (λ l. old ++ l) (next-left from b m range low high has none)
      ∙ (ap (λ k. old ++ (replicate k m ++ seconds_in (m + 1) b)) (sym count)
      ∙ (sym (append_assoc old (replicate n m) (seconds_in (m + 1) b)) ∙ ap (λ l. l ++ seconds_in (m + 1) b) (sym is))))

  -- the first of them are the first of all
  pub times-enough : (a b from most : ℕ) (old new : List ℕ) → most ≤ length old → seconds_in a b ≡ old ++ seconds_in from b → new ≡ take most old
      → new ≡ take most (seconds_in a b)
  times-enough a b from most old new enough before is =
      is ∙ (sym (take-append-le most old (seconds_in from b) enough) ∙ ap (take most) (sym before))

  pub times-all : (a b from most : ℕ) (old new : List ℕ) → ((c : ℕ) → from ≤ c → c < b → c < seconds_in_range → s c ≡ false)
      → seconds_in a b ≡ old ++ seconds_in from b → new ≡ take most old → new ≡ take most (seconds_in a b)
  times-all a b from most old new none before is =
      is ∙ ap (take most) (sym (before ∙ (ap (λ l. old ++ l) (none-left from b none) ∙ append-nil old)))
