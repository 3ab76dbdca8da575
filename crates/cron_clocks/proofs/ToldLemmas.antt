-- The look-ups agree where each civil second is told just those offsets that a clock shows at their instants.
use Rattle.std.proofs.Common.{◌≡◌, ℕ, zero, suc, ◌<◌, ℤ, pos, ◌+ℤ◌, ◌-ℤ◌, true, false, cond, List, [], ◌∷◌, Some, ◌⊎◌, inl, inr, refl, sym, ap, ◌∙◌, arith}
use Rattle.std.specs.Prelude.{slice_get}
use Rattle.std.specs.Ordering.{int_eq}
use Rattle.std.proofs.lemmas.Int.{ints}
use Rattle.jiff_core.proofs.SignedLemmas.{signed_arith}
use Rattle.jiff_core.specs.declared.Offset.{Offset}
use Rattle.jiff_tz.specs.declared.ambiguous.AmbiguousOffset.{AmbiguousOffset}
use Rattle.jiff_tz.specs.declared.ambiguous.AmbiguousOffset.TheVariants.{Unambiguous, Gap, Fold}
use Rattle.jiff_tz.specs.declared.timezone.TimeZone.{TimeZone}
use Rattle.jiff_tz.specs.Zone.{ambiguous_at}
use Rattle.cron_moments.specs.Civil.{civil, seconds_in_range}
use Rattle.cron_moments.specs.Readings.{Reading, reading, readings, readings_by, instant}
use Rattle.cron_clocks.specs.Clocks.{LookupsAgree, HasInstant, shown_offset}

-- the offsets that are told are those that pass
abbrev pub IsTold : (ℤ → Type 0) → AmbiguousOffset → Type 0
IsTold passes (Unambiguous o) = passes o.seconds × ((x : ℤ) → passes x → x ≡ o.seconds)
IsTold passes (Gap before after) = (x : ℤ) → ¬ (passes x)
IsTold passes (Fold before after) =
    passes before.seconds × passes after.seconds × ((x : ℤ) → passes x → (x ≡ before.seconds) ⊎ (x ≡ after.seconds))

-- so many seconds before c a clock in the zone is so many seconds ahead of UTC
abbrev pub Holds : TimeZone → ℕ → ℤ → Type 0
Holds z c x = shown_offset z (pos c -ℤ x) ≡ x

-- a reading of c whose offset passes
record Passes (passes : ℤ → Type 0) (c : ℕ) (r : Reading) : Type 0 where
  second : r.second ≡ c
  offset : passes r.offset.seconds

nothing_in_nil : {A : Type 0} (i : ℕ) (x : A) → slice_get [] i ≡ Some x → ⊥
nothing_in_nil zero x e = cc
nothing_in_nil (suc i) x e = cc

module _ (passes : ℤ → Type 0) (c : ℕ) where
  one_passes : (o : Offset) (i : ℕ) (r : Reading) → passes o.seconds → slice_get (reading c o ∷ []) i ≡ Some r → Passes passes c r
  one_passes o zero r h e = let same : reading c o ≡ r = cc in rw (← same) (record { second = refl; offset = h })
  one_passes o (suc i) r h e = absurd (nothing_in_nil i r e)

  two_pass : (o p : Offset) (i : ℕ) (r : Reading) → passes o.seconds → passes p.seconds → slice_get (reading c o ∷ reading c p ∷ []) i ≡ Some r
      → Passes passes c r
  two_pass o p zero r h k e = let same : reading c o ≡ r = cc in rw (← same) (record { second = refl; offset = h })
  two_pass o p (suc i) r h k e = one_passes p i r k e

  told_passes : (a : AmbiguousOffset) (i : ℕ) (r : Reading) → IsTold passes a → slice_get (readings_by c a) i ≡ Some r → Passes passes c r
  told_passes (Unambiguous o) i r told e = one_passes o i r told.0 e
  told_passes (Gap before after) i r told e = absurd (nothing_in_nil i r e)
  told_passes (Fold before after) i r told e =
      elim (int_eq before.seconds after.seconds) as (λ same. slice_get (cond same (reading c before ∷ []) (reading c before ∷ reading c after ∷ [])) i ≡ Some r
      → Passes passes c r) [
        | true ↦ λ k. one_passes before i r told.0 k
        | false ↦ λ k. two_pass before after i r told.0 told.1 k
      ] e

  first_has : (o : Offset) (rs : List Reading) (x : ℤ) → x ≡ o.seconds → HasInstant (reading c o ∷ rs) (pos c -ℤ x)
  first_has o rs x e = record { place = 0; at_place = reading c o; here = refl; is = ap (λ s. pos c -ℤ s) (sym e) }

  second_has : (p o : Offset) (x : ℤ) → x ≡ o.seconds → HasInstant (reading c p ∷ reading c o ∷ []) (pos c -ℤ x)
  second_has p o x e = record { place = 1; at_place = reading c o; here = refl; is = ap (λ s. pos c -ℤ s) (sym e) }

  equal_offsets : (a b : ℤ) → int_eq a b ≡ true → a ≡ b
  equal_offsets a b e = grind (arith, ints)

  fold_has : (before after : Offset) (x : ℤ) → (x ≡ before.seconds) ⊎ (x ≡ after.seconds) → HasInstant (readings_by c (Fold before after)) (pos c -ℤ x)
  fold_has before after x which =
      elim (int_eq before.seconds after.seconds) as (λ same. int_eq before.seconds after.seconds ≡ same
      → HasInstant (cond same (reading c before ∷ []) (reading c before ∷ reading c after ∷ [])) (pos c -ℤ x)) [
        | true ↦ λ e. first_has before [] x (same_as_before e which)
        | false ↦ λ e. has_either which
      ] refl
    where
      same_as_before : int_eq before.seconds after.seconds ≡ true → (x ≡ before.seconds) ⊎ (x ≡ after.seconds) → x ≡ before.seconds
      same_as_before e (inl is) = is
      same_as_before e (inr is) = is ∙ sym (equal_offsets before.seconds after.seconds e)

      has_either : (x ≡ before.seconds) ⊎ (x ≡ after.seconds) → HasInstant (reading c before ∷ reading c after ∷ []) (pos c -ℤ x)
      has_either (inl is) = first_has before (reading c after ∷ []) x is
      has_either (inr is) = second_has before after x is

  told_has : (a : AmbiguousOffset) (x : ℤ) → IsTold passes a → passes x → HasInstant (readings_by c a) (pos c -ℤ x)
  told_has (Unambiguous o) x told h = first_has o [] x (told.1 x h)
  told_has (Gap before after) x told h = absurd (told x h)
  told_has (Fold before after) x told h = fold_has before after x (told.2 x h)

module _ (z : TimeZone) (told : (c : ℕ) → c < seconds_in_range → IsTold (Holds z c) (ambiguous_at z (civil c))) where
  reading_shown : (c i : ℕ) (r : Reading) → c < seconds_in_range → slice_get (readings z c) i ≡ Some r → shown_offset z (instant r) ≡ r.offset.seconds
  unfolding readings
  reading_shown c i r h e =
      let p = told_passes (Holds z c) c (ambiguous_at z (civil c)) i r (told c h) e in
      ap (λ k. shown_offset z (pos k -ℤ r.offset.seconds)) p.second ∙ p.offset

  read_where_shown : (c : ℕ) (n : ℤ) → c < seconds_in_range → n +ℤ shown_offset z n ≡ pos c → HasInstant (readings z c) n
  unfolding readings
  read_where_shown c n h e =
      let back : pos c -ℤ shown_offset z n ≡ n = omega (arith, signed_arith) in
      rw back at (told_has (Holds z c) c (ambiguous_at z (civil c)) (shown_offset z n) (told c h) (ap (shown_offset z) back))

  pub agree_where_told : LookupsAgree z
  agree_where_told = record { readings_shown = reading_shown; shown_read = read_where_shown }
