-- The order of items by instants, and what it has to do with the order of civil seconds at one offset.
use Rattle.std.proofs.Common.{◌≡◌, ℕ, ◌<◌, ◌≤◌, ℤ, pos, ◌+ℤ◌, ◌-ℤ◌, ◌≤ℤ◌, ◌<ℤ◌, Bool, true, false, cond, int_lt, ◌⊎◌, inl, inr, refl, sym, arith}
use Rattle.std.proofs.lemmas.Bool.{cases_lt}
use Rattle.std.proofs.lemmas.Int.{ints}
use Rattle.jiff_core.proofs.SignedLemmas.{signed_arith}
use Rattle.cron_units.specs.declared.way.Way.{Way}
use Rattle.cron_units.specs.declared.way.Way.TheVariants.{Ahead, Back}
use Rattle.cron_units.specs.Nearest.{LiesFrom, Precedes}
use Rattle.cron_moments.specs.Readings.{Reading, instant}
use Rattle.cron_instants.specs.Order.{comes_before, is_earlier}
use Rattle.cron_instants.specs.Beyond.{beyond, is_nearer, entry_of}

-- an instant and a civil second come before others
abbrev pub Before : ℤ → ℕ → ℤ → ℕ → Type 0
Before i c j d = (i <ℤ j) ⊎ ((i ≡ j) × (c < d))

pub before-true : (i : ℤ) (c : ℕ) (j : ℤ) (d : ℕ) → comes_before i c j d ≡ true → Before i c j d
before-true i c j d h = grind (arith, ints)

pub before-less : (i : ℤ) (c : ℕ) (j : ℤ) (d : ℕ) → i <ℤ j → comes_before i c j d ≡ true
before-less i c j d h = grind (arith, ints)

pub before-shared : (i : ℤ) (c : ℕ) (j : ℤ) (d : ℕ) → i ≡ j → c < d → comes_before i c j d ≡ true
before-shared i c j d e h = grind (arith, ints)

pub before-false : (i : ℤ) (c : ℕ) (j : ℤ) (d : ℕ) → comes_before i c j d ≡ false → (j <ℤ i) ⊎ ((i ≡ j) × (d ≤ c))
before-false i c j d h = grind (arith, ints)

pub before-not_less : (i : ℤ) (c : ℕ) (j : ℤ) (d : ℕ) → j <ℤ i → comes_before i c j d ≡ false
before-not_less i c j d h = grind (arith, ints)

pub before-not_shared : (i : ℤ) (c : ℕ) (j : ℤ) (d : ℕ) → i ≡ j → d ≤ c → comes_before i c j d ≡ false
before-not_shared i c j d e h = grind (arith, ints)

pub before-up_to : (i : ℤ) (c : ℕ) (j : ℤ) (d : ℕ) → i ≤ℤ j → c < d → comes_before i c j d ≡ true
before-up_to i c j d le h = grind (arith, ints)

-- the order has no gaps: what isn't before b, where b isn't before c, isn't before c
through : (i j k : ℤ) (c d e : ℕ) → comes_before i c j d ≡ false → comes_before j d k e ≡ false → comes_before i c k e ≡ false
through i j k c d e h g =
    elim (before-false i c j d h) [
      | inl more ↦ elim (before-false j d k e g) [
        | inl again ↦ before-not_less i c k e (omega (arith, signed_arith))
        | inr same ↦ let equal = same.0 in before-not_less i c k e (omega (arith, signed_arith))
      ]
      | inr same ↦ let equal = same.0 in let less = same.1 in elim (before-false j d k e g) [
        | inl again ↦ before-not_less i c k e (omega (arith, signed_arith))
        | inr more ↦ let shared = more.0 in let low = more.1 in before-not_shared i c k e (omega (arith, signed_arith)) (omega arith)
      ]
    ]

not_back : (i j : ℤ) (c d : ℕ) → comes_before i c j d ≡ true → comes_before j d i c ≡ false
not_back i j c d h =
    elim (before-true i c j d h) [
      | inl less ↦ before-not_less j d i c less
      | inr same ↦ let equal = same.0 in let less = same.1 in before-not_shared j d i c (omega (arith, signed_arith)) (omega arith)
    ]

-- and it is passed on
pub before-through : (i j k : ℤ) (c d e : ℕ) → comes_before i c j d ≡ true → comes_before j d k e ≡ true → comes_before i c k e ≡ true
before-through i j k c d e h g = by_test (comes_before i c k e) refl
  where
    by_test : (t : Bool) → comes_before i c k e ≡ t → t ≡ true
    by_test true is = refl
    by_test false is = let back = through i k j c e d is (not_back j k d e g) in cc

pub nearer-through : (way : Way) (a b c : Reading) → is_nearer way a b ≡ false → is_nearer way b c ≡ false → is_nearer way a c ≡ false
nearer-through Ahead a b c h g = through (instant a) (instant b) (instant c) a.second b.second c.second h g
nearer-through Back a b c h g = through (instant c) (instant b) (instant a) c.second b.second a.second g h

pub nearer-not_back : (way : Way) (a b : Reading) → is_nearer way a b ≡ true → is_nearer way b a ≡ false
nearer-not_back Ahead a b h = not_back (instant a) (instant b) a.second b.second h
nearer-not_back Back a b h = not_back (instant b) (instant a) b.second a.second h

-- ---- at one offset

entry_ahead : (b : Bool) (c : ℕ) (x z : ℤ) → int_lt (pos c) x ≡ b → cond b x (x +ℤ pos 1) ≤ℤ z → (x <ℤ z) ⊎ ((z ≡ x) × (pos c <ℤ z))
entry_ahead true c x z is h = grind (arith, ints)
entry_ahead false c x z is h = inl (omega (arith, signed_arith))

ahead_entry : (b : Bool) (c : ℕ) (x z : ℤ) → int_lt (pos c) x ≡ b → (x <ℤ z) ⊎ ((z ≡ x) × (pos c <ℤ z)) → cond b x (x +ℤ pos 1) ≤ℤ z
ahead_entry true c x z is (inl less) = omega (arith, signed_arith)
ahead_entry true c x z is (inr same) = let equal = same.0 in omega (arith, signed_arith)
ahead_entry false c x z is (inl less) = omega (arith, signed_arith)
ahead_entry false c x z is (inr same) = let equal = same.0 in let more = same.1 in grind (arith, ints)

entry_back : (b : Bool) (c : ℕ) (x z : ℤ) → int_lt x (pos c) ≡ b → z ≤ℤ cond b x (x -ℤ pos 1) → (z <ℤ x) ⊎ ((z ≡ x) × (z <ℤ pos c))
entry_back true c x z is h = grind (arith, ints)
entry_back false c x z is h = inl (omega (arith, signed_arith))

back_entry : (b : Bool) (c : ℕ) (x z : ℤ) → int_lt x (pos c) ≡ b → (z <ℤ x) ⊎ ((z ≡ x) × (z <ℤ pos c)) → z ≤ℤ cond b x (x -ℤ pos 1)
back_entry true c x z is (inl less) = omega (arith, signed_arith)
back_entry true c x z is (inr same) = let equal = same.0 in omega (arith, signed_arith)
back_entry false c x z is (inl less) = omega (arith, signed_arith)
back_entry false c x z is (inr same) = let equal = same.0 in let more = same.1 in grind (arith, ints)

-- a reading lies beyond an instant and a civil second exactly from the entry of its offset on
pub past_entry : (way : Way) (i : ℤ) (c : ℕ) (r : Reading) → beyond way i c r ≡ true → LiesFrom way (entry_of way i c r.offset.seconds) r.second
past_entry Ahead i c r h =
    ahead_entry (int_lt (pos c) (i +ℤ r.offset.seconds)) c (i +ℤ r.offset.seconds) (pos r.second) refl
    (elim (before-true i c (instant r) r.second h) [
      | inl less ↦ inl (omega (arith, signed_arith))
      | inr same ↦ let equal = same.0 in let less = same.1 in inr (omega (arith, signed_arith), omega (arith, signed_arith))
    ])
past_entry Back i c r h =
    back_entry (int_lt (i +ℤ r.offset.seconds) (pos c)) c (i +ℤ r.offset.seconds) (pos r.second) refl
    (elim (before-true (instant r) r.second i c h) [
      | inl less ↦ inl (omega (arith, signed_arith))
      | inr same ↦ let equal = same.0 in let less = same.1 in inr (omega (arith, signed_arith), omega (arith, signed_arith))
    ])

pub entry_past : (way : Way) (i : ℤ) (c : ℕ) (r : Reading) → LiesFrom way (entry_of way i c r.offset.seconds) r.second → beyond way i c r ≡ true
entry_past Ahead i c r h =
    elim (entry_ahead (int_lt (pos c) (i +ℤ r.offset.seconds)) c (i +ℤ r.offset.seconds) (pos r.second) refl h) [
      | inl less ↦ before-less i c (instant r) r.second (omega (arith, signed_arith))
      | inr same ↦ let equal = same.0 in let less = same.1 in before-shared i c (instant r) r.second (omega (arith, signed_arith)) (omega (arith, signed_arith))
    ]
entry_past Back i c r h =
    elim (entry_back (int_lt (i +ℤ r.offset.seconds) (pos c)) c (i +ℤ r.offset.seconds) (pos r.second) refl h) [
      | inl less ↦ before-less (instant r) r.second i c (omega (arith, signed_arith))
      | inr same ↦ let equal = same.0 in let less = same.1 in before-shared (instant r) r.second i c (omega (arith, signed_arith)) (omega (arith, signed_arith))
    ]

before_by : (r b : Reading) → r.offset.seconds ≡ b.offset.seconds → (r.second < b.second → ⊥) → is_earlier r b ≡ false
before_by r b same late =
    elim (cases_lt b.second r.second) [
      | inl less ↦ before-not_less (instant r) r.second (instant b) b.second (omega (arith, signed_arith))
      | inr low ↦ elim (cases_lt r.second b.second) [
        | inl less ↦ absurd (late less)
        | inr high ↦ before-not_shared (instant r) r.second (instant b) b.second (omega (arith, signed_arith)) high
      ]
    ]

-- at one offset the order is that of civil seconds
pub not_nearer : (way : Way) (r b : Reading) → r.offset.seconds ≡ b.offset.seconds → (Precedes way r.second b.second → ⊥) → is_nearer way r b ≡ false
not_nearer Ahead r b same late = before_by r b same late
not_nearer Back r b same late = before_by b r (sym same) late
