-- Numbers and their quotients in the two directions.
use Rattle.std.proofs.Common.{◌≡◌, ℕ, ◌+◌, ◌*◌, ◌/◌, ◌%◌, ◌<◌, ◌≤◌, ℤ, pos, ◌⊎◌, inl, inr, refl, arith}
use Rattle.std.proofs.lemmas.Bool.{cases_lt}
use Rattle.std.proofs.lemmas.Nat.{div-add-mod', mul-le}
use Rattle.jiff_core.proofs.SignedLemmas.{signed_arith}
use Rattle.cron_units.specs.declared.way.Way.{Way}
use Rattle.cron_units.specs.declared.way.Way.TheVariants.{Ahead, Back}
use Rattle.cron_units.specs.Nearest.{LiesFrom, Precedes}
use Rattle.cron_time.specs.Search.Inner.Numbers.{beyond}

-- k comes before n, is n, or lies beyond it
pub data Side (way : Way) (n k : ℕ) : Type 0 where
  before : Precedes way k n → Side way n k
  same : k ≡ n → Side way n k
  after : LiesFrom way (beyond way n) k → Precedes way n k → Side way n k

pub side : (way : Way) (n k : ℕ) → Side way n k
side Ahead n k =
    elim (cases_lt k n) [
      | inl lt ↦ before lt
      | inr ge ↦ elim (cases_lt n k) [ inl gt ↦ after (omega (arith, signed_arith)) gt | inr le ↦ same (omega arith) ]
    ]
side Back n k =
    elim (cases_lt n k) [
      | inl lt ↦ before lt
      | inr ge ↦ elim (cases_lt k n) [ inl gt ↦ after (omega (arith, signed_arith)) gt | inr le ↦ same (omega arith) ]
    ]

pub lies_self : (way : Way) (n : ℕ) → LiesFrom way (pos n) n
lies_self Ahead n = omega (arith, signed_arith)
lies_self Back n = omega (arith, signed_arith)

-- what comes before lies not from there
pub lies_not_before : (way : Way) (n k : ℕ) → LiesFrom way (pos n) k → Precedes way k n → {P : Type 0} → P
lies_not_before Ahead n k lies lt = absurd (omega (arith, signed_arith))
lies_not_before Back n k lies lt = absurd (omega (arith, signed_arith))

pub lies_or_before : (way : Way) (n k : ℕ) → LiesFrom way (pos n) k ⊎ Precedes way k n
lies_or_before Ahead n k = elim (cases_lt k n) [ inl lt ↦ inr lt | inr ge ↦ inl (omega (arith, signed_arith)) ]
lies_or_before Back n k = elim (cases_lt n k) [ inl lt ↦ inr lt | inr ge ↦ inl (omega (arith, signed_arith)) ]

pub lies_past : (way : Way) (start : ℤ) (n k : ℕ) → LiesFrom way start n → LiesFrom way (beyond way n) k → LiesFrom way start k
lies_past Ahead start n k h g = omega (arith, signed_arith)
lies_past Back start n k h g = omega (arith, signed_arith)

pub precedes_along : (way : Way) (j k n : ℕ) → Precedes way j k → Precedes way k n → Precedes way j n
precedes_along Ahead j k n h g = omega arith
precedes_along Back j k n h g = omega arith

-- past a number that lies from n comes what n precedes
pub later : (way : Way) (n m k : ℕ) → LiesFrom way (pos n) m → LiesFrom way (beyond way m) k → Precedes way n k
later Ahead n m k h g = omega (arith, signed_arith)
later Back n m k h g = omega (arith, signed_arith)

pub lies_after : (way : Way) (n k : ℕ) → Precedes way n k → LiesFrom way (pos n) k
lies_after Ahead n k h = omega (arith, signed_arith)
lies_after Back n k h = omega (arith, signed_arith)

pub beyond_after : (way : Way) (n k : ℕ) → Precedes way n k → LiesFrom way (beyond way n) k
beyond_after Ahead n k h = omega (arith, signed_arith)
beyond_after Back n k h = omega (arith, signed_arith)

pub after_beyond : (way : Way) (n k : ℕ) → LiesFrom way (beyond way n) k → Precedes way n k
after_beyond Ahead n k h = omega (arith, signed_arith)
after_beyond Back n k h = omega (arith, signed_arith)

pub div_mono : (w a b : ℕ) → 0 < w → a ≤ b → a / w ≤ b / w
div_mono w a b h le =
    elim (cases_lt (b / w) (a / w)) [
      | inl lt ↦ let more = mul-le (b / w + 1) w (a / w) w (omega arith) (omega arith) in
          absurd (omega (arith, div-add-mod' a w, div-add-mod' b w, more))
      | inr ge ↦ ge
    ]

-- the blocks of w numbers lie as the numbers do
pub lies_div : (way : Way) (w from n : ℕ) → 0 < w → LiesFrom way (pos from) n → LiesFrom way (pos (from / w)) (n / w)
lies_div Ahead w from n h lies =
    let le : from ≤ n = omega (arith, signed_arith) in
    omega (arith, signed_arith, div_mono w from n h le)
lies_div Back w from n h lies =
    let le : n ≤ from = omega (arith, signed_arith) in
    omega (arith, signed_arith, div_mono w n from h le)

-- within one block the rests lie as the numbers do
pub lies_mod : (way : Way) (w from n : ℕ) → n / w ≡ from / w → LiesFrom way (pos from) n → LiesFrom way (pos (from % w)) (n % w)
lies_mod Ahead w from n eq lies =
    let e : n / w * w ≡ from / w * w = rw eq refl in omega (arith, signed_arith, div-add-mod' from w, div-add-mod' n w, e)
lies_mod Back w from n eq lies =
    let e : n / w * w ≡ from / w * w = rw eq refl in omega (arith, signed_arith, div-add-mod' from w, div-add-mod' n w, e)

-- nothing lies between a number and the next one
pub not_between : (way : Way) (n next k : ℕ) → pos next ≡ beyond way n → LiesFrom way (beyond way n) k → Precedes way k next → ⊥
not_between Ahead n next k e lies early = omega (arith, signed_arith, e)
not_between Back n next k e lies early = omega (arith, signed_arith, e)

pub lies_next : (way : Way) (n next : ℕ) → pos next ≡ beyond way n → LiesFrom way (beyond way n) next
lies_next Ahead n next e = omega (arith, signed_arith, e)
lies_next Back n next e = omega (arith, signed_arith, e)
