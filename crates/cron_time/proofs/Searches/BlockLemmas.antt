-- A search through blocks of w numbers each: a test of the blocks, and one of the numbers in a block.
use Rattle.std.proofs.Common.{◌≡◌, ℕ, ◌+◌, ◌*◌, ◌/◌, ◌%◌, ◌<◌, ℤ, pos, Bool, true, false, ◌&&◌, Option, Some, None, ◌⊎◌, inl, inr, refl, sym, subst, ◌∙◌, arith}
use Rattle.std.proofs.lemmas.Bool.{and_from, and_left, and_right}
use Rattle.std.proofs.lemmas.Nat.{div-add-mod', mul-le}
use Rattle.std.proofs.Math.Nat.{div-eq_of_lt-le}
use Rattle.jiff_core.proofs.SignedLemmas.{signed_arith}
use Rattle.cron_units.specs.declared.way.Way.{Way}
use Rattle.cron_units.specs.declared.way.Way.TheVariants.{Ahead, Back}
use Rattle.cron_units.specs.Nearest.{LiesFrom, Precedes, IsNearest, IsNearestAt}
use Rattle.cron_time.specs.Search.Inner.Numbers.{beyond}
use Rattle.cron_time.specs.Search.Inner.Blocks.{IsSplit, Enters, AllFail, IsExtreme, Reaches, ReachesIfAny}
use Rattle.cron_time.proofs.Searches.WayLemmas.{side, before, same, after, lies_not_before, lies_past, lies_div, lies_mod}

pub div_of : (w m r : ℕ) → r < w → (m * w + r) / w ≡ m
div_of w m r h = div-eq_of_lt-le w (omega arith) (omega arith)

pub mod_of : (w m r : ℕ) → r < w → (m * w + r) % w ≡ r
mod_of w m r h = let q = div_of w m r h in
    let e : (m * w + r) / w * w ≡ m * w = rw q refl in omega (arith, div-add-mod' (m * w + r) w, e)

-- the blocks of the numbers that lie from the start lie from the first one
abbrev pub BlocksLieFrom : Way → ℕ → ℤ → ℤ → Type 0
BlocksLieFrom way w start first = (n : ℕ) → LiesFrom way start n → LiesFrom way first (n / w)

-- the first block that passes
pub reach_first : (way : Way) (w : ℕ) (outer test : ℕ → Bool) (start first : ℤ) (m : ℕ) → ((n : ℕ) → outer (n / w) ≡ false → test n ≡ false)
    → BlocksLieFrom way w start first → IsNearestAt way outer first m → Reaches way w outer test start first m
reach_first way w outer test start first m fails starts h = record {
  block = h.passes;
  lies = h.lies;
  failed = λ n lies before_m. fails n (h.nearest (n / w) (starts n lies) before_m);
}

pub reach_none : (way : Way) (w : ℕ) (outer test : ℕ → Bool) (start first : ℤ) → ((n : ℕ) → outer (n / w) ≡ false → test n ≡ false)
    → BlocksLieFrom way w start first → AllFail way outer first → AllFail way test start
reach_none way w outer test start first fails starts h n lies = fails n (h (n / w) (starts n lies))

-- nothing in the block m passes
abbrev pub BlockFails : Way → ℕ → (ℕ → Bool) → ℤ → ℕ → Type 0
BlockFails way w test start m = (n : ℕ) → LiesFrom way start n → n / w ≡ m → test n ≡ false

pub block_fails : (way : Way) (w : ℕ) (outer : ℕ → Bool) (inner : ℕ → ℕ → Bool) (test : ℕ → Bool) (start : ℤ) (m s : ℕ) → IsSplit w outer inner test
    → Enters way w start m s → AllFail way (inner m) (pos s) → BlockFails way w test start m
block_fails way w outer inner test start m s split enters h n lies e =
    let P : ℕ → Type 0 = λ b. inner b (n % w) ≡ false in
    split.rest_fails n (subst P (sym e) (h (n % w) (enters.into n lies e)))

-- the next block that passes
pub reach_next : (way : Way) (w : ℕ) (outer test : ℕ → Bool) (start first : ℤ) (m next : ℕ) → ((n : ℕ) → outer (n / w) ≡ false → test n ≡ false)
    → Reaches way w outer test start first m → BlockFails way w test start m → IsNearestAt way outer (beyond way m) next
    → Reaches way w outer test start first next
reach_next way w outer test start first m next fails reached here h = record {
  block = h.passes;
  lies = lies_past way first m next reached.lies h.lies;
  failed = λ n lies before_next. elim (side way m (n / w)) [
    | before lt ↦ reached.failed n lies lt
    | same e ↦ here n lies e
    | after past gt ↦ fails n (h.nearest (n / w) past before_next)
  ];
}

pub reach_end : (way : Way) (w : ℕ) (outer test : ℕ → Bool) (start first : ℤ) (m : ℕ) → ((n : ℕ) → outer (n / w) ≡ false → test n ≡ false)
    → Reaches way w outer test start first m → BlockFails way w test start m → AllFail way outer (beyond way m) → AllFail way test start
reach_end way w outer test start first m fails reached here h n lies =
    elim (side way m (n / w)) [
      | before lt ↦ reached.failed n lies lt
      | same e ↦ here n lies e
      | after past gt ↦ fails n (h (n / w) past)
    ]

-- what precedes a number of the block m lies in a block before, or before it in the block
pub precedes_split : (way : Way) (w m r n : ℕ) → r < w → Precedes way n (m * w + r) → Precedes way (n / w) m ⊎ ((n / w ≡ m) × Precedes way (n % w) r)
precedes_split Ahead w m r n h lt =
    elim (side Ahead m (n / w)) [
      | before b ↦ inl b
      | same e ↦ let q : n / w * w ≡ m * w = rw e refl in inr (e, omega (arith, div-add-mod' n w, q))
      | after past gt ↦ let more = mul-le (m + 1) w (n / w) w (omega arith) (omega arith) in absurd (omega (arith, div-add-mod' n w, more))
    ]
precedes_split Back w m r n h gt =
    elim (side Back m (n / w)) [
      | before b ↦ inl b
      | same e ↦ let q : n / w * w ≡ m * w = rw e refl in inr (e, omega (arith, div-add-mod' n w, q))
      | after past lt ↦ let more = mul-le (n / w + 1) w m w (omega arith) (omega arith) in absurd (omega (arith, div-add-mod' n w, more))
    ]

-- what the search of the block m finds is the nearest number of all
pub block_found : (way : Way) (w : ℕ) (outer : ℕ → Bool) (inner : ℕ → ℕ → Bool) (test : ℕ → Bool) (start first : ℤ) (m s r : ℕ)
    → IsSplit w outer inner test → Reaches way w outer test start first m → Enters way w start m s → r < w → IsNearestAt way (inner m) (pos s) r
    → IsNearestAt way test start (m * w + r)
block_found way w outer inner test start first m s r split reached enters h found = record {
  passes = split.passes m r h reached.block found.passes;
  lies = enters.out r h found.lies;
  nearest = λ n lies lt. elim (precedes_split way w m r n h lt) [
    | inl b ↦ reached.failed n lies b
    | inr (e, b) ↦ let P : ℕ → Type 0 = λ k. inner k (n % w) ≡ false in
        split.rest_fails n (subst P (sym e) (found.nearest (n % w) (enters.into n lies e) b))
  ];
}

first_out : (way : Way) (w m r k : ℕ) → LiesFrom way (pos r) k → LiesFrom way (pos (m * w + r)) (m * w + k)
first_out Ahead w m r k lies = omega (arith, signed_arith)
first_out Back w m r k lies = omega (arith, signed_arith)

-- the block that the start lies in is entered at the start's rest
pub enters_first : (way : Way) (w m r : ℕ) → r < w → Enters way w (pos (m * w + r)) m r
enters_first way w m r h = record {
  into = λ n lies e. let P : ℕ → Type 0 = λ k. LiesFrom way (pos k) (n % w) in
      subst P (mod_of w m r h) (lies_mod way w (m * w + r) n (rw (div_of w m r h) e) lies);
  out = λ k lt lies. first_out way w m r k lies;
}

later_out : (way : Way) (w a b m k : ℕ) → b < w → k < w → Precedes way a m → LiesFrom way (pos (a * w + b)) (m * w + k)
later_out Ahead w a b m k h lt more =
    let le = mul-le (a + 1) w m w (omega arith) (omega arith) in omega (arith, signed_arith, le)
later_out Back w a b m k h lt less =
    let le = mul-le (m + 1) w a w (omega arith) (omega arith) in omega (arith, signed_arith, le)

pub enters_later : (way : Way) (w a b m s : ℕ) → 0 < w → b < w → Precedes way a m → IsExtreme way w s → Enters way w (pos (a * w + b)) m s
enters_later way w a b m s positive h past extreme = record {
  into = λ n lies e. extreme (n % w) (omega arith);
  out = λ k lt lies. later_out way w a b m k h lt past;
}

-- the blocks of the numbers from a start lie from the start's block
pub starts_at : (way : Way) (w a b : ℕ) → 0 < w → b < w → BlocksLieFrom way w (pos (a * w + b)) (pos a)
starts_at way w a b positive h n lies =
    let P : ℕ → Type 0 = λ k. LiesFrom way (pos k) (n / w) in
    subst P (div_of w a b h) (lies_div way w (a * w + b) n positive lies)

-- a block that lies from the start's is that block or comes later
pub first_or_later : (way : Way) (a m : ℕ) → LiesFrom way (pos a) m → (m ≡ a) ⊎ Precedes way a m
first_or_later way a m lies =
    elim (side way a m) [
      | before lt ↦ lies_not_before way a m lies lt
      | same e ↦ inl e
      | after past gt ↦ inr gt
    ]

-- a test that is true where the block's and the rest's tests are
pub both_split : (w : ℕ) (outer : ℕ → Bool) (inner : ℕ → ℕ → Bool) (test : ℕ → Bool) → ((n : ℕ) → test n ≡ (outer (n / w) && inner (n / w) (n % w)))
    → IsSplit w outer inner test
both_split w outer inner test e = record {
  block_fails = λ n h. e n ∙ and_left (outer (n / w)) (inner (n / w) (n % w)) h;
  rest_fails = λ n h. e n ∙ and_right (outer (n / w)) (inner (n / w) (n % w)) h;
  passes = λ m r h o i. e (m * w + r) ∙ rw (div_of w m r h, mod_of w m r h) (and_from (outer m) (inner m r) o i);
}

-- so does what a search for blocks answers
pub reach_start : (way : Way) (w : ℕ) (outer test : ℕ → Bool) (start first : ℤ) (next : Option ℕ) → ((n : ℕ) → outer (n / w) ≡ false → test n ≡ false)
    → BlocksLieFrom way w start first → IsNearest way outer first next → ReachesIfAny way w outer test start first next
reach_start way w outer test start first None fails starts h = reach_none way w outer test start first fails starts h
reach_start way w outer test start first (Some m) fails starts h = reach_first way w outer test start first m fails starts h

pub reach_on : (way : Way) (w : ℕ) (outer test : ℕ → Bool) (start first : ℤ) (m : ℕ) (next : Option ℕ)
    → ((n : ℕ) → outer (n / w) ≡ false → test n ≡ false) → Reaches way w outer test start first m → BlockFails way w test start m
    → IsNearest way outer (beyond way m) next → ReachesIfAny way w outer test start first next
reach_on way w outer test start first m None fails reached here h = reach_end way w outer test start first m fails reached here h
reach_on way w outer test start first m (Some next) fails reached here h = reach_next way w outer test start first m next fails reached here h

-- blocks of one number each
pub one_each : (n : ℕ) → n / 1 ≡ n
one_each n = omega arith

pub starts_each : (way : Way) (start : ℤ) → BlocksLieFrom way 1 start start
starts_each way start n lies = let P : ℕ → Type 0 = LiesFrom way start in subst P (sym (one_each n)) lies

pub fails_each : (outer test : ℕ → Bool) → ((n : ℕ) → outer n ≡ false → test n ≡ false) → (n : ℕ) → outer (n / 1) ≡ false → test n ≡ false
fails_each outer test h n e = let P : ℕ → Type 0 = λ k. outer k ≡ false in h n (subst P (one_each n) e)

pub block_each : (way : Way) (test : ℕ → Bool) (start : ℤ) (m : ℕ) → test m ≡ false → BlockFails way 1 test start m
block_each way test start m h n lies e =
    let same_m : n ≡ m = omega arith in let P : ℕ → Type 0 = λ k. test k ≡ false in subst P (sym same_m) h

pub found_each : (way : Way) (outer test : ℕ → Bool) (start : ℤ) (m : ℕ) → Reaches way 1 outer test start start m → test m ≡ true → IsNearestAt way test start m
found_each way outer test start m reached h = record {
  passes = h;
  lies = reached.lies;
  nearest = λ k lies early. let P : ℕ → Type 0 = λ j. Precedes way j m in reached.failed k lies (subst P (sym (one_each k)) early);
}
