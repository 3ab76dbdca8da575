-- A search through two units, of which the outer one carries into the inner one.
use Rattle.std.proofs.Common.{◌≡◌, ℕ, ◌+◌, ◌*◌, ◌/◌, ◌%◌, ◌<◌, ◌≤◌, ℤ, pos, Bool, true, ◌&&◌, Option, Some, None, inl, inr, refl, subst, arith}
use Rattle.std.proofs.lemmas.Bool.{cases_lt}
use Rattle.std.proofs.Math.Nat.{mul-le-mul_right}
use Rattle.std.proofs.lemmas.Nat.{div-add-mod', mul-add-lt, mul-le}
use Rattle.jiff_core.proofs.SignedLemmas.{signed_arith}
use Rattle.cron_units.specs.declared.way.Way.{Way}
use Rattle.cron_units.specs.declared.way.Way.TheVariants.{Ahead, Back}
use Rattle.cron_units.specs.Nearest.{LiesFrom, Precedes, IsNearest, IsNearestAt}
use Rattle.cron_time.specs.Search.Inner.Blocks.{IsSplit, Enters, AllFail, IsExtreme, Reaches}
use Rattle.cron_time.specs.Search.Inner.Numbers.{beyond, beyond_block}
use Rattle.cron_time.proofs.Searches.BlockLemmas.{BlocksLieFrom, BlockFails, div_of, starts_at, reach_first, reach_none, block_fails, block_found, both_split, precedes_split}
use Rattle.cron_time.proofs.Searches.WayLemmas.{side, before, same, after, after_beyond, div_mono, lies_div, lies_not_before}

-- a number passes exactly if its quotient and its rest do
abbrev pub both : ℕ → (ℕ → Bool) → (ℕ → Bool) → ℕ → Bool
both w outer inner = λ n. outer (n / w) && inner (n % w)

pub both_parts : (w : ℕ) (outer inner : ℕ → Bool) → IsSplit w outer (λ _. inner) (both w outer inner)
both_parts w outer inner = both_split w outer (λ _. inner) (both w outer inner) (λ n. refl)

-- a number in its parts lies within the limits of its parts
pub in_bounds : (least next limit w inner : ℕ) → least ≤ next → next < limit → inner < w
    → (least * w ≤ next * w + inner) × (next * w + inner < limit * w)
in_bounds least next limit w inner low high fits =
    (omega (arith, mul-le-mul_right w low), omega (arith, mul-add-lt next w inner limit high fits))

-- such a search, with the first block that passes and where it is entered
pub record Carried (way : Way) (w : ℕ) (outer inner test : ℕ → Bool) (from m s : ℕ) : Type 0 where
  pub split : IsSplit w outer (λ _. inner) test
  pub positive : 0 < w
  pub first : IsNearestAt way outer (pos (from / w)) m
  pub enters : Enters way w (pos (from / w * w + from % w)) m s

-- the start is made of its block and its rest
pub start_parts : (w from : ℕ) (P : ℤ → Type 0) → P (pos (from / w * w + from % w)) → P (pos from)
start_parts w from P h = let Q : ℕ → Type 0 = λ n. P (pos n) in subst Q (div-add-mod' from w) h

starts : (way : Way) (w from : ℕ) → 0 < w → BlocksLieFrom way w (pos (from / w * w + from % w)) (pos (from / w))
starts way w from positive = starts_at way w (from / w) (from % w) positive (omega arith)

pub carry_none : (way : Way) (w : ℕ) (outer inner test : ℕ → Bool) (from : ℕ) → IsSplit w outer (λ _. inner) test → 0 < w
    → AllFail way outer (pos (from / w)) → AllFail way test (pos from)
carry_none way w outer inner test from split positive none =
    start_parts w from (AllFail way test) (reach_none way w outer test _ _ split.block_fails (starts way w from positive) none)

carry_reached : (way : Way) (w : ℕ) (outer inner test : ℕ → Bool) (from m s : ℕ) → Carried way w outer inner test from m s
    → Reaches way w outer test (pos (from / w * w + from % w)) (pos (from / w)) m
carry_reached way w outer inner test from m s c = reach_first way w outer test _ _ m c.split.block_fails (starts way w from c.positive) c.first

carry_failed : (way : Way) (w : ℕ) (outer inner test : ℕ → Bool) (from m s : ℕ) → Carried way w outer inner test from m s → AllFail way inner (pos s)
    → BlockFails way w test (pos (from / w * w + from % w)) m
carry_failed way w outer inner test from m s c none = block_fails way w outer (λ _. inner) test _ m s c.split c.enters none

pub carry_first : (way : Way) (w : ℕ) (outer inner test : ℕ → Bool) (from m s r : ℕ) → Carried way w outer inner test from m s → r < w
    → IsNearestAt way inner (pos s) r → IsNearestAt way test (pos from) (m * w + r)
carry_first way w outer inner test from m s r c h found =
    start_parts w from (λ start. IsNearestAt way test start (m * w + r))
    (block_found way w outer (λ _. inner) test _ _ m s r c.split (carry_reached way w outer inner test from m s c) c.enters h found)

-- past the block m lie the blocks past m
block_past : (way : Way) (w m : ℕ) → 0 < w → BlocksLieFrom way w (beyond_block way w m) (beyond way m)
block_past Ahead w m positive n lies =
    let P : ℕ → Type 0 = λ k. k ≤ n / w in
    let e : (m + 1) * w + 0 ≡ (m + 1) * w = omega arith in
    let le = div_mono w ((m + 1) * w + 0) n positive (omega (arith, signed_arith, e)) in
    omega (arith, signed_arith, subst P (div_of w (m + 1) 0 positive) le)
block_past Back w m positive n lies =
    elim (cases_lt (n / w) m) [
      | inl lt ↦ omega (arith, signed_arith)
      | inr ge ↦ let more = mul-le m w (n / w) w ge (omega arith) in absurd (omega (arith, signed_arith, div-add-mod' n w, more))
    ]

-- and the numbers of these blocks lie past it
pub past_block : (way : Way) (w m n : ℕ) → 0 < w → Precedes way m (n / w) → LiesFrom way (beyond_block way w m) n
past_block Ahead w m n positive lt =
    let more = mul-le (m + 1) w (n / w) w (omega arith) (omega arith) in omega (arith, signed_arith, div-add-mod' n w, more)
past_block Back w m n positive gt =
    let more = mul-le (n / w + 1) w m w (omega arith) (omega arith) in omega (arith, signed_arith, div-add-mod' n w, more)

-- and they are entered at their extreme
enters_past : (way : Way) (w m next t : ℕ) → 0 < w → LiesFrom way (beyond way m) next → IsExtreme way w t → Enters way w (beyond_block way w m) next t
enters_past way w m next t positive lies extreme = record {
  into = λ n from e. extreme (n % w) (omega arith);
  out = λ k lt inside. past_block way w m (next * w + k) positive (rw (div_of w next k lt) (after_beyond way m next lies));
}

-- no outer number past m
pub past_none : (way : Way) (w : ℕ) (outer inner test : ℕ → Bool) (m : ℕ) → IsSplit w outer (λ _. inner) test → 0 < w → AllFail way outer (beyond way m)
    → AllFail way test (beyond_block way w m)
past_none way w outer inner test m split positive none = reach_none way w outer test _ _ split.block_fails (block_past way w m positive) none

-- no inner number at all
pub past_empty : (way : Way) (w : ℕ) (outer inner test : ℕ → Bool) (start : ℤ) (t : ℕ) → IsSplit w outer (λ _. inner) test → 0 < w → IsExtreme way w t
    → AllFail way inner (pos t) → AllFail way test start
past_empty way w outer inner test start t split positive extreme none n lies =
    split.rest_fails n (none (n % w) (extreme (n % w) (omega arith)))

-- the next outer number with the first inner one
pub past_next : (way : Way) (w : ℕ) (outer inner test : ℕ → Bool) (m next t r : ℕ) → IsSplit w outer (λ _. inner) test → 0 < w
    → IsNearestAt way outer (beyond way m) next → IsExtreme way w t → r < w → IsNearestAt way inner (pos t) r
    → IsNearestAt way test (beyond_block way w m) (next * w + r)
past_next way w outer inner test m next t r split positive found extreme h first =
    let reached = reach_first way w outer test _ _ next split.block_fails (block_past way w m positive) found in
    block_found way w outer (λ _. inner) test _ _ next t r split reached (enters_past way w m next t positive found.lies extreme) h first

lies_past_block : (way : Way) (w a b m x : ℕ) → b < w → LiesFrom way (pos a) m → LiesFrom way (beyond_block way w m) x → LiesFrom way (pos (a * w + b)) x
lies_past_block Ahead w a b m x h lies past =
    let more = mul-le (a + 1) w (m + 1) w (omega (arith, signed_arith)) (omega arith) in omega (arith, signed_arith, more)
lies_past_block Back w a b m x h lies past =
    let more = mul-le m w a w (omega (arith, signed_arith)) (omega arith) in omega (arith, signed_arith, more)

-- where the block m has none from the start on, it is searched for past the block
pub carry_past : (way : Way) (w : ℕ) (outer inner test : ℕ → Bool) (from m s : ℕ) (found : Option ℕ) → Carried way w outer inner test from m s
    → AllFail way inner (pos s) → IsNearest way test (beyond_block way w m) found → IsNearest way test (pos from) found
carry_past way w outer inner test from m s None c none h =
    start_parts w from (AllFail way test) (λ n lies. elim (side way m (n / w)) [
      | before lt ↦ (carry_reached way w outer inner test from m s c).failed n lies lt
      | same e ↦ carry_failed way w outer inner test from m s c none n lies e
      | after past gt ↦ h n (past_block way w m n c.positive gt)
    ])
carry_past way w outer inner test from m s (Some x) c none h =
    start_parts w from (λ start. IsNearestAt way test start x) (record {
      passes = h.passes;
      lies = lies_past_block way w (from / w) (from % w) m x (omega (arith, c.positive)) c.first.lies h.lies;
      nearest = λ n lies early. elim (side way m (n / w)) [
        | before lt ↦ (carry_reached way w outer inner test from m s c).failed n lies lt
        | same e ↦ carry_failed way w outer inner test from m s c none n lies e
        | after past gt ↦ h.nearest n (past_block way w m n c.positive gt) early
      ];
    })

-- ---- past a number whose block passes

beyond_lies : (way : Way) (from n : ℕ) → LiesFrom way (beyond way from) n → LiesFrom way (pos from) n
beyond_lies Ahead from n h = omega (arith, signed_arith)
beyond_lies Back from n h = omega (arith, signed_arith)

-- within its block lie the rests past its rest
rest_beyond : (way : Way) (w from n : ℕ) → LiesFrom way (beyond way from) n → n / w ≡ from / w → LiesFrom way (beyond way (from % w)) (n % w)
rest_beyond Ahead w from n h eq =
    let e : n / w * w ≡ from / w * w = rw eq refl in omega (arith, signed_arith, div-add-mod' from w, div-add-mod' n w, e)
rest_beyond Back w from n h eq =
    let e : n / w * w ≡ from / w * w = rw eq refl in omega (arith, signed_arith, div-add-mod' from w, div-add-mod' n w, e)

beyond_rest : (way : Way) (w from k : ℕ) → LiesFrom way (beyond way (from % w)) k → LiesFrom way (beyond way from) (from / w * w + k)
beyond_rest Ahead w from k h = omega (arith, signed_arith, div-add-mod' from w)
beyond_rest Back w from k h = omega (arith, signed_arith, div-add-mod' from w)

block_beyond : (way : Way) (w from x : ℕ) → 0 < w → LiesFrom way (beyond_block way w (from / w)) x → LiesFrom way (beyond way from) x
block_beyond Ahead w from x positive h =
    let rest : from % w < w = omega arith in omega (arith, signed_arith, div-add-mod' from w, rest)
block_beyond Back w from x positive h = omega (arith, signed_arith, div-add-mod' from w)

-- none of them lies in a block before
no_block_before : (way : Way) (w from n : ℕ) → 0 < w → LiesFrom way (beyond way from) n → Precedes way (n / w) (from / w) → {P : Type 0} → P
no_block_before way w from n positive h early =
    lies_not_before way (from / w) (n / w) (lies_div way w from n positive (beyond_lies way from n h)) early

-- the next one of the block
pub past_in : (way : Way) (w : ℕ) (outer inner : ℕ → Bool) (from k : ℕ) → 0 < w → outer (from / w) ≡ true → k < w
    → IsNearestAt way inner (beyond way (from % w)) k → IsNearestAt way (both w outer inner) (beyond way from) (from / w * w + k)
past_in way w outer inner from k positive block fits found = record {
  passes = (both_parts w outer inner).passes (from / w) k fits block found.passes;
  lies = beyond_rest way w from k found.lies;
  nearest = λ n lies early. elim (precedes_split way w (from / w) k n fits early) [
    | inl b ↦ no_block_before way w from n positive lies b
    | inr (e, b) ↦ (both_parts w outer inner).rest_fails n (found.nearest (n % w) (rest_beyond way w from n lies e) b)
  ];
}

-- or the first one past the block
pub past_out : (way : Way) (w : ℕ) (outer inner : ℕ → Bool) (from : ℕ) (found : Option ℕ) → 0 < w → AllFail way inner (beyond way (from % w))
    → IsNearest way (both w outer inner) (beyond_block way w (from / w)) found → IsNearest way (both w outer inner) (beyond way from) found
past_out way w outer inner from None positive none h = λ n lies. elim (side way (from / w) (n / w)) [
  | before lt ↦ no_block_before way w from n positive lies lt
  | same e ↦ (both_parts w outer inner).rest_fails n (none (n % w) (rest_beyond way w from n lies e))
  | after past gt ↦ h n (past_block way w (from / w) n positive gt)
]
past_out way w outer inner from (Some x) positive none h = record {
  passes = h.passes;
  lies = block_beyond way w from x positive h.lies;
  nearest = λ n lies early. elim (side way (from / w) (n / w)) [
    | before lt ↦ no_block_before way w from n positive lies lt
    | same e ↦ (both_parts w outer inner).rest_fails n (none (n % w) (rest_beyond way w from n lies e))
    | after past gt ↦ h.nearest n (past_block way w (from / w) n positive gt) early
  ];
}
