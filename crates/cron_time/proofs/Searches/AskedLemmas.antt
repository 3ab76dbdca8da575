-- How many questions for a member are asked.
use Rattle.std.proofs.Common.{◌≡◌, ℕ, ◌+◌, ◌-◌, ◌*◌, ◌/◌, ◌%◌, ◌<◌, Bool, pos, Option, Some, None, ap, sym, subst, ◌∙◌, ◌⊎◌, inl, inr, arith}
use Rattle.std.proofs.lemmas.Bool.{both_ways}
use Rattle.jiff_core.proofs.SignedLemmas.{signed_arith}
use Rattle.cron_units.specs.declared.way.Way.{Way}
use Rattle.cron_units.specs.declared.way.Way.TheVariants.{Ahead, Back}
use Rattle.cron_units.specs.Nearest.{LiesFrom}
use Rattle.cron_time.specs.Search.Inner.Blocks.{AllFail}
use Rattle.cron_time.specs.Search.Inner.Filled.{HasOne}
use Rattle.cron_time.specs.Search.Inner.Inquired.{Inquired, one_conversion, one_day, IsSame}
use Rattle.cron_time.specs.Search.Inner.Questions.{Joins, AsksFor, AsksPast, outermost}
use Rattle.cron_time.proofs.Searches.BlockLemmas.{div_of, mod_of}

-- of a single unit one question is counted
pub one_asked : {C : Type 0} (Counts : ℕ → C → C → Type 0) (parts : ℕ) (found : Option ℕ) (old new : C) → parts ≡ 1 → AsksFor Counts parts found old new
    → Counts 1 old new
one_asked Counts parts None old new e h =
    let n = h.is_count in let one : h.count ≡ 1 = omega (arith, n) in subst (λ m. Counts m old new) one h.asks
one_asked Counts parts (Some k) old new e h =
    let n = h.is_count in let one : h.count ≡ 1 = omega (arith, n) in subst (λ m. Counts m old new) one h.asks

-- that is the count of a search of more units too, where it finds none
pub asked_out : {C : Type 0} (Counts : ℕ → C → C → Type 0) (parts inner : ℕ) (found : Option ℕ) (a b : C) → parts ≡ 1 → AsksFor Counts parts found a b
    → AsksFor Counts (inner + 1) None a b
asked_out Counts parts inner found a b e h =
    record { count = 1; asks = one_asked Counts parts found a b e h; is_count = (omega arith, omega arith) }

-- an outer unit, and the inner ones from there
pub asked_all : {C : Type 0} (Counts : ℕ → C → C → Type 0) → Joins Counts → (parts : ℕ) (a b c : C) → Counts 1 a b → Counts parts b c → Counts (parts + 1) a c
asked_all Counts join parts a b c h i = let e : 1 + parts ≡ parts + 1 = omega arith in subst (λ n. Counts n a c) e (join 1 parts a b c h i)

pub asked_first : {C : Type 0} (Counts : ℕ → C → C → Type 0) → Joins Counts → (parts n k : ℕ) (a b c : C) → Counts 1 a b
    → AsksFor Counts parts (Some n) b c → AsksFor Counts (parts + 1) (Some k) a c
asked_first Counts join parts n k a b c h i =
    let m = i.is_count in record { count = 1 + i.count; asks = join 1 i.count a b c h i.asks; is_count = (omega (arith, m), omega (arith, m)) }

asked_none : {C : Type 0} (Counts : ℕ → C → C → Type 0) → Joins Counts → (parts : ℕ) (a b c : C) → Counts 1 a b → AsksFor Counts parts None b c
    → AsksFor Counts (parts + 1) None a c
asked_none Counts join parts a b c h i =
    let m = i.is_count in record { count = 1 + i.count; asks = join 1 i.count a b c h i.asks; is_count = (omega (arith, m), omega (arith, m)) }

-- and then past the block of the outer number
pub asked_past : {C : Type 0} (Counts : ℕ → C → C → Type 0) → Joins Counts → (parts : ℕ) (found : Option ℕ) (a b c d : C) → Counts 1 a b
    → AsksFor Counts parts None b c → AsksPast Counts parts found c d → AsksFor Counts (parts + 1) found a d
asked_past Counts join parts None a b c d h i (inl e) =
    subst (λ last. AsksFor Counts (parts + 1) None a last) (sym e) (asked_none Counts join parts a b c h i)
asked_past Counts join parts None a b c d h i (inr j) =
    let m = i.is_count in
    record {
      count = 1 + i.count + 1;
      asks = join (1 + i.count) 1 a c d (join 1 i.count a b c h i.asks) j;
      is_count = (omega (arith, m), omega (arith, m));
    }
asked_past Counts join parts (Some k) a b c d h i j =
    let m = i.is_count in
    record {
      count = 1 + i.count + (1 + parts);
      asks = join (1 + i.count) (1 + parts) a c d (join 1 i.count a b c h i.asks) j;
      is_count = (omega (arith, m), omega (arith, m));
    }

-- from the outermost number on there is one
lies_outermost : (way : Way) (limit n : ℕ) → n < limit → LiesFrom way (pos (outermost way limit)) n
lies_outermost Ahead limit n h = omega (arith, signed_arith)
lies_outermost Back limit n h = omega (arith, signed_arith)

pub outermost_finds : (way : Way) (limit : ℕ) (test : ℕ → Bool) → HasOne limit test → AllFail way test (pos (outermost way limit)) → {P : Type 0} → P
outermost_finds way limit test one none =
    absurd (both_ways (test one.0) (none one.0 (lies_outermost way limit one.0 one.1)) one.2)

-- the parts of the outermost number are outermost
pub outermost_parts : (way : Way) (limit w : ℕ) → 0 < limit → 0 < w
    → (outermost way (limit * w) / w ≡ outermost way limit) × (outermost way (limit * w) % w ≡ outermost way w)
outermost_parts Ahead limit w positive wide =
    let e : 0 * w + 0 ≡ 0 = omega arith in
    let P : ℕ → Type 0 = λ n. n / w ≡ 0 in
    let Q : ℕ → Type 0 = λ n. n % w ≡ 0 in
    (subst P e (div_of w 0 0 wide), subst Q e (mod_of w 0 0 wide))
outermost_parts Back limit w positive wide =
    let whole : limit ≡ limit - 1 + 1 = omega arith in
    let more : limit * w ≡ (limit - 1 + 1) * w = ap (λ n. n * w) whole in
    let e : limit * w - 1 ≡ (limit - 1) * w + (w - 1) = omega (arith, more) in
    (rw e (div_of w (limit - 1) (w - 1) (omega arith)), rw e (mod_of w (limit - 1) (w - 1) (omega arith)))

-- from there on the inner numbers are entered at their outermost
pub start_outermost : (way : Way) (limit w from start : ℕ) → 0 < limit → 0 < w → from ≡ outermost way (limit * w)
    → (start ≡ from % w) ⊎ (start ≡ outermost way w) → start ≡ outermost way w
start_outermost way limit w from start positive wide at (inl e) = e ∙ ap (λ n. n % w) at ∙ (outermost_parts way limit w positive wide).1
start_outermost way limit w from start positive wide at (inr e) = e

-- what is asked stays the same over two steps
pub same_on : (a b c : Inquired) → IsSame a b → IsSame b c → IsSame a c
same_on a b c h k = record { sets = k.sets ∙ h.sets; zone = k.zone ∙ h.zone }

-- after one more question to the zone, and one more date
pub record Converted (a b : Inquired) : Type 0 where
  pub same : IsSame a b
  pub days : b.days ≡ a.days
  pub more : b.conversions ≡ a.conversions + 1

pub converted : (a b : Inquired) → b ≡ one_conversion a → Converted a b
converted a b e = record {
  same = record { sets = ap (λ q. q.sets) e; zone = ap (λ q. q.zone) e };
  days = ap (λ q. q.days) e;
  more = ap (λ q. q.conversions) e;
}

pub record Dated (a b : Inquired) : Type 0 where
  pub same : IsSame a b
  pub more : b.days ≡ a.days + 1
  pub conversions : b.conversions ≡ a.conversions

pub dated : (a b : Inquired) → b ≡ one_day a → Dated a b
dated a b e = record {
  same = record { sets = ap (λ q. q.sets) e; zone = ap (λ q. q.zone) e };
  more = ap (λ q. q.days) e;
  conversions = ap (λ q. q.conversions) e;
}
