-- A walk from one civil second of a set to the next one.
use Rattle.std.proofs.Common.{◌≡◌, ℕ, ◌+◌, ◌-◌, ◌*◌, ◌<◌, ◌≤◌, pos, Bool, true, false, ◌&&◌, cond, List, [], ◌∷◌, ◌++◌, length, Option, Some, None, refl, sym, ap, subst, ◌∙◌, nat_le, nat_lt, arith}
use Rattle.std.specs.Prelude.{IfSome}
use Rattle.std.proofs.lemmas.Bool.{and_parts, le-leb, lt-ltb}
use Rattle.std.proofs.lemmas.List.FromFn.{map-range_with_len_more}
use Rattle.jiff_core.proofs.SignedLemmas.{signed_arith}
use Rattle.jiff_tz.specs.declared.timezone.TimeZone.{TimeZone}
use Rattle.cron_units.specs.declared.way.Way.TheVariants.{Ahead}
use Rattle.cron_units.specs.Nearest.{IsNearest, IsNearestAt}
use Rattle.cron_moments.specs.Civil.{seconds_in_range}
use Rattle.cron_moments.specs.Readings.{readings}
use Rattle.cron_time.specs.Seconds.{Seconds, is_match, timeline}
use Rattle.cron_counting.specs.Counts.{items_in}
use Rattle.cron_counting.specs.Inner.Parts.{counts_by}
use Rattle.cron_counting.specs.Inner.Totals.{only_if, total}
use Rattle.cron_counting.proofs.CountLemmas.{items_at, items_in-total}
use Rattle.cron_counting.proofs.DayLemmas.{if_few, readings-few}
use Rattle.cron_counting.proofs.LawLemmas.{filter-none_in, filter-parted}
use Rattle.cron_counting.proofs.TotalLemmas.{total-le, total-none, total-suc, total-zero}

only-zero : (b : Bool) → only_if b 0 ≡ 0
only-zero true = refl
only-zero false = refl

in_range : (s : Seconds) (c : ℕ) → c < seconds_in_range → is_match s c ≡ false → s c ≡ false
in_range s c less none = sym (ap (λ b. b && s c) (lt-ltb c seconds_in_range less)) ∙ none

module _ (s : Seconds) (z : TimeZone) where
  few_at : (c : ℕ) → length (items_at s z c) ≤ 2
  few_at c = few_if (s c)
    where
      few_if : (b : Bool) → length (cond b (readings z c) []) ≤ 2
      few_if true = readings-few z c
      few_if false = omega arith

  items-none : (a b : ℕ) → a ≤ b → b ≤ seconds_in_range → ((c : ℕ) → a ≤ c → c < b → s c ≡ false) → length (items_in s z a b) ≡ 0
  items-none a b low high none =
      items_in-total s z a b a (b - a) (omega arith) (omega arith) (omega arith)
      ∙ total-zero (λ t. only_if (nat_le a (a + t) && nat_lt (a + t) b) (length (items_at s z (a + t)))) (b - a)
      (λ t less. ap (λ v. only_if (nat_le a (a + t) && nat_lt (a + t) b) (length (cond v (readings z (a + t)) []))) (none (a + t) (omega arith) (omega arith))
      ∙ only-zero (nat_le a (a + t) && nat_lt (a + t) b))

  items-one : (n : ℕ) → n < seconds_in_range → s n ≡ true → length (items_in s z n (n + 1)) ≡ length (readings z n)
  items-one n range has =
      let f = λ (t : ℕ). only_if (nat_le n (n + t) && nat_lt (n + t) (n + 1)) (length (items_at s z (n + t))) in
      let whole : length (items_in s z n (n + 1)) ≡ total f 1 = items_in-total s z n (n + 1) n 1 (omega arith) (omega arith) (omega arith) in
      let none = total-none f in
      let one = total-suc f 0 in
      let at : n + 0 ≡ n = omega arith in
      let here : f 0 ≡ length (readings z n) = rw (at, le-leb n n (omega arith), lt-ltb n (n + 1) (omega arith), has) refl in
      omega (arith, whole, none, one, here)

  items-few : (a b : ℕ) → a ≤ b → b ≤ seconds_in_range → length (items_in s z a b) ≤ (b - a) * 2
  items-few a b low high =
      let whole = items_in-total s z a b a (b - a) (omega arith) (omega arith) (omega arith) in
      let few = total-le (λ t. only_if (nat_le a (a + t) && nat_lt (a + t) b) (length (items_at s z (a + t)))) 2 (b - a)
      (λ t less. if_few (nat_le a (a + t) && nat_lt (a + t) b) (length (items_at s z (a + t))) (few_at (a + t))) in
      omega (arith, whole, few)

  -- the items of a part up to some place are counted, and `next` is the first civil second from
  -- there on
  abbrev pub Walked : ℕ → ℕ → Option ℕ → ℕ → Type 0
  Walked first end next count =
      (from : ℕ) × (first ≤ from) × (from ≤ end) × IsNearest Ahead (is_match s) (pos from) next × (count ≡ length (items_in s z first from))

  pub walk-start : (first end : ℕ) (next : Option ℕ) → first ≤ end → IsNearest Ahead (is_match s) (pos first) next → Walked first end next 0
  walk-start first end next low near = (first, omega arith, low, near, sym (filter-none_in first (timeline s z)))

  pub walk-more : (first end n count more : ℕ) (old next : Option ℕ) → end ≤ seconds_in_range → old ≡ Some n → n < end
      → more ≡ length (readings z n) → IsNearest Ahead (is_match s) (pos (n + 1)) next → Walked first end old count → Walked first end next (count + more)
  walk-more first end n count more old next range is less counted near (from, low, high, was, before) =
      let at : IsNearestAt Ahead (is_match s) (pos from) n = subst (IsNearest Ahead (is_match s) (pos from)) is was in
      let past : from ≤ n = let lies = at.lies in omega (arith, signed_arith) in
      let has = and_parts (nat_lt n seconds_in_range) (s n) at.passes in
      let none = items-none from n past (omega arith)
      (λ c on early. in_range s c (omega arith) (at.nearest c (omega (arith, signed_arith)) early)) in
      let one = items-one n (omega arith) has.1 in
      let parts = filter-parted first from (n + 1) (timeline s z) low (omega arith) in
      let rest = filter-parted from n (n + 1) (timeline s z) past (omega arith) in
      (n + 1, omega arith, omega arith, near, omega (arith, before, counted, none, one, parts, rest))

  pub walk-few : (first end count : ℕ) (next : Option ℕ) → end ≤ seconds_in_range → Walked first end next count → count ≤ (end - first) * 2
  walk-few first end count next range (from, low, high, near, before) = let few = items-few first from low (omega arith) in omega (arith, few, before)

  clear : (from end : ℕ) (next : Option ℕ) → end ≤ seconds_in_range → IfSome next (λ n. end ≤ n) → IsNearest Ahead (is_match s) (pos from) next
      → (c : ℕ) → from ≤ c → c < end → s c ≡ false
  clear from end None range past none c low less = in_range s c (omega arith) (none c (omega (arith, signed_arith)))
  clear from end (Some n) range past near c low less = in_range s c (omega arith) (near.nearest c (omega (arith, signed_arith)) (omega arith))

  pub walk-end : (first end count : ℕ) (next : Option ℕ) → end ≤ seconds_in_range → IfSome next (λ n. end ≤ n) → Walked first end next count
      → count ≡ length (items_in s z first end)
  walk-end first end count next range past (from, low, high, near, before) =
      let none = items-none from end high range (clear from end next range past near) in
      let parts = filter-parted first from end (timeline s z) low high in
      omega (arith, before, none, parts)

  pub parts-more : (size first part count : ℕ) (old new : List ℕ) → first ≤ part → old ≡ counts_by size s z first (part - first)
      → count ≡ length (items_in s z (part * size) (part * size + size)) → new ≡ old ++ count ∷ [] → new ≡ counts_by size s z first (part + 1 - first)
  parts-more size first part count old new low before counted is =
      let n : part + 1 - first ≡ part - first + 1 = omega arith in
      let at : first + (part - first) ≡ part = omega arith in
      let more = map-range_with_len_more (λ part. length (items_in s z (part * size) (part * size + size))) first (part - first) part at in
      rw n (is ∙ (ap (λ l. l ++ count ∷ []) before ∙ (ap (λ k. counts_by size s z first (part - first) ++ k ∷ []) counted ∙ sym more)))

-- how far a walk to `end` has to go yet
abbrev pub left_to : ℕ → Option ℕ → ℕ
left_to end None = 0
left_to end (Some n) = end - n

-- ---- where parts lie

pub part-room : (size part end limit : ℕ) → part < end → end * size ≤ limit → part * size + size ≤ limit
part-room size part end limit less room =
    let rest = end - (part + 1) in
    let is : part + 1 + rest ≡ end = omega arith in
    let whole : (part + 1 + rest) * size ≡ part * size + size + rest * size = grind arith in
    let same : end * size ≡ (part + 1 + rest) * size = ap (λ n. n * size) (sym is) in
    omega (arith, whole, same)

pub next-part : (size part : ℕ) → (part + 1) * size ≡ part * size + size
next-part size part = grind arith
