-- How many numbers of an ascending list lie below a bound, and how many lie between two.
use Rattle.std.proofs.Common.{◌≡◌, ◌≤◌, ◌<◌, ◌+◌, ◌-◌, zero, suc, ℕ, ℤ, pos, ◌+ℤ◌, ◌≤ℤ◌, ◌<ℤ◌, List, [], ◌∷◌, Bool, true, false, ◌&&◌, cond, length, get_or, refl, ap, ◌∙◌, arith}
use Rattle.std.specs.Prelude.{int_lt}
use Rattle.std.specs.List.{count_by}
use Rattle.std.proofs.lemmas.Int.{ints, by_lt_z}
use Rattle.std.proofs.lemmas.List.Sums.{count_by-le-length, sum_by-cons}
use Rattle.cron_collisions.specs.Collisions.{Ascends, collide}
use Rattle.cron_collisions.specs.Inner.Below.{before, below}

not_less : (a b : ℤ) → b ≤ℤ a → int_lt a b ≡ false
not_less a b h = grind (arith, ints)

less : (a b : ℤ) → a <ℤ b → int_lt a b ≡ true
less a b h = grind (arith, ints)

is_less : (a b : ℤ) → int_lt a b ≡ true → a <ℤ b
is_less a b h = grind (arith, ints)

is_no_less : (a b : ℤ) → int_lt a b ≡ false → b ≤ℤ a
is_no_less a b h = grind (arith, ints)

tail_ascends : (t : ℤ) (ts : List ℤ) → Ascends (t ∷ ts) → Ascends ts
tail_ascends t ts up = λ i j d h short. up (suc i) (suc j) d (omega arith) (omega arith)

one_less : (b t : ℤ) (ts : List ℤ) → t <ℤ b → below b (t ∷ ts) ≡ 1 + below b ts
one_less b t ts h =
    let split = sum_by-cons (λ x. cond (int_lt x b) 1 0) t ts in
    let one : cond {A = ℕ} (int_lt t b) 1 0 ≡ 1 = ap (λ y. cond {A = ℕ} y 1 0) (less t b h) in
    omega arith

none_less : (b t : ℤ) (ts : List ℤ) → b ≤ℤ t → below b (t ∷ ts) ≡ below b ts
none_less b t ts h =
    let split = sum_by-cons (λ x. cond (int_lt x b) 1 0) t ts in
    let none : cond {A = ℕ} (int_lt t b) 1 0 ≡ 0 = ap (λ y. cond {A = ℕ} y 1 0) (not_less t b h) in
    omega arith

-- where none lies below it there are none
none_below : (b : ℤ) (ts : List ℤ) → ((k : ℕ) → k < length ts → b ≤ℤ get_or ts k b) → below b ts ≡ 0
none_below b [] none = refl
none_below b (t ∷ ts) none = none_less b t ts (none 0 (omega arith)) ∙ none_below b ts (λ k short. none (suc k) (omega arith))

-- those in front of one that lies below a bound do so too
pub below-past : (b : ℤ) (ts : List ℤ) (k : ℕ) (d : ℤ) → Ascends ts → k < length ts → int_lt (get_or ts k d) b ≡ true → k < below b ts
below-past b [] k d up short h = absurd (omega arith)
below-past b (t ∷ ts) zero d up short h = omega (arith, one_less b t ts (is_less t b h))
below-past b (t ∷ ts) (suc k) d up short h =
    let first : t ≤ℤ get_or ts k d = up 0 (suc k) d (omega arith) short in
    let later : get_or ts k d <ℤ b = is_less (get_or ts k d) b h in
    let own : t <ℤ b = omega (arith, ints) in
    omega (arith, one_less b t ts own, below-past b ts k d (tail_ascends t ts up) (omega arith) h)

-- one that doesn't lie below it bounds how many do
pub below-up_to : (b : ℤ) (ts : List ℤ) (k : ℕ) (d : ℤ) → Ascends ts → k < length ts → int_lt (get_or ts k d) b ≡ false → below b ts ≤ k
below-up_to b [] k d up short h = absurd (omega arith)
below-up_to b (t ∷ ts) zero d up short h =
    let own : b ≤ℤ t = is_no_less t b h in
    omega (arith, none_below b (t ∷ ts) (λ k l. let later : t ≤ℤ get_or (t ∷ ts) k b = up 0 k b (omega arith) l in omega (arith, ints)))
below-up_to b (t ∷ ts) (suc k) d up short h =
    let rest = below-up_to b ts k d (tail_ascends t ts up) (omega arith) h in
    by_lt_z t b (λ l. omega (arith, one_less b t ts l)) (λ m. omega (arith, none_less b t ts m))

pub below-le-length : (b : ℤ) (ts : List ℤ) → below b ts ≤ length ts
below-le-length b ts = count_by-le-length (λ t. int_lt t b) ts

-- a greater bound has no fewer below it
pub below-mono : (a b : ℤ) (ts : List ℤ) → a ≤ℤ b → below a ts ≤ below b ts
below-mono a b [] h = omega arith
below-mono a b (t ∷ ts) h =
    let rest = below-mono a b ts h in
    by_lt_z t a
    (λ l. omega (arith, one_less a t ts l, one_less b t ts (omega (arith, ints))))
    (λ m. by_lt_z t b (λ l. omega (arith, none_less a t ts m, one_less b t ts l)) (λ n. omega (arith, none_less a t ts m, none_less b t ts n)))

-- ---- those that collide

pub collides : (d : ℕ) (s t : ℤ) → s <ℤ (t +ℤ pos d) → t <ℤ (s +ℤ pos d) → collide d s t ≡ true
collides d s t a b = rw (less s (t +ℤ pos d) a) (less t (s +ℤ pos d) b)

both_true : (x y : Bool) → (x && y) ≡ true → (x ≡ true) × (y ≡ true)
both_true true y h = (refl, h)
both_true false y h = absurd (cc)

pub collides_each : (d : ℕ) (s t : ℤ) → collide d s t ≡ true → (s <ℤ (t +ℤ pos d)) × (t <ℤ (s +ℤ pos d))
collides_each d s t h =
    let both = both_true (int_lt s (t +ℤ pos d)) (int_lt t (s +ℤ pos d)) h in
    (is_less s (t +ℤ pos d) both.0, is_less t (s +ℤ pos d) both.1)

ends_before : (d : ℕ) (s t : ℤ) → (t +ℤ pos d) ≤ℤ s → collide d s t ≡ false
ends_before d s t a = rw (not_less s (t +ℤ pos d) a) refl

and_no : (x y : Bool) → y ≡ false → (x && y) ≡ false
and_no true y h = h
and_no false y h = refl

begins_behind : (d : ℕ) (s t : ℤ) → (s +ℤ pos d) ≤ℤ t → collide d s t ≡ false
begins_behind d s t b = and_no (int_lt s (t +ℤ pos d)) (int_lt t (s +ℤ pos d)) (not_less t (s +ℤ pos d) b)

-- how many of one more fire collide
one_collides : (d : ℕ) (s t : ℤ) (ts : List ℤ) → collide d s t ≡ true → count_by (collide d s) (t ∷ ts) ≡ 1 + count_by (collide d s) ts
one_collides d s t ts h =
    let split = sum_by-cons (λ x. cond (collide d s x) 1 0) t ts in
    let one : cond {A = ℕ} (collide d s t) 1 0 ≡ 1 = ap (λ y. cond {A = ℕ} y 1 0) h in
    omega arith

none_collides : (d : ℕ) (s t : ℤ) (ts : List ℤ) → collide d s t ≡ false → count_by (collide d s) (t ∷ ts) ≡ count_by (collide d s) ts
none_collides d s t ts h =
    let split = sum_by-cons (λ x. cond (collide d s x) 1 0) t ts in
    let none : cond {A = ℕ} (collide d s t) 1 0 ≡ 0 = ap (λ y. cond {A = ℕ} y 1 0) h in
    omega arith

-- of fires that last some time those that begin before an end collide, or end before
parted : (d : ℕ) (s : ℤ) (ts : List ℤ) → 0 < d
    → count_by (collide d s) ts + below (before d s) ts ≡ below (s +ℤ pos d) ts
parted d s [] some = refl
parted d s (t ∷ ts) some =
    let rest = parted d s ts some in
    by_lt_z t (before d s)
    (λ l.
    omega (
      arith,
      one_less (before d s) t ts l,
      one_less (s +ℤ pos d) t ts (omega (arith, ints)),
      none_collides d s t ts (ends_before d s t (omega (arith, ints))),
    ))
    (λ m.
    by_lt_z t (s +ℤ pos d)
    (λ l.
    omega (
      arith,
      none_less (before d s) t ts m,
      one_less (s +ℤ pos d) t ts l,
      one_collides d s t ts (collides d s t (omega (arith, ints)) l),
    ))
    (λ n.
    omega (
      arith,
      none_less (before d s) t ts m,
      none_less (s +ℤ pos d) t ts n,
      none_collides d s t ts (begins_behind d s t n),
    )))

-- of fires that take no time none collide
none_at_once : (s : ℤ) (ts : List ℤ) → count_by (collide 0 s) ts ≡ 0
none_at_once s [] = refl
none_at_once s (t ∷ ts) =
    by_lt_z t s (λ l. omega (arith, none_at_once s ts, none_collides 0 s t ts (ends_before 0 s t (omega (arith, ints)))))
    (λ m. omega (arith, none_at_once s ts, none_collides 0 s t ts (begins_behind 0 s t (omega (arith, ints)))))

-- those that collide with a fire begin before it ends, and don't end before it begins
pub colliding : (d : ℕ) (s : ℤ) (ts : List ℤ) → count_by (collide d s) ts ≡ below (s +ℤ pos d) ts - below (before d s) ts
colliding zero s ts =
    omega (arith, none_at_once s ts, below-mono (s +ℤ pos 0) (before 0 s) ts (omega (arith, ints)))
colliding (suc d) s ts = omega (arith, parted (suc d) s ts (omega arith))
