-- Counts of stretches one after another add up.
use Rattle.std.proofs.Common.{◌≡◌, ℕ, zero, suc, ◌+◌, ◌*◌, ◌≤◌, Bool, true, false, cond, List, [], ◌∷◌, length, sum, inl, inr, refl, sym, ap, ◌∙◌, arith}
use Rattle.std.specs.Prelude.{filter, map}
use Rattle.std.specs.List.{range_with_len}
use Rattle.std.proofs.lemmas.Bool.{cases_lt, le-leb, le-ltb, lt-leb, lt-ltb}
use Rattle.std.proofs.lemmas.List.Sums.{sum_by-cons}
use Rattle.cron_moments.specs.Readings.{Reading}
use Rattle.cron_time.specs.Seconds.{timeline}
use Rattle.cron_counting.specs.Counts.{is_in}
use Rattle.cron_counting.specs.CountLaws.{DaysAddUp, HoursAddUp}

counted : Bool → ℕ
counted true = 1
counted false = 0

length_if : (b : Bool) (r : Reading) (l : List Reading) → length (cond b (r ∷ l) l) ≡ counted b + length l
unfolding counted
length_if true r l = omega arith
length_if false r l = omega arith

parted : (a b c : ℕ) (r : Reading) → a ≤ b → b ≤ c → counted (is_in a c r) ≡ counted (is_in a b r) + counted (is_in b c r)
unfolding counted
parted a b c r low high = elim (cases_lt r.second a) [
  | inl before ↦ rw (lt-leb a r.second before, lt-leb b r.second (omega arith)) refl
  | inr from ↦ elim (cases_lt r.second b) [
    | inl less ↦ rw (le-leb a r.second from, lt-ltb r.second b less, lt-ltb r.second c (omega arith), lt-leb b r.second less) refl
    | inr past ↦ elim (cases_lt r.second c) [
      | inl inside ↦ rw (le-leb a r.second from, le-ltb r.second b past, lt-ltb r.second c inside, le-leb b r.second past) refl
      | inr behind ↦ rw (le-leb a r.second from, le-ltb r.second b past, le-ltb r.second c behind, le-leb b r.second past) refl
    ]
  ]
]

pub filter-parted : (a b c : ℕ) (l : List Reading) → a ≤ b → b ≤ c → length (filter (is_in a c) l) ≡ length (filter (is_in a b) l) + length (filter (is_in b c) l)
filter-parted a b c [] low high = refl
filter-parted a b c (r ∷ l) low high =
    let rest = filter-parted a b c l low high in
    let here = parted a b c r low high in
    let whole = length_if (is_in a c r) r (filter (is_in a c) l) in
    let one = length_if (is_in a b r) r (filter (is_in a b) l) in
    let other = length_if (is_in b c r) r (filter (is_in b c) l) in
    omega arith

outside : (a : ℕ) (r : Reading) → is_in a a r ≡ false
outside a r = elim (cases_lt r.second a) [
  | inl before ↦ rw (lt-leb a r.second before) refl
  | inr from ↦ rw (le-leb a r.second from, le-ltb r.second a from) refl
]

pub filter-none_in : (a : ℕ) (l : List Reading) → length (filter (is_in a a) l) ≡ 0
filter-none_in a [] = refl
filter-none_in a (r ∷ l) = rw (outside a r) (filter-none_in a l)

-- parts of so many civil seconds
parts_add_up : (size : ℕ) (l : List Reading) (parts first end : ℕ) → end ≡ (first + parts) * size
    → sum (map (λ part. length (filter (is_in (part * size) (part * size + size)) l)) (range_with_len first parts)) ≡ length (filter (is_in (first * size) end) l)
parts_add_up size l zero first end e =
    let same : first + 0 ≡ first = omega arith in
    let at : end ≡ first * size = e ∙ ap (λ n. n * size) same in
    rw at (sym (filter-none_in (first * size) l))
parts_add_up size l (suc parts) first end e =
    let moved : first + suc parts ≡ (first + 1) + parts = omega arith in
    let next : (first + 1) * size ≡ first * size + size = grind arith in
    let last : end ≡ ((first + 1) + parts) * size = e ∙ ap (λ n. n * size) moved in
    let room : first * size + size ≤ end = later last next in
    let rest = parts_add_up size l parts (first + 1) end last in
    let split = filter-parted (first * size) (first * size + size) end l (omega arith) room in
    let head = sum_by-cons (λ (n : ℕ). n) (length (filter (is_in (first * size) (first * size + size)) l))
    (map (λ part. length (filter (is_in (part * size) (part * size + size)) l)) (range_with_len (first + 1) parts)) in
    let same_rest : length (filter (is_in ((first + 1) * size) end) l) ≡ length (filter (is_in (first * size + size) end) l) =
    ap (λ n. length (filter (is_in n end) l)) next in
    omega arith
  where
    later : end ≡ ((first + 1) + parts) * size → (first + 1) * size ≡ first * size + size → first * size + size ≤ end
    later e g =
        let split : ((first + 1) + parts) * size ≡ (first + 1) * size + parts * size = grind arith in
        omega arith

pub days_add_up : DaysAddUp
days_add_up s z first days = parts_add_up 86_400 (timeline s z) days first ((first + days) * 86_400) refl

pub hours_add_up : HoursAddUp
hours_add_up s z first hours = parts_add_up 3600 (timeline s z) hours first ((first + hours) * 3600) refl
