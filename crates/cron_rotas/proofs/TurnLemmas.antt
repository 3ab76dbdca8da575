-- Handovers in stretches that meet, and whose turn it is.
use Rattle.std.proofs.Common.{◌≡◌, ℕ, zero, suc, ◌+◌, ◌%◌, ◌<◌, ℤ, pos, ◌*ℤ◌, ◌≤ℤ◌, ◌<ℤ◌, Bool, true, false, cond, List, [], ◌∷◌, Option, Some, None, refl, sym, ap, ◌∙◌, arith}
use Rattle.std.specs.Prelude.{int_le, int_lt, ◌&&◌, filter, length, map}
use Rattle.std.specs.List.{count_by}
use Rattle.std.proofs.lemmas.Int.{by_lt_z}
use Rattle.std.proofs.lemmas.List.Sums.{length-filter, sum_by-cons}
use Rattle.jiff_core.proofs.SignedLemmas.{signed_arith}
use native.Mathlib.Nat.{mod-add-mod, mod-eq_of_lt, mod_self}
use Rattle.jiff_core.specs.Timestamp.{nanos_of_seconds}
use Rattle.cron_clocks.proofs.Windows.{le_no, le_yes, lt_no, lt_yes}
use Rattle.cron_time.proofs.ListLemmas.{among-first, among-rest}
use Rattle.cron_seconds.specs.Rules.{IsAmong, all_between, is_after, is_by}
use Rattle.cron_seconds.proofs.IntLemmas.{int_le-true, int_lt-true, same_tests}
use Rattle.cron_stretches.specs.Fires.{IsNext, instants}
use Rattle.cron_rotas.specs.Rotas.{Duty, handovers_in, turn_at}

-- ---- stretches that meet

abbrev lies_in : ℤ → ℤ → ℤ → Bool
lies_in after until h = int_lt after h && int_le h until

one_more : (h : ℤ) (l : List ℤ) (after until : ℤ) → handovers_in (h ∷ l) after until ≡ cond (lies_in after until h) 1 0 + handovers_in l after until
one_more h l after until = sum_by-cons (λ x. cond (lies_in after until x) 1 0) h l

module _ (a b c : ℤ) (low : a ≤ℤ b) (high : b ≤ℤ c) where
  one_meets : (h : ℤ) → cond {A = ℕ} (lies_in a b h) 1 0 + cond (lies_in b c h) 1 0 ≡ cond (lies_in a c h) 1 0
  one_meets h =
      by_lt_z b h
      (λ past. by_lt_z c h
      (λ late. rw (lt_yes a h (omega (arith, signed_arith)), le_no h b past, lt_yes b h past, le_no h c late) refl)
      (λ early. rw (lt_yes a h (omega (arith, signed_arith)), le_no h b past, lt_yes b h past, le_yes h c early) refl))
      (λ by_b. by_lt_z a h
      (λ after. rw (lt_yes a h after, le_yes h b by_b, lt_no b h by_b, le_yes h c (omega (arith, signed_arith))) refl)
      (λ before. rw (lt_no a h before, lt_no b h by_b) refl))

  pub handovers-meet : (l : List ℤ) → handovers_in l a b + handovers_in l b c ≡ handovers_in l a c
  handovers-meet [] = refl
  handovers-meet (h ∷ l) =
      let one = one_meets h in
      let rest = handovers-meet l in
      let first = one_more h l a b in
      let second = one_more h l b c in
      let both = one_more h l a c in
      omega arith

no_handovers-list : (l : List ℤ) (a b : ℤ) → ((n : ℤ) → IsAmong l n → a <ℤ n → b <ℤ n) → handovers_in l a b ≡ 0
no_handovers-list [] a b none = refl
no_handovers-list (h ∷ l) a b none =
    let rest = no_handovers-list l a b (λ n one late. none n (among-rest h n l one) late) in
    let first : cond {A = ℕ} (lies_in a b h) 1 0 ≡ 0 =
    by_lt_z a h (λ late. rw (lt_yes a h late, le_no h b (none h (among-first h l) late)) refl) (λ early. rw (lt_no a h early) refl) in
    let split = one_more h l a b in
    omega arith

-- before the next handover there is none
pub no_handovers : (l : List ℤ) (a b : ℤ) (next : Option ℤ) → IsNext l a next → ((n : ℤ) → next ≡ Some n → b <ℤ n) → handovers_in l a b ≡ 0
no_handovers l a b None none far = no_handovers-list l a b (λ n one late. let early = none n one in absurd (omega (arith, signed_arith)))
no_handovers l a b (Some next) (one, after, first) far =
    no_handovers-list l a b (λ n other late. let le = first n other late in let less = far next refl in omega (arith, signed_arith))

-- ---- the handovers of a run

module _ {A : Type 0} (at : A → ℤ) (a b : ℤ) where
  after_test : (x : A) → is_after at (nanos_of_seconds a) x ≡ int_lt a (at x)
  after_test x =
      same_tests (is_after at (nanos_of_seconds a) x) (int_lt a (at x))
      (λ h. let less = int_lt-true (nanos_of_seconds a) (at x *ℤ pos 1_000_000_000) h in lt_yes a (at x) (omega (arith, signed_arith)))
      (λ h. let less = int_lt-true a (at x) h in lt_yes (nanos_of_seconds a) (at x *ℤ pos 1_000_000_000) (omega (arith, signed_arith)))

  by_test : (x : A) → is_by at (nanos_of_seconds b) x ≡ int_le (at x) b
  by_test x =
      same_tests (is_by at (nanos_of_seconds b) x) (int_le (at x) b)
      (λ h. let le = int_le-true (at x *ℤ pos 1_000_000_000) (nanos_of_seconds b) h in le_yes (at x) b (omega (arith, signed_arith)))
      (λ h. let le = int_le-true (at x) b h in le_yes (at x *ℤ pos 1_000_000_000) (nanos_of_seconds b) (omega (arith, signed_arith)))

  counted : (x : A) (l : List A) (p q : Bool) → is_after at (nanos_of_seconds a) x ≡ p → is_by at (nanos_of_seconds b) x ≡ q
      → length (filter (is_by at (nanos_of_seconds b)) (cond p (x ∷ filter (is_after at (nanos_of_seconds a)) l) (filter (is_after at (nanos_of_seconds a)) l)))
      ≡ cond (p && q) 1 0 + length (filter (is_by at (nanos_of_seconds b)) (filter (is_after at (nanos_of_seconds a)) l))
  counted x l true true e f = rw f (omega arith)
  counted x l true false e f = rw f (omega arith)
  counted x l false q e f = omega arith

  pub run-count : (l : List A) → length (all_between at l (nanos_of_seconds a) (nanos_of_seconds b)) ≡ handovers_in (instants at l) a b
  run-count [] = refl
  run-count (x ∷ l) =
      let rest = run-count l in
      let own = counted x l (is_after at (nanos_of_seconds a) x) (is_by at (nanos_of_seconds b) x) refl refl in
      let same : cond {A = ℕ} (is_after at (nanos_of_seconds a) x && is_by at (nanos_of_seconds b) x) 1 0 ≡ cond (lies_in a b (at x)) 1 0 =
      ap (λ p. cond {A = ℕ} (p && is_by at (nanos_of_seconds b) x) 1 0) (after_test x) ∙ ap (λ q. cond {A = ℕ} (int_lt a (at x) && q) 1 0) (by_test x) in
      let split = one_more (at x) (instants at l) a b in
      own ∙ omega arith

-- ---- the turn

-- so many handovers later
pub turn-later : (d : Duty) (a b : ℤ) (k : ℕ) → d.start ≤ℤ a → a ≤ℤ b → k ≡ handovers_in d.handovers a b → (turn_at d a + k) % d.people ≡ turn_at d b
turn-later d a b k low high is =
    let meet : handovers_in d.handovers d.start a + k ≡ handovers_in d.handovers d.start b =
    ap (λ (m : ℕ). handovers_in d.handovers d.start a + m) is ∙ handovers-meet d.start a b low high d.handovers in
    mod-add-mod (handovers_in d.handovers d.start a) d.people k ∙ ap (λ (m : ℕ). m % d.people) meet

pub turn-same : (d : Duty) (a b : ℤ) → d.start ≤ℤ a → a ≤ℤ b → handovers_in d.handovers a b ≡ 0 → turn_at d b ≡ turn_at d a
turn-same d a b low high none =
    let meet : handovers_in d.handovers d.start a ≡ handovers_in d.handovers d.start b = let joined = handovers-meet d.start a b low high d.handovers in omega arith in
    ap (λ (m : ℕ). m % d.people) (sym meet)

pub turn-one_more : (n k person : ℕ) (base : ℕ) → person ≡ (base + k) % n → (person + 1) % n ≡ (base + (k + 1)) % n
turn-one_more n k person base is =
    let one : (base + k) + 1 ≡ base + (k + 1) = omega arith in
    ap (λ (m : ℕ). (m + 1) % n) is ∙ mod-add-mod (base + k) n 1 ∙ ap (λ (m : ℕ). m % n) one

-- the person after one
pub person-wraps : (person n : ℕ) → person + 1 ≡ n → 0 ≡ (person + 1) % n
person-wraps person n is = sym (ap (λ (m : ℕ). m % n) is ∙ mod_self n)

pub person-next : (person n : ℕ) → person < n → (person + 1 ≡ n → ⊥) → person + 1 ≡ (person + 1) % n
person-next person n less other = sym (mod-eq_of_lt (omega arith))
