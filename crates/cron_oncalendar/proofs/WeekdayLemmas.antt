-- Days of the week from Monday on.
use Rattle.std.proofs.Common.{◌≡◌, ◌+◌, ◌-◌, ◌≤◌, ◌<◌, ◌/◌, ◌%◌, ℕ, suc, true, false, ◌||◌, nat_eq, List, [], ◌∷◌, ◌++◌, refl, sym, ap, ◌∙◌, append_assoc, inl, inr, arith}
use Rattle.std.proofs.Math.Bool.{or-false, or-true}
use Rattle.std.proofs.lemmas.Bool.{cases_eq, lt-ltb, ne_eqb}
use Rattle.std.proofs.lemmas.Nat.Bits.{bit_at-suc}
use Rattle.std.proofs.Math.Nat.{mod-eq_of_lt}
use Rattle.cron_bits.specs.Words.{has_bit}
use Rattle.cron_units.specs.Units.{IsSet, contains, days_of_week, set_of, whole}
use Rattle.cron_units.proofs.SetLemmas.{contains_after, contains_set, filter_none, set_same, whole_is_all}
use Rattle.cron_oncalendar.specs.Calendars.{any, ranges}
use Rattle.cron_oncalendar.specs.Inner.Pieces.{level, AreWeekdays}
use Rattle.cron_oncalendar.specs.Inner.Written.{AreRangesText}
use Rattle.cron_oncalendar.specs.declared.components.Spelling.TheVariants.{Names}
use Rattle.cron_oncalendar.proofs.PartLemmas.{first_part, under_append, under_more}
use Rattle.cron_oncalendar.proofs.ComponentLemmas.{weekdays_read}

half_bit : (word k : ℕ) → k < 63 → has_bit (word / 2) k ≡ has_bit word (suc k)
half_bit word k l = rw (lt-ltb k 64 (omega arith), lt-ltb (suc k) 64 (omega arith), bit_at-suc word k) refl

made_contains : (word : ℕ) (xs : List ℕ) (n : ℕ) → xs ≡ set_of days_of_week (λ x. has_bit word (x - 1)) → 1 ≤ n → n ≤ 7
    → contains xs n ≡ has_bit word (n - 1)
made_contains word xs n made l g = ap (λ (ys : List ℕ). contains ys n) made ∙ contains_set days_of_week (λ x. has_bit word (x - 1)) n l g

-- the bits of the days, of which the one at 0 is Sunday's
abbrev AreBits : ℕ → List ℕ → Type 0
AreBits word days = (k : ℕ) → has_bit word k ≡ contains days (1 + k)

before_sunday : (word : ℕ) (days : List ℕ) (n : ℕ) → AreBits word days → 1 ≤ n → n ≤ 6 → has_bit (word / 2) (n - 1) ≡ contains days (n % 7 + 1)
before_sunday word days n bits l g =
    let next : suc (n - 1) ≡ n = omega arith in
    let place : n % 7 ≡ n = mod-eq_of_lt (omega arith) in
    half_bit word (n - 1) (omega arith) ∙ (ap (has_bit word) next ∙ (bits n ∙ ap (contains days) (omega (arith, place))))

none_late : (word : ℕ) (days : List ℕ) → AreBits word days → set_of days_of_week (λ x. has_bit word (x - 1)) ≡ days → has_bit (word / 2) 6 ≡ false
none_late word days bits set =
    half_bit word 6 (omega arith) ∙ (bits 7 ∙ (ap (λ (ys : List ℕ). contains ys 8) (sym set)
    ∙ contains_after days_of_week (λ x. has_bit word (x - 1)) 8 (omega arith) (omega arith)))

pub with_sunday : (word half more : ℕ) (days xs : List ℕ) → half ≡ word / 2 → AreBits word days → has_bit word 0 ≡ true
    → ((k : ℕ) → has_bit more k ≡ (has_bit half k || nat_eq k 6)) → xs ≡ set_of days_of_week (λ x. has_bit more (x - 1))
    → (n : ℕ) → 1 ≤ n → n ≤ 7 → contains xs n ≡ contains days (n % 7 + 1)
with_sunday word half more days xs e bits sunday with made n l g =
    made_contains more xs n made l g ∙ (with (n - 1) ∙ elim (cases_eq n 7) [
      | inl last ↦ rw last (or-true (has_bit half 6) ∙ (sym sunday ∙ bits 0))
      | inr d ↦ rw (ne_eqb (n - 1) 6 (λ same. d (omega arith)), e) (or-false (has_bit (word / 2) (n - 1)) ∙ before_sunday word days n bits l (omega (arith, d)))
    ])

pub without_sunday : (word half : ℕ) (days xs : List ℕ) → half ≡ word / 2 → AreBits word days → has_bit word 0 ≡ false
    → set_of days_of_week (λ x. has_bit word (x - 1)) ≡ days → xs ≡ set_of days_of_week (λ x. has_bit half (x - 1))
    → (n : ℕ) → 1 ≤ n → n ≤ 7 → contains xs n ≡ contains days (n % 7 + 1)
without_sunday word half days xs e bits none set made n l g =
    made_contains half xs n made l g ∙ (ap (λ (h : ℕ). has_bit h (n - 1)) e ∙ elim (cases_eq n 7) [
      | inl last ↦ rw last (none_late word days bits set ∙ (sym none ∙ bits 0))
      | inr d ↦ before_sunday word days n bits l (omega (arith, d))
    ])

-- all days of the week are nothing
pub all_weekdays : (days : List ℕ) → days ≡ whole days_of_week → AreWeekdays days []
unfolding level
all_weekdays days e =
    record {
      says = any;
      under = refl;
      read = λ rest date time cut. rw cut refl;
      same = λ n l g. sym (ap (λ (ys : List ℕ). contains ys (n % 7 + 1)) (e ∙ sym (whole_is_all days_of_week))
          ∙ contains_set days_of_week (λ y. true) (n % 7 + 1) (omega arith) (omega arith));
    }

-- other days are ranges and a space
pub some_weekdays : (days xs piece : List ℕ) → IsSet days_of_week xs → ((n : ℕ) → 1 ≤ n → n ≤ 7 → contains xs n ≡ contains days (n % 7 + 1))
    → AreRangesText Names xs piece → AreWeekdays days (piece ++ 32 ∷ [])
unfolding level
some_weekdays days xs piece set turned h =
    let back = weekdays_read xs piece set h in
    record {
      says = ranges h.ranges;
      under = under_append 6 piece (32 ∷ []) (under_more 3 6 piece (omega arith) back.under) refl;
      read = λ rest date time cut.
          rw (append_assoc piece (32 ∷ []) rest, first_part 32 3 piece rest (omega arith) back.under, cut, back.read) refl;
      same = λ n l g. h.are.same n ∙ turned n l g;
    }

empty_contains : (xs : List ℕ) (n : ℕ) → xs ≡ [] → contains xs n ≡ false
empty_contains xs n e = rw e refl

day_of : (days : List ℕ) (x : ℕ) → ((n : ℕ) → 1 ≤ n → n ≤ 7 → contains days (n % 7 + 1) ≡ false) → 1 ≤ x → x ≤ 7 → contains days x ≡ false
day_of days x none l g = elim (cases_eq x 1) [
  | inl e ↦ ap (contains days) e ∙ none 7 (omega arith) (omega arith)
  | inr d ↦ let place : (x - 1) % 7 ≡ x - 1 = mod-eq_of_lt (omega arith) in
      let back : x ≡ (x - 1) % 7 + 1 = omega (arith, place, d) in ap (contains days) back ∙ none (x - 1) (omega (arith, d)) (omega arith)
]

-- only of no days nothing is left from Monday on
pub none_turned : (days xs : List ℕ) → IsSet days_of_week days → ((n : ℕ) → 1 ≤ n → n ≤ 7 → contains xs n ≡ contains days (n % 7 + 1))
    → xs ≡ [] → days ≡ []
none_turned days xs set turned e =
    set ∙ (set_same days_of_week (contains days) (λ x. false)
    (λ x l g. day_of days x (λ n low high. sym (turned n low high) ∙ empty_contains xs n e) l g)
    ∙ filter_none (λ x. false) (whole days_of_week) (λ x. refl))
