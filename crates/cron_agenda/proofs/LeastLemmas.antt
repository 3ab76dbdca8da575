-- The least of some words, of which one may be left out.
use Rattle.std.proofs.Common.{◌≡◌, ◌≢◌, ℕ, ◌+◌, ◌-◌, ◌%◌, ◌<◌, ◌≤◌, List, length, set, get_or, ◌⊎◌, min, inl, inr, refl, sym, ap, subst, ◌∙◌, arith, length-set, get_or-set_same, get_or-set_other}
use Rattle.std.proofs.lemmas.Bool.{cases_lt}
use Rattle.cron_agenda.specs.Inner.Words.{none_word}
use Rattle.cron_agenda.specs.Inner.Tree.{IsBelow, IsLeastBelow, IsLeastIn, IsLeastOf, without, word_behind}

-- ---- the least of some words

pub least_none : (f : ℕ → ℕ) (at : ℕ) → IsLeastOf f at at none_word
least_none f at = record {
  each = λ j low high. absurd (omega arith);
  found = inl refl;
}

pub least_one : (f : ℕ → ℕ) (at end : ℕ) → end ≡ at + 1 → IsLeastOf f at end (f at)
least_one f at end is = record {
  each = λ j low high. let same : at ≡ j = omega arith in subst (λ k. f at ≤ f k) same (omega arith);
  found = inr (at, omega arith, omega arith, refl);
}

-- of some words, and of those behind them
pub least_both : (f : ℕ → ℕ) (first middle end v w : ℕ) → first ≤ middle → middle ≤ end → IsLeastOf f first middle v → IsLeastOf f middle end w
    → IsLeastOf f first end (min v w)
least_both f first middle end v w before behind one other = record {
  each = λ j low high. elim (cases_lt j middle) [
    | inl less ↦ let up = one.each j low less in omega arith
    | inr le ↦ let up = other.each j le high in omega arith
  ];
  found = elim (cases_lt v w) [
    | inl less ↦
        let is : min v w ≡ v = omega arith in
        elim one.found [
          | inl none ↦ inl (is ∙ none)
          | inr h ↦ let low = h.1 in let high = h.2 in inr (h.0, omega arith, omega arith, is ∙ h.3)
        ]
    | inr le ↦
        let is : min v w ≡ w = omega arith in
        elim other.found [
          | inl none ↦ inl (is ∙ none)
          | inr h ↦ let low = h.1 in let high = h.2 in inr (h.0, omega arith, omega arith, is ∙ h.3)
        ]
  ];
}

pub least_two : (f : ℕ → ℕ) (at end w : ℕ) → end ≡ at + 2 → w ≡ min (f at) (f (at + 1)) → IsLeastOf f at end w
least_two f at end w last is =
    subst (IsLeastOf f at end) (sym is)
    (least_both f at (at + 1) end (f at) (f (at + 1)) (omega arith) (omega arith) (least_one f at (at + 1) refl) (least_one f (at + 1) end (omega arith)))

-- of as many as there are
pub least_to : (words : List ℕ) (first at end w : ℕ) → end ≤ at → ((j : ℕ) → first ≤ j → j < at → j < end) → IsLeastIn words first at w → IsLeastIn words first end w
least_to words first at end w past all least = record {
  each = λ j low high. least.each j low (omega arith);
  found = elim least.found [ inl none ↦ inl none | inr h ↦ inr (h.0, h.1, all h.0 h.1 h.2, h.3) ];
}

-- ---- a word that is left out

pub word_out : (words : List ℕ) (at : ℕ) → at < length words → none_word ≡ get_or (without words at) at 0
word_out words at in_range = sym (get_or-set_same words at none_word 0 in_range)

pub word_in : (words : List ℕ) (at left_out : ℕ) → at ≢ left_out → get_or words at 0 ≡ get_or (without words left_out) at 0
word_in words at left_out other = sym (get_or-set_other words left_out at none_word 0 other)

-- the seven words behind one of a row are the others
pub least_others : (words : List ℕ) (first at w : ℕ) → first + 8 ≤ length words → first ≤ at → at < first + 8 → w ≤ none_word → IsLeastOf (word_behind words first at) 1 8 w
    → IsLeastIn (without words at) first (first + 8) w
least_others words first at w row low high fits least = record {
  each = λ j from to. elim (cases_lt j at) [
    | inl less ↦
        let here : first + (at - first + (j + 8 - at)) % 8 ≡ j = omega arith in
        subst (λ x. w ≤ x) (ap (λ k. get_or words k 0) here ∙ word_in words j at (omega arith)) (least.each (j + 8 - at) (omega arith) (omega arith))
    | inr le ↦ elim (cases_lt at j) [
      | inl more ↦
          let here : first + (at - first + (j - at)) % 8 ≡ j = omega arith in
          subst (λ x. w ≤ x) (ap (λ k. get_or words k 0) here ∙ word_in words j at (omega arith)) (least.each (j - at) (omega arith) (omega arith))
      | inr ge ↦
          let same : at ≡ j = omega arith in
          subst (λ k. w ≤ get_or (without words at) k 0) same (subst (λ x. w ≤ x) (word_out words at (omega arith)) fits)
    ]
  ];
  found = elim least.found [
    | inl none ↦ inl none
    | inr h ↦
        let some = h.1 in
        let few = h.2 in
        let there : ℕ = first + (at - first + h.0) % 8 in
        inr (there, omega arith, omega arith, h.3 ∙ word_in words there at (omega arith))
  ];
}

-- nothing changes below an inner word where the first one is left out
pub first_out : (words : List ℕ) (i w : ℕ) → IsLeastBelow (without words 0) i w → IsLeastBelow words i w
first_out words i w least = record {
  each = λ j under h.
      let size = length-set words 0 none_word in
      subst (λ x. w ≤ x) (sym (word_in words j 0 (behind j under))) (least.each j under (omega arith));
  found = elim least.found [
    | inl none ↦ inl none
    | inr h ↦
        let size = length-set words 0 none_word in
        let within = h.2 in
        inr (h.0, h.1, omega arith, h.3 ∙ sym (word_in words h.0 0 (behind h.0 h.1)))
  ];
}
  where
    behind : (j : ℕ) → IsBelow j i → j ≢ 0
    behind j under e = let low = under.0 in omega arith

-- where the word that was left out is written, the least is the lesser of it and the others
pub least_with : (words : List ℕ) (at i v w : ℕ) → at < length words → IsBelow at i → v ≤ none_word → IsLeastBelow (without words at) i w
    → IsLeastBelow (set words at v) i (min v w)
least_with words at i v w in_range here fits least = record {
  each = λ j under h. elim (cases_lt j at) [
    | inl less ↦ beside j under h (omega arith)
    | inr le ↦ elim (cases_lt at j) [
      | inl more ↦ beside j under h (omega arith)
      | inr ge ↦
          let same : at ≡ j = omega arith in
          subst (λ k. min v w ≤ get_or (set words at v) k 0) same (subst (λ x. min v w ≤ x) (sym (get_or-set_same words at v 0 in_range)) (omega arith))
    ]
  ];
  found = elim (cases_lt v w) [
    | inl less ↦
        let is : min v w ≡ v = omega arith in
        let size = length-set words at v in
        inr (at, here, omega arith, is ∙ sym (get_or-set_same words at v 0 in_range))
    | inr le ↦
        let is : min v w ≡ w = omega arith in
        elim least.found [
          | inl none ↦ inl (is ∙ none)
          | inr h ↦ elim (cases_lt h.0 at) [
            | inl lower ↦ found_at h.0 h.1 h.2 h.3 is (omega arith)
            | inr up ↦ elim (cases_lt at h.0) [
              | inl higher ↦ found_at h.0 h.1 h.2 h.3 is (omega arith)
              | inr ge ↦
                  let same : h.0 ≡ at = omega arith in
                  inl (is ∙ h.3 ∙ ap (λ k. get_or (without words at) k 0) same ∙ get_or-set_same words at none_word 0 in_range)
            ]
          ]
        ]
  ];
}
  where
    beside : (j : ℕ) → IsBelow j i → j < length (set words at v) → j ≢ at → min v w ≤ get_or (set words at v) j 0
    beside j under h other =
        let size = length-set words at v in
        let same = length-set words at none_word in
        let low : w ≤ get_or (set words at v) j 0 =
        subst (λ x. w ≤ x) (sym (word_in words j at other) ∙ sym (get_or-set_other words at j v 0 other)) (least.each j under (omega arith)) in
        omega arith

    found_at : (j : ℕ) → IsBelow j i → j < length (without words at) → w ≡ get_or (without words at) j 0 → min v w ≡ w → j ≢ at
        → (min v w ≡ none_word) ⊎ ((k : ℕ) × IsBelow k i × (k < length (set words at v)) × (min v w ≡ get_or (set words at v) k 0))
    found_at j under within e is other =
        let size = length-set words at v in
        let same = length-set words at none_word in
        inr (j, under, omega arith, is ∙ e ∙ sym (word_in words j at other) ∙ sym (get_or-set_other words at j v 0 other))
