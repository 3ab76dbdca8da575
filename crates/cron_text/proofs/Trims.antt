-- A text without the white space at its ends.
use Rattle.std.proofs.Common.{◌≡◌, ℕ, true, false, List, [], ◌∷◌, ◌++◌, refl, ap, ◌∙◌, length, arith}
use Rattle.cron_text.specs.Meaning.{trimmed_front, trimmed_end, before_rest}
use Rattle.cron_text.specs.Tokens.{is_space}

-- nothing is before a text that begins with no white space
pub front_stays : (c : ℕ) (cs : List ℕ) → is_space c ≡ false → trimmed_front (c ∷ cs) ≡ c ∷ cs
unfolding trimmed_front
front_stays c cs h = rw h refl

pub front_none : trimmed_front [] ≡ []
unfolding trimmed_front
front_none = refl

pub front_more : (c : ℕ) (cs : List ℕ) → is_space c ≡ true → trimmed_front (c ∷ cs) ≡ trimmed_front cs
unfolding trimmed_front
front_more c cs h = rw h refl

pub end_none : trimmed_end [] ≡ []
unfolding trimmed_end
end_none = refl

-- white space at the end is dropped
pub end_more : (cs : List ℕ) (c : ℕ) → is_space c ≡ true → trimmed_end (cs ++ c ∷ []) ≡ trimmed_end cs
unfolding trimmed_end
end_more [] c h = rw h refl
end_more (d ∷ cs) c h = ap (before_rest d) (end_more cs c h)

before_some : (d : ℕ) (cs : List ℕ) (c : ℕ) → before_rest d (cs ++ c ∷ []) ≡ d ∷ (cs ++ c ∷ [])
before_some d [] c = refl
before_some d (e ∷ cs) c = refl

-- a text that ends with no white space stays
pub end_stays : (cs : List ℕ) (c : ℕ) → is_space c ≡ false → trimmed_end (cs ++ c ∷ []) ≡ cs ++ c ∷ []
unfolding trimmed_end
end_stays [] c h = rw h refl
end_stays (d ∷ cs) c h = ap (before_rest d) (end_stays cs c h) ∙ before_some d cs c

pub end_empty : (cs : List ℕ) → length cs ≡ 0 → trimmed_end cs ≡ cs
end_empty [] h = end_none
end_empty (c ∷ cs) h = absurd (omega (arith, h))

pub front_empty : (cs : List ℕ) → length cs ≡ 0 → trimmed_front cs ≡ cs
front_empty [] h = front_none
front_empty (c ∷ cs) h = absurd (omega (arith, h))
