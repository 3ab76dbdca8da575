-- Texts one behind another.
use Rattle.std.proofs.Common.{◌≡◌, ℕ, ◌+◌, List, [], ◌∷◌, ◌++◌, sym, ap, ◌∙◌, append_assoc, arith}
use Rattle.std.specs.Prelude.{map}
use Rattle.std.specs.List.{range_with_len}
use Rattle.std.proofs.lemmas.List.FromFn.{map-range_with_len_more}

joined : (a b c p q : List ℕ) → p ≡ a ++ b → q ≡ p ++ c → q ≡ a ++ (b ++ c)
joined a b c p q e g = g ∙ (ap (λ l. l ++ c) e ∙ append_assoc a b c)

pub five_texts : (a b c d e f v t u w x y : List ℕ) → b ≡ a ++ t → c ≡ b ++ v → v ≡ u → d ≡ c ++ w → e ≡ d ++ x → f ≡ e ++ y
    → f ≡ a ++ (t ++ (u ++ (w ++ (x ++ y))))
five_texts a b c d e f v t u w x y one two same three four five =
    let second = joined a t u b c one (two ∙ ap (λ l. b ++ l) same) in
    let third = joined a (t ++ u) w c d second three in
    let fourth = joined a ((t ++ u) ++ w) x d e third four in
    let fifth = joined a (((t ++ u) ++ w) ++ x) y e f fourth five in
    fifth ∙ ap (λ l. a ++ l)
    (append_assoc ((t ++ u) ++ w) x y ∙ (append_assoc (t ++ u) w (x ++ y) ∙ append_assoc t u (w ++ (x ++ y))))

pub sums-more : (f : ℕ → ℕ) (place : ℕ) (old new : List ℕ) (n : ℕ) → old ≡ map f (range_with_len 0 place) → n ≡ f place → new ≡ old ++ n ∷ []
    → new ≡ map f (range_with_len 0 (place + 1))
sums-more f place old new n before e is =
    let here : 0 + place ≡ place = omega arith in
    is ∙ (ap (λ l. l ++ n ∷ []) before ∙ (ap (λ k. map f (range_with_len 0 place) ++ k ∷ []) e ∙ sym (map-range_with_len_more f 0 place place here)))
