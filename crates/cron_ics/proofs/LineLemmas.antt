-- Texts one behind another.
use Rattle.std.proofs.Common.{◌≡◌, ℕ, suc, ◌+◌, ◌<◌, List, [], ◌∷◌, ◌++◌, flat_map, get_or, length, refl, sym, take, take-suc, ap, ◌∙◌, append_assoc, append-nil, arith}
use Rattle.std.proofs.lemmas.List.{flat_map_more}
use Rattle.cron_ics.specs.declared.fires.Fire.{Fire}

pub eight_texts : (a b c d e f g t u v w x y z r : List ℕ) → b ≡ a ++ t → c ≡ b ++ u → d ≡ c ++ (v ++ (w ++ (x ++ []))) → e ≡ d ++ y → f ≡ e ++ z
    → g ≡ f ++ r → g ≡ a ++ (t ++ (u ++ (v ++ (w ++ (x ++ (y ++ (z ++ (r ++ []))))))))
eight_texts a b c d e f g t u v w x y z r one two three four five six =
    rw (six, five, four, three, two, one) (simp (append_assoc, append-nil) refl)

pub more_events : (f : Fire → List ℕ) (base page new : List ℕ) (fires : List Fire) (i : ℕ) (x : Fire) → i < length fires → x ≡ get_or fires i x
    → page ≡ base ++ flat_map f (take i fires) → new ≡ page ++ f x → new ≡ base ++ flat_map f (take (i + 1) fires)
more_events f base page new fires i x within is before more =
    let on : i + 1 ≡ suc i = omega arith in
    let front : take i fires ++ x ∷ [] ≡ take (i + 1) fires =
    ap (λ y. take i fires ++ y ∷ []) is ∙ (sym (take-suc fires i x within) ∙ ap (λ n. take n fires) (sym on)) in
    more ∙ (ap (λ l. l ++ f x) before ∙ (flat_map_more f base (take i fires) x ∙ ap (λ l. base ++ flat_map f l) front))
