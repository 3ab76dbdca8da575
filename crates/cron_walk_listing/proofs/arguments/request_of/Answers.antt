use Rattle.std.proofs.lemmas.Grind.{common_steps}
use Rattle.std.proofs.Common.{rules, ◌≡◌, ◌↔◌, ◌<◌, ◌≤◌, ℕ, length, map, List, [], ◌∷◌, slice_index_or, codes, sym, ap, ◌∙◌, arith}
use Rattle.cron_walk_listing.specs.Arguments.{AreReadable, IsReadable}
use Rattle.cron_walk_listing.proofs.arguments.request_of.Goals as goal

-- five arguments of which the last is `back` can be read just where START, ZONE and COUNT can
five_arguments : {S : Type 0} (f : S → List ℕ) (arguments : List S) (start zone count last : S) (x y z : List ℕ) (Read : Type 0)
    → 5 ≤ length arguments → length arguments < 6
    → start ≡ slice_index_or arguments 1 start → zone ≡ slice_index_or arguments 2 zone → count ≡ slice_index_or arguments 3 count
    → last ≡ slice_index_or arguments 4 last
    → x ≡ f start → y ≡ f zone → z ≡ f count → f last ≡ codes "back"
    → (Read ↔ AreReadable x y z) → Read ↔ IsReadable (map f arguments)
five_arguments f [] start zone count last x y z R low high s t u v p q r back i = absurd (omega arith)
five_arguments f (a ∷ []) start zone count last x y z R low high s t u v p q r back i = absurd (omega arith)
five_arguments f (a ∷ (b ∷ [])) start zone count last x y z R low high s t u v p q r back i = absurd (omega arith)
five_arguments f (a ∷ (b ∷ (c ∷ []))) start zone count last x y z R low high s t u v p q r back i = absurd (omega arith)
five_arguments f (a ∷ (b ∷ (c ∷ (d ∷ [])))) start zone count last x y z R low high s t u v p q r back i = absurd (omega arith)
five_arguments f (a ∷ (b ∷ (c ∷ (d ∷ (e ∷ []))))) start zone count last x y z R low high s t u v p q r back i =
    let is_back : f e ≡ codes "back" = sym (ap f v) ∙ back in
    let j : R ↔ AreReadable (f b) (f c) (f d) = rw (sym (p ∙ ap f s), sym (q ∙ ap f t), sym (r ∙ ap f u)) i in
    (λ read. (is_back, j.0 read), λ readable. j.1 readable.1)
five_arguments f (a ∷ (b ∷ (c ∷ (d ∷ (e ∷ (g ∷ more)))))) start zone count last x y z R low high s t u v p q r back i = absurd (omega arith)

pub returns-in-len5-clause-succeeds : goal.returns-in-len5-clause-succeeds
returns-in-len5-clause-succeeds c =
    five_arguments _ c.args.arguments.now c.start-item-then-arguments-lt6.result c.zone-item-then-arguments-lt6.result
    c.count-item-then-arguments-lt6.result c.last-item.result
    c.as_str-in-len5-2.result.now c.as_str-in-len5-3.result.now c.as_str-in-len5-4.result.now _ c.in-len5.len_at_least c.in-len5.len_below
    c.start-item-then-arguments-lt6.is c.zone-item-then-arguments-lt6.is c.count-item-then-arguments-lt6.is c.last-item.is
    c.as_str-in-len5-2.ensures.value c.as_str-in-len5-3.ensures.value c.as_str-in-len5-4.ensures.value (search rules) c.read-in-len5.ensures.succeeds

pub returns-in-len4-clause-succeeds : goal.returns-in-len4-clause-succeeds
returns-in-len4-clause-succeeds c = grind (arith, common_steps)

pub returns-in-len4-clause-value : goal.returns-in-len4-clause-value
returns-in-len4-clause-value c = grind (arith, common_steps)

pub returns-in-len5-clause-value : goal.returns-in-len5-clause-value
returns-in-len5-clause-value c = grind (arith, common_steps)

pub returns-in_default-clause-succeeds : goal.returns-in_default-clause-succeeds
returns-in_default-clause-succeeds c = grind (arith, common_steps)

pub returns-in_default-clause-value : goal.returns-in_default-clause-value
returns-in_default-clause-value c = search rules
