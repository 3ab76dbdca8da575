-- The nearest of some readings.
use Rattle.std.proofs.Common.{◌≡◌, Bool, true, false, cond, Option, Some, None, ◌⊎◌, inl, inr, refl, sym, subst, ◌∙◌}
use Rattle.cron_units.specs.declared.way.Way.{Way}
use Rattle.cron_moments.specs.Readings.{Reading}
use Rattle.cron_instants.specs.Beyond.{is_nearer, nearer_of, IsBest, IsBettered, IsNoBetter}
use Rattle.cron_instants.proofs.OrderLemmas.{nearer-through, nearer-not_back}

-- the nearest of some is the nearest of more, where no other is better
pub best_of_more : (way : Way) (P Q : Reading → Type 0) (best : Option Reading) → IsBest way P best → ((r : Reading) → P r → Q r)
    → ((r : Reading) → Q r → P r ⊎ IsNoBetter way best r) → IsBest way Q best
best_of_more way P Q None none more less = λ r q. elim (less r q) [ inl p ↦ none r p | inr bad ↦ bad ]
best_of_more way P Q (Some b) found more less =
    (more b found.0, λ r q. elim (less r q) [ inl p ↦ found.1 r p | inr worse ↦ worse ])

-- the nearer of the nearest of some and of others
pub best_of_both : (way : Way) (P Q : Reading → Type 0) (a b : Option Reading) → IsBest way P a → IsBest way Q b
    → IsBest way (λ r. P r ⊎ Q r) (nearer_of way a b)
best_of_both way P Q None None none absent = λ r pq. elim pq [ inl p ↦ none r p | inr q ↦ absent r q ]
best_of_both way P Q None (Some b) none found =
    (inr found.0, λ r pq. elim pq [ inl p ↦ absurd (none r p) | inr q ↦ found.1 r q ])
best_of_both way P Q (Some a) None found none =
    (inl found.0, λ r pq. elim pq [ inl p ↦ found.1 r p | inr q ↦ absurd (none r q) ])
best_of_both way P Q (Some a) (Some b) one other = by_nearer (is_nearer way b a) refl
  where
    by_nearer : (nearer : Bool) → is_nearer way b a ≡ nearer → IsBest way (λ r. P r ⊎ Q r) (cond nearer (Some b) (Some a))
    by_nearer true is = (
      inr other.0,
      λ r pq. elim pq [
        | inl p ↦ nearer-through way r a b (one.1 r p) (nearer-not_back way b a is)
        | inr q ↦ other.1 r q
      ],
    )
    by_nearer false is = (
      inl one.0,
      λ r pq. elim pq [
        | inl p ↦ one.1 r p
        | inr q ↦ nearer-through way r b a (other.1 r q) is
      ],
    )

-- a reading isn't reached before itself
not_itself : (way : Way) (r : Reading) → is_nearer way r r ≡ false
not_itself way r = by_test (is_nearer way r r) refl
  where
    by_test : (test : Bool) → is_nearer way r r ≡ test → test ≡ false
    by_test true is = sym is ∙ nearer-not_back way r r is
    by_test false is = refl

only_best : (way : Way) (best : Option Reading) → IsBest way (λ r. best ≡ Some r) best
only_best way None = λ r e. cc
only_best way (Some b) = (refl, λ r e. let same : b ≡ r = cc in subst (λ q. is_nearer way q b ≡ false) same (not_itself way b))

-- the best so far stays where no other is better
pub best_kept : (way : Way) (P : Reading → Type 0) (best : Option Reading) → ((r : Reading) → P r → IsNoBetter way best r) → IsBettered way P best best
best_kept way P best worse =
    best_of_more way (λ r. best ≡ Some r) (λ r. (best ≡ Some r) ⊎ P r) best (only_best way best) (λ r e. inl e)
    (λ r either. elim either [ inl e ↦ inl e | inr p ↦ inr (worse r p) ])

pub best_found : (way : Way) (P : Reading → Type 0) (best found : Option Reading) → IsBest way P found → IsBettered way P best (nearer_of way best found)
best_found way P best found nearest = best_of_both way (λ r. best ≡ Some r) P best found (only_best way best) nearest

-- the nearest of the nearest of some and others is the nearest of both
pub best_chained : (way : Way) (P Q : Reading → Type 0) (a b : Option Reading) → IsBest way P a → IsBettered way Q a b → IsBest way (λ r. P r ⊎ Q r) b
best_chained way P Q None None none absent = λ r pq. elim pq [ inl p ↦ none r p | inr q ↦ absent r (inr q) ]
best_chained way P Q None (Some c) none found = (
  elim found.0 [ inl e ↦ cc | inr q ↦ inr q ],
  λ r pq. elim pq [ inl p ↦ absurd (none r p) | inr q ↦ found.1 r (inr q) ],
)
best_chained way P Q (Some b) None one absent = λ r pq. absent b (inl refl)
best_chained way P Q (Some b) (Some c) one found = (
  elim found.0 [ inl e ↦ let same : b ≡ c = cc in inl (subst P same one.0) | inr q ↦ inr q ],
  λ r pq. elim pq [
    | inl p ↦ nearer-through way r b c (one.1 r p) (found.1 b (inl refl))
    | inr q ↦ found.1 r (inr q)
  ],
)
