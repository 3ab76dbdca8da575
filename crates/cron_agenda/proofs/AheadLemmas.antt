-- One entry alone comes first.
use Rattle.std.proofs.Common.{◌≡◌, ℕ, ℤ, true, List, [], ◌∷◌, ◌++◌, sym, subst, ◌∙◌, arith}
use Rattle.std.proofs.lemmas.Int.{ints}
use Rattle.cron_instants.specs.Order.{comes_before}
use Rattle.cron_agenda.specs.declared.entry.Entry.{Entry}
use Rattle.cron_agenda.specs.Entries.{ComesFirst, IsBeforeAll, is_before}
use Rattle.cron_agenda.specs.Fires.{instant}

not_both_by : (i : ℤ) (p : ℕ) (j : ℤ) (q : ℕ) → comes_before i p j q ≡ true → comes_before j q i p ≡ true → ⊥
not_both_by i p j q h g = grind (arith, ints)

not_both : {T : Type 0} (e o : Entry T) → is_before e o ≡ true → is_before o e ≡ true → ⊥
not_both e o h g = not_both_by (instant e.fire) e.id (instant o.fire) o.id h g

before-at : {T : Type 0} (e o : Entry T) (a b : List (Entry T)) → IsBeforeAll e (a ++ o ∷ b) → is_before e o ≡ true
before-at e o [] b h = h.0
before-at e o (x ∷ a) b h = before-at e o a b h.1

heads : {X : Type 0} (x y : X) (l m : List X) → x ∷ l ≡ y ∷ m → x ≡ y
heads x y l m e = cc

tails : {X : Type 0} (x y : X) (l m : List X) → x ∷ l ≡ y ∷ m → l ≡ m
tails x y l m e = cc

one_first : {T : Type 0} (e o : Entry T) (a b c d : List (Entry T)) → a ++ e ∷ b ≡ c ++ o ∷ d → IsBeforeAll e (a ++ b) → IsBeforeAll o (c ++ d) → e ≡ o
one_first e o [] b [] d same h g = heads e o b d same
one_first e o [] b (y ∷ c) d same h g =
    let less = before-at e o c d (subst (IsBeforeAll e) (tails e y b (c ++ o ∷ d) same) h) in
    let more = subst (λ x. is_before o x ≡ true) (sym (heads e y b (c ++ o ∷ d) same)) g.0 in
    absurd (not_both e o less more)
one_first e o (x ∷ a) b [] d same h g =
    let more = before-at o e a b (subst (IsBeforeAll o) (sym (tails x o (a ++ e ∷ b) d same)) g) in
    let less = subst (λ y. is_before e y ≡ true) (heads x o (a ++ e ∷ b) d same) h.0 in
    absurd (not_both e o less more)
one_first e o (x ∷ a) b (y ∷ c) d same h g = one_first e o a b c d (tails x y (a ++ e ∷ b) (c ++ o ∷ d) same) h.1 g.1

pub first-one : {T : Type 0} (es : List (Entry T)) (e o : Entry T) → ComesFirst es e → ComesFirst es o → e ≡ o
first-one es e o f g = one_first e o f.before f.after g.before g.after (sym f.is ∙ g.is) f.others g.others
