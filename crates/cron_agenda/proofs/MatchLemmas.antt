-- The next fire of each entry stays at a match as slots change.
use Rattle.std.proofs.Common.{◌≡◌, ℕ, zero, suc, List, [], ◌∷◌, ◌++◌, set, take, get_or, Option, Some, None, ◌⊎◌, inl, inr, sym, ap, subst, ◌∙◌}
use Rattle.std.specs.Prelude.{IfSome, slice_get}
use Rattle.std.specs.List.{swap}
use Rattle.std.proofs.lemmas.List.Edits.{swap_is}
use Rattle.std.proofs.lemmas.Option.{get_or_from_slice_get, slice_get_within}
use Rattle.cron_time.specs.Seconds.{Seconds}
use Rattle.cron_fires.specs.Matches.{Matches}
use Rattle.cron_agenda.specs.declared.fire.EntryFire.{EntryFire}
use Rattle.cron_agenda.specs.declared.slots.Slot.{Slot}
use Rattle.cron_agenda.specs.Fires.{civil_second}
use Rattle.cron_agenda.specs.Inner.Slots.{FiresMatch}
use Rattle.cron_agenda.proofs.ListLemmas.{some_same}
use Rattle.cron_agenda.proofs.SlotLemmas.{with_head}

-- what a list has after a change it had before, but for what was put in
get_put : {X : Type 0} (l : List X) (i k : ℕ) (a x : X) → slice_get (set l i a) k ≡ Some x → (x ≡ a) ⊎ (slice_get l k ≡ Some x)
get_put [] i k a x e = inr e
get_put (y ∷ l) zero zero a x e = inl (sym (some_same e))
get_put (y ∷ l) zero (suc k) a x e = inr e
get_put (y ∷ l) (suc i) zero a x e = inr e
get_put (y ∷ l) (suc i) (suc k) a x e = get_put l i k a x e

get_more : {X : Type 0} (l : List X) (k : ℕ) (a x : X) → slice_get (l ++ a ∷ []) k ≡ Some x → (x ≡ a) ⊎ (slice_get l k ≡ Some x)
get_more [] zero a x e = inl (sym (some_same e))
get_more [] (suc k) a x e = cc
get_more (y ∷ l) zero a x e = inr e
get_more (y ∷ l) (suc k) a x e = get_more l k a x e

get_fewer : {X : Type 0} (n : ℕ) (l : List X) (k : ℕ) (x : X) → slice_get (take n l) k ≡ Some x → slice_get l k ≡ Some x
get_fewer zero l k x e = cc
get_fewer (suc n) [] k x e = cc
get_fewer (suc n) (y ∷ l) zero x e = e
get_fewer (suc n) (y ∷ l) (suc k) x e = get_fewer n l k x e

module _ {T : Type 0} (has : T → Seconds) where
  -- the slot's next fire, if it has one, is at a match
  abbrev pub FireMatches : Slot T → Type 0
  FireMatches s = (fire : EntryFire) → s.head ≡ Some fire → Matches (has s.table) (civil_second fire)

  pub match_none : FiresMatch has []
  match_none = λ i s fire here head. cc

  pub match_put : (slots : List (Slot T)) (place : ℕ) (t : Slot T) → FiresMatch has slots → FireMatches t → FiresMatch has (set slots place t)
  match_put slots place t match own = λ i s fire here head.
      elim (get_put slots place i t s here) [
        | inl same ↦ let is = rw same at head in rw same (own fire is)
        | inr there ↦ match i s fire there head
      ]

  pub match_more : (slots : List (Slot T)) (t : Slot T) → FiresMatch has slots → FireMatches t → FiresMatch has (slots ++ t ∷ [])
  match_more slots t match own = λ i s fire here head.
      elim (get_more slots i t s here) [
        | inl same ↦ let is = rw same at head in rw same (own fire is)
        | inr there ↦ match i s fire there head
      ]

  pub match_fewer : (n : ℕ) (slots : List (Slot T)) → FiresMatch has slots → FiresMatch has (take n slots)
  match_fewer n slots match = λ i s fire here head. match i s fire (get_fewer n slots i s here) head

  pub match_swapped : (slots : List (Slot T)) (i j : ℕ) (s t : Slot T) → slice_get slots i ≡ Some s → slice_get slots j ≡ Some t
      → FiresMatch has slots → FiresMatch has (swap slots i j)
  match_swapped slots i j s t here there match =
      let is : swap slots i j ≡ set (set slots i t) j s =
      sym (swap_is slots i j s (slice_get_within slots i s here) (slice_get_within slots j t there)) ∙ ap (λ v. set (set slots i v) j (get_or slots i s)) (get_or_from_slice_get slots j t s there)
      ∙ ap (λ v. set (set slots i t) j v) (get_or_from_slice_get slots i s s here) in
      rw is (match_put (set slots i t) j s (match_put slots i t match (λ fire head. match j t fire there head)) (λ fire head. match i s fire here head))

  -- an entry whose fire was taken goes on
  pub match_taken : (slots : List (Slot T)) (place : ℕ) (s again : Slot T) (h : Option EntryFire) → slice_get slots place ≡ Some s
      → slice_get slots place ≡ Some again → IfSome h (λ f. Matches (has s.table) (civil_second f)) → FiresMatch has slots
      → FiresMatch has (set slots place (with_head h again))
  match_taken slots place s again h here reread own match =
      let same : s ≡ again = some_same (sym here ∙ reread) in
      match_put slots place (with_head h again) match (λ fire head.
      subst (λ (u : Slot T). Matches (has u.table) (civil_second fire)) same
      (subst (λ o. IfSome o (λ f. Matches (has s.table) (civil_second f))) head own))

  -- one that is removed has no fire left
  pub match_emptied : (slots : List (Slot T)) (place : ℕ) (s : Slot T) → FiresMatch has slots → FiresMatch has (set slots place (with_head None s))
  match_emptied slots place s match = match_put slots place (with_head None s) match (λ fire head. cc)

  pub match_added : (slots : List (Slot T)) (id zone : ℕ) (table : T) (fire : EntryFire) → Matches (has table) (civil_second fire)
      → FiresMatch has slots → FiresMatch has (slots ++ record { id = id; table = table; zone = zone; head = Some fire } ∷ [])
  match_added slots id zone table fire own match =
      match_more slots (record { id = id; table = table; zone = zone; head = Some fire }) match
      (λ f head. subst (λ g. Matches (has table) (civil_second g)) (some_same head) own)
