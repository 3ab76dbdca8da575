-- What a step of a sweep does to the slots in parts.
use Rattle.std.proofs.Common.{◌≡◌, ℕ, ◌+◌, ◌-◌, ◌<◌, ℤ, List, [], ◌∷◌, ◌++◌, length, map, set, take, get_or, true, Option, Some, None, refl, sym, ap, subst, ◌∙◌, arith, append_assoc, length-append}
use Rattle.std.specs.Prelude.{slice_get}
use Rattle.std.specs.List.{swap}
use Rattle.std.specs.Option.{is_none, option_map}
use Rattle.std.proofs.lemmas.List.{append-nil, take-map, length-map, length-take-le, map-set}
use Rattle.std.proofs.lemmas.List.Edits.{swap_is}
use Rattle.std.proofs.lemmas.Option.{get_or_from_slice_get, slice_get-map, slice_get_within}
use Rattle.std.proofs.Math.Seq.{take-append-add}
use Rattle.cron_agenda.specs.declared.fire.EntryFire.{EntryFire}
use Rattle.cron_agenda.specs.declared.slots.Slot.{Slot}
use Rattle.cron_agenda.specs.Fires.{instant}
use Rattle.cron_agenda.specs.Inner.Slots.{AreInParts, IdsAscend, IsKept, entries_of, instant_of}
use Rattle.cron_agenda.proofs.ListLemmas.{some_same}
use Rattle.cron_agenda.proofs.PartLemmas.{all_packed, none_packed, at_rest, dead_between, dead_both, dead_front, dead_one, dead_own, entries_in_parts, in_order, is_empty, size_is, some_at}
use Rattle.cron_agenda.proofs.SlotLemmas.{ids-skip}

-- ---- a slot is scanned

-- the first of them goes last
abbrev turned : {X : Type 0} → List X → List X
turned [] = []
turned (x ∷ l) = l ++ x ∷ []

length-turned : {X : Type 0} (l : List X) → length (turned l) ≡ length l
length-turned [] = refl
length-turned (x ∷ l) = length-append l (x ∷ []) ∙ omega arith

dead-turned : {T : Type 0} (ss : List (Slot T)) → entries_of ss ≡ [] → entries_of (turned ss) ≡ []
dead-turned [] none = refl
dead-turned (s ∷ ss) none = let own = dead_own s ss none in dead_both ss (s ∷ []) own.1 (dead_one s own.0)

get_or_seam : {X : Type 0} (l r : List X) (x d : X) → get_or (l ++ x ∷ r) (length l) d ≡ x
get_or_seam [] r x d = refl
get_or_seam (y ∷ l) r x d = get_or_seam l r x d

set_seam : {X : Type 0} (l r : List X) (x y : X) → set (l ++ x ∷ r) (length l) y ≡ l ++ y ∷ r
set_seam [] r x y = refl
set_seam (z ∷ l) r x y = ap (λ m. z ∷ m) (set_seam l r x y)

-- two places of a list in parts change places
exchanged : {X : Type 0} (front between rest : List X) (s d : X)
    → set (set (front ++ (between ++ s ∷ rest)) (length front) (get_or (front ++ (between ++ s ∷ rest)) (length (front ++ between)) d))
    (length (front ++ between)) (get_or (front ++ (between ++ s ∷ rest)) (length front) d) ≡ front ++ s ∷ (turned between ++ rest)
exchanged [] [] rest s d = refl
exchanged [] (g ∷ between) rest s d =
    ap (λ x. x ∷ set (between ++ s ∷ rest) (length between) g) (get_or_seam between rest s d)
    ∙ ap (λ m. s ∷ m) (set_seam between rest s g ∙ sym (append_assoc between (g ∷ []) rest))
exchanged (x ∷ front) between rest s d = ap (λ m. x ∷ m) (exchanged front between rest s d)

first_of : {X : Type 0} (l : List X) (x : X) → slice_get l 0 ≡ Some x → (rest : List X) × (l ≡ x ∷ rest)
first_of [] x e = cc
first_of (y ∷ l) x e = (l, ap (λ v. v ∷ l) (some_same e))

module _ {T : Type 0} {slots : List (Slot T)} {packed scanned added : ℕ} (parts : AreInParts slots packed scanned added) (s : Slot T)
    (here : slice_get slots scanned ≡ Some s) where
  cut : (rest : List (Slot T)) × (parts.rest ≡ s ∷ rest)
  cut =
      let at : scanned ≡ scanned + 0 = omega arith in
      first_of parts.rest s (at_rest parts 0 s (subst (λ k. slice_get slots k ≡ Some s) at here))

  are_cut : slots ≡ parts.front ++ (parts.between ++ s ∷ cut.0)
  are_cut = parts.are ∙ ap (λ l. parts.front ++ (parts.between ++ l)) cut.1

  ids_cut : IdsAscend 0 (parts.front ++ s ∷ cut.0) added
  ids_cut = subst (λ l. IdsAscend 0 (parts.front ++ l) added) cut.1 parts.ids

  -- it stays where it has no fire
  pub passed_parts : s.head ≡ None → AreInParts slots packed (scanned + 1) added
  passed_parts dead =
      let both = parts.scanned_are in
      let size = length-append parts.between (s ∷ []) in record {
        front = parts.front;
        between = parts.between ++ s ∷ [];
        rest = cut.0;
        are = are_cut ∙ ap (λ l. parts.front ++ l) (sym (append_assoc parts.between (s ∷ []) cut.0));
        packed_are = parts.packed_are;
        scanned_are = omega arith;
        ids = ids-skip parts.front cut.0 s 0 added ids_cut;
        none = dead_both parts.between (s ∷ []) parts.none (dead_one s dead);
      }

  -- else it changes places with the first one that is left over
  exchange : swap slots packed scanned ≡ parts.front ++ s ∷ (turned parts.between ++ cut.0)
  exchange =
      let front = parts.packed_are in let both = parts.scanned_are in
      let order = in_order parts in let le = order.0 in
      let less = slice_get_within slots scanned s here in
      sym (swap_is slots packed scanned s (omega arith) less)
      ∙ ap (λ l. set (set l packed (get_or l scanned s)) scanned (get_or l packed s)) are_cut
      ∙ subst (λ q. set (set (parts.front ++ (parts.between ++ s ∷ cut.0)) packed (get_or (parts.front ++ (parts.between ++ s ∷ cut.0)) q s)) q (get_or (parts.front ++ (parts.between ++ s ∷ cut.0)) packed s)
      ≡ parts.front ++ s ∷ (turned parts.between ++ cut.0)) (length-append parts.front parts.between ∙ both)
      (subst (λ p. set (set (parts.front ++ (parts.between ++ s ∷ cut.0)) p (get_or (parts.front ++ (parts.between ++ s ∷ cut.0)) (length (parts.front ++ parts.between)) s)) (length (parts.front ++ parts.between)) (get_or (parts.front ++ (parts.between ++ s ∷ cut.0)) p s)
      ≡ parts.front ++ s ∷ (turned parts.between ++ cut.0)) front
      (exchanged parts.front parts.between cut.0 s s))

  pub moved_parts : AreInParts (swap slots packed scanned) (packed + 1) (scanned + 1) added
  moved_parts =
      let front = parts.packed_are in let both = parts.scanned_are in
      let more = length-append parts.front (s ∷ []) in
      let size = length-turned parts.between in record {
        front = parts.front ++ s ∷ [];
        between = turned parts.between;
        rest = cut.0;
        are = exchange ∙ sym (append_assoc parts.front (s ∷ []) (turned parts.between ++ cut.0));
        packed_are = omega arith;
        scanned_are = omega arith;
        ids = subst (λ l. IdsAscend 0 l added) (sym (append_assoc parts.front (s ∷ []) cut.0)) ids_cut;
        none = dead-turned parts.between parts.none;
      }

  pub moved_entries : entries_of (swap slots packed scanned) ≡ entries_of slots
  unfolding moved_parts
  moved_entries =
      entries_in_parts moved_parts ∙ ap entries_of (append_assoc parts.front (s ∷ []) cut.0 ∙ ap (λ l. parts.front ++ l) (sym cut.1))
      ∙ sym (entries_in_parts parts)

  -- and so do their instants
  pub moved_keys : (u : Slot T) → slice_get slots packed ≡ Some u
      → set (set (map instant_of slots) packed (instant_of s)) scanned (instant_of u) ≡ map instant_of (swap slots packed scanned)
  moved_keys u there =
      let order = in_order parts in let le = order.0 in
      let less = slice_get_within slots scanned s here in
      sym (ap (map instant_of) (sym (swap_is slots packed scanned s (omega arith) less)
      ∙ ap (λ v. set (set slots packed v) scanned (get_or slots packed s)) (get_or_from_slice_get slots scanned s s here)
      ∙ ap (λ v. set (set slots packed s) scanned v) (get_or_from_slice_get slots packed u s there))
      ∙ map-set instant_of (set slots packed s) scanned u
      ∙ ap (λ l. set l scanned (instant_of u)) (map-set instant_of slots packed s))

-- ---- the last slot goes

module _ {T : Type 0} {slots : List (Slot T)} {packed scanned added : ℕ} (parts : AreInParts slots packed scanned added)
    (all : length slots ≡ scanned) (some : packed < scanned) where
  nothing_behind : parts.rest ≡ []
  nothing_behind =
      let size = size_is parts in let both = parts.scanned_are in
      is_empty parts.rest (omega arith)

  are_two : slots ≡ parts.front ++ parts.between
  are_two = parts.are ∙ ap (λ l. parts.front ++ l) (ap (λ l. parts.between ++ l) nothing_behind ∙ append-nil parts.between)

  shorter : take (scanned - 1) slots ≡ parts.front ++ take (length parts.between - 1) parts.between
  shorter =
      let front = parts.packed_are in let both = parts.scanned_are in
      let at : scanned - 1 ≡ length parts.front + (length parts.between - 1) = omega arith in
      ap (take (scanned - 1)) are_two ∙ ap (λ n. take n (parts.front ++ parts.between)) at
      ∙ take-append-add parts.front parts.between (length parts.between - 1)

  pub shorter_parts : AreInParts (take (scanned - 1) slots) packed (scanned - 1) added
  shorter_parts =
      let front = parts.packed_are in let both = parts.scanned_are in
      let size = length-take-le (length parts.between - 1) parts.between (omega arith) in record {
        front = parts.front;
        between = take (length parts.between - 1) parts.between;
        rest = [];
        are = shorter ∙ ap (λ l. parts.front ++ l) (sym (append-nil (take (length parts.between - 1) parts.between)));
        packed_are = front;
        scanned_are = omega arith;
        ids = subst (λ l. IdsAscend 0 (parts.front ++ l) added) nothing_behind parts.ids;
        none = dead_front (length parts.between - 1) parts.between parts.none;
      }

  pub shorter_entries : entries_of (take (scanned - 1) slots) ≡ entries_of slots
  unfolding shorter_parts
  shorter_entries =
      entries_in_parts shorter_parts ∙ ap (λ l. entries_of (parts.front ++ l)) (sym nothing_behind) ∙ sym (entries_in_parts parts)

  pub last_dead : slice_get (map instant_of slots) (length (map instant_of slots) - 1) ≡ Some None
  last_dead =
      let size = length-map slots instant_of in
      let last = some_at slots (scanned - 1) (omega arith) in
      let dead = dead_between parts (scanned - 1) last.0 last.1 (omega arith) (omega arith) in
      let at : length (map instant_of slots) - 1 ≡ scanned - 1 = omega arith in
      ap (slice_get (map instant_of slots)) at ∙ slice_get-map instant_of slots (scanned - 1) ∙ ap (option_map instant_of) last.1
      ∙ ap (λ h. Some (option_map instant h)) dead

-- ---- so an agenda keeps what it keeps

pub no_head : (h : Option EntryFire) → is_none (option_map instant h) ≡ true → h ≡ None
no_head None e = refl
no_head (Some q) e = cc

module _ {T : Type 0} {slots : List (Slot T)} {firsts : List (Option ℤ)} {live added packed scanned : ℕ} (kept : IsKept slots firsts live added packed scanned) where
  pub kept_begun : packed ≡ length slots → IsKept slots firsts live added 0 0
  kept_begun all = record { keys = kept.keys; parts = none_packed kept.parts all; count = kept.count }

  pub kept_packed : packed ≡ scanned → IsKept slots firsts live added (length slots) (length slots)
  kept_packed same = record { keys = kept.keys; parts = all_packed kept.parts same; count = kept.count }

  pub kept_passed : (s : Slot T) → slice_get slots scanned ≡ Some s → s.head ≡ None → IsKept slots firsts live added packed (scanned + 1)
  kept_passed s here dead = record { keys = kept.keys; parts = passed_parts kept.parts s here dead; count = kept.count }

  pub kept_moved : (s u : Slot T) → slice_get slots scanned ≡ Some s → slice_get slots packed ≡ Some u
      → IsKept (swap slots packed scanned) (set (set firsts packed (instant_of s)) scanned (instant_of u)) live added (packed + 1) (scanned + 1)
  kept_moved s u here there = record {
    keys = ap (λ l. set (set l packed (instant_of s)) scanned (instant_of u)) kept.keys ∙ moved_keys kept.parts s here u there;
    parts = moved_parts kept.parts s here;
    count = kept.count ∙ sym (ap length (moved_entries kept.parts s here));
  }

  pub kept_shorter : length slots ≡ scanned → packed < scanned → IsKept (take (scanned - 1) slots) (take (scanned - 1) firsts) live added packed (scanned - 1)
  kept_shorter all some = record {
    keys = ap (take (scanned - 1)) kept.keys ∙ take-map instant_of (scanned - 1) slots;
    parts = shorter_parts kept.parts all some;
    count = kept.count ∙ sym (ap length (shorter_entries kept.parts all some));
  }
