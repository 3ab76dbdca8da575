-- Slots in three parts, and what a step of a sweep does to them.
use Rattle.std.proofs.Common.{◌≡◌, ℕ, zero, suc, ◌+◌, ◌-◌, ◌<◌, ◌≤◌, ℤ, List, [], ◌∷◌, ◌++◌, length, set, take, Option, Some, None, inl, inr, refl, sym, ap, subst, ◌∙◌, arith, append_assoc, length-append, length-set}
use Rattle.std.specs.Prelude.{slice_get}
use Rattle.std.proofs.lemmas.Bool.{cases_lt}
use Rattle.std.proofs.lemmas.List.{append-nil, map-append, set-append_left, set-append_right}
use Rattle.cron_time.proofs.PlaceLemmas.{slice_get-append}
use Rattle.cron_agenda.specs.declared.fire.EntryFire.{EntryFire}
use Rattle.cron_agenda.specs.declared.slots.Slot.{Slot}
use Rattle.cron_agenda.specs.Fires.{instant}
use Rattle.cron_agenda.specs.Entries.{HaveIds, entry}
use Rattle.cron_agenda.specs.Inner.Slots.{AreInParts, IdsAscend, IsKept, entries_of, entry_when, instant_of}
use Rattle.cron_agenda.proofs.ListLemmas.{Split, split, get-before, get-behind, some_same}
use Rattle.cron_agenda.proofs.SlotLemmas.{entries-append, entries-more, have_ids, ids-end, ids-put}

-- ---- lists in parts

pub get_left : {X : Type 0} (a b : List X) (i : ℕ) (x : X) → i < length a → slice_get (a ++ b) i ≡ Some x → slice_get a i ≡ Some x
get_left [] b i x less e = absurd (omega arith)
get_left (y ∷ a) b zero x less e = e
get_left (y ∷ a) b (suc i) x less e = get_left a b i x (omega arith) e

pub get_right : {X : Type 0} (a b : List X) (i j : ℕ) (x : X) → j ≡ length a + i → slice_get (a ++ b) j ≡ Some x → slice_get b i ≡ Some x
get_right a b i j x at e = sym (slice_get-append a b i) ∙ subst (λ k. slice_get (a ++ b) k ≡ Some x) at e

set_right : {X : Type 0} (a b : List X) (i j : ℕ) (x : X) → j ≡ length a + i → set (a ++ b) j x ≡ a ++ set b i x
set_right a b i j x at =
    let rest : j - length a ≡ i = omega arith in
    set-append_right a b (length a) j x refl (omega arith) ∙ ap (λ k. a ++ set b k x) rest

pub is_empty : {X : Type 0} (l : List X) → length l ≡ 0 → l ≡ []
is_empty [] e = refl
is_empty (x ∷ l) e = absurd (omega arith)

pub some_at : {X : Type 0} (l : List X) (i : ℕ) → i < length l → (x : X) × (slice_get l i ≡ Some x)
some_at [] i less = absurd (omega arith)
some_at (x ∷ l) zero less = (x, refl)
some_at (x ∷ l) (suc i) less = some_at l i (omega arith)

-- ---- slots that have no fire

pub dead_own : {T : Type 0} (s : Slot T) (ss : List (Slot T)) → entries_of (s ∷ ss) ≡ [] → (s.head ≡ None) × (entries_of ss ≡ [])
dead_own s ss h = by_head s.head refl h
  where
    by_head : (o : Option EntryFire) → s.head ≡ o → entry_when s.id s.table s.zone o ++ entries_of ss ≡ [] → (s.head ≡ None) × (entries_of ss ≡ [])
    by_head None is e = (is, e)
    by_head (Some q) is e = cc

dead_at : {T : Type 0} (ss : List (Slot T)) (i : ℕ) (s : Slot T) → entries_of ss ≡ [] → slice_get ss i ≡ Some s → s.head ≡ None
dead_at [] zero s none e = cc
dead_at [] (suc i) s none e = cc
dead_at (u ∷ ss) zero s none e = let same : u ≡ s = some_same e in subst (λ (v : Slot _). v.head ≡ None) same (dead_own u ss none).0
dead_at (u ∷ ss) (suc i) s none e = dead_at ss i s (dead_own u ss none).1 e

pub dead_one : {T : Type 0} (s : Slot T) → s.head ≡ None → entries_of (s ∷ []) ≡ []
dead_one s e = ap (λ o. entry_when s.id s.table s.zone o ++ []) e

pub dead_both : {T : Type 0} (a b : List (Slot T)) → entries_of a ≡ [] → entries_of b ≡ [] → entries_of (a ++ b) ≡ []
dead_both a b one other = entries-append a b ∙ ap (λ l. l ++ entries_of b) one ∙ other

pub dead_front : {T : Type 0} (n : ℕ) (ss : List (Slot T)) → entries_of ss ≡ [] → entries_of (take n ss) ≡ []
dead_front zero ss none = refl
dead_front (suc n) [] none = refl
dead_front (suc n) (s ∷ ss) none =
    let own = dead_own s ss none in
    ap (λ o. entry_when s.id s.table s.zone o ++ entries_of (take n ss)) own.0 ∙ dead_front n ss own.1

-- ---- the entries, and their ids

pub entries_in_parts : {T : Type 0} {slots : List (Slot T)} {packed scanned added : ℕ} (parts : AreInParts slots packed scanned added)
    → entries_of slots ≡ entries_of (parts.front ++ parts.rest)
entries_in_parts parts =
    ap entries_of parts.are ∙ entries-append parts.front (parts.between ++ parts.rest)
    ∙ ap (λ l. entries_of parts.front ++ l) (entries-append parts.between parts.rest ∙ ap (λ l. l ++ entries_of parts.rest) parts.none)
    ∙ sym (entries-append parts.front parts.rest)

pub have_parts : {T : Type 0} {slots : List (Slot T)} {packed scanned added : ℕ} → AreInParts slots packed scanned added → HaveIds 0 (entries_of slots) added
have_parts {added = added} parts =
    subst (λ es. HaveIds 0 es added) (sym (entries_in_parts parts)) (have_ids (parts.front ++ parts.rest) 0 added parts.ids)

ids-set : {T : Type 0} (ss : List (Slot T)) (i : ℕ) (s t : Slot T) (low high : ℕ) → slice_get ss i ≡ Some s → t.id ≡ s.id → IdsAscend low ss high
    → IdsAscend low (set ss i t) high
ids-set ss i s t low high here same ids =
    let cut : Split ss i s = split ss i s here in
    subst (λ l. IdsAscend low l high) (sym (cut.put t)) (ids-put cut.before cut.after s t low high same (subst (λ l. IdsAscend low l high) cut.is ids))

-- ---- where there are as many slots

module _ {T : Type 0} {slots : List (Slot T)} {packed scanned added : ℕ} (parts : AreInParts slots packed scanned added) where
  pub size_is : length slots ≡ length parts.front + (length parts.between + length parts.rest)
  size_is =
      ap length parts.are ∙ length-append parts.front (parts.between ++ parts.rest)
      ∙ ap (λ n. length parts.front + n) (length-append parts.between parts.rest)

  pub in_order : (packed ≤ scanned) × (scanned ≤ length slots)
  in_order =
      let size = size_is in let front = parts.packed_are in let both = parts.scanned_are in
      (omega arith, omega arith)

  -- a slot of an entry stands in one of two parts
  pub at_front : (i : ℕ) (s : Slot T) → slice_get slots i ≡ Some s → i < packed → slice_get parts.front i ≡ Some s
  at_front i s here less =
      let front = parts.packed_are in
      get_left parts.front (parts.between ++ parts.rest) i s (omega arith) (subst (λ l. slice_get l i ≡ Some s) parts.are here)

  behind_front : (i : ℕ) (s : Slot T) → slice_get slots (packed + i) ≡ Some s → slice_get (parts.between ++ parts.rest) i ≡ Some s
  behind_front i s here =
      let front = parts.packed_are in
      get_right parts.front (parts.between ++ parts.rest) i (packed + i) s (omega arith) (subst (λ l. slice_get l (packed + i) ≡ Some s) parts.are here)

  pub at_rest : (i : ℕ) (s : Slot T) → slice_get slots (scanned + i) ≡ Some s → slice_get parts.rest i ≡ Some s
  at_rest i s here =
      let front = parts.packed_are in let both = parts.scanned_are in
      let at : scanned + i ≡ packed + (length parts.between + i) = omega arith in
      get_right parts.between parts.rest i (length parts.between + i) s refl
      (behind_front (length parts.between + i) s (subst (λ k. slice_get slots k ≡ Some s) at here))

  pub dead_between : (i : ℕ) (s : Slot T) → slice_get slots i ≡ Some s → packed ≤ i → i < scanned → s.head ≡ None
  dead_between i s here le less =
      let front = parts.packed_are in let both = parts.scanned_are in
      let at : i ≡ packed + (i - packed) = omega arith in
      dead_at parts.between (i - packed) s parts.none
      (get_left parts.between parts.rest (i - packed) s (omega arith) (behind_front (i - packed) s (subst (λ k. slice_get slots k ≡ Some s) at here)))

  -- ---- another slot in the place of one that has a fire

  put_front : (i : ℕ) (s t : Slot T) → slice_get slots i ≡ Some s → t.id ≡ s.id → i < packed → AreInParts (set slots i t) packed scanned added
  put_front i s t here same less =
      let front = parts.packed_are in
      let within : i < length parts.front = omega arith in
      let size = length-set parts.front i t in record {
        front = set parts.front i t;
        between = parts.between;
        rest = parts.rest;
        are = ap (λ l. set l i t) parts.are ∙ set-append_left parts.front (parts.between ++ parts.rest) i t within;
        packed_are = size ∙ front;
        scanned_are = ap (λ n. n + length parts.between) size ∙ parts.scanned_are;
        ids =
            subst (λ l. IdsAscend 0 l added) (set-append_left parts.front parts.rest i t within)
            (ids-set (parts.front ++ parts.rest) i s t 0 added (get-before parts.front parts.rest i s (at_front i s here less)) same parts.ids);
        none = parts.none;
      }

  put_rest : (i : ℕ) (s t : Slot T) → slice_get slots (scanned + i) ≡ Some s → t.id ≡ s.id → AreInParts (set slots (scanned + i) t) packed scanned added
  put_rest i s t here same =
      let front = parts.packed_are in let both = parts.scanned_are in record {
        front = parts.front;
        between = parts.between;
        rest = set parts.rest i t;
        are =
            ap (λ l. set l (scanned + i) t) parts.are
            ∙ set_right parts.front (parts.between ++ parts.rest) (length parts.between + i) (scanned + i) t (omega arith)
            ∙ ap (λ l. parts.front ++ l) (set_right parts.between parts.rest i (length parts.between + i) t refl);
        packed_are = front;
        scanned_are = both;
        ids =
            subst (λ l. IdsAscend 0 l added) (set_right parts.front parts.rest i (length parts.front + i) t refl)
            (ids-set (parts.front ++ parts.rest) (length parts.front + i) s t 0 added
            (get-behind parts.front parts.rest i (length parts.front + i) s refl (at_rest i s here)) same parts.ids);
        none = parts.none;
      }

  pub put_parts : (i : ℕ) (s t : Slot T) → slice_get slots i ≡ Some s → (s.head ≡ None → ⊥) → t.id ≡ s.id → AreInParts (set slots i t) packed scanned added
  put_parts i s t here lives same =
      elim (cases_lt i packed) [
        | inl less ↦ put_front i s t here same less
        | inr le ↦ elim (cases_lt i scanned) [
          | inl less ↦ absurd (lives (dead_between i s here le less))
          | inr ge ↦
              let at : scanned + (i - scanned) ≡ i = omega arith in
              subst (λ k. AreInParts (set slots k t) packed scanned added) at
              (put_rest (i - scanned) s t (subst (λ k. slice_get slots k ≡ Some s) (sym at) here) same)
        ]
      ]

  -- ---- one slot more

  pub more_parts : (s : Slot T) → s.id ≡ added → AreInParts (slots ++ s ∷ []) packed scanned (added + 1)
  more_parts s next = record {
    front = parts.front;
    between = parts.between;
    rest = parts.rest ++ s ∷ [];
    are =
        ap (λ l. l ++ s ∷ []) parts.are ∙ append_assoc parts.front (parts.between ++ parts.rest) (s ∷ [])
        ∙ ap (λ l. parts.front ++ l) (append_assoc parts.between parts.rest (s ∷ []));
    packed_are = parts.packed_are;
    scanned_are = parts.scanned_are;
    ids =
        subst (λ l. IdsAscend 0 l (added + 1)) (append_assoc parts.front parts.rest (s ∷ []))
        (ids-end (parts.front ++ parts.rest) s 0 added parts.ids next);
    none = parts.none;
  }

  -- ---- a sweep begins, and ends

  -- where nothing is left over, the ids ascend over all slots
  all_ascend : packed ≡ scanned → IdsAscend 0 slots added
  all_ascend same =
      let front = parts.packed_are in let both = parts.scanned_are in
      let nothing = is_empty parts.between (omega arith) in
      subst (λ l. IdsAscend 0 l added) (sym (parts.are ∙ ap (λ l. parts.front ++ (l ++ parts.rest)) nothing)) parts.ids

  pub all_packed : packed ≡ scanned → AreInParts slots (length slots) (length slots) added
  all_packed same = record {
    front = slots;
    between = [];
    rest = [];
    are = sym (append-nil slots);
    packed_are = refl;
    scanned_are = omega arith;
    ids = subst (λ l. IdsAscend 0 l added) (sym (append-nil slots)) (all_ascend same);
    none = refl;
  }

  pub none_packed : packed ≡ length slots → AreInParts slots 0 0 added
  none_packed all =
      let order = in_order in record {
        front = [];
        between = [];
        rest = slots;
        are = refl;
        packed_are = refl;
        scanned_are = refl;
        ids = all_ascend (let low = order.0 in let high = order.1 in omega arith);
        none = refl;
      }

-- ---- one entry more

pub kept-more : {T : Type 0} (slots : List (Slot T)) (firsts : List (Option ℤ)) (live added packed scanned : ℕ) (table : T) (zone : ℕ) (fire : EntryFire)
    → IsKept slots firsts live added packed scanned
    → IsKept (slots ++ record { id = added; table = table; zone = zone; head = Some fire } ∷ []) (firsts ++ Some (instant fire) ∷ []) (live + 1) (added + 1) packed scanned
kept-more slots firsts live added packed scanned table zone fire kept =
    let count = kept.count in
    let s : Slot _ = record { id = added; table = table; zone = zone; head = Some fire } in
    let size = ap length (entries-more slots added table zone fire) ∙ length-append (entries_of slots) (entry added table zone fire ∷ []) in record {
      keys = ap (λ l. l ++ Some (instant fire) ∷ []) kept.keys ∙ sym (map-append instant_of slots (s ∷ []));
      parts = more_parts kept.parts s refl;
      count = omega arith;
    }
