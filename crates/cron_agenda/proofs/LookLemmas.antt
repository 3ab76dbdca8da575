-- An id looked up in slots in parts.
use Rattle.std.proofs.Common.{◌≡◌, ℕ, ◌+◌, ◌-◌, ◌<◌, ◌≤◌, List, ◌++◌, length, take, drop, Option, Some, None, inl, inr, sym, ap, subst, ◌∙◌, arith}
use Rattle.std.specs.Prelude.{slice_get}
use Rattle.std.proofs.lemmas.Bool.{cases_lt}
use Rattle.std.proofs.lemmas.List.{length-take-le, take-append-drop}
use Rattle.std.proofs.Math.Seq.{drop-append-add, drop-append_seam, take-append_seam}
use Rattle.cron_agenda.specs.declared.slots.Slot.{Slot}
use Rattle.cron_agenda.specs.Inner.Slots.{AreInParts, HasEntry, IdsAscend, IsPlaceInParts, IsPlaceOf}
use Rattle.cron_agenda.proofs.ListLemmas.{get-before, get-behind, some_same}
use Rattle.cron_agenda.proofs.PartLemmas.{at_front, at_rest, dead_between, size_is, some_at}
use Rattle.cron_agenda.proofs.SlotLemmas.{ids-front, ids-order, ids-rest}

pub found_front : {T : Type 0} (slots : List (Slot T)) (packed id p : ℕ) → HasEntry (take packed slots) id p → HasEntry slots id p
found_front slots packed id p h = record {
  slot = h.slot;
  fire = h.fire;
  here = subst (λ l. slice_get l p ≡ Some h.slot) (take-append-drop packed slots) (get-before (take packed slots) (drop packed slots) p h.slot h.here);
  same = h.same;
  live = h.live;
}

pub found_rest : {T : Type 0} (slots : List (Slot T)) (scanned id p : ℕ) → scanned ≤ length slots → HasEntry (drop scanned slots) id p
    → HasEntry slots id (scanned + p)
found_rest slots scanned id p le h =
    let size = length-take-le scanned slots le in record {
      slot = h.slot;
      fire = h.fire;
      here =
          subst (λ l. slice_get l (scanned + p) ≡ Some h.slot) (take-append-drop scanned slots)
          (get-behind (take scanned slots) (drop scanned slots) p (scanned + p) h.slot (omega arith) h.here);
      same = h.same;
      live = h.live;
    }

module _ {T : Type 0} {slots : List (Slot T)} {packed scanned added id p : ℕ} (parts : AreInParts slots packed scanned added) (h : HasEntry slots id p) where
  front_is : take packed slots ≡ parts.front
  front_is =
      ap (take packed) parts.are ∙ ap (λ n. take n (parts.front ++ (parts.between ++ parts.rest))) (sym parts.packed_are)
      ∙ take-append_seam parts.front (parts.between ++ parts.rest)

  rest_is : drop scanned slots ≡ parts.rest
  rest_is =
      ap (drop scanned) parts.are ∙ ap (λ n. drop n (parts.front ++ (parts.between ++ parts.rest))) (sym parts.scanned_are)
      ∙ drop-append-add parts.front (parts.between ++ parts.rest) (length parts.between) ∙ drop-append_seam parts.between parts.rest

  -- it stands in one of the two
  in_front : p < packed → HasEntry (take packed slots) id p
  in_front less = record {
    slot = h.slot;
    fire = h.fire;
    here = subst (λ l. slice_get l p ≡ Some h.slot) (sym front_is) (at_front parts p h.slot h.here less);
    same = h.same;
    live = h.live;
  }

  get_rest : scanned ≤ p → slice_get parts.rest (p - scanned) ≡ Some h.slot
  get_rest le =
      let at : scanned + (p - scanned) ≡ p = omega arith in
      at_rest parts (p - scanned) h.slot (subst (λ k. slice_get slots k ≡ Some h.slot) (sym at) h.here)

  in_rest : scanned ≤ p → HasEntry (drop scanned slots) id (p - scanned)
  in_rest le = record {
    slot = h.slot;
    fire = h.fire;
    here = subst (λ l. slice_get l (p - scanned) ≡ Some h.slot) (sym rest_is) (get_rest le);
    same = h.same;
    live = h.live;
  }

  not_between : packed ≤ p → p < scanned → ⊥
  not_between le less =
      let dead = dead_between parts p h.slot h.here le less in
      let lives = h.live in cc

  -- where the last one of the front has no less an id, it isn't in the rest
  pub none_at_front : (last : Slot T) → 0 < packed → slice_get slots (packed - 1) ≡ Some last → id ≤ last.id
      → ((high : ℕ) → IdsAscend 0 (take packed slots) high → (i : ℕ) → HasEntry (take packed slots) id i → ⊥) → ⊥
  none_at_front last some there le none =
      elim (cases_lt p packed) [
        | inl less ↦
            none added (subst (λ l. IdsAscend 0 l added) (sym front_is) (ids-front parts.front parts.rest 0 added parts.ids)) p (in_front less)
        | inr ge ↦ elim (cases_lt p scanned) [
          | inl less ↦ not_between ge less
          | inr more ↦
              let front = parts.packed_are in
              let before = get-before parts.front parts.rest (packed - 1) last (at_front parts (packed - 1) last there (omega arith)) in
              let behind = get-behind parts.front parts.rest (p - scanned) (packed + (p - scanned)) h.slot (omega arith) (get_rest more) in
              let order = ids-order (parts.front ++ parts.rest) 0 added (packed - 1) (packed + (p - scanned)) last h.slot parts.ids before behind (omega arith) in
              let same = h.same in omega arith
        ]
      ]

  -- and where it has a less one, it isn't in the front
  pub none_at_rest : ((last : Slot T) → 0 < packed → slice_get slots (packed - 1) ≡ Some last → last.id < id)
      → ((high : ℕ) → IdsAscend 0 (drop scanned slots) high → (i : ℕ) → HasEntry (drop scanned slots) id i → ⊥) → ⊥
  none_at_rest less_id none =
      elim (cases_lt p packed) [
        | inl less ↦
            let front = parts.packed_are in
            let last = some_at slots (packed - 1) (let size = size_is parts in omega arith) in
            let low = less_id last.0 (omega arith) last.1 in
            let here = get-before parts.front parts.rest p h.slot (at_front parts p h.slot h.here less) in
            let there = get-before parts.front parts.rest (packed - 1) last.0 (at_front parts (packed - 1) last.0 last.1 (omega arith)) in
            let same = h.same in
            elim (cases_lt p (packed - 1)) [
              | inl early ↦
                  let order = ids-order (parts.front ++ parts.rest) 0 added p (packed - 1) h.slot last.0 parts.ids here there early in omega arith
              | inr ge ↦
                  let equal : p ≡ packed - 1 = omega arith in
                  let one : h.slot ≡ last.0 = some_same (sym h.here ∙ ap (slice_get slots) equal ∙ last.1) in
                  let ids_are = ap (λ (v : Slot T). v.id) one in omega arith
            ]
        | inr ge ↦ elim (cases_lt p scanned) [
          | inl less ↦ not_between ge less
          | inr more ↦
              none added (subst (λ l. IdsAscend 0 l added) (sym rest_is) (ids-rest parts.front parts.rest 0 added parts.ids)) (p - scanned) (in_rest more)
        ]
      ]

-- ---- what a search of the front answers

pub place_front : {T : Type 0} (slots : List (Slot T)) (packed scanned id : ℕ) (answer : Option ℕ) (last : Slot T) → 0 < packed
    → slice_get slots (packed - 1) ≡ Some last → id ≤ last.id → IsPlaceOf (take packed slots) id answer → IsPlaceInParts slots packed scanned id answer
place_front slots packed scanned id None last some there le none = λ added parts p h. none_at_front parts h last some there le none
place_front slots packed scanned id (Some p) last some there le h = found_front slots packed id p h
