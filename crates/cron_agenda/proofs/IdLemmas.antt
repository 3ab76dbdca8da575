-- The slot with an id, and the slots without its entry.
use Rattle.std.proofs.Common.{◌≡◌, ℕ, suc, ◌+◌, ◌<◌, ℤ, Bool, true, false, cond, ◌||◌, eqb, ◌-◌, List, [], ◌∷◌, ◌++◌, length, map, set, Option, Some, None, inl, inr, refl, sym, ap, subst, ◌∙◌, arith, length-append}
use Rattle.std.specs.Prelude.{slice_get, not, ◌==◌}
use Rattle.std.proofs.lemmas.Bool.{cases_lt, eq-eqb, eqb-true}
use Rattle.std.proofs.lemmas.List.Elements.{filter-append}
use Rattle.std.proofs.lemmas.List.Folds.{list_any-append}
use Rattle.std.specs.Option.{is_some, option_map}
use Rattle.std.proofs.lemmas.List.{map-set}
use Rattle.cron_agenda.specs.declared.entry.Entry.{Entry}
use Rattle.cron_agenda.specs.declared.fire.EntryFire.{EntryFire}
use Rattle.cron_agenda.specs.declared.slots.Slot.{Slot}
use Rattle.cron_agenda.specs.Fires.{instant}
use Rattle.cron_agenda.specs.Entries.{HaveIds, IsEntryOf, entry, has, without}
use Rattle.cron_agenda.specs.Inner.Slots.{HasEntry, IdsAscend, IsKept, IsOwn, entries_of, entry_of, entry_when, instant_of}
use Rattle.cron_agenda.proofs.ListLemmas.{Split, split, get-behind, some_same}
use Rattle.cron_agenda.proofs.SlotLemmas.{entries-append, have-before, have-behind, ids-apart, ids-order, live_within}
use Rattle.cron_agenda.proofs.PartLemmas.{have_parts, put_parts}

-- ---- a slot by its id

-- a slot with a greater id stands behind one
pub behind_id : {T : Type 0} (slots : List (Slot T)) (high id middle p : ℕ) (s : Slot T) → IdsAscend 0 slots high → slice_get slots middle ≡ Some s
    → s.id < id → HasEntry slots id p → middle < p
behind_id slots high id middle p s ids here less h =
    elim (cases_lt middle p) [
      | inl more ↦ more
      | inr le ↦ elim (cases_lt p middle) [
        | inl early ↦ let order = ids-order slots 0 high p middle h.slot s ids h.here here early in let same = h.same in absurd (omega arith)
        | inr ge ↦
            let equal : middle ≡ p = omega arith in
            let one : Some s ≡ Some h.slot = sym here ∙ ap (slice_get slots) equal ∙ h.here in
            let slot : s ≡ h.slot = cc in
            let ids_are = ap (λ (v : Slot _). v.id) slot in let same = h.same in absurd (omega arith)
      ]
    ]

-- and one with a less id before it
pub before_id : {T : Type 0} (slots : List (Slot T)) (high id middle p : ℕ) (s : Slot T) → IdsAscend 0 slots high → slice_get slots middle ≡ Some s
    → id < s.id → HasEntry slots id p → p < middle
before_id slots high id middle p s ids here more h =
    elim (cases_lt p middle) [
      | inl less ↦ less
      | inr le ↦ elim (cases_lt middle p) [
        | inl late ↦ let order = ids-order slots 0 high middle p s h.slot ids here h.here late in let same = h.same in absurd (omega arith)
        | inr ge ↦
            let equal : middle ≡ p = omega arith in
            let one : Some s ≡ Some h.slot = sym here ∙ ap (slice_get slots) equal ∙ h.here in
            let slot : s ≡ h.slot = cc in
            let ids_are = ap (λ (v : Slot _). v.id) slot in let same = h.same in absurd (omega arith)
      ]
    ]

-- one with no fire is the only one with its id
pub dead_id : {T : Type 0} (slots : List (Slot T)) (high id middle p : ℕ) (s : Slot T) → IdsAscend 0 slots high → slice_get slots middle ≡ Some s
    → s.id ≡ id → is_some s.head ≡ false → HasEntry slots id p → ⊥
dead_id slots high id middle p s ids here same dead h =
    let equal = ids-apart slots 0 high middle p s h.slot ids here h.here (same ∙ sym h.same) in
    let one : Some s ≡ Some h.slot = sym here ∙ ap (slice_get slots) equal ∙ h.here in
    let slot : s ≡ h.slot = cc in
    let lives : is_some s.head ≡ is_some h.slot.head = ap (λ (v : Slot _). is_some v.head) slot in
    let alive : is_some h.slot.head ≡ true = ap is_some h.live in
    cc

-- ---- one entry less

absent_own : {T : Type 0} (sought id : ℕ) (table : T) (zone : ℕ) (h : Option EntryFire) → ((q : EntryFire) → h ≡ Some q → id ≡ sought → ⊥)
    → (without sought (entry_when id table zone h) ≡ entry_when id table zone h) × (has sought (entry_when id table zone h) ≡ false)
absent_own sought id table zone None apart = (refl, refl)
absent_own sought id table zone (Some q) apart = by_test (eqb id sought) refl
  where
    by_test : (t : Bool) → eqb id sought ≡ t → (without sought (entry id table zone q ∷ []) ≡ entry id table zone q ∷ []) × (has sought (entry id table zone q ∷ []) ≡ false)
    by_test true is = absurd (apart q refl (eqb-true id sought is))
    by_test false is = (rw is refl, rw is refl)

has-later : {T : Type 0} (s : Slot T) (slots : List (Slot T)) (id p : ℕ) → HasEntry slots id p → HasEntry (s ∷ slots) id (suc p)
has-later s slots id p h = record { slot = h.slot; fire = h.fire; here = h.here; same = h.same; live = h.live }

pub without-none : {T : Type 0} (slots : List (Slot T)) (id : ℕ) → ((p : ℕ) → HasEntry slots id p → ⊥)
    → (without id (entries_of slots) ≡ entries_of slots) × (has id (entries_of slots) ≡ false)
without-none [] id none = (refl, refl)
without-none (s ∷ slots) id none =
    let rest = without-none slots id (λ p h. none (suc p) (has-later s slots id p h)) in
    let one = absent_own id s.id s.table s.zone s.head (λ q live same. none 0 (record { slot = s; fire = q; here = refl; same = same; live = live })) in (
      filter-append (λ (v : Entry _). not (v.id == id)) (entry_of s) (entries_of slots)
          ∙ ap (λ l. l ++ without id (entries_of slots)) one.0 ∙ ap (λ l. entry_of s ++ l) rest.0,
      list_any-append (λ (v : Entry _). v.id == id) (entry_of s) (entries_of slots)
          ∙ ap (λ b. b || has id (entries_of slots)) one.1 ∙ rest.1,
    )

module _ {T : Type 0} {slots : List (Slot T)} {firsts : List (Option ℤ)} {live added packed scanned : ℕ} (kept : IsKept slots firsts live added packed scanned) {id place : ℕ}
    (found : HasEntry slots id place) where
  abbrev s : Slot T
  s = found.slot

  abbrev own : Entry T
  own = entry s.id s.table s.zone found.fire

  cut_there : Split slots place s
  cut_there = split slots place s found.here

  entries_there : entries_of slots ≡ entries_of cut_there.before ++ own ∷ entries_of cut_there.after
  entries_there =
      ap entries_of cut_there.is ∙ entries-append cut_there.before (s ∷ cut_there.after)
      ∙ ap (λ h. entries_of cut_there.before ++ (entry_when s.id s.table s.zone h ++ entries_of cut_there.after)) found.live

  ids_there : HaveIds 0 (entries_of cut_there.before ++ own ∷ entries_of cut_there.after) added
  ids_there = subst (λ es. HaveIds 0 es added) entries_there (have_parts kept.parts)

  none_before : (p : ℕ) → HasEntry cut_there.before id p → ⊥
  none_before p h =
      let ids = have-before (entries_of cut_there.before) (entries_of cut_there.after) own 0 added ids_there in
      let less = (live_within cut_there.before 0 s.id id p ids h).1 in
      let same = found.same in omega arith

  none_behind : (p : ℕ) → HasEntry cut_there.after id p → ⊥
  none_behind p h =
      let ids = have-behind (entries_of cut_there.before) (entries_of cut_there.after) own 0 added ids_there in
      let more = (live_within cut_there.after (s.id + 1) added id p ids h).0 in
      let same = found.same in omega arith

  pub was_there : has id (entries_of slots) ≡ true
  was_there =
      ap (has id) entries_there
      ∙ list_any-append (λ (v : Entry T). v.id == id) (entries_of cut_there.before) (own ∷ entries_of cut_there.after)
      ∙ ap (λ b. b || has id (own ∷ entries_of cut_there.after)) (without-none cut_there.before id none_before).1
      ∙ ap (λ b. b || has id (entries_of cut_there.after)) (eq-eqb s.id id found.same)

  pub own_among : (i : ℕ) × (slice_get (entries_of slots) i ≡ Some own)
  own_among = (
    length (entries_of cut_there.before),
    ap (λ l. slice_get l (length (entries_of cut_there.before))) entries_there
        ∙ get-behind (entries_of cut_there.before) (own ∷ entries_of cut_there.after) 0 (length (entries_of cut_there.before)) own (omega arith) refl,
  )

  pub live_there : 0 < live
  live_there =
      let count = kept.count in
      let size = ap length entries_there ∙ length-append (entries_of cut_there.before) (own ∷ entries_of cut_there.after) in omega arith

  pub entry_there : (t : Slot T) → slice_get slots place ≡ Some t → (answer : Option (Entry T)) → IsOwn t answer → IsEntryOf id (entries_of slots) answer
  entry_there t here None none =
      let same : t ≡ s = some_same (sym here ∙ found.here) in
      let head : t.head ≡ s.head = ap (λ (u : Slot T). u.head) same in
      let live_is = found.live in cc
  entry_there t here (Some x) is =
      let same : t ≡ s = some_same (sym here ∙ found.here) in
      let head : t.head ≡ s.head = ap (λ (u : Slot T). u.head) same in
      let fire : x.fire ≡ found.fire = some_same (sym is.0 ∙ head ∙ found.live) in
      let e_is : x ≡ own = is.1 ∙ ap (λ (u : Slot T). entry u.id u.table u.zone x.fire) same ∙ ap (entry s.id s.table s.zone) fire in (
        ap (λ (v : Entry T). v.id) e_is ∙ found.same,
        (own_among.0, own_among.1 ∙ ap Some (sym e_is)),
      )

  -- the slot without its entry
  module _ (t : Slot T) (same : t.id ≡ s.id) (ended : t.head ≡ None) where
    entries_less : entries_of (set slots place t) ≡ entries_of cut_there.before ++ entries_of cut_there.after
    entries_less =
        ap entries_of (cut_there.put t) ∙ entries-append cut_there.before (t ∷ cut_there.after)
        ∙ ap (λ h. entries_of cut_there.before ++ (entry_when t.id t.table t.zone h ++ entries_of cut_there.after)) ended

    pub is_without : entries_of (set slots place t) ≡ without id (entries_of slots)
    is_without =
        entries_less
        ∙ sym (ap (λ l. l ++ entries_of cut_there.after) (without-none cut_there.before id none_before).0)
        ∙ sym (ap (λ l. without id (entries_of cut_there.before) ++ l) (without-none cut_there.after id none_behind).0)
        ∙ ap (λ b. without id (entries_of cut_there.before) ++ cond b (own ∷ without id (entries_of cut_there.after)) (without id (entries_of cut_there.after))) (sym (ap not (eq-eqb s.id id found.same)))
        ∙ sym (filter-append (λ (v : Entry T). not (v.id == id)) (entries_of cut_there.before) (own ∷ entries_of cut_there.after))
        ∙ sym (ap (without id) entries_there)

    pub kept-less : IsKept (set slots place t) (set firsts place None) (live - 1) added packed scanned
    kept-less =
        let count = kept.count in
        let size = ap length entries_there ∙ length-append (entries_of cut_there.before) (own ∷ entries_of cut_there.after) in
        let less = ap length entries_less ∙ length-append (entries_of cut_there.before) (entries_of cut_there.after) in
        record {
          keys = ap (λ l. set l place None) kept.keys ∙ ap (λ o. set (map instant_of slots) place (option_map instant o)) (sym ended) ∙ sym (map-set instant_of slots place t);
          parts = put_parts kept.parts place s t found.here (λ none. let lives = found.live in cc) same;
          count = omega arith;
        }
