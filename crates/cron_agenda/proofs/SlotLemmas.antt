-- Slots one after another, their entries and their ids.
use Rattle.std.proofs.Common.{◌≡◌, ℕ, zero, suc, ◌+◌, ◌<◌, ◌≤◌, List, [], ◌∷◌, ◌++◌, length, Option, Some, None, inl, inr, refl, sym, ap, subst, ◌∙◌, arith, append_assoc, length-append}
use Rattle.std.specs.Prelude.{slice_get}
use Rattle.std.proofs.lemmas.Bool.{cases_lt}
use Rattle.cron_agenda.specs.declared.entry.Entry.{Entry}
use Rattle.cron_agenda.specs.declared.fire.EntryFire.{EntryFire}
use Rattle.cron_agenda.specs.declared.slots.Slot.{Slot}
use Rattle.cron_agenda.specs.Entries.{HaveIds, entry}
use Rattle.cron_agenda.specs.Inner.Slots.{HasEntry, IdsAscend, entries_of, entry_of, entry_when}

-- a slot with this fire in place of its own
abbrev pub with_head : {T : Type 0} → Option EntryFire → Slot T → Slot T
with_head h s = record { id = s.id; table = s.table; zone = s.zone; head = h }

pub entries-append : {T : Type 0} (a b : List (Slot T)) → entries_of (a ++ b) ≡ entries_of a ++ entries_of b
entries-append [] b = refl
entries-append (s ∷ a) b = ap (λ l. entry_of s ++ l) (entries-append a b) ∙ sym (append_assoc (entry_of s) (entries_of a) (entries_of b))

-- a slot whose id stays may be put in the place of one
pub ids-put : {T : Type 0} (a b : List (Slot T)) (s t : Slot T) (low high : ℕ) → t.id ≡ s.id → IdsAscend low (a ++ s ∷ b) high → IdsAscend low (a ++ t ∷ b) high
ids-put [] b s t low high e h = (let first = h.0 in omega arith, subst (λ k. IdsAscend (k + 1) b high) (sym e) h.1)
ids-put (u ∷ a) b s t low high e h = (h.0, ids-put a b s t (u.id + 1) high e h.1)

-- ---- the ids of some of the slots

pub ids-lower : {T : Type 0} (ss : List (Slot T)) (low from high : ℕ) → low ≤ from → IdsAscend from ss high → IdsAscend low ss high
ids-lower [] low from high le h = (let more = h in omega arith)
ids-lower (s ∷ ss) low from high le h = (let more = h.0 in omega arith, h.1)

ids-low : {T : Type 0} (ss : List (Slot T)) (low high : ℕ) → IdsAscend low ss high → low ≤ high
ids-low [] low high h = h
ids-low (s ∷ ss) low high h = let first = h.0 in let more = ids-low ss (s.id + 1) high h.1 in omega arith

pub ids-front : {T : Type 0} (a b : List (Slot T)) (low high : ℕ) → IdsAscend low (a ++ b) high → IdsAscend low a high
ids-front [] b low high h = ids-low b low high h
ids-front (s ∷ a) b low high h = (h.0, ids-front a b (s.id + 1) high h.1)

pub ids-rest : {T : Type 0} (a b : List (Slot T)) (low high : ℕ) → IdsAscend low (a ++ b) high → IdsAscend low b high
ids-rest [] b low high h = h
ids-rest (s ∷ a) b low high h = ids-lower b low (s.id + 1) high (let first = h.0 in omega arith) (ids-rest a b (s.id + 1) high h.1)

pub ids-skip : {T : Type 0} (a b : List (Slot T)) (s : Slot T) (low high : ℕ) → IdsAscend low (a ++ s ∷ b) high → IdsAscend low (a ++ b) high
ids-skip [] b s low high h = ids-lower b low (s.id + 1) high (let first = h.0 in omega arith) h.1
ids-skip (u ∷ a) b s low high h = (h.0, ids-skip a b s (u.id + 1) high h.1)

ids-from : {T : Type 0} (slots : List (Slot T)) (low high i : ℕ) (t : Slot T) → IdsAscend low slots high → slice_get slots i ≡ Some t → low ≤ t.id
ids-from [] low high zero t ids e = cc
ids-from [] low high (suc i) t ids e = cc
ids-from (s ∷ slots) low high zero t ids e = let same : s ≡ t = cc in subst (λ (v : Slot _). low ≤ v.id) same ids.0
ids-from (s ∷ slots) low high (suc i) t ids e =
    let rest = ids-from slots (s.id + 1) high i t ids.1 e in let first = ids.0 in omega arith

pub ids-order : {T : Type 0} (slots : List (Slot T)) (low high i j : ℕ) (s t : Slot T) → IdsAscend low slots high → slice_get slots i ≡ Some s
    → slice_get slots j ≡ Some t → i < j → s.id < t.id
ids-order [] low high zero j s t ids e f less = cc
ids-order [] low high (suc i) j s t ids e f less = cc
ids-order (u ∷ slots) low high i zero s t ids e f less = absurd (omega arith)
ids-order (u ∷ slots) low high zero (suc j) s t ids e f less =
    let same : u ≡ s = cc in
    let rest = ids-from slots (u.id + 1) high j t ids.1 f in
    subst (λ (v : Slot _). v.id < t.id) same (omega arith)
ids-order (u ∷ slots) low high (suc i) (suc j) s t ids e f less = ids-order slots (u.id + 1) high i j s t ids.1 e f (omega arith)

-- two slots with one id are one
pub ids-apart : {T : Type 0} (slots : List (Slot T)) (low high i j : ℕ) (s t : Slot T) → IdsAscend low slots high → slice_get slots i ≡ Some s
    → slice_get slots j ≡ Some t → s.id ≡ t.id → i ≡ j
ids-apart slots low high i j s t ids e f same =
    elim (cases_lt i j) [
      | inl less ↦ let before = ids-order slots low high i j s t ids e f less in absurd (omega arith)
      | inr le ↦ elim (cases_lt j i) [
        | inl more ↦ let behind = ids-order slots low high j i t s ids f e more in absurd (omega arith)
        | inr ge ↦ omega arith
      ]
    ]

-- ---- one entry more

pub ids-end : {T : Type 0} (slots : List (Slot T)) (s : Slot T) (low high : ℕ) → IdsAscend low slots high → s.id ≡ high → IdsAscend low (slots ++ s ∷ []) (high + 1)
ids-end [] s low high ids e = (let low_is = ids in omega arith, omega arith)
ids-end (u ∷ slots) s low high ids e = (ids.0, ids-end slots s (u.id + 1) high ids.1 e)

pub entries-more : {T : Type 0} (slots : List (Slot T)) (id : ℕ) (table : T) (zone : ℕ) (fire : EntryFire)
    → entries_of (slots ++ record { id = id; table = table; zone = zone; head = Some fire } ∷ []) ≡ entries_of slots ++ entry id table zone fire ∷ []
entries-more slots id table zone fire = entries-append slots (record { id = id; table = table; zone = zone; head = Some fire } ∷ [])

fewer_own : {T : Type 0} (id : ℕ) (table : T) (zone : ℕ) (h : Option EntryFire) → length (entry_when id table zone h) ≤ 1
fewer_own id table zone None = omega arith
fewer_own id table zone (Some q) = omega arith

pub entries-fewer : {T : Type 0} (slots : List (Slot T)) → length (entries_of slots) ≤ length slots
entries-fewer [] = omega arith
entries-fewer (s ∷ slots) =
    let rest = entries-fewer slots in
    let one = fewer_own s.id s.table s.zone s.head in
    let size = length-append (entry_of s) (entries_of slots) in
    omega arith

-- ---- the ids of the entries

pub have-lower : {T : Type 0} (es : List (Entry T)) (low from high : ℕ) → low ≤ from → HaveIds from es high → HaveIds low es high
have-lower [] low from high le h = (let more = h in omega arith)
have-lower (e ∷ es) low from high le h = (let more = h.0 in omega arith, h.1)

have_own : {T : Type 0} (id : ℕ) (table : T) (zone : ℕ) (h : Option EntryFire) (es : List (Entry T)) (low high : ℕ) → low ≤ id → HaveIds (id + 1) es high
    → HaveIds low (entry_when id table zone h ++ es) high
have_own id table zone (Some q) es low high le rest = (le, rest)
have_own id table zone None es low high le rest = have-lower es low (id + 1) high (omega arith) rest

pub have_ids : {T : Type 0} (ss : List (Slot T)) (low high : ℕ) → IdsAscend low ss high → HaveIds low (entries_of ss) high
have_ids [] low high h = h
have_ids (s ∷ ss) low high h = have_own s.id s.table s.zone s.head (entries_of ss) low high h.0 (have_ids ss (s.id + 1) high h.1)

have-low : {T : Type 0} (es : List (Entry T)) (low high : ℕ) → HaveIds low es high → low ≤ high
have-low [] low high h = h
have-low (e ∷ es) low high h = let first = h.0 in let more = have-low es (e.id + 1) high h.1 in omega arith

-- those of the entries before one, and of those behind it
pub have-before : {T : Type 0} (es fs : List (Entry T)) (e : Entry T) (low high : ℕ) → HaveIds low (es ++ e ∷ fs) high → HaveIds low es e.id
have-before [] fs e low high h = h.0
have-before (x ∷ es) fs e low high h = (h.0, have-before es fs e (x.id + 1) high h.1)

pub have-behind : {T : Type 0} (es fs : List (Entry T)) (e : Entry T) (low high : ℕ) → HaveIds low (es ++ e ∷ fs) high → HaveIds (e.id + 1) fs high
have-behind [] fs e low high h = h.1
have-behind (x ∷ es) fs e low high h = have-behind es fs e (x.id + 1) high h.1

-- the id of a slot that has a fire, and those of the slots behind it
pub live_id : {T : Type 0} (s : Slot T) (ss : List (Slot T)) (low high : ℕ) → HaveIds low (entries_of (s ∷ ss)) high
    → ((q : EntryFire) → s.head ≡ Some q → (low ≤ s.id) × (s.id < high)) × HaveIds low (entries_of ss) high
live_id s ss low high h = by_head s.head refl h
  where
    by_head : (o : Option EntryFire) → s.head ≡ o → HaveIds low (entry_when s.id s.table s.zone o ++ entries_of ss) high
        → ((q : EntryFire) → s.head ≡ Some q → (low ≤ s.id) × (s.id < high)) × HaveIds low (entries_of ss) high
    by_head None is ids = (λ q e. cc, ids)
    by_head (Some p) is ids =
        let low_is = ids.0 in
        let more = have-low (entries_of ss) (s.id + 1) high ids.1 in
        (λ q e. (low_is, omega arith), have-lower (entries_of ss) low (s.id + 1) high (omega arith) ids.1)

pub live_within : {T : Type 0} (ss : List (Slot T)) (low high id p : ℕ) → HaveIds low (entries_of ss) high → HasEntry ss id p → (low ≤ id) × (id < high)
live_within [] low high id zero ids h = let here = h.here in cc
live_within [] low high id (suc p) ids h = let here = h.here in cc
live_within (s ∷ ss) low high id zero ids h =
    let here : s ≡ h.slot = (let at = h.here in cc) in
    let head : s.head ≡ Some h.fire = ap (λ (v : Slot _). v.head) here ∙ h.live in
    let is : s.id ≡ id = ap (λ (v : Slot _). v.id) here ∙ h.same in
    let found = (live_id s ss low high ids).0 h.fire head in (omega (arith, found.0), omega (arith, found.1))
live_within (s ∷ ss) low high id (suc p) ids h =
    live_within ss low high id p (live_id s ss low high ids).1 (record { slot = h.slot; fire = h.fire; here = h.here; same = h.same; live = h.live })
