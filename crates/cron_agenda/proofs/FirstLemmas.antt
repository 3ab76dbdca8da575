-- Which slot's entry comes first, and what is taken from it.
use Rattle.std.proofs.Common.{◌≡◌, ℕ, suc, ◌+◌, ◌<◌, ℤ, ◌<ℤ◌, Bool, true, false, ◌-◌, List, [], ◌∷◌, ◌++◌, length, map, set, get_or, Option, Some, None, ◌⊎◌, inl, inr, refl, sym, ap, subst, ◌∙◌, arith, length-append}
use Rattle.std.specs.Prelude.{slice_get}
use Rattle.std.specs.Option.{is_none, option_map}
use Rattle.std.proofs.lemmas.List.{length-map, map-append, map-set}
use Rattle.std.proofs.lemmas.Option.{slice_get-map, slice_get_read, slice_get_within}
use Rattle.cron_instants.specs.Order.{comes_before}
use Rattle.cron_instants.proofs.OrderLemmas.{before-less, before-shared, before-true}
use Rattle.cron_agenda.specs.declared.entry.Entry.{Entry}
use Rattle.cron_agenda.specs.declared.fire.EntryFire.{EntryFire}
use Rattle.cron_agenda.specs.declared.slots.Slot.{Slot}
use Rattle.cron_instants.specs.Places.{HasAt}
use Rattle.cron_instants.specs.Places as tree
use Rattle.jiff_tz.specs.declared.timezone.TimeZone.{TimeZone}
use Rattle.cron_time.specs.Seconds.{Seconds}
use Rattle.cron_seconds.specs.Rules.{IsFirstOf}
use Rattle.cron_agenda.specs.Fires.{fires_past, instant}
use Rattle.cron_agenda.specs.Entries.{ComesFirst, HaveIds, IsBeforeAll, IsFirstEntry, IsTaken, entry, gone_on}
use Rattle.cron_agenda.specs.Inner.Slots.{IsKept, IsOwn, entries_of, entry_of, entry_when, instant_of}
use Rattle.cron_agenda.proofs.ListLemmas.{Split, split, get-before, get-behind, some_same, none_of, some_of}
use Rattle.cron_agenda.proofs.SlotLemmas.{entries-append, have-behind, live_id, with_head}
use Rattle.cron_agenda.proofs.PartLemmas.{have_parts, put_parts}

-- ---- which entry comes first

-- an instant with an id comes before a fire of an entry
abbrev IsAhead : ℤ → ℕ → EntryFire → ℕ → Type 0
IsAhead n id q other = (n <ℤ instant q) ⊎ ((n ≡ instant q) × (id < other))

-- so before each slot's
abbrev AreBehind : {T : Type 0} → ℤ → ℕ → List (Slot T) → Type 0
AreBehind n id [] = Unit {0}
AreBehind n id (s ∷ ss) = ((q : EntryFire) → s.head ≡ Some q → IsAhead n id q s.id) × AreBehind n id ss

before_by : (n : ℤ) (id : ℕ) (q : EntryFire) (other : ℕ) → IsAhead n id q other → comes_before n id (instant q) other ≡ true
before_by n id q other (inl less) = before-less n id (instant q) other less
before_by n id q other (inr same) = before-shared n id (instant q) other same.0 same.1

before-append : {T : Type 0} (e : Entry T) (a b : List (Entry T)) → IsBeforeAll e a → IsBeforeAll e b → IsBeforeAll e (a ++ b)
before-append e [] b h g = g
before-append e (x ∷ a) b h g = (h.0, before-append e a b h.1 g)

before_own : {T : Type 0} (e : Entry T) (id : ℕ) (table : T) (zone : ℕ) (head : Option EntryFire)
    → ((q : EntryFire) → head ≡ Some q → IsAhead (instant e.fire) e.id q id) → IsBeforeAll e (entry_when id table zone head)
before_own e id table zone None h = tt
before_own e id table zone (Some q) h = (before_by (instant e.fire) e.id q id (h q refl), tt)

before-slots : {T : Type 0} (e : Entry T) (ss : List (Slot T)) → AreBehind (instant e.fire) e.id ss → IsBeforeAll e (entries_of ss)
before-slots e [] h = tt
before-slots e (s ∷ ss) h = before-append e (entry_of s) (entries_of ss) (before_own e s.id s.table s.zone s.head h.0) (before-slots e ss h.1)

has_head : {T : Type 0} (s : Slot T) (ss : List (Slot T)) (q : EntryFire) → s.head ≡ Some q → HasAt (map instant_of (s ∷ ss)) 0 (instant q)
has_head s ss q e = ap Some (ap (option_map instant) e)

heads-before : {T : Type 0} (n : ℤ) (id : ℕ) (ss : List (Slot T)) → ((i : ℕ) (m : ℤ) → HasAt (map instant_of ss) i m → n <ℤ m) → AreBehind n id ss
heads-before n id [] h = tt
heads-before n id (s ∷ ss) h = (λ q e. inl (h 0 (instant q) (has_head s ss q e)), heads-before n id ss (λ i m there. h (suc i) m there))

heads-behind : {T : Type 0} (n : ℤ) (id : ℕ) (ss : List (Slot T)) (low high : ℕ) → id < low → HaveIds low (entries_of ss) high
    → ((i : ℕ) (m : ℤ) → HasAt (map instant_of ss) i m → (n <ℤ m) ⊎ (n ≡ m)) → AreBehind n id ss
heads-behind n id [] low high less ids h = tt
heads-behind n id (s ∷ ss) low high less ids h =
    let own = live_id s ss low high ids in (
      λ q e. elim (h 0 (instant q) (has_head s ss q e)) [ inl early ↦ inl early | inr same ↦ inr (same, (let first = own.0 q e in omega (arith, first.0))) ],
      heads-behind n id ss low high less own.1 (λ i m there. h (suc i) m there),
    )

module _ {T : Type 0} (before after : List (Slot T)) (s : Slot T) (f : EntryFire) (head : s.head ≡ Some f) (added : ℕ)
    (ids : HaveIds 0 (entries_of (before ++ s ∷ after)) added) where
  abbrev pub e : Entry T
  e = entry s.id s.table s.zone f

  keys_are : map instant_of (before ++ s ∷ after) ≡ map instant_of before ++ Some (instant f) ∷ map instant_of after
  keys_are = map-append instant_of before (s ∷ after) ∙ ap (λ o. map instant_of before ++ o ∷ map instant_of after) (ap (option_map instant) head)

  pub entries_are : entries_of (before ++ s ∷ after) ≡ entries_of before ++ e ∷ entries_of after
  entries_are =
      entries-append before (s ∷ after) ∙ ap (λ h. entries_of before ++ (entry_when s.id s.table s.zone h ++ entries_of after)) head

  module _ (first : tree.ComesFirst (map instant_of (before ++ s ∷ after)) (length before)) where
    at_place : first.instant ≡ instant f
    at_place =
        let here : slice_get (map instant_of (before ++ s ∷ after)) (length before) ≡ Some (Some (instant f)) =
        subst (λ l. slice_get l (length before) ≡ Some (Some (instant f))) (sym keys_are)
        (get-behind (map instant_of before) (Some (instant f) ∷ map instant_of after) 0 (length before) (Some (instant f))
        (let size = length-map before instant_of in omega arith) refl) in
        let there = first.here in cc

    behind_first : (i : ℕ) (m : ℤ) → HasAt (map instant_of before ++ Some (instant f) ∷ map instant_of after) i m → (i ≡ length before → ⊥)
        → (instant f <ℤ m) ⊎ ((instant f ≡ m) × (length before < i))
    behind_first i m h apart =
        let later = first.others i m (subst (λ l. HasAt l i m) (sym keys_are) h) apart in
        before-true (instant f) (length before) m i (subst (λ n. comes_before n (length before) m i ≡ true) at_place later)

    ahead_before : IsBeforeAll e (entries_of before)
    ahead_before =
        before-slots e before (heads-before (instant f) s.id before (λ i m h.
        let size = length-map before instant_of in
        let within = slice_get_within (map instant_of before) i (Some m) h in
        elim (behind_first i m (get-before (map instant_of before) (Some (instant f) ∷ map instant_of after) i (Some m) h) (λ e. omega arith)) [
          | inl early ↦ early
          | inr same ↦ absurd (let more = same.1 in omega arith)
        ]))

    ahead_after : IsBeforeAll e (entries_of after)
    ahead_after =
        before-slots e after (heads-behind (instant f) s.id after (s.id + 1) added (omega arith) (have-behind (entries_of before) (entries_of after) e 0 added (subst (λ es. HaveIds 0 es added) entries_are ids)) (λ i m h.
        let size = length-map before instant_of in
        elim (behind_first (length before + suc i) m
        (get-behind (map instant_of before) (Some (instant f) ∷ map instant_of after) (suc i) (length before + suc i) (Some m) (omega arith) h)
        (λ e. omega arith)) [
          | inl early ↦ inl early
          | inr same ↦ inr same.0
        ]))

    pub ahead_others : IsBeforeAll e (entries_of before ++ entries_of after)
    ahead_others = before-append e (entries_of before) (entries_of after) ahead_before ahead_after

-- ---- the slot at the first place

module _ {T : Type 0} {slots : List (Slot T)} {firsts : List (Option ℤ)} {live added packed scanned : ℕ} (kept : IsKept slots firsts live added packed scanned) where
  module _ {place : ℕ} (first : tree.ComesFirst firsts place) where
    pub first_within : place < length slots
    first_within =
        let within = slice_get_within firsts place (Some first.instant) first.here in
        let size = ap length kept.keys ∙ length-map slots instant_of in
        omega arith

    pub there : (s : Slot T) → s ≡ get_or slots place s → slice_get slots place ≡ Some s
    there s read = slice_get_read slots (length slots) place s refl first_within read

    module _ (s : Slot T) (read : s ≡ get_or slots place s) where
      -- it has a fire
      pub first_has : s.head ≡ None → ⊥
      first_has none =
          let e = slice_get-map instant_of slots place ∙ ap (option_map instant_of) (there s read) in
          let key = subst (λ l. HasAt l place first.instant) kept.keys first.here in
          let o : Some (option_map instant s.head) ≡ Some (Some first.instant) = sym e ∙ key in
          let p : option_map instant s.head ≡ None = ap (option_map instant) none in
          cc

      module _ (f : EntryFire) (head : s.head ≡ Some f) where
        abbrev pub cut_at : Split slots place s
        cut_at = split slots place s (there s read)

        pub ids_here : HaveIds 0 (entries_of (cut_at.before ++ s ∷ cut_at.after)) added
        ids_here = subst (λ l. HaveIds 0 (entries_of l) added) cut_at.is (have_parts kept.parts)

        pub first_here : tree.ComesFirst (map instant_of (cut_at.before ++ s ∷ cut_at.after)) (length cut_at.before)
        first_here =
            subst (λ p. tree.ComesFirst (map instant_of (cut_at.before ++ s ∷ cut_at.after)) p) (sym cut_at.at)
            (subst (λ l. tree.ComesFirst (map instant_of l) place) cut_at.is (subst (λ l. tree.ComesFirst l place) kept.keys first))

        abbrev pub is_first : ComesFirst (entries_of slots) (entry s.id s.table s.zone f)
        is_first = record {
          before = entries_of cut_at.before;
          after = entries_of cut_at.after;
          is = ap entries_of cut_at.is ∙ entries_are cut_at.before cut_at.after s f head added ids_here;
          others = ahead_others cut_at.before cut_at.after s f head added ids_here first_here;
        }

        count_was : length (entries_of slots) ≡ length (entries_of cut_at.before) + suc (length (entries_of cut_at.after))
        count_was = ap length is_first.is ∙ length-append (entries_of cut_at.before) (entry s.id s.table s.zone f ∷ entries_of cut_at.after)

        pub some_live : 0 < live
        some_live = let was = count_was in let count = kept.count in omega arith

        -- the slot, read again, with another fire, or none
        module _ (again : Slot T) (reread : again ≡ get_or slots place again) (h : Option EntryFire) where
          abbrev t : Slot T
          t = with_head h again

          becomes : t ≡ with_head h s
          becomes = ap (with_head h) (some_same (sym (there again reread) ∙ there s read))

          when_gone : (o : Option EntryFire) → entry_when s.id s.table s.zone o ≡ gone_on (entry s.id s.table s.zone f) o
          when_gone None = refl
          when_gone (Some q) = refl

          pub entries_then : entries_of (set slots place t) ≡ is_first.before ++ (gone_on (entry s.id s.table s.zone f) h ++ is_first.after)
          entries_then =
              ap entries_of (cut_at.put t) ∙ entries-append cut_at.before (t ∷ cut_at.after)
              ∙ ap (λ (u : Slot T). entries_of cut_at.before ++ (entry_of u ++ entries_of cut_at.after)) becomes
              ∙ ap (λ l. entries_of cut_at.before ++ (l ++ entries_of cut_at.after)) (when_gone h)

          count_last : is_none h ≡ true → length (entries_of (set slots place t)) ≡ live - 1
          count_last none =
              let was = count_was in let count = kept.count in
              let size = length-append (entries_of cut_at.before) (entries_of cut_at.after) in
              ap length (entries_then ∙ ap (λ o. entries_of cut_at.before ++ (gone_on (entry s.id s.table s.zone f) o ++ entries_of cut_at.after)) (none_of h none))
              ∙ omega arith

          count_more : (q : EntryFire) → h ≡ Some q → length (entries_of (set slots place t)) ≡ live
          count_more q some =
              let was = count_was in let count = kept.count in
              let size = length-append (entries_of cut_at.before) (entry s.id s.table s.zone q ∷ entries_of cut_at.after) in
              ap length (entries_then ∙ ap (λ o. entries_of cut_at.before ++ (gone_on (entry s.id s.table s.zone f) o ++ entries_of cut_at.after)) some)
              ∙ omega arith

          kept_by : (n : ℕ) → n ≡ length (entries_of (set slots place t)) → IsKept (set slots place t) (set firsts place (option_map instant h)) n added packed scanned
          kept_by n count = record {
            keys =
                ap (λ l. set l place (option_map instant h)) kept.keys
                ∙ ap (λ (u : Slot T). set (map instant_of slots) place (option_map instant u.head)) (sym becomes)
                ∙ sym (map-set instant_of slots place t);
            parts = put_parts kept.parts place s t (there s read) (λ none. cc) (ap (λ (u : Slot T). u.id) becomes);
            count = count;
          }

          pub kept_last : is_none h ≡ true → IsKept (set slots place t) (set firsts place (option_map instant h)) (live - 1) added packed scanned
          kept_last none = kept_by (live - 1) (sym (count_last none))

          pub kept_more : is_none h ≡ false → IsKept (set slots place t) (set firsts place (option_map instant h)) live added packed scanned
          kept_more some = let q = some_of h some in kept_by live (sym (count_more q.0 q.1))

          pub taken : (has : T → Seconds) (zones : List TimeZone) (z : TimeZone) → slice_get zones s.zone ≡ Some z
              → IsFirstOf (fires_past (has s.table) z f) (fires_past (has s.table) z) h
              → (b : Bool) → is_none h ≡ b
              → IsTaken has zones (entries_of slots) (record { id = s.id; fire = f; is_last = b }) (entries_of (set slots place t))
          taken has zones z lent goes b told = record {
            entry = entry s.id s.table s.zone f;
            first = is_first;
            zone = z;
            lent = lent;
            next = h;
            goes_on = goes;
            is = ap (λ last. record { id = s.id; fire = f; is_last = last }) (sym told);
            now = entries_then;
          }

      pub first_entry : (answer : Option (Entry T)) → IsOwn s answer → IsFirstEntry (entries_of slots) answer
      first_entry None none = absurd (first_has none)
      first_entry (Some x) is = subst (ComesFirst (entries_of slots)) (sym is.1) (is_first x.fire is.0)

  -- where no place has an instant, there are no entries
  no_heads : (ss : List (Slot T)) → ((j : ℕ) (m : ℤ) → HasAt (map instant_of ss) j m → ⊥) → entries_of ss ≡ []
  no_heads [] none = refl
  no_heads (s ∷ ss) none =
      let own : (o : Option EntryFire) → s.head ≡ o → entry_when s.id s.table s.zone o ≡ [] = elim [
        | None ↦ λ e. refl
        | Some q ↦ λ e. absurd (none 0 (instant q) (has_head s ss q e))
      ] in
      ap (λ l. l ++ entries_of ss) (own s.head refl) ∙ no_heads ss (λ j m h. none (suc j) m h)

  pub nothing_left : ((j : ℕ) (m : ℤ) → HasAt firsts j m → ⊥) → entries_of slots ≡ []
  nothing_left none = no_heads slots (λ j m h. none j m (subst (λ l. HasAt l j m) (sym kept.keys) h))
