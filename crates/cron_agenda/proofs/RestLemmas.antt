-- What entries have left behind fires that were taken from them.
use Rattle.std.proofs.Common.{◌≡◌, ℕ, ◌+◌, ◌<◌, ◌≤◌, Bool, true, false, eqb, List, [], ◌∷◌, ◌++◌, Option, Some, None, refl, sym, ap, subst, ◌∙◌, arith}
use Rattle.std.specs.Prelude.{◌==◌, if◌then◌else◌, slice_get}
use Rattle.std.specs.List.{flat_map}
use Rattle.std.specs.Option.{option_or}
use Rattle.std.proofs.lemmas.Bool.{eq-eqb, eqb-true}
use Rattle.std.proofs.lemmas.Grind.{flat_map-append}
use Rattle.std.proofs.lemmas.List.{append-nil}
use Rattle.jiff_tz.specs.declared.timezone.TimeZone.{TimeZone}
use Rattle.cron_time.specs.Seconds.{Seconds}
use Rattle.cron_seconds.specs.Rules.{IsFirstOf}
use Rattle.cron_agenda.specs.declared.entry.Entry.{Entry}
use Rattle.cron_agenda.specs.declared.fire.AgendaFire.{AgendaFire}
use Rattle.cron_agenda.specs.declared.fire.EntryFire.{EntryFire}
use Rattle.cron_agenda.specs.Entries.{HaveIds, IsTaken, Listed, entry, gone_on}
use Rattle.cron_agenda.specs.Fires.{fires_past}
use Rattle.cron_agenda.specs.Laws.{AddedPastGoesOn, TakenAreTheFront, TheRestIsBehind}
use Rattle.cron_agenda.specs.Merged.{AllAscend, AreTaken, behind, in_order, last_of, left, merged, own_of, owned, rest_in}
use Rattle.cron_agenda.proofs.MergeLemmas.{taken_is_first}

-- ---- they are a front

pub taken_are_the_front : {T : Type 0} (has : T → Seconds) → TakenAreTheFront has
taken_are_the_front has zones [] old new up same = (ap (merged has zones) (sym same), subst (AllAscend has zones) (sym same) up)
taken_are_the_front has zones (f ∷ fs) old new up taken =
    let first = taken_is_first has zones old f taken.0 up taken.1 in
    let rest = taken_are_the_front has zones fs taken.0 new first.1 taken.2 in
    (first.0 ∙ ap (λ l. own_of f ∷ l) rest.0, rest.1)

-- ---- ids

pub unlike : (a b : ℕ) → (a ≡ b → ⊥) → (a == b) ≡ false
unlike a b apart = by_test (eqb a b) refl
  where
    by_test : (t : Bool) → eqb a b ≡ t → t ≡ false
    by_test true is = absurd (apart (eqb-true a b is))
    by_test false is = refl

-- no entry has the id
abbrev AllLack : {T : Type 0} → ℕ → List (Entry T) → Type 0
AllLack id [] = Unit {0}
AllLack id (e ∷ es) = (e.id ≡ id → ⊥) × AllLack id es

lack-append : {T : Type 0} (id : ℕ) (a b : List (Entry T)) → AllLack id a → AllLack id b → AllLack id (a ++ b)
lack-append id [] b h g = g
lack-append id (e ∷ a) b h g = (h.0, lack-append id a b h.1 g)

lack-before : {T : Type 0} (id : ℕ) (a b : List (Entry T)) → AllLack id (a ++ b) → AllLack id a
lack-before id [] b h = tt
lack-before id (e ∷ a) b h = (h.0, lack-before id a b h.1)

lack-behind : {T : Type 0} (id : ℕ) (a b : List (Entry T)) → AllLack id (a ++ b) → AllLack id b
lack-behind id [] b h = h
lack-behind id (e ∷ a) b h = lack-behind id a b h.1

lack-less : {T : Type 0} (id : ℕ) (es : List (Entry T)) (low high : ℕ) → id < low → HaveIds low es high → AllLack id es
lack-less id [] low high less ids = tt
lack-less id (e ∷ es) low high less ids = let first = ids.0 in (λ same. omega arith, lack-less id es (e.id + 1) high (omega arith) ids.1)

low_there : {T : Type 0} (a b : List (Entry T)) (e : Entry T) (low high : ℕ) → HaveIds low (a ++ e ∷ b) high → low ≤ e.id
low_there [] b e low high ids = ids.0
low_there (x ∷ a) b e low high ids = let rest = low_there a b e (x.id + 1) high ids.1 in let first = ids.0 in omega arith

-- those beside an entry have other ids
lack-there : {T : Type 0} (a b : List (Entry T)) (e : Entry T) (low high : ℕ) → HaveIds low (a ++ e ∷ b) high → AllLack e.id a × AllLack e.id b
lack-there [] b e low high ids = (tt, lack-less e.id b (e.id + 1) high (omega arith) ids.1)
lack-there (x ∷ a) b e low high ids =
    let rest = lack-there a b e (x.id + 1) high ids.1 in
    let more = low_there a b e (x.id + 1) high ids.1 in
    ((λ same. omega arith, rest.0), rest.1)

ids-lower : {T : Type 0} (es : List (Entry T)) (low from high : ℕ) → low ≤ from → HaveIds from es high → HaveIds low es high
ids-lower [] low from high le ids = (let more = ids in omega arith)
ids-lower (e ∷ es) low from high le ids = (let more = ids.0 in omega arith, ids.1)

ids-gone : {T : Type 0} (a b : List (Entry T)) (e : Entry T) (next : Option EntryFire) (low high : ℕ) → HaveIds low (a ++ e ∷ b) high
    → HaveIds low (a ++ (gone_on e next ++ b)) high
ids-gone [] b e None low high ids = ids-lower b low (e.id + 1) high (let first = ids.0 in omega arith) ids.1
ids-gone [] b e (Some q) low high ids = ids
ids-gone (x ∷ a) b e next low high ids = (ids.0, ids-gone a b e next (x.id + 1) high ids.1)

lack-gone : {T : Type 0} (id : ℕ) (e : Entry T) (next : Option EntryFire) → (e.id ≡ id → ⊥) → AllLack id (gone_on e next)
lack-gone id e None apart = tt
lack-gone id e (Some q) apart = (apart, tt)

-- ---- one fire

last_lacks : (id : ℕ) (f : AgendaFire) (fs : List AgendaFire) → (f.id ≡ id → ⊥) → last_of id (f ∷ fs) ≡ last_of id fs
last_lacks id f fs apart = ap (λ b. option_or (last_of id fs) (if b then Some f.fire else None)) (unlike f.id id apart) ∙ or_none (last_of id fs)
  where
    or_none : (o : Option EntryFire) → option_or o None ≡ o
    or_none None = refl
    or_none (Some q) = refl

last_has : (id : ℕ) (f : AgendaFire) (fs : List AgendaFire) → f.id ≡ id → last_of id (f ∷ fs) ≡ option_or (last_of id fs) (Some f.fire)
last_has id f fs same = ap (λ b. option_or (last_of id fs) (if b then Some f.fire else None)) (eq-eqb f.id id same)

module _ {T : Type 0} (has : T → Seconds) (zones : List TimeZone) where
  -- no entry has the id, and so no fire that is taken
  never_last : (id : ℕ) (fs : List AgendaFire) (old new : List (Entry T)) → AllLack id old → AreTaken has zones fs old new → last_of id fs ≡ None
  never_last id [] old new lack taken = refl
  never_last id (f ∷ fs) old new lack taken =
      let is = taken.1 in
      let there = subst (AllLack id) is.first.is lack in
      let before = lack-before id is.first.before (is.entry ∷ is.first.after) there in
      let behind_it = lack-behind id is.first.before (is.entry ∷ is.first.after) there in
      let apart : f.id ≡ id → ⊥ = λ same. behind_it.0 (sym (ap (λ (v : AgendaFire). v.id) is.is) ∙ same) in
      let rest = subst (AllLack id) (sym is.now) (lack-append id is.first.before (gone_on is.entry is.next ++ is.first.after) before
      (lack-append id (gone_on is.entry is.next) is.first.after (lack-gone id is.entry is.next behind_it.0) behind_it.1)) in
      last_lacks id f fs apart ∙ never_last id fs taken.0 new rest taken.2

  ids-one : (f : AgendaFire) (old new : List (Entry T)) (low high : ℕ) → HaveIds low old high → IsTaken has zones old f new → HaveIds low new high
  ids-one f old new low high ids is =
      subst (λ l. HaveIds low l high) (sym is.now)
      (ids-gone is.first.before is.first.after is.entry is.next low high (subst (λ l. HaveIds low l high) is.first.is ids))

  pub ids-taken : (fs : List AgendaFire) (old new : List (Entry T)) (low high : ℕ) → HaveIds low old high → AreTaken has zones fs old new
      → HaveIds low new high
  ids-taken [] old new low high ids same = subst (λ l. HaveIds low l high) (sym same) ids
  ids-taken (f ∷ fs) old new low high ids taken = ids-taken fs taken.0 new low high (ids-one f old taken.0 low high ids taken.1) taken.2

-- what is told of each entry, by its id and the fires that it has, and nothing where it has none
module _ {T X : Type 0} (has : T → Seconds) (zones : List TimeZone) (told : ℕ → List EntryFire → List X) (nothing : (id : ℕ) → told id [] ≡ []) where
  abbrev told_behind : List AgendaFire → List (Entry T) → List X
  told_behind fs es = flat_map (λ e. told e.id (behind has zones (last_of e.id fs) e)) es

  behind-append : (fs : List AgendaFire) (a b : List (Entry T)) → told_behind fs (a ++ b) ≡ told_behind fs a ++ told_behind fs b
  behind-append fs a b = flat_map-append (λ e. told e.id (behind has zones (last_of e.id fs) e)) a b

  -- a fire of another entry says nothing
  behind_lacks : (f : AgendaFire) (fs : List AgendaFire) (es : List (Entry T)) → AllLack f.id es → told_behind (f ∷ fs) es ≡ told_behind fs es
  behind_lacks f fs [] lack = refl
  behind_lacks f fs (e ∷ es) lack =
      ap (λ o. told e.id (behind has zones o e) ++ told_behind (f ∷ fs) es) (last_lacks e.id f fs (λ same. lack.0 (sym same)))
      ∙ ap (λ l. told e.id (behind has zones (last_of e.id fs) e) ++ l) (behind_lacks f fs es lack.1)

  -- what an entry that goes on, or ends, has behind a fire
  abbrev gone_left : Entry T → Option EntryFire → Option EntryFire → List X
  gone_left e None last = []
  gone_left e (Some q) last = told e.id (behind has zones last (entry e.id e.table e.zone q))

  gone_is : (fs : List AgendaFire) (e : Entry T) (next : Option EntryFire) → told_behind fs (gone_on e next) ≡ gone_left e next (last_of e.id fs)
  gone_is fs e None = refl
  gone_is fs e (Some q) = append-nil (gone_left e (Some q) (last_of e.id fs))

  behind_gone : (e : Entry T) (z : TimeZone) (next last : Option EntryFire) → slice_get zones e.zone ≡ Some z
      → IsFirstOf (fires_past (has e.table) z e.fire) (fires_past (has e.table) z) next → (next ≡ None → last ≡ None)
      → told e.id (behind has zones (option_or last (Some e.fire)) e) ≡ gone_left e next last
  behind_gone e z None None lent goes ends = ap (λ o. told e.id (rest_in (has e.table) o e.fire)) lent ∙ ap (told e.id) goes ∙ nothing e.id
  behind_gone e z None (Some q) lent goes ends = let no = ends refl in absurd (cc)
  behind_gone e z (Some q) None lent goes ends =
      ap (λ o. told e.id (rest_in (has e.table) o e.fire)) lent ∙ ap (told e.id) goes
      ∙ ap (λ o. told e.id (q ∷ rest_in (has e.table) o q)) (sym lent)
  behind_gone e z (Some q) (Some p) lent goes ends = refl

  module _ (f : AgendaFire) (fs : List AgendaFire) (old mid new : List (Entry T)) (low high : ℕ) (ids : HaveIds low old high) (is : IsTaken has zones old f mid) where
    abbrev e : Entry T
    e = is.entry

    abbrev a : List (Entry T)
    a = is.first.before

    abbrev b : List (Entry T)
    b = is.first.after

    ids_there : HaveIds low (a ++ e ∷ b) high
    ids_there = subst (λ l. HaveIds low l high) is.first.is ids

    id_is : f.id ≡ e.id
    id_is = ap (λ (v : AgendaFire). v.id) is.is

    others : AllLack e.id a × AllLack e.id b
    others = lack-there a b e low high ids_there

    ended : AreTaken has zones fs mid new → is.next ≡ None → last_of e.id fs ≡ None
    ended taken none =
        never_last has zones e.id fs mid new (subst (AllLack e.id) (sym is.now) (lack-append e.id a (gone_on e is.next ++ b) others.0
        (lack-append e.id (gone_on e is.next) b (subst (λ o. AllLack e.id (gone_on e o)) (sym none) tt) others.1))) taken

    one_on : AreTaken has zones fs mid new → told_behind (f ∷ fs) old ≡ told_behind fs mid
    one_on taken =
        ap (told_behind (f ∷ fs)) is.first.is
        ∙ behind-append (f ∷ fs) a (e ∷ b)
        ∙ ap (λ l. l ++ told_behind (f ∷ fs) (e ∷ b)) (behind_lacks f fs a (subst (λ i. AllLack i a) (sym id_is) others.0))
        ∙ ap (λ o. told_behind fs a ++ (told e.id (behind has zones o e) ++ told_behind (f ∷ fs) b))
        (last_has e.id f fs id_is ∙ ap (λ (v : AgendaFire). option_or (last_of e.id fs) (Some v.fire)) is.is)
        ∙ ap (λ l. told_behind fs a ++ (told e.id (behind has zones (option_or (last_of e.id fs) (Some e.fire)) e) ++ l))
        (behind_lacks f fs b (subst (λ i. AllLack i b) (sym id_is) others.1))
        ∙ ap (λ l. told_behind fs a ++ (l ++ told_behind fs b))
        (behind_gone e is.zone is.next (last_of e.id fs) is.lent is.goes_on (ended taken) ∙ sym (gone_is fs e is.next))
        ∙ sym (ap (told_behind fs) is.now ∙ behind-append fs a (gone_on e is.next ++ b)
        ∙ ap (λ l. told_behind fs a ++ l) (behind-append fs (gone_on e is.next) b))

  pub rest_is : (fs : List AgendaFire) (old new : List (Entry T)) (low high : ℕ) → HaveIds low old high → AreTaken has zones fs old new
      → flat_map (λ e. told e.id (left has zones e)) new ≡ told_behind fs old
  rest_is [] old new low high ids same = ap (flat_map (λ e. told e.id (left has zones e))) same
  rest_is (f ∷ fs) old new low high ids taken =
      rest_is fs taken.0 new low high (ids-one has zones f old taken.0 low high ids taken.1) taken.2
      ∙ sym (one_on f fs old taken.0 new low high ids taken.1 taken.2)

pub the_rest_is_behind : {T : Type 0} (has : T → Seconds) → TheRestIsBehind has
the_rest_is_behind has zones fires old new low high ids taken = ap in_order (rest_is has zones owned (λ id. refl) fires old new low high ids taken)

-- ---- an entry that is added past a fire

pub added_past_goes_on : {T : Type 0} (has : T → Seconds) → AddedPastGoesOn has
added_past_goes_on has = record {
  added = λ zones table zone last old id new adds. (
    adds.1,
    ap (λ (l : Listed _). l.entries) adds.5,
    ap (λ o. adds.1 ∷ rest_in (has table) o adds.1) adds.2 ∙ sym adds.3
        ∙ ap (λ o. rest_in (has table) o last) (sym adds.2),
  );
  ended = λ zones table zone last old new adds. ap (λ o. rest_in (has table) o last) adds.0.1 ∙ adds.0.2;
}
