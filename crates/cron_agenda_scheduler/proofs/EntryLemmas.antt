-- The fires of one entry, while jobs add and remove others.
use Rattle.std.proofs.Common.{◌≡◌, ◌⊎◌, ℕ, ◌+◌, ◌-◌, ◌^◌, ◌<◌, ◌≤◌, ℤ, Bool, true, false, ◌||◌, cond, eqb, inl, inr, List, [], ◌∷◌, ◌++◌, length, map, Option, Some, None, refl, sym, ap, subst, ◌∙◌, append_assoc, append-nil, length-append, arith}
use Rattle.std.specs.Prelude.{◌==◌, Ok, filter, flat_map, slice_get}
use Rattle.std.proofs.lemmas.Bool.{eqb-true}
use Rattle.std.proofs.lemmas.Grind.{flat_map-append}
use Rattle.std.proofs.lemmas.List.{map-append}
use Rattle.std.proofs.lemmas.List.Elements.{filter-append}
use Rattle.jiff_core.specs.declared.Timestamp.{Timestamp}
use Rattle.jiff_tz.specs.declared.timezone.TimeZone.{TimeZone}
use Rattle.cron_agenda.specs.declared.entry.Entry.{Entry}
use Rattle.cron_agenda.specs.declared.fire.AgendaFire.{AgendaFire}
use Rattle.cron_agenda.specs.declared.fire.EntryFire.{EntryFire}
use Rattle.cron_agenda.specs.Entries.{HaveIds, IsTaken, Listed, gone_on}
use Rattle.cron_agenda.specs.Entries as entries
use Rattle.cron_agenda.specs.Fires.{fires_past, instant}
use Rattle.cron_agenda.specs.Merged.{AllAscend, Ascend, left, own_of, rest_in}
use Rattle.cron_seconds.specs.Rules.{IsFirstOf, is_by}
use Rattle.cron_scheduler.specs.Passing.{AllPass, NonePass}
use Rattle.cron_scheduler.specs.Runs.{ClockCalls}
use Rattle.cron_scheduler.specs.Runs as due
use Rattle.cron_scheduler.proofs.DueLemmas.{filter_begins, filter_front}
use Rattle.cron_agenda_scheduler.specs.EntryLaws.{EntryDeedsAreAllDue, EntryDeedsAreItsFires, EntryDeedsBeginThat, EntryFailureIsTaken, EntryTurnsAreAllDue, EntryTurnsAreItsFires, EntryTurnsBeginThat, IsOneAtMost, OneAmongAll, RemovalCutsThat, fires_with, keeping, left_with, with_id}
use Rattle.cron_agenda_scheduler.specs.Late.{Tables}
use Rattle.cron_agenda_scheduler.specs.Laws.{is_due}
use Rattle.cron_agenda_scheduler.specs.Turns.{AreDone, AreTurns, Deed, JobCalls, Passed, Ran, RunsDue, all_taken, shown_in, taken}
use Rattle.cron_agenda_scheduler.proofs.LateLemmas.{unlike}
use Rattle.cron_agenda_scheduler.proofs.LawLemmas.{all_due, ended, none_later, not_first}
use Rattle.cron_agenda_scheduler.proofs.TurnLemmas.{due_is_done, ends_as_it_was, some_left, turn_is_done, turn_shown}

-- ---- the entry with an id

none_with : {T : Type 0} (id : ℕ) (es : List (Entry T)) (low high : ℕ) → id < low → HaveIds low es high → with_id id es ≡ []
none_with id [] low high less ids = refl
none_with id (e ∷ es) low high less ids =
    let first = ids.0 in
    ap (λ b. cond b (e ∷ with_id id es) (with_id id es)) (unlike e.id id (λ same. omega arith)) ∙ none_with id es (e.id + 1) high (omega arith) ids.1

one_there : {T : Type 0} (id : ℕ) (es : List (Entry T)) (low high : ℕ) → HaveIds low es high → IsOneAtMost id es
one_there id [] low high ids = omega arith
one_there id (e ∷ es) low high ids = by_test (eqb e.id id) refl (one_there id es (e.id + 1) high ids.1)
  where
    by_test : (b : Bool) → eqb e.id id ≡ b → IsOneAtMost id es → IsOneAtMost id (e ∷ es)
    by_test true is rest =
        let same = eqb-true e.id id is in
        let size = ap length (ap (λ b. cond b (e ∷ with_id id es) (with_id id es)) is ∙ ap (λ l. e ∷ l) (none_with id es (e.id + 1) high (omega arith) ids.1)) in
        omega arith
    by_test false is rest =
        let size = ap length (ap (λ b. cond b (e ∷ with_id id es) (with_id id es)) is) in omega arith

nothing : {A : Type 0} (l : List A) → length l ≤ 0 → l ≡ []
nothing [] le = refl
nothing (x ∷ l) le = absurd (omega arith)

ascend_there : {T : Type 0} (ts : Tables T) (id : ℕ) (es : List (Entry T)) → IsOneAtMost id es → AllAscend ts.has ts.zones es → Ascend (left_with ts id es)
ascend_there ts id [] one up = tt
ascend_there ts id (e ∷ es) one up = by_test (eqb e.id id) refl (λ less. ascend_there ts id es less up.1)
  where
    by_test : (b : Bool) → eqb e.id id ≡ b → (IsOneAtMost id es → Ascend (left_with ts id es)) → Ascend (left_with ts id (e ∷ es))
    by_test true is rest =
        let there = ap (λ b. cond b (e ∷ with_id id es) (with_id id es)) is in
        let size = ap length there in
        subst Ascend (sym (ap (flat_map (left ts.has ts.zones)) (there ∙ ap (λ l. e ∷ l) (nothing (with_id id es) (omega arith)))
        ∙ append-nil (left ts.has ts.zones e))) up.0
    by_test false is rest =
        let there = ap (λ b. cond b (e ∷ with_id id es) (with_id id es)) is in
        subst Ascend (sym (ap (flat_map (left ts.has ts.zones)) there)) (rest (subst (λ l. length l ≤ 1) there one))

pub one_among_all : {T : Type 0} (ts : Tables T) (id : ℕ) → OneAmongAll ts id
one_among_all ts id = record { one = one_there id; ascends = ascend_there ts id }

-- ---- one fire

fires-append : (id : ℕ) (fs gs : List AgendaFire) → fires_with id (fs ++ gs) ≡ fires_with id fs ++ fires_with id gs
fires-append id fs gs =
    ap (map (λ (f : AgendaFire). f.fire)) (filter-append (λ (f : AgendaFire). f.id == id) fs gs)
    ∙ map-append (λ (f : AgendaFire). f.fire) (filter (λ (f : AgendaFire). f.id == id) fs) (filter (λ (f : AgendaFire). f.id == id) gs)

-- the first fires of some, and the first of those that were left then
taken_on : (id : ℕ) (fs gs : List AgendaFire) (was mid now : List EntryFire) → was ≡ fires_with id fs ++ mid → mid ≡ fires_with id gs ++ now
    → was ≡ fires_with id (fs ++ gs) ++ now
taken_on id fs gs was mid now first more =
    first ∙ ap (λ l. fires_with id fs ++ l) more ∙ sym (append_assoc (fires_with id fs) (fires_with id gs) now) ∙ ap (λ l. l ++ now) (sym (fires-append id fs gs))

with_gone : {T : Type 0} (id : ℕ) (e : Entry T) (next : Option EntryFire) (b : Bool) → (e.id == id) ≡ b → with_id id (gone_on e next) ≡ cond b (gone_on e next) []
with_gone id e None true is = refl
with_gone id e None false is = refl
with_gone id e (Some q) b is = ap (λ t. cond t (gone_on e (Some q)) []) is

with_beside : {T : Type 0} (id : ℕ) (a m b : List (Entry T)) → with_id id (a ++ (m ++ b)) ≡ with_id id a ++ (with_id id m ++ with_id id b)
with_beside id a m b =
    filter-append (λ (e : Entry _). e.id == id) a (m ++ b) ∙ ap (λ l. with_id id a ++ l) (filter-append (λ (e : Entry _). e.id == id) m b)

-- the entry whose next fire is taken has the others left
gone_left : {T : Type 0} (ts : Tables T) (e : Entry T) (z : TimeZone) (next : Option EntryFire) → slice_get ts.zones e.zone ≡ Some z
    → IsFirstOf (fires_past (ts.has e.table) z e.fire) (fires_past (ts.has e.table) z) next
    → left ts.has ts.zones e ≡ e.fire ∷ flat_map (left ts.has ts.zones) (gone_on e next)
gone_left ts e z None lent goes = ap (λ o. e.fire ∷ rest_in (ts.has e.table) o e.fire) lent ∙ ap (λ l. e.fire ∷ l) goes
gone_left ts e z (Some q) lent goes =
    ap (λ o. e.fire ∷ rest_in (ts.has e.table) o e.fire) lent ∙ ap (λ l. e.fire ∷ l) goes
    ∙ ap (λ o. e.fire ∷ q ∷ rest_in (ts.has e.table) o q) (sym lent)
    ∙ sym (append-nil (e.fire ∷ q ∷ rest_in (ts.has e.table) (slice_get ts.zones e.zone) q))

gone_size : {T : Type 0} (e : Entry T) (next : Option EntryFire) → length (gone_on e next) ≤ 1
gone_size e None = omega arith
gone_size e (Some q) = omega arith

module _ {T : Type 0} (ts : Tables T) (id : ℕ) (f : AgendaFire) (old new : List (Entry T)) (is : IsTaken ts.has ts.zones old f new) where
  abbrev e : Entry T
  e = is.entry

  abbrev a : List (Entry T)
  a = is.first.before

  abbrev b : List (Entry T)
  b = is.first.after

  abbrev lefts : List (Entry T) → List EntryFire
  lefts es = flat_map (left ts.has ts.zones) es

  pub with_old : (t : Bool) → (e.id == id) ≡ t → with_id id old ≡ with_id id a ++ (cond t (e ∷ []) [] ++ with_id id b)
  with_old t told =
      ap (with_id id) is.first.is ∙ with_beside id a (e ∷ []) b ∙ ap (λ s. with_id id a ++ (cond s (e ∷ []) [] ++ with_id id b)) told

  pub with_new : (t : Bool) → (e.id == id) ≡ t → with_id id new ≡ with_id id a ++ (cond t (gone_on e is.next) [] ++ with_id id b)
  with_new t told =
      ap (with_id id) is.now ∙ with_beside id a (gone_on e is.next) b ∙ ap (λ l. with_id id a ++ (l ++ with_id id b)) (with_gone id e is.next t told)

  fires_is : (t : Bool) → (e.id == id) ≡ t → fires_with id (f ∷ []) ≡ cond t (e.fire ∷ []) []
  fires_is t told =
      mapped (f.id == id) ∙ ap (λ (v : AgendaFire). cond (v.id == id) (v.fire ∷ []) []) is.is ∙ ap (λ s. cond s (e.fire ∷ []) []) told
    where
      mapped : (s : Bool) → map (λ (v : AgendaFire). v.fire) (cond s (f ∷ []) []) ≡ cond s (f.fire ∷ []) []
      mapped true = refl
      mapped false = refl

  -- what is taken is the first of its fires, where it is one of them
  entry_taken : IsOneAtMost id old → (left_with ts id old ≡ fires_with id (f ∷ []) ++ left_with ts id new) × IsOneAtMost id new
  entry_taken one = by_test (eqb e.id id) refl
    where
      by_test : (t : Bool) → eqb e.id id ≡ t → (left_with ts id old ≡ fires_with id (f ∷ []) ++ left_with ts id new) × IsOneAtMost id new
      by_test true told =
          let size = ap length (with_old true told) in
          let parts = length-append (with_id id a) (e ∷ with_id id b) in
          let none = nothing (with_id id a) (omega arith) in
          let was = with_old true told ∙ ap (λ l. l ++ (e ∷ with_id id b)) none in
          let now = with_new true told ∙ ap (λ l. l ++ (gone_on e is.next ++ with_id id b)) none in
          let gone = gone_size e is.next in
          let size_now = ap length now ∙ length-append (gone_on e is.next) (with_id id b) in (
            ap lefts was
                ∙ ap (λ l. l ++ lefts (with_id id b)) (gone_left ts e is.zone is.next is.lent is.goes_on)
                ∙ ap (λ l. e.fire ∷ l) (sym (ap lefts now ∙ flat_map-append (left ts.has ts.zones) (gone_on e is.next) (with_id id b)))
                ∙ ap (λ l. l ++ left_with ts id new) (sym (fires_is true told)),
            omega arith,
          )
      by_test false told =
          let same = with_old false told ∙ sym (with_new false told) in (
            ap lefts same ∙ ap (λ l. l ++ left_with ts id new) (sym (fires_is false told)),
            subst (λ l. length l ≤ 1) same one,
          )

-- ---- deeds

-- they are the first of its fires, and still one entry at the most has the id
entry_deeds : {T J F : Type 0} (ts : Tables T) (js : JobCalls T J F) (id : ℕ) (t : ℤ) (ds : List Deed) (a : Listed T) (j : J) (a' : Listed T) (j' : J)
    → IsOneAtMost id a.entries → AreDone ts (keeping id js) t ds a j a' j'
    → (left_with ts id a.entries ≡ fires_with id (taken ds) ++ left_with ts id a'.entries) × IsOneAtMost id a'.entries
entry_deeds ts js id t [] a j a' j' one done =
    (ap (λ (x : Listed _). left_with ts id x.entries) (sym done.0), subst (λ (x : Listed _). IsOneAtMost id x.entries) (sym done.0) one)
entry_deeds ts js id t (Ran f ∷ ds) a j a' j' one done =
    let kept = done.2.2.1 in
    let here = entry_taken ts id f a.entries done.2.0.entries done.2.1.takes.0.0 one in
    let rest = entry_deeds ts js id t ds done.0 done.1 a' j' (subst (λ l. length l ≤ 1) (sym kept) here.1) done.3 in (
      taken_on id (f ∷ []) (taken ds) (left_with ts id a.entries) (left_with ts id done.2.0.entries) (left_with ts id a'.entries) here.0
          (ap (flat_map (left ts.has ts.zones)) (sym kept) ∙ rest.0),
      rest.1,
    )
entry_deeds ts js id t (Passed f ∷ ds) a j a' j' one done =
    let here = entry_taken ts id f a.entries done.0.entries done.2.0.takes.0.0 one in
    let rest = entry_deeds ts js id t ds done.0 done.1 a' j' here.1 done.3 in
    (taken_on id (f ∷ []) (taken ds) (left_with ts id a.entries) (left_with ts id done.0.entries) (left_with ts id a'.entries) here.0 rest.0, rest.1)

pub entry_deeds_are_its_fires : {T J F : Type 0} (ts : Tables T) (js : JobCalls T J F) (id : ℕ) → EntryDeedsAreItsFires ts js id
entry_deeds_are_its_fires ts js id t ds a j a' j' one done = (entry_deeds ts js id t ds a j a' j' one done).0

-- ---- what was due

-- each is due
own_due : (id : ℕ) (t : ℤ) (fs : List AgendaFire) → AllPass (is_due t) (map own_of fs) → AllPass (is_by instant t) (fires_with id fs)
own_due id t [] all = tt
own_due id t (f ∷ fs) all = by_test (f.id == id) (own_due id t fs all.1)
  where
    by_test : (b : Bool) → AllPass (is_by instant t) (fires_with id fs)
        → AllPass (is_by instant t) (map (λ (v : AgendaFire). v.fire)
        (cond b (f ∷ filter (λ (v : AgendaFire). v.id == id) fs) (filter (λ (v : AgendaFire). v.id == id) fs)))
    by_test true rest = (all.0, rest)
    by_test false rest = rest

-- and nothing that is left
filter-less : {A : Type 0} (p q : A → Bool) (l : List A) → filter p l ≡ [] → filter p (filter q l) ≡ []
filter-less p q [] none = refl
filter-less p q (x ∷ l) none = let parts = not_first p x l (p x) refl none in by_test (q x) parts.0 (filter-less p q l parts.1)
  where
    by_test : (b : Bool) → p x ≡ false → filter p (filter q l) ≡ [] → filter p (cond b (x ∷ filter q l) (filter q l)) ≡ []
    by_test true fails rest = rw fails rest
    by_test false fails rest = rest

none_of_left : {T : Type 0} (ts : Tables T) (t : ℤ) (es : List (Entry T)) → filter (entries.is_by t) es ≡ [] → Ascend (flat_map (left ts.has ts.zones) es)
    → NonePass (is_by instant t) (flat_map (left ts.has ts.zones) es)
none_of_left ts t [] none up = tt
none_of_left ts t (e ∷ es) none up =
    let late = (not_first (entries.is_by t) e es (entries.is_by t e) refl none).0 in
    (late, none_later t e.fire (rest_in (ts.has e.table) (slice_get ts.zones e.zone) e.fire ++ flat_map (left ts.has ts.zones) es) up.0 late)

ascend-behind : (l m : List EntryFire) → Ascend (l ++ m) → Ascend m
ascend-behind [] m up = up
ascend-behind (f ∷ l) m up = ascend-behind l m up.1

pub entry_deeds_are_all_due : {T J F E : Type 0} (ts : Tables T) (js : JobCalls T J F) (id : ℕ) → EntryDeedsAreAllDue ts js id E
entry_deeds_are_all_due ts js id t most left ds a j a' j' one up runs some fewer =
    let front = (entry_deeds ts js id t ds a j runs.agenda runs.job one runs.are_done).0 in
    let none = ended ts.has ts.zones t left (length ds) runs.agenda a' some fewer runs.ends.2 in
    filter_front (is_by instant t) (left_with ts id a.entries) (fires_with id (taken ds)) (left_with ts id runs.agenda.entries) front
    (own_due id t (taken ds) (all_due ts (keeping id js) t ds a j runs.agenda runs.job runs.are_done))
    (none_of_left ts t (with_id id runs.agenda.entries) (filter-less (entries.is_by t) (λ (e : Entry _). e.id == id) runs.agenda.entries none)
    (ascend-behind (fires_with id (taken ds)) (left_with ts id runs.agenda.entries) (subst Ascend front up)))

pub entry_deeds_begin_that : {T J F : Type 0} (ts : Tables T) (js : JobCalls T J F) (id : ℕ) → EntryDeedsBeginThat ts js id
entry_deeds_begin_that ts js id t ds a j a' j' one done =
    filter_begins (is_by instant t) (left_with ts id a.entries) (fires_with id (taken ds)) (left_with ts id a'.entries)
    (entry_deeds ts js id t ds a j a' j' one done).0 (own_due id t (taken ds) (all_due ts (keeping id js) t ds a j a' j' done))

-- one more is due
one_due : {T : Type 0} (ts : Tables T) (id : ℕ) (t : ℤ) (f : AgendaFire) (old new : List (Entry T)) → IsTaken ts.has ts.zones old f new
    → is_due t (own_of f) ≡ true → IsOneAtMost id old
    → filter (is_by instant t) (left_with ts id old) ≡ fires_with id (f ∷ []) ++ filter (is_by instant t) (left_with ts id new)
one_due ts id t f old new is due one =
    filter_begins (is_by instant t) (left_with ts id old) (fires_with id (f ∷ [])) (left_with ts id new) (entry_taken ts id f old new is one).0
    (own_due id t (f ∷ []) (due, tt))

-- so with the fire for which the job failed
pub entry_failure_is_taken : {T J F E : Type 0} (ts : Tables T) (js : JobCalls T J F) (id : ℕ) → EntryFailureIsTaken ts js id E
entry_failure_is_taken ts js id t most ds a j e a' j' one runs =
    let f = runs.ends.1 in
    let b = runs.ends.2 in
    let picked = runs.ends.3 in
    let done = entry_deeds ts js id t ds a j runs.agenda runs.job one runs.are_done in
    let last = entry_taken ts id f runs.agenda.entries b.entries picked.takes.0.0 done.1 in
    let kept = ap (flat_map (left ts.has ts.zones)) (sym runs.ends.4.1) in
    let by = filter (is_by instant t) in (
      f,
      taken_on id (taken ds) (f ∷ []) (left_with ts id a.entries) (left_with ts id runs.agenda.entries) (left_with ts id a'.entries) done.0
          (last.0 ∙ ap (λ l. fires_with id (f ∷ []) ++ l) kept),
      taken_on id (taken ds) (f ∷ []) (by (left_with ts id a.entries)) (by (left_with ts id runs.agenda.entries)) (by (left_with ts id a'.entries))
          (entry_deeds_begin_that ts js id t ds a j runs.agenda runs.job one runs.are_done)
          (one_due ts id t f runs.agenda.entries b.entries picked.takes.0.0 picked.takes.1 done.1 ∙ ap (λ l. fires_with id (f ∷ []) ++ by l) kept),
      (runs.job, b, runs.ends.4.0),
    )

-- ---- an entry that may be removed

no_front : {A : Type 0} (l m : List A) → [] ≡ l ++ m → l ≡ []
no_front [] m e = refl
no_front (x ∷ l) m e = cc

module _ {T : Type 0} (ts : Tables T) (id : ℕ) (t : ℤ) (f : AgendaFire) (ds : List Deed) (old then new : List (Entry T))
    (is : IsTaken ts.has ts.zones old f then) (due : is_due t (own_of f) ≡ true) (one : IsOneAtMost id old) where
  abbrev by : List (Entry T) → List EntryFire
  by es = filter (is_by instant t) (left_with ts id es)

  abbrev Begins : List AgendaFire → List (Entry T) → Type 0
  Begins fs es = (rest : List EntryFire) × (by es ≡ fires_with id fs ++ rest)

  -- what was due before a fire was taken, and the job ran, where that left the entry or removed it
  on : (with_id id new ≡ with_id id then) ⊎ (with_id id new ≡ []) → (IsOneAtMost id new → Begins (taken ds) new) → Begins (f ∷ taken ds) old
  on (inl same) begins =
      let more = begins (subst (λ l. length l ≤ 1) (sym same) (entry_taken ts id f old then is one).1) in (
        more.0,
        taken_on id (f ∷ []) (taken ds) (by old) (by then) more.0 (one_due ts id t f old then is due one)
            (ap (λ l. filter (is_by instant t) (flat_map (left ts.has ts.zones) l)) (sym same) ∙ more.1),
      )
  on (inr gone) begins =
      let more = begins (subst (λ l. length l ≤ 1) (sym gone) (omega arith)) in
      let none = no_front (fires_with id (taken ds)) more.0
      (sym (ap (λ l. filter (is_by instant t) (flat_map (left ts.has ts.zones) l)) gone) ∙ more.1) in (
        by then,
        taken_on id (f ∷ []) (taken ds) (by old) (by then) (by then) (one_due ts id t f old then is due one) (ap (λ l. l ++ by then) (sym none)),
      )

pub removal_cuts_that : {T J F : Type 0} (ts : Tables T) (js : JobCalls T J F) (id : ℕ) → RemovalCutsThat ts js id
removal_cuts_that ts js id t [] a j a' j' may given one done = (filter (is_by instant t) (left_with ts id a.entries), refl)
removal_cuts_that ts js id t (Ran f ∷ ds) a j a' j' may given one done =
    let then = done.2.0 in
    let leaves = may j f then (Ok tt) done.1 done.0 (subst (λ n. id < n) (sym done.2.1.takes.0.1) given) done.2.2 in
    on ts id t f ds a.entries then.entries done.0.entries done.2.1.takes.0.0 done.2.1.takes.1 one leaves.0
    (λ still. removal_cuts_that ts js id t ds done.0 done.1 a' j' may leaves.1 still done.3)
removal_cuts_that ts js id t (Passed f ∷ ds) a j a' j' may given one done =
    let then = done.0 in
    on ts id t f ds a.entries then.entries then.entries done.2.0.takes.0.0 done.2.0.takes.1 one (inl refl)
    (λ still. removal_cuts_that ts js id t ds then done.1 a' j' may (subst (λ n. id < n) (sym done.2.0.takes.0.1) given) still done.3)

-- ---- turns

pub entry_turns_are_its_fires : {T C J E F : Type 0} (ts : Tables T) (cs : ClockCalls C E) (js : JobCalls T J F) (id : ℕ) → EntryTurnsAreItsFires ts cs js id
entry_turns_are_its_fires ts cs js id [] most left c a j c' a' j' one none = ap (λ (x : Listed _). left_with ts id x.entries) (sym none.2)
entry_turns_are_its_fires ts cs js id (ds ∷ dss) most left c a j c' a' j' one turns =
    let done = turn_is_done ts cs (keeping id js) most turns.1 ds c a j turns.2 turns.3 turns.4 turns.5 in
    let here = entry_deeds ts js id done.0 ds a j turns.3 turns.4 one done.1 in
    taken_on id (taken ds) (all_taken dss) (left_with ts id a.entries) (left_with ts id turns.3.entries) (left_with ts id a'.entries) here.0
    (entry_turns_are_its_fires ts cs js id dss turns.1 left turns.2 turns.3 turns.4 c' a' j' here.1 turns.6)

-- ---- the times that the clock showed

pass_both : {A : Type 0} (p : A → Bool) (l m : List A) → AllPass p l → AllPass p m → AllPass p (l ++ m)
pass_both p [] m all more = more
pass_both p (x ∷ l) m all more = (all.0, pass_both p l m all.1 more)

-- what is due by the first of some times, and by another of them
due_first : (now : Timestamp) (times : List Timestamp) (l : List EntryFire) → AllPass (is_by instant now.nanosecond) l → AllPass (due.is_due instant (now ∷ times)) l
due_first now times [] all = tt
due_first now times (f ∷ l) all = (ap (λ b. b || due.is_due instant times f) all.0, due_first now times l all.1)

either-true : (a b : Bool) → b ≡ true → (a || b) ≡ true
either-true true b is = refl
either-true false b is = is

due_later : (now : Timestamp) (times : List Timestamp) (l : List EntryFire) → AllPass (due.is_due instant times) l → AllPass (due.is_due instant (now ∷ times)) l
due_later now times [] all = tt
due_later now times (f ∷ l) all =
    (either-true (is_by instant now.nanosecond f) (due.is_due instant times f) all.0, due_later now times l all.1)

-- where nothing is due by the first, what is due is due by another
none_first : (now : Timestamp) (times : List Timestamp) (l : List EntryFire) → NonePass (is_by instant now.nanosecond) l
    → filter (due.is_due instant (now ∷ times)) l ≡ filter (due.is_due instant times) l
none_first now times [] none = refl
none_first now times (f ∷ l) none =
    ap (λ b. cond (b || due.is_due instant times f) (f ∷ filter (due.is_due instant (now ∷ times)) l) (filter (due.is_due instant (now ∷ times)) l)) none.0
    ∙ ap (λ m. cond (due.is_due instant times f) (f ∷ m) m) (none_first now times l none.1)

no_times : (l : List EntryFire) → filter (due.is_due instant []) l ≡ []
no_times [] = refl
no_times (f ∷ l) = no_times l

module _ {T C J E F : Type 0} (ts : Tables T) (cs : ClockCalls C E) (js : JobCalls T J F) (id : ℕ) where
  abbrev ks : JobCalls T J F
  ks = keeping id js

  abbrev Are : List (List Deed) → ℕ → C → Listed T → J → ℕ → C → Listed T → J → Type 0
  Are dss most c a j left c' a' j' = AreTurns ts cs ks dss most c a j left c' a' j'

  all_shown : (dss : List (List Deed)) (most left : ℕ) (c : C) (a : Listed T) (j : J) (c' : C) (a' : Listed T) (j' : J)
      → (are : Are dss most c a j left c' a' j') → AllPass (due.is_due instant (shown_in ts cs ks dss most c a j left c' a' j' are)) (fires_with id (all_taken dss))
  all_shown [] most left c a j c' a' j' are = tt
  all_shown (ds ∷ dss) most left c a j c' a' j' are =
      let shown = turn_shown ts cs ks most are.1 ds c a j are.2 are.3 are.4 are.5 in
      let times = shown_in ts cs ks dss are.1 are.2 are.3 are.4 left c' a' j' are.6 in
      let done = due_is_done ts ks shown.0.nanosecond most are.1 ds a j are.3 are.4 shown.2 in
      subst (λ (s : List Timestamp). AllPass (due.is_due instant (s ++ times)) (fires_with id (taken ds ++ all_taken dss))) (sym shown.1)
      (subst (AllPass (due.is_due instant (shown.0 ∷ times))) (sym (fires-append id (taken ds) (all_taken dss)))
      (pass_both (due.is_due instant (shown.0 ∷ times)) (fires_with id (taken ds)) (fires_with id (all_taken dss))
      (due_first shown.0 times (fires_with id (taken ds)) (own_due id shown.0.nanosecond (taken ds) (all_due ts ks shown.0.nanosecond ds a j are.3 are.4 done)))
      (due_later shown.0 times (fires_with id (all_taken dss)) (all_shown dss are.1 left are.2 are.3 are.4 c' a' j' are.6))))

  pub entry_turns_begin_that : EntryTurnsBeginThat ts cs js id
  entry_turns_begin_that dss most left c a j c' a' j' one are times is =
      filter_begins (due.is_due instant times) (left_with ts id a.entries) (fires_with id (all_taken dss)) (left_with ts id a'.entries)
      (entry_turns_are_its_fires ts cs js id dss most left c a j c' a' j' one are)
      (subst (λ (s : List Timestamp). AllPass (due.is_due instant s) (fires_with id (all_taken dss))) (sym is) (all_shown dss most left c a j c' a' j' are))

  -- behind a turn with runs left nothing is due by its time
  none_due : (t : ℤ) (most left : ℕ) (ds : List Deed) (a : Listed T) (j : J) (b : Listed T) (k : J) → Ascend (left_with ts id b.entries)
      → RunsDue {E = E} ts ks t most ds a j (Ok left) b k → 0 < left → length ds < 2 ^ 64 - 1 → NonePass (is_by instant t) (left_with ts id b.entries)
  none_due t most left ds a j b k up runs some fewer =
      let none = ended ts.has ts.zones t left (length ds) runs.agenda b some fewer runs.ends.2 in
      let same = ends_as_it_was _ _ runs.agenda b runs.ends.2 in
      none_of_left ts t (with_id id b.entries) (filter-less (entries.is_by t) (λ (e : Entry _). e.id == id) b.entries
      (subst (λ (x : Listed T). filter (entries.is_by t) x.entries ≡ []) (sym same) none)) up

  pub entry_turns_are_all_due : EntryTurnsAreAllDue ts cs js id
  entry_turns_are_all_due [] most left c a j c' a' j' one up are some fewer = sym (no_times (left_with ts id a.entries))
  entry_turns_are_all_due (ds ∷ dss) most left c a j c' a' j' one up are some fewer =
      let shown = turn_shown ts cs ks most are.1 ds c a j are.2 are.3 are.4 are.5 in
      let now = shown.0 in
      let times = shown_in ts cs ks dss are.1 are.2 are.3 are.4 left c' a' j' are.6 in
      let done = due_is_done ts ks now.nanosecond most are.1 ds a j are.3 are.4 shown.2 in
      let here = entry_deeds ts js id now.nanosecond ds a j are.3 are.4 one done in
      let up_then = ascend-behind (fires_with id (taken ds)) (left_with ts id are.3.entries) (subst Ascend here.0 up) in
      let none = none_due now.nanosecond most are.1 ds a j are.3 are.4 up_then shown.2
      (some_left ts cs ks dss are.1 left are.2 are.3 are.4 c' a' j' are.6 some) fewer.0 in
      let rest = entry_turns_are_all_due dss are.1 left are.2 are.3 are.4 c' a' j' here.1 up_then are.6 some fewer.1 in
      fires-append id (taken ds) (all_taken dss)
      ∙ ap (λ l. fires_with id (taken ds) ++ l) (rest ∙ sym (none_first now times (left_with ts id are.3.entries) none))
      ∙ sym (filter_begins (due.is_due instant (now ∷ times)) (left_with ts id a.entries) (fires_with id (taken ds)) (left_with ts id are.3.entries) here.0
      (due_first now times (fires_with id (taken ds)) (own_due id now.nanosecond (taken ds) (all_due ts ks now.nanosecond ds a j are.3 are.4 done))))
      ∙ ap (λ (s : List Timestamp). filter (due.is_due instant (s ++ times)) (left_with ts id a.entries)) (sym shown.1)
