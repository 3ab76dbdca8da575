-- What the deeds of a look are of all fires that entries have.
use Rattle.std.proofs.Common.{◌≡◌, ℕ, ◌<◌, ◌-◌, ◌^◌, ℤ, pos, ◌*ℤ◌, ◌≤ℤ◌, ◌⊎◌, Bool, true, false, cond, List, [], ◌∷◌, ◌++◌, map, length, inl, inr, refl, sym, ap, subst, arith}
use Rattle.std.specs.Prelude.{Ok, None, int_le, filter, slice_get}
use Rattle.std.proofs.lemmas.Int.{ints}
use Rattle.jiff_core.proofs.SignedLemmas.{signed_arith}
use Rattle.cron_instants.specs.Order.{comes_before}
use Rattle.cron_instants.proofs.OrderLemmas.{before-true}
use Rattle.jiff_tz.specs.declared.timezone.TimeZone.{TimeZone}
use Rattle.cron_time.specs.Seconds.{Seconds}
use Rattle.cron_agenda.specs.declared.entry.Entry.{Entry}
use Rattle.cron_agenda.specs.declared.fire.EntryFire.{EntryFire}
use Rattle.cron_agenda.specs.Entries.{IsTaken, Listed, TakesDue, is_by}
use Rattle.cron_agenda.specs.Fires.{civil_second, instant}
use Rattle.cron_agenda.specs.Merged.{AllAscend, IsEarlierThan, OwnFire, all_of, in_order, left, merged, own_of, owned, precedes, put, rest_in}
use Rattle.cron_agenda.proofs.RestLemmas.{taken_are_the_front}
use Rattle.cron_seconds.specs.Rules as rules
use Rattle.cron_scheduler.specs.Passing.{AllPass, NonePass}
use Rattle.cron_scheduler.proofs.DueLemmas.{filter_front}
use Rattle.cron_agenda_scheduler.specs.Late.{Tables}
use Rattle.cron_agenda_scheduler.specs.Laws.{DeedsAreAllDue, DeedsAreTaken, is_due}
use Rattle.cron_agenda_scheduler.specs.Turns.{AreDone, Deed, JobCalls, Passed, Ran, taken}

pub deeds_are_taken : {T J F : Type 0} (ts : Tables T) (js : JobCalls T J F) → DeedsAreTaken ts js
deeds_are_taken ts js t [] a j a' j' leaves done = ap (λ (x : Listed _). x.entries) done.0
deeds_are_taken ts js t (Ran f ∷ ds) a j a' j' leaves done =
    let same = leaves j f done.2.0 (Ok tt) done.1 done.0 done.2.2 in (
      done.0.entries,
      subst (λ (x : Listed _). IsTaken ts.has ts.zones a.entries f x.entries) (sym same) done.2.1.takes.0.0,
      deeds_are_taken ts js t ds done.0 done.1 a' j' leaves done.3,
    )
deeds_are_taken ts js t (Passed f ∷ ds) a j a' j' leaves done =
    (done.0.entries, done.2.0.takes.0.0, deeds_are_taken ts js t ds done.0 done.1 a' j' leaves done.3)

-- ---- each is due

pub all_due : {T J F : Type 0} (ts : Tables T) (js : JobCalls T J F) (t : ℤ) (ds : List Deed) (a : Listed T) (j : J) (a' : Listed T) (j' : J)
    → AreDone ts js t ds a j a' j' → AllPass (is_due t) (map own_of (taken ds))
all_due ts js t [] a j a' j' done = tt
all_due ts js t (Ran f ∷ ds) a j a' j' done = (done.2.1.takes.1, all_due ts js t ds done.0 done.1 a' j' done.3)
all_due ts js t (Passed f ∷ ds) a j a' j' done = (done.2.0.takes.1, all_due ts js t ds done.0 done.1 a' j' done.3)

-- ---- and nothing that is left

none_put-by : (p : OwnFire → Bool) (d x : OwnFire) (l : List OwnFire) (b : Bool) → precedes d x ≡ b → NonePass p (d ∷ x ∷ l) → NonePass p (put d l)
    → NonePass p (put d (x ∷ l))
unfolding put
none_put-by p d x l true is none below = rw is none
none_put-by p d x l false is none below = rw is (none.1.0, below)

none_put : (p : OwnFire → Bool) (d : OwnFire) (l : List OwnFire) → NonePass p (d ∷ l) → NonePass p (put d l)
unfolding put
none_put p d [] none = none
none_put p d (x ∷ l) none = none_put-by p d x l (precedes d x) refl none (none_put p d l (none.0, none.1.1))

none_in_order : (p : OwnFire → Bool) (l : List OwnFire) → NonePass p l → NonePass p (in_order l)
unfolding in_order
none_in_order p [] none = tt
none_in_order p (d ∷ l) none = none_put p d (in_order l) (none.0, none_in_order p l none.1)

none_both : {A : Type 0} (p : A → Bool) (l m : List A) → NonePass p l → NonePass p m → NonePass p (l ++ m)
none_both p [] m none more = more
none_both p (x ∷ l) m none more = (none.0, none_both p l m none.1 more)

not_later : (i : ℤ) (c : ℕ) (j : ℤ) (d : ℕ) → comes_before i c j d ≡ true → i ≤ℤ j
not_later i c j d before = elim (before-true i c j d before) [
  | inl less ↦ omega (arith, signed_arith)
  | inr same ↦ let equal = same.0 in omega (arith, signed_arith)
]

late_too : (i j t : ℤ) → i ≤ℤ j → int_le (i *ℤ pos 1_000_000_000) t ≡ false → int_le (j *ℤ pos 1_000_000_000) t ≡ false
late_too i j t le late = grind (arith, ints)

-- past a fire that isn't due none is
pub none_later : (t : ℤ) (f : EntryFire) (l : List EntryFire) → IsEarlierThan f l → rules.is_by instant t f ≡ false → NonePass (rules.is_by instant t) l
none_later t f [] up late = tt
none_later t f (q ∷ l) up late =
    (late_too (instant f) (instant q) t (not_later (instant f) (civil_second f) (instant q) (civil_second q) up.0) late, none_later t f l up.1 late)

none_owned : (t : ℤ) (id : ℕ) (l : List EntryFire) → NonePass (rules.is_by instant t) l → NonePass (is_due t) (owned id l)
none_owned t id [] none = tt
none_owned t id (f ∷ l) none = (none.0, none_owned t id l none.1)

pub not_first : {A : Type 0} (p : A → Bool) (x : A) (l : List A) (b : Bool) → p x ≡ b → cond b (x ∷ filter p l) (filter p l) ≡ [] → (b ≡ false) × (filter p l ≡ [])
not_first p x l true is none = cc
not_first p x l false is none = (refl, none)

none_left : {T : Type 0} (has : T → Seconds) (zones : List TimeZone) (t : ℤ) (es : List (Entry T)) → filter (is_by t) es ≡ [] → AllAscend has zones es
    → NonePass (is_due t) (all_of has zones es)
none_left has zones t [] none up = tt
none_left has zones t (e ∷ es) none up =
    let parts = not_first (is_by t) e es (is_by t e) refl none in
    none_both (is_due t) (owned e.id (left has zones e)) (all_of has zones es)
    (parts.0, none_owned t e.id (rest_in (has e.table) (slice_get zones e.zone) e.fire) (none_later t e.fire _ up.0.0 parts.0)) (none_left has zones t es parts.1 up.1)

pub ended : {T : Type 0} (has : T → Seconds) (zones : List TimeZone) (t : ℤ) (left length : ℕ) (a a' : Listed T) → 0 < left → length < 2 ^ 64 - 1
    → TakesDue has zones t a (Ok None) a' ⊎ ((a' ≡ a) × ((left ≡ 0) ⊎ (length ≡ 2 ^ 64 - 1))) → filter (is_by t) a.entries ≡ []
ended has zones t left length a a' some fewer (inl due) = due.0
ended has zones t left length a a' some fewer (inr (same, inl none)) = absurd (omega arith)
ended has zones t left length a a' some fewer (inr (same, inr all)) = absurd (omega arith)

pub deeds_are_all_due : {T J F E : Type 0} (ts : Tables T) (js : JobCalls T J F) → DeedsAreAllDue ts js E
deeds_are_all_due ts js t most left ds a j a' j' leaves up runs some fewer =
    let front = taken_are_the_front ts.has ts.zones (taken ds) a.entries runs.agenda.entries up
    (deeds_are_taken ts js t ds a j runs.agenda runs.job leaves runs.are_done) in
    let none = ended ts.has ts.zones t left (length ds) runs.agenda a' some fewer runs.ends.2 in
    filter_front (is_due t) (merged ts.has ts.zones a.entries) (map own_of (taken ds)) (merged ts.has ts.zones runs.agenda.entries) front.0
    (all_due ts js t ds a j runs.agenda runs.job runs.are_done)
    (none_in_order (is_due t) (all_of ts.has ts.zones runs.agenda.entries) (none_left ts.has ts.zones t runs.agenda.entries none front.1))
