-- Deeds one after another, and turns.
use Rattle.std.proofs.Common.{◌≡◌, ℕ, ◌+◌, ◌-◌, ◌<◌, ℤ, Bool, Some, None, List, [], ◌∷◌, ◌++◌, refl, subst, inl, inr, sym, ◌⊎◌, arith}
use Rattle.std.specs.Prelude.{Option, Result, Ok, Err, ⊤, ◌*ℤ◌, pos, length}
use Rattle.jiff_core.specs.declared.Timestamp.{Timestamp}
use Rattle.cron_agenda.specs.declared.entry.Entry.{Entry}
use Rattle.cron_agenda.specs.Entries.{ComesFirst, Listed}
use Rattle.cron_agenda.specs.Fires.{instant}
use Rattle.cron_scheduler.specs.Runs.{ClockCalls, Wakes}
use Rattle.cron_agenda_scheduler.specs.declared.stop.AgendaStop.{AgendaStop}
use Rattle.cron_agenda_scheduler.specs.declared.picks.Pick.{Pick}
use Rattle.cron_agenda_scheduler.specs.Inner.Picks.{Picks}
use Rattle.cron_agenda_scheduler.specs.Late.{IsPicked, Tables}
use Rattle.cron_agenda_scheduler.specs.Turns.{AreDone, AreTurns, Deed, EndsRun, HadRuns, IsDone, JobCalls, Looks, Passed, Ran, RunsDue, RunsLoop, Turn, Turns, all_runs, runs_in, shown_at, shown_by}

pub done_on : {T J F : Type 0} (ts : Tables T) (js : JobCalls T J F) (t : ℤ) (ds : List Deed) (a : Listed T) (j : J) (b : Listed T) (k : J) (d : Deed)
    (c : Listed T) (m : J) → AreDone ts js t ds a j b k → IsDone ts js t d b k c m → AreDone ts js t (ds ++ d ∷ []) a j c m
done_on ts js t [] a j b k d c m was is =
    (c, m, subst (λ x. IsDone ts js t d x j c m) was.0 (subst (λ y. IsDone ts js t d b y c m) was.1 is), (refl, refl))
done_on ts js t (e ∷ ds) a j b k d c m was is = (was.0, was.1, was.2, done_on ts js t ds was.0 was.1 b k d c m was.3 is)

pub runs_more : (ds : List Deed) (d : Deed) → runs_in (ds ++ d ∷ []) ≡ runs_in ds + runs_in (d ∷ [])
runs_more [] d = omega arith
runs_more (Ran f ∷ ds) d = let rest = runs_more ds d in omega arith
runs_more (Passed f ∷ ds) d = runs_more ds d

pub runs_on : (most left : ℕ) (ds : List Deed) (d : Deed) → runs_in ds + left ≡ most → 0 < left → HadRuns most ds → HadRuns most (ds ++ d ∷ [])
runs_on most left [] (Ran f) count some had = (omega arith, tt)
runs_on most left [] (Passed f) count some had = (omega arith, tt)
runs_on most left (Ran g ∷ ds) d count some had = (had.0, runs_on (most - 1) left ds d (omega arith) some had.1)
runs_on most left (Passed g ∷ ds) d count some had = (had.0, runs_on most left ds d count some had.1)

-- a turn of an agenda that has entries
pub turned : {T C J E F : Type 0} {ts : Tables T} {cs : ClockCalls C E} {js : JobCalls T J F} {most : ℕ} {ds : List Deed} {c : C} {a : Listed T} {j : J}
    {answer : Result (Option ℕ) (AgendaStop E F)} {c' : C} {a' : Listed T} {j' : J} {entry : Entry T} → ComesFirst a.entries entry
    → (until : Timestamp) → until.nanosecond ≡ instant entry.fire *ℤ pos 1_000_000_000
    → (look : Result Timestamp E) → Wakes cs.shows cs.waits until c look c' → Looks ts js most ds look a j answer a' j'
    → Turn ts cs js most ds c a j answer c' a' j'
turned {entry = entry} first until is look wakes looks =
    record { entry = entry; first = first; until = until; is = is; look = look; wakes = wakes; looks = looks }

pub turns_on : {T C J E F : Type 0} (ts : Tables T) (cs : ClockCalls C E) (js : JobCalls T J F) (dss : List (List Deed)) (most : ℕ) (c : C) (a : Listed T) (j : J)
    (rest : ℕ) (d : C) (b : Listed T) (k : J) (ds : List Deed) (left : ℕ) (c' : C) (a' : Listed T) (j' : J) → AreTurns ts cs js dss most c a j rest d b k
    → 0 < rest → Turns ts cs js rest ds d b k (Ok (Some left)) c' a' j' → AreTurns ts cs js (dss ++ ds ∷ []) most c a j left c' a' j'
turns_on ts cs js [] most c a j rest d b k ds left c' a' j' was some turn = (
  subst (λ n. 0 < n) was.0 some,
  left,
  c',
  a',
  j',
  subst (λ x. Turns ts cs js x ds c a j (Ok (Some left)) c' a' j') was.0
      (subst (λ x. Turns ts cs js rest ds x a j (Ok (Some left)) c' a' j') was.1
      (subst (λ x. Turns ts cs js rest ds d x j (Ok (Some left)) c' a' j') was.2
      (subst (λ x. Turns ts cs js rest ds d b x (Ok (Some left)) c' a' j') was.3 turn))),
  (refl, refl, refl, refl),
)
turns_on ts cs js (here ∷ dss) most c a j rest d b k ds left c' a' j' was some turn =
    (was.0, was.1, was.2, was.3, was.4, was.5, turns_on ts cs js dss was.1 was.2 was.3 was.4 rest d b k ds left c' a' j' was.6 some turn)

-- how often the job was run in a turn
looked : {T J E F : Type 0} (ts : Tables T) (js : JobCalls T J F) (most : ℕ) (ds : List Deed) (look : Result Timestamp E) (a : Listed T) (j : J) (left : ℕ)
    (a' : Listed T) (j' : J) → Looks {E = E} ts js most ds look a j (Ok (Some left)) a' j' → runs_in ds + left ≡ most
looked ts js most ds (Ok now) a j left a' j' looks = looks.ends.0
looked ts js most ds (Err e) a j left a' j' looks = let no = looks.0 in absurd (cc)

pub counted : {T C J E F : Type 0} (ts : Tables T) (cs : ClockCalls C E) (js : JobCalls T J F) (most : ℕ) (ds : List Deed) (c : C) (a : Listed T) (j : J) (left : ℕ)
    (c' : C) (a' : Listed T) (j' : J) → Turns ts cs js most ds c a j (Ok (Some left)) c' a' j' → runs_in ds + left ≡ most
counted ts cs js most ds c a j left c' a' j' (inl none) = let no = none.0 in absurd (cc)
counted ts cs js most ds c a j left c' a' j' (inr turn) = looked ts js most ds turn.look a j left a' j' turn.looks

pub all_more : (dss : List (List Deed)) (ds : List Deed) → all_runs (dss ++ ds ∷ []) ≡ all_runs dss + runs_in ds
all_more [] ds = omega arith
all_more (here ∷ dss) ds = let rest = all_more dss ds in omega arith

-- a turn of an agenda without entries
no_look : {T J E F : Type 0} (ts : Tables T) (js : JobCalls T J F) (most : ℕ) (ds : List Deed) (look : Result Timestamp E) (a : Listed T) (j : J)
    (a' : Listed T) (j' : J) → Looks {E = E} ts js most ds look a j (Ok None) a' j' → ⊥
no_look ts js most ds (Ok now) a j a' j' looks = looks
no_look ts js most ds (Err e) a j a' j' looks = let no = looks.0 in cc

pub none_turned : {T C J E F : Type 0} (ts : Tables T) (cs : ClockCalls C E) (js : JobCalls T J F) (most : ℕ) (ds : List Deed) (c : C) (a : Listed T) (j : J)
    (c' : C) (a' : Listed T) (j' : J) → Turns ts cs js most ds c a j (Ok None) c' a' j' → (a.entries ≡ []) × (c' ≡ c) × (a' ≡ a) × (j' ≡ j)
none_turned ts cs js most ds c a j c' a' j' (inl none) = (none.2, none.3, none.4, none.5)
none_turned ts cs js most ds c a j c' a' j' (inr turn) = absurd (no_look ts js most ds turn.look a j a' j' turn.looks)

-- a run of the loop that ends behind these turns
pub loop_ends : {T C J E F : Type 0} {ts : Tables T} {cs : ClockCalls C E} {js : JobCalls T J F} {most : ℕ} {c c' : C} {a a' : Listed T} {j j' : J}
    {answer : Result ⊤ (AgendaStop E F)} → (deeds : List (List Deed)) (left : ℕ) (d : C) (b : Listed T) (k : J)
    → AreTurns ts cs js deeds most c a j left d b k → all_runs deeds + left ≡ most → EndsRun ts cs js (length deeds) left d b k answer c' a' j' → RunsLoop ts cs js most c a j answer c' a' j'
loop_ends deeds left d b k turns count ends =
    record { deeds = deeds; left = left; clock = d; agenda = b; job = k; are_turns = turns; counted = count; ends = ends }

-- what is picked, with what it is found to be
pub picked_as : {T : Type 0} (ts : Tables T) (t : ℤ) (a : Listed T) (o : Option Pick) (pick : Pick) (b : Listed T) (run : Bool) → o ≡ Some pick
    → pick.is_run ≡ run → Picks ts t a (Ok o) b → IsPicked ts t a pick.due run b
picked_as ts t a o pick b run is told picks =
    subst (λ (r : Bool). IsPicked ts t a pick.due r b) told (subst (λ (q : Option Pick). Picks ts t a (Ok q) b) is picks)

-- ---- the deeds of a turn

pub ends_as_it_was : {T : Type 0} (P Q : Type 0) (a b : Listed T) → (P × (b ≡ a)) ⊎ ((b ≡ a) × Q) → b ≡ a
ends_as_it_was P Q a b (inl none) = none.1
ends_as_it_was P Q a b (inr ended) = ended.0

pub due_is_done : {T J E F : Type 0} (ts : Tables T) (js : JobCalls T J F) (t : ℤ) (most left : ℕ) (ds : List Deed) (a : Listed T) (j : J) (b : Listed T) (k : J)
    → RunsDue {E = E} ts js t most ds a j (Ok left) b k → AreDone ts js t ds a j b k
due_is_done ts js t most left ds a j b k runs =
    subst (λ x. AreDone ts js t ds a j x k) (sym (ends_as_it_was _ _ runs.agenda b runs.ends.2))
    (subst (λ y. AreDone ts js t ds a j runs.agenda y) (sym runs.ends.1) runs.are_done)

look_shown : {T J E F : Type 0} (ts : Tables T) (js : JobCalls T J F) (most left : ℕ) (ds : List Deed) (look : Result Timestamp E) (a : Listed T) (j : J)
    (b : Listed T) (k : J) → Looks ts js most ds look a j (Ok (Some left)) b k
    → (now : Timestamp) × (shown_by look ≡ now ∷ []) × RunsDue {E = E} ts js now.nanosecond most ds a j (Ok left) b k
look_shown ts js most left ds (Ok now) a j b k runs = (now, refl, runs)
look_shown ts js most left ds (Err e) a j b k failed = absurd (let no = failed.0 in cc)

-- a turn that goes well did what was due by the time that its look showed
pub turn_shown : {T C J E F : Type 0} (ts : Tables T) (cs : ClockCalls C E) (js : JobCalls T J F) (most left : ℕ) (ds : List Deed) (c : C) (a : Listed T) (j : J)
    (d : C) (b : Listed T) (k : J) (turn : Turns ts cs js most ds c a j (Ok (Some left)) d b k)
    → (now : Timestamp) × (shown_at ts cs js most ds c a j (Ok (Some left)) d b k turn ≡ now ∷ [])
    × RunsDue {E = E} ts js now.nanosecond most ds a j (Ok left) b k
turn_shown ts cs js most left ds c a j d b k (inl none) = absurd (let no = none.0 in cc)
turn_shown ts cs js most left ds c a j d b k (inr turn) = look_shown ts js most left ds turn.look a j b k turn.looks

-- so its deeds were done by that time
pub turn_is_done : {T C J E F : Type 0} (ts : Tables T) (cs : ClockCalls C E) (js : JobCalls T J F) (most left : ℕ) (ds : List Deed) (c : C) (a : Listed T) (j : J)
    (d : C) (b : Listed T) (k : J) → Turns ts cs js most ds c a j (Ok (Some left)) d b k → (t : ℤ) × AreDone ts js t ds a j b k
turn_is_done ts cs js most left ds c a j d b k turn =
    let looked = turn_shown ts cs js most left ds c a j d b k turn in
    (looked.0.nanosecond, due_is_done ts js looked.0.nanosecond most left ds a j b k looked.2)

-- where runs are left behind turns, some were left before them
pub some_left : {T C J E F : Type 0} (ts : Tables T) (cs : ClockCalls C E) (js : JobCalls T J F) (dss : List (List Deed)) (most left : ℕ) (c : C) (a : Listed T)
    (j : J) (c' : C) (a' : Listed T) (j' : J) → AreTurns ts cs js dss most c a j left c' a' j' → 0 < left → 0 < most
some_left ts cs js [] most left c a j c' a' j' none some = subst (λ n. 0 < n) none.0 some
some_left ts cs js (ds ∷ dss) most left c a j c' a' j' turns some = turns.0
