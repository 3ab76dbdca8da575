-- What a look does to an agenda of one entry whose fires are each run.
use Rattle.std.proofs.Common.{◌≡◌, ◌⊎◌, ℕ, zero, suc, ◌+◌, ◌-◌, ◌<◌, ◌^◌, ℤ, Bool, true, false, Option, Some, None, List, [], ◌∷◌, ◌++◌, take, length, inl, inr, refl, sym, ap, subst, ◌∙◌, arith}
use Rattle.std.specs.Prelude.{Ok, Err, filter, slice_get}
use Rattle.std.proofs.Math.Seq.{take-append-add}
use Rattle.std.proofs.lemmas.List.{append-nil}
use Rattle.jiff_tz.specs.declared.timezone.TimeZone.{TimeZone}
use Rattle.cron_seconds.specs.Rules as rules_of
use Rattle.cron_agenda.specs.declared.entry.Entry.{Entry}
use Rattle.cron_agenda.specs.declared.error.ZoneMissing.{ZoneMissing}
use Rattle.cron_agenda.specs.declared.fire.AgendaFire.{AgendaFire}
use Rattle.cron_agenda.specs.declared.fire.EntryFire.{EntryFire}
use Rattle.cron_agenda.specs.Entries.{ComesFirst, IsTaken, LacksZone, Listed, TakesDue, entry, gone_on, is_by}
use Rattle.cron_agenda.specs.Fires.{fires_past, instant}
use Rattle.cron_agenda.specs.Merged.{Ascend, left, own, rest_in}
use Rattle.cron_scheduler.specs.Passing.{AllPass, NonePass, RanFor}
use Rattle.cron_scheduler.specs.Passing as passing
use Rattle.cron_agenda_scheduler.specs.declared.lateness.Lateness.TheVariants.{Each}
use Rattle.cron_agenda_scheduler.specs.declared.stop.AgendaStop.TheVariants.{Job}
use Rattle.cron_agenda_scheduler.specs.Late.{IsPicked, Tables, is_run}
use Rattle.cron_agenda_scheduler.specs.Laws.{LeavesAgenda}
use Rattle.cron_agenda_scheduler.specs.PlanLaws.{runs_of}
use Rattle.cron_agenda_scheduler.specs.Turns.{AreDone, Deed, JobCalls, Passed, Ran, RunsDue, runs_in}
use Rattle.cron_agenda_scheduler.proofs.LawLemmas.{none_later, not_first}
use Rattle.cron_agenda_scheduler.proofs.TurnLemmas.{ends_as_it_was}

-- ---- lists of fires

none_front : {A : Type 0} (p : A → Bool) (n : ℕ) (l : List A) → NonePass p l → NonePass p (take n l)
none_front p zero l none = tt
none_front p (suc n) [] none = tt
none_front p (suc n) (x ∷ l) none = (none.0, none_front p n l none.1)

-- a front of a list that is cut
front : {A : Type 0} (fires rs rest : List A) (n most : ℕ) → fires ≡ rs ++ rest → length rs + n ≡ most → take most fires ≡ rs ++ take n rest
front fires rs rest n most split count = ap (λ m. take m fires) (sym count) ∙ ap (take (length rs + n)) split ∙ take-append-add rs rest n

one_more : {A : Type 0} (r : A) (fires behind rs rest : List A) → fires ≡ r ∷ behind → behind ≡ rs ++ rest → fires ≡ (r ∷ rs) ++ rest
one_more r fires behind rs rest is split = is ∙ ap (λ l. r ∷ l) split

pub first_cut : {A : Type 0} (fires l : List A) (r : A) (most : ℕ) → 0 < most → fires ≡ r ∷ l → (rest : List A) × (take most fires ≡ r ∷ rest)
first_cut fires l r zero some is = absurd (omega arith)
first_cut fires l r (suc n) some is = (take n l, ap (take (suc n)) is)

ascend_behind : (rs rest : List EntryFire) → Ascend (rs ++ rest) → Ascend rest
ascend_behind [] rest up = up
ascend_behind (r ∷ rs) rest up = ascend_behind rs rest up.1

alone_parts : {A : Type 0} (x y : A) (before after : List A) → y ∷ [] ≡ before ++ x ∷ after → (before ≡ []) × (y ≡ x) × (after ≡ [])
alone_parts x y [] after h = let one : y ≡ x = cc in let none : after ≡ [] = cc in (refl, one, none)
alone_parts x y (b ∷ []) after h = absurd (cc)
alone_parts x y (b ∷ d ∷ before) after h = absurd (cc)

none_has_parts : {A : Type 0} (x : A) (before after : List A) → [] ≡ before ++ x ∷ after → ⊥
none_has_parts x [] after h = cc
none_has_parts x (b ∷ before) after h = cc

-- ---- the entry alone, and what it goes on to

module _ {T : Type 0} (ts : Tables T) (e : Entry T) where
  -- an entry of the same id, table and zone, with these fires left
  abbrev pub IsLike : Entry T → List EntryFire → Type 0
  IsLike q fires = (q.id ≡ e.id) × (q.table ≡ e.table) × (q.zone ≡ e.zone) × (fires ≡ left ts.has ts.zones q)

  -- these entries are such a one, or none where no fire is left
  abbrev pub Alone : List (Entry T) → List EntryFire → Type 0
  Alone [] fires = fires ≡ []
  Alone (q ∷ []) fires = IsLike q fires
  Alone (q ∷ r ∷ es) fires = ⊥

  pub alone_first : (es : List (Entry T)) (fires : List EntryFire) (q : Entry T) → Alone es fires → (first : ComesFirst es q)
      → (first.before ≡ []) × (first.after ≡ []) × IsLike q fires
  alone_first [] fires q alone first = absurd (none_has_parts q first.before first.after first.is)
  alone_first (r ∷ []) fires q alone first =
      let parts = alone_parts q r first.before first.after first.is in
      (parts.0, parts.2, subst (λ v. IsLike v fires) parts.1 alone)
  alone_first (r ∷ s ∷ es) fires q alone first = absurd alone

  -- the entry goes on, or ends
  goes_on : (q : Entry T) (z : TimeZone) (fires : List EntryFire) (next : Option EntryFire) → IsLike q fires → slice_get ts.zones q.zone ≡ Some z
      → rules_of.IsFirstOf (fires_past (ts.has q.table) z q.fire) (fires_past (ts.has q.table) z) next
      → (rest : List EntryFire) × (fires ≡ q.fire ∷ rest) × Alone (gone_on q next) rest
  goes_on q z fires None like lent goes =
      ([], like.3 ∙ ap (λ o. q.fire ∷ rest_in (ts.has q.table) o q.fire) lent ∙ ap (λ l. q.fire ∷ l) goes, refl)
  goes_on q z fires (Some r) like lent goes = (
    left ts.has ts.zones (entry q.id q.table q.zone r),
    like.3 ∙ ap (λ o. q.fire ∷ rest_in (ts.has q.table) o q.fire) lent ∙ ap (λ l. q.fire ∷ l) goes
        ∙ ap (λ o. q.fire ∷ (r ∷ rest_in (ts.has q.table) o r)) (sym lent),
    (like.0, like.1, like.2, refl),
  )

  parts_gone : (before after gone : List (Entry T)) → before ≡ [] → after ≡ [] → before ++ (gone ++ after) ≡ gone
  parts_gone before after gone none nothing = ap (λ l. l ++ (gone ++ after)) none ∙ ap (λ l. gone ++ l) nothing ∙ append-nil gone

  taken_alone : (es new : List (Entry T)) (f : AgendaFire) (fires : List EntryFire) → Alone es fires → IsTaken ts.has ts.zones es f new
      → (rest : List EntryFire) × (fires ≡ f.fire ∷ rest) × (f.id ≡ e.id) × Alone new rest
  taken_alone es new f fires alone taken =
      let first = alone_first es fires taken.entry alone taken.first in
      let on = goes_on taken.entry taken.zone fires taken.next first.2 taken.lent taken.goes_on in (
        on.0,
        on.1 ∙ ap (λ (v : AgendaFire). v.fire ∷ on.0) (sym taken.is),
        ap (λ (v : AgendaFire). v.id) taken.is ∙ first.2.0,
        subst (λ l. Alone l on.0) (sym (taken.now ∙ parts_gone taken.first.before taken.first.after (gone_on taken.entry taken.next) first.0 first.1)) on.2,
      )

  none_due : (t : ℤ) (es : List (Entry T)) (fires : List EntryFire) → Alone es fires → Ascend fires → filter (is_by t) es ≡ []
      → NonePass (rules_of.is_by instant t) fires
  none_due t [] fires alone up none = subst (NonePass (rules_of.is_by instant t)) (sym alone) tt
  none_due t (q ∷ []) fires alone up none =
      let late = (not_first (is_by t) q [] (is_by t q) refl none).0 in
      let ascend = subst Ascend alone.3 up in
      let rest = rest_in (ts.has q.table) (slice_get ts.zones q.zone) q.fire in
      subst (NonePass (rules_of.is_by instant t)) (sym alone.3) (late, none_later t q.fire rest ascend.0 late)
  none_due t (q ∷ r ∷ es) fires alone up none = absurd alone

  -- each fire that is taken is run
  is_run_each : (t : ℤ) (a b : Listed T) (f : AgendaFire) (run : Bool) (fires : List EntryFire) → ts.lateness e.table ≡ Each → Alone a.entries fires
      → IsPicked ts t a f run b → run ≡ true
  is_run_each t a b f run fires each alone picked =
      let first = alone_first a.entries fires picked.entry alone picked.first in
      picked.told ∙ ap (λ l. is_run l t f b.entries) (ap ts.lateness first.2.1 ∙ each)

  -- its zone isn't missing
  pub zone_there : (z : TimeZone) (es : List (Entry T)) (fires : List EntryFire) (why : ZoneMissing) → slice_get ts.zones e.zone ≡ Some z → Alone es fires
      → LacksZone ts.zones es why → ⊥
  zone_there z es fires why lent alone lacks =
      let first = alone_first es fires lacks.entry alone lacks.first in
      let none : slice_get ts.zones e.zone ≡ None = ap (slice_get ts.zones) (sym first.2.2) ∙ lacks.missing in cc

-- ---- the deeds of a look

-- the job was run for these fires, which were due and stood first, and the others are left
pub record RanFront {T J F : Type 0} (ts : Tables T) (js : JobCalls T J F) (e : Entry T) (t : ℤ) (ds : List Deed) (fires : List EntryFire) (j : J)
    (a' : Listed T) (j' : J) : Type 0 where
  pub rs : List EntryFire
  pub rest : List EntryFire
  pub went : RanFor (runs_of js e.id) rs j j'
  pub split : fires ≡ rs ++ rest
  pub all : AllPass (rules_of.is_by instant t) rs
  pub count : length rs ≡ runs_in ds
  pub each_ran : length ds ≡ runs_in ds
  pub alone : Alone ts e a'.entries rest

pub deeds_alone : {T J F : Type 0} (ts : Tables T) (js : JobCalls T J F) (e : Entry T) (t : ℤ) (ds : List Deed) (fires : List EntryFire) (a : Listed T) (j : J)
    (a' : Listed T) (j' : J)
    → LeavesAgenda js → ts.lateness e.table ≡ Each → Alone ts e a.entries fires → AreDone ts js t ds a j a' j' → RanFront ts js e t ds fires j a' j'
deeds_alone ts js e t [] fires a j a' j' leaves each alone done = record {
  rs = [];
  rest = fires;
  went = done.1;
  split = refl;
  all = tt;
  count = refl;
  each_ran = refl;
  alone = subst (λ (x : Listed _). Alone ts e x.entries fires) (sym done.0) alone;
}
deeds_alone ts js e t (Ran f ∷ ds) fires a j a' j' leaves each alone done =
    let b = done.2.0 in
    let picked = done.2.1 in
    let ran = done.2.2 in
    let same = leaves j f b (Ok tt) done.1 done.0 ran in
    let taken = taken_alone ts e a.entries b.entries f fires alone picked.takes.0.0 in
    let more = deeds_alone ts js e t ds taken.0 done.0 done.1 a' j' leaves each
    (subst (λ (x : Listed _). Alone ts e x.entries taken.0) (sym same) taken.3) done.3 in
    let count = more.count in
    let each_ran = more.each_ran in
    record {
      rs = f.fire ∷ more.rs;
      rest = more.rest;
      went = (done.1, (f, b, ap (λ i. own i f.fire) taken.2, subst (λ x. js.runs j f b (Ok tt) done.1 x) same ran), more.went);
      split = one_more f.fire fires taken.0 more.rs more.rest taken.1 more.split;
      all = (picked.takes.1, more.all);
      count = omega arith;
      each_ran = omega arith;
      alone = more.alone;
    }
deeds_alone ts js e t (Passed f ∷ ds) fires a j a' j' leaves each alone done =
    let run = is_run_each ts e t a done.0 f false fires each alone done.2.0 in absurd (cc)

-- nothing of what is left is due, up to the number of runs that are left
none_left_due : {T : Type 0} (ts : Tables T) (e : Entry T) (t : ℤ) (most left : ℕ) (ds : List Deed) (rest : List EntryFire) (a a' : Listed T)
    → Alone ts e a.entries rest → Ascend rest
    → most < 2 ^ 64 → runs_in ds + left ≡ most → length ds ≡ runs_in ds
    → TakesDue ts.has ts.zones t a (Ok None) a' ⊎ ((a' ≡ a) × ((left ≡ 0) ⊎ (length ds ≡ 2 ^ 64 - 1))) → NonePass (rules_of.is_by instant t)
    (take left rest)
none_left_due ts e t most left ds rest a a' alone up fits count each_ran (inl due) =
    none_front (rules_of.is_by instant t) left rest (none_due ts e t a.entries rest alone up due.0)
none_left_due ts e t most left ds rest a a' alone up fits count each_ran (inr (same, inl none)) =
    subst (λ n. NonePass (rules_of.is_by instant t) (take n rest)) (sym none) tt
none_left_due ts e t most left ds rest a a' alone up fits count each_ran (inr (same, inr all)) =
    let none : left ≡ 0 = omega arith in subst (λ n. NonePass (rules_of.is_by instant t) (take n rest)) (sym none) tt

-- a look after which runs may be left
pub record RanDue {T J F : Type 0} (ts : Tables T) (js : JobCalls T J F) (e : Entry T) (t : ℤ) (most left : ℕ) (fires : List EntryFire) (j : J) (a' : Listed T)
    (j' : J) : Type 0 where
  pub rest : List EntryFire
  pub due : passing.RunsDue {F = F} instant (runs_of js e.id) t (take most fires, j) (Ok tt) (take left rest, j')
  pub alone : Alone ts e a'.entries rest
  pub up : Ascend rest
  pub fits : left < 2 ^ 64

pub due_alone : {T J E F : Type 0} (ts : Tables T) (js : JobCalls T J F) (e : Entry T) (t : ℤ) (most left : ℕ) (ds : List Deed) (fires : List EntryFire)
    (a : Listed T) (j : J)
    (a' : Listed T) (j' : J) → LeavesAgenda js → ts.lateness e.table ≡ Each → Alone ts e a.entries fires → Ascend fires → most < 2 ^ 64
    → RunsDue {E = E} ts js t most ds a j (Ok left) a' j' → RanDue ts js e t most left fires j a' j'
due_alone ts js e t most left ds fires a j a' j' leaves each alone up fits runs =
    let d = deeds_alone ts js e t ds fires a j runs.agenda runs.job leaves each alone runs.are_done in
    let count = d.count in
    let total = runs.ends.0 in
    let ascend = ascend_behind d.rs d.rest (subst Ascend d.split up) in
    record {
      rest = d.rest;
      due = (
        d.rs,
        subst (λ x. RanFor (runs_of js e.id) d.rs j x) (sym runs.ends.1) d.went,
        front fires d.rs d.rest left most d.split (omega arith),
        d.all,
        none_left_due ts e t most left ds d.rest runs.agenda a' d.alone ascend fits total d.each_ran runs.ends.2,
      );
      alone = subst (λ (x : Listed _). Alone ts e x.entries d.rest) (sym (ends_as_it_was _ _ runs.agenda a' runs.ends.2)) d.alone;
      up = ascend;
      fits = omega arith;
    }

-- a look after which the job failed
pub failed_alone : {T J E F : Type 0} (ts : Tables T) (js : JobCalls T J F) (e : Entry T) (t : ℤ) (most : ℕ) (ds : List Deed) (fires : List EntryFire)
    (a : Listed T) (j : J)
    (why : F) (a' : Listed T) (j' : J) → LeavesAgenda js → ts.lateness e.table ≡ Each → Alone ts e a.entries fires
    → RunsDue {E = E} ts js t most ds a j (Err (Job why)) a' j'
    → (after : List EntryFire) × passing.RunsDue instant (runs_of js e.id) t (take most fires, j) (Err why) (after, j')
failed_alone ts js e t most ds fires a j why a' j' leaves each alone runs =
    let d = deeds_alone ts js e t ds fires a j runs.agenda runs.job leaves each alone runs.are_done in
    let f = runs.ends.1 in
    let b = runs.ends.2 in
    let picked = runs.ends.3 in
    let ran = runs.ends.4 in
    let same = leaves runs.job f b (Err why) j' a' ran in
    let taken = taken_alone ts e runs.agenda.entries b.entries f d.rest d.alone picked.takes.0.0 in
    let count = d.count in
    let fewer = runs.ends.0 in
    let n = most - (runs_in ds + 1) in (
      take (suc n) d.rest,
      (
        d.rs,
        runs.job,
        f.fire,
        take n taken.0,
        d.went,
        (f, b, ap (λ i. own i f.fire) taken.2, subst (λ x. js.runs runs.job f b (Err why) j' x) same ran),
        front fires d.rs d.rest (suc n) most d.split (omega arith),
        ap (take (suc n)) taken.1,
        d.all,
        picked.takes.1,
      ),
    )
