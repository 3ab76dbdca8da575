-- What holds of the entries of an agenda where one of them is written, and what comes first.
use Rattle.std.proofs.Common.{◌≡◌, ◌≢◌, ℕ, ℤ, ◌+◌, ◌*◌, ◌<◌, true, false, List, [], ◌∷◌, length, map, set, get_or, Option, Some, None, inl, inr, refl, sym, ap, subst, ◌∙◌, arith, length-set, get_or-set_other}
use Rattle.std.specs.Prelude.{◌<ℤ◌, ◌≤ℤ◌, ◌&&◌, int_le, int_lt, slice_get, slice_range}
use Rattle.std.specs.Option.{option_map}
use Rattle.std.proofs.lemmas.Int.{ints}
use Rattle.std.proofs.lemmas.List.{length-map, map-set}
use Rattle.std.proofs.lemmas.Option.{slice_get-get_or, slice_get-map, slice_get_within}
use Rattle.std.proofs.Math.Seq.{map-set_same}
use Rattle.jiff_core.proofs.SignedLemmas.{signed_arith}
use Rattle.cron_moments.specs.Readings.{Reading}
use Rattle.cron_time.specs.Seconds.{Seconds}
use Rattle.cron_instants.specs.Instants.{IsEarliest}
use Rattle.cron_instants.specs.Order.{comes_before, is_earlier}
use Rattle.cron_instants.proofs.OrderLemmas.{before-false}
use Rattle.cron_earliest.specs.declared.Key.{Key}
use Rattle.cron_instants.specs.Places.{HasAt}
use Rattle.cron_earliest.specs.Tree.{IsBestAt, best_at, best_of, key_of, lesser, own_at}
use Rattle.cron_earliest.proofs.TreeLemmas.{UpTo, first-has, first-some, first-up, own-is, set-right}
use Rattle.cron_c.specs.Agendas.{AreSame, AreSameBut, ComesDue, FirstIsDue, FollowsBy, FollowsIn, GoesOn, HasOwn, IsAgenda, IsAgendaBut, NoneIsDue, TakesFirst, bare, instants_of, never, own_eras, own_seconds, soonest, when}
use Rattle.cron_c.specs.Arrays.{Writes}
use Rattle.cron_c.specs.Histories.{IsFound, IsHistoryItem}
use Rattle.cron_c.specs.Structs.{IsItem, IsItemInRange}
use Rattle.cron_c.specs.Unions.{seconds_of_any}
use Rattle.cron_c.specs.declared.entry.CronEntry.{CronEntry}
use Rattle.cron_c.specs.declared.era.CronEra.{CronEra}
use Rattle.cron_c.specs.declared.item.CronItem.{CronItem}
use Rattle.cron_c.specs.declared.schedule.CronSchedule.{CronSchedule}
use Rattle.cron_c.specs.declared.status.Status.{Status}
use Rattle.cron_c.specs.declared.status.Status.TheVariants.{Done, NoItem, NotAnItem}

-- ---- what bare entries tell

instants-bare : (es : List CronEntry) → map (λ (e : CronEntry). Some (when e)) (map bare es) ≡ instants_of es
instants-bare [] = refl
instants-bare (e ∷ es) = ap (λ l. Some (when e) ∷ l) (instants-bare es)

pub same-instants : (old new : List CronEntry) → AreSame old new → instants_of new ≡ instants_of old
same-instants old new is = sym (instants-bare new) ∙ (ap (map (λ (e : CronEntry). Some (when e))) is ∙ instants-bare old)

pub same-size : (old new : List CronEntry) → AreSame old new → length new ≡ length old
same-size old new is = sym (length-map new bare) ∙ (ap length is ∙ length-map old bare)

pub instants-size : (es : List CronEntry) → length (instants_of es) ≡ length es
instants-size es = length-map es (λ (e : CronEntry). Some (when e))

pub keys-size : (es : List CronEntry) → length (map soonest es) ≡ length es
keys-size es = length-map es soonest

-- ---- a place is set right

pub place-right : (es new : List CronEntry) (at : ℕ) (k : Option Key) → at < length es → AreSame es new
    → map soonest new ≡ set (map soonest es) at k → k ≡ best_of (instants_of es) (map soonest es) at
    → (i : ℕ) → 2 * i + 1 ≢ at → 2 * i + 2 ≢ at → (i ≢ at → IsBestAt (instants_of es) (map soonest es) i)
    → IsBestAt (instants_of new) (map soonest new) i
place-right es new at k within same keys is i left right rest =
    let placed : at < length (map soonest es) = omega (arith, keys-size es) in
    let right_there : IsBestAt (instants_of es) (set (map soonest es) at k) i = set-right (instants_of es) (map soonest es) at k placed is i left right rest in
    subst (λ (own : List (Option _)). IsBestAt own (map soonest new) i) (sym (same-instants es new same))
    (subst (λ (best : List (Option Key)). IsBestAt (instants_of es) best i) (sym keys) right_there)

-- the same of all but the place above
pub up-right : (es new : List CronEntry) (at : ℕ) (k : Option Key) → at < length es → AreSame es new
    → map soonest new ≡ set (map soonest es) at k → k ≡ best_of (instants_of es) (map soonest es) at
    → IsAgendaBut es at → (up : ℕ) → ((i : ℕ) → i ≢ up → (2 * i + 1 ≢ at) × (2 * i + 2 ≢ at)) → IsAgendaBut new up
up-right es new at k within same keys is others up above i low apart =
    let (left, right) = above i apart in
    place-right es new at k within same keys is i left right (λ other. others i (omega (arith, same-size es new same)) other)

pub all-right : (es new : List CronEntry) (at : ℕ) (k : Option Key) → at < length es → AreSame es new
    → map soonest new ≡ set (map soonest es) at k → k ≡ best_of (instants_of es) (map soonest es) at
    → at ≡ 0 → IsAgendaBut es at → IsAgenda new
all-right es new at k within same keys is zero others =
    record {
      size = keys-size new ∙ sym (instants-size new);
      each = λ i low.
          place-right es new at k within same keys is i (omega arith) (omega arith)
          (λ other. others i (omega (arith, same-size es new same, instants-size new)) other);
    }

-- ---- an entry is written

pub put-but : (es : List CronEntry) (at : ℕ) (e d : CronEntry) → at < length es → soonest e ≡ soonest (get_or es at d)
    → IsAgenda es → IsAgendaBut (set es at e) at
put-but es at e d within told agenda i low apart =
    let keys : map soonest (set es at e) ≡ map soonest es = map-set_same soonest es at e d told in
    let own : instants_of (set es at e) ≡ set (instants_of es) at (Some (when e)) = map-set (λ (x : CronEntry). Some (when x)) es at e in
    let size : length (set es at e) ≡ length es = length-set es at e in
    let here : IsBestAt (instants_of es) (map soonest es) i = agenda.each i (omega (arith, instants-size es)) in
    let kept : get_or (set (instants_of es) at (Some (when e))) i None ≡ get_or (instants_of es) i None =
    get_or-set_other (instants_of es) at i (Some (when e)) None apart in
    subst (λ (l : List (Option _)). IsBestAt l (map soonest (set es at e)) i) (sym own)
    (subst (λ (best : List (Option Key)). IsBestAt (set (instants_of es) at (Some (when e))) best i) (sym keys)
    (here ∙ ap (λ o. lesser (key_of o i) (lesser (best_at (map soonest es) (2 * i + 1)) (best_at (map soonest es) (2 * i + 2)))) (sym kept)))

pub put-same : (es new : List CronEntry) (at : ℕ) (e given : CronEntry) → AreSame (set es at e) new → bare e ≡ bare given → AreSameBut es at given new
put-same es new at e given same is = same ∙ (map-set bare es at e ∙ ap (set (map bare es) at) is)

-- ---- what comes first

top-key : (es : List CronEntry) (e : CronEntry) → slice_get es 0 ≡ Some e → best_at (map soonest es) 0 ≡ soonest e
top-key [] e h = cc
top-key (x ∷ es) e h = let same : x ≡ e = cc in ap soonest same

pub told-at : (es : List CronEntry) (i : ℕ) (e : CronEntry) → slice_get es i ≡ Some e → HasAt (instants_of es) i (when e)
told-at es i e h = slice_get-map (λ (x : CronEntry). Some (when x)) es i ∙ ap (option_map (λ (x : CronEntry). Some (when x))) h

entry-told : (n : ℤ) (o found : Option CronEntry) → found ≡ o → option_map (λ (x : CronEntry). Some (when x)) o ≡ Some (Some n)
    → (e : CronEntry) × (found ≡ Some e) × (when e ≡ n)
entry-told n None found is h = cc
entry-told n (Some e) found is h = (e, is, cc)

pub entry-at : (es : List CronEntry) (i : ℕ) (n : ℤ) → HasAt (instants_of es) i n → (e : CronEntry) × (slice_get es i ≡ Some e) × (when e ≡ n)
entry-at es i n h = entry-told n (slice_get es i) (slice_get es i) refl (sym (slice_get-map (λ (x : CronEntry). Some (when x)) es i) ∙ h)

no-less : (m n : ℤ) (i p : ℕ) → comes_before m i n p ≡ false → n ≤ℤ m
no-less m n i p h =
    elim (before-false m i n p h) [ inl less ↦ omega (arith, signed_arith) | inr same ↦ let equal = same.0 in omega (arith, signed_arith) ]

no-sooner : (es : List CronEntry) (e : CronEntry) → slice_get es 0 ≡ Some e → IsAgenda es → (i : ℕ) (x : CronEntry) → slice_get es i ≡ Some x
    → e.soonest_instant ≤ℤ when x
no-sooner es e h agenda i x here =
    let own = instants_of es in
    let best = map soonest es in
    let there = told-at es i x here in
    let up = first-up own best agenda i (slice_get_within own i (Some (when x)) there) in
    let up_top : UpTo (soonest e) (own_at own i) = subst (λ (k : Option Key). UpTo k (own_at own i)) (top-key es e h) up in
    let up_own : UpTo (soonest e) (key_of (Some (when x)) i) = subst (UpTo (soonest e)) (own-is own best agenda i (when x) there) up_top in
    no-less (when x) e.soonest_instant i e.soonest_place up_own

due-late : (now n m : ℤ) → now <ℤ n → (int_le n now && int_lt n m) ≡ false
due-late now n m h = grind (arith, ints)

due-never : (now n m : ℤ) → m ≤ℤ n → (int_le n now && int_lt n m) ≡ false
due-never now n m h = grind (arith, ints)

due-now : (now n m : ℤ) → n ≤ℤ now → n <ℤ m → (int_le n now && int_lt n m) ≡ true
due-now now n m h g = grind (arith, ints)

pub none-late : (es : List CronEntry) (e : CronEntry) (now : ℤ) → slice_get es 0 ≡ Some e → now <ℤ e.soonest_instant → NoneIsDue now es
none-late es e now h late agenda i x here =
    let low = no-sooner es e h agenda i x here in due-late now (when x) never (omega (arith, signed_arith))

pub none-left : (es : List CronEntry) (e : CronEntry) (now : ℤ) → slice_get es 0 ≡ Some e → never ≤ℤ e.soonest_instant → NoneIsDue now es
none-left es e now h gone agenda i x here =
    let low = no-sooner es e h agenda i x here in due-never now (when x) never (omega (arith, signed_arith))

pub first-due : (es : List CronEntry) (e : CronEntry) (now : ℤ) → slice_get es 0 ≡ Some e → e.soonest_instant ≤ℤ now → e.soonest_instant <ℤ never
    → FirstIsDue now es e.soonest_place
first-due es e now h by some agenda =
    let own = instants_of es in
    let best = map soonest es in
    let key : Key = record { instant = e.soonest_instant; place = e.soonest_place } in
    let top : best_at best 0 ≡ Some key = top-key es e h in
    let (x, here, is) = entry-at es e.soonest_place e.soonest_instant (first-has own best agenda key top) in
    record {
      first = first-some own best agenda key top;
      entry = x;
      here = here;
      due = due-now now (when x) never (omega (arith, signed_arith)) (omega (arith, signed_arith));
    }

-- ---- what is taken

pub follows_in : (s : Seconds) (eras : List CronEra) (r : Reading) (found : Option Reading) (old new : CronItem) (status : Status) → IsItemInRange r old
    → IsFound eras IsEarliest (λ q. IsHistoryItem s eras q × (is_earlier r q ≡ true)) found → Writes IsItem found old new status
    → FollowsIn s eras old new status
follows_in s eras r None old new status given wanted (is, kept) = subst (FollowsIn s eras old new) (sym is) (r, given, wanted, kept)
follows_in s eras r (Some next) old new status given wanted (is, item) =
    subst (FollowsIn s eras old new) (sym is) (r, next, given, wanted, item)

pub goes_on : (schedules : List CronSchedule) (eras : List CronEra) (e : CronEntry) (own : List CronSchedule) (zone : List CronEra) (old new : CronItem)
    (status : Status) → HasOwn schedules eras e → own ≡ slice_range schedules e.schedules_from (e.schedules_from + e.schedules_length)
    → zone ≡ own_eras eras e → old ≡ e.next → FollowsBy e.rule (seconds_of_any own) zone old new status → GoesOn schedules eras e new status
goes_on schedules eras e own zone old new status has own_is zone_is old_is follows =
    let by_own = subst (λ (ss : List CronSchedule). FollowsBy e.rule (seconds_of_any ss) zone old new status) own_is follows in
    let by_zone = subst (λ (es : List CronEra). FollowsBy e.rule (own_seconds schedules e) es old new status) zone_is by_own in
    inl (has, subst (λ (item : CronItem). FollowsBy e.rule (own_seconds schedules e) (own_eras eras e) item new status) old_is by_zone)

abbrev pub comes : (schedules : List CronSchedule) (eras : List CronEra) (now : ℤ) (es : List CronEntry) (place : ℕ) (d : CronEntry) (next : CronItem)
    (status : Status) → place < length es → FirstIsDue now es place → GoesOn schedules eras (get_or es place d) next status
    → ComesDue schedules eras now es place next status
comes schedules eras now es place d next status within first on =
    record { entry = get_or es place d; here = slice_get-get_or es place d within; first = first; goes_on = on }

pub stuck_says : (schedules : List CronSchedule) (eras : List CronEra) (now : ℤ) (es : List CronEntry) (was place : ℕ) (next before : CronItem)
    (status : Status) → ComesDue schedules eras now es place next status → (status ≡ Done → ⊥) → (status ≡ NoItem → ⊥)
    → TakesFirst schedules eras now es es was place before before status
stuck_says schedules eras now es was place next before Done due not_done not_none = absurd (not_done refl)
stuck_says schedules eras now es was place next before NoItem due not_done not_none = absurd (not_none refl)
stuck_says schedules eras now es was place next before NotAnItem due not_done not_none = (inr (next, due), refl, refl)
stuck_says schedules eras now es was place next before status due not_done not_none = ((next, due), refl, refl)
