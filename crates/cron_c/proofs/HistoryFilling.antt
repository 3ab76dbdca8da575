-- Items of a history written era by era.
use Rattle.std.proofs.Common.{◌≡◌, ℕ, ◌+◌, ◌<◌, ◌≤◌, ℤ, pos, ◌*ℤ◌, ◌≤ℤ◌, true, List, [], ◌∷◌, ◌++◌, Option, Some, None, ◌⊎◌, inl, inr, refl, sym, subst, ◌∙◌, arith, length-append}
use Rattle.std.specs.Prelude.{length, slice_get}
use Rattle.jiff_tz.specs.declared.timezone.TimeZone.{TimeZone}
use Rattle.cron_clocks.proofs.Windows.{le_yes, lt_yes}
use Rattle.cron_time.specs.Seconds.{Seconds}
use Rattle.cron_moments.specs.Readings.{Reading, instant}
use Rattle.cron_instants.specs.Fires.{fires, fires_after, fires_past, is_after, is_by}
use Rattle.cron_instants.specs.Instants.{Ascends, IsAfter, IsAmong, IsBy, IsItem as IsOnTimeline}
use Rattle.cron_instants.specs.Order.{is_earlier}
use Rattle.cron_time.proofs.ListLemmas.{among-filter, among-join, among-none, filter-among}
use Rattle.cron_seconds.proofs.OrderLemmas.{rises-filter}
use Rattle.cron_instants.proofs.AscentLemmas.{earlier-order}
use Rattle.cron_instants.proofs.FireLemmas.{fires-ascend, fires-of_item, item-of_fires}
use Rattle.cron_seconds.proofs.IntLemmas.{int_le-true, int_lt-true}
use Rattle.cron_instants.proofs.OrderLemmas.{before-less}
use Rattle.cron_c.specs.Calls.{IsInstant}
use Rattle.cron_c.specs.Histories.{AllBelow, BeginsIn, EndsIn, FillsEra, FillsIn, FillsOf, FiresIn, IsBeyond, IsHistory, IsHistoryItem, IsItemAt, IsZoneAt, Leads, RunsInBetween, RunsInPast, fires_from, has_started}
use Rattle.cron_c.specs.Arrays.{Fills, IsFront, Writes}
use Rattle.cron_c.specs.Structs.{IsItem, IsItemInRange}
use Rattle.cron_c.specs.declared.era.CronEra.{CronEra}
use Rattle.cron_c.specs.declared.history.Begin.{Begin}
use Rattle.cron_c.specs.declared.history.Begin.TheVariants.{After, Past}
use Rattle.cron_c.specs.declared.item.CronItem.{CronItem}
use Rattle.cron_c.specs.declared.status.Status.{Status}
use Rattle.cron_c.specs.declared.status.Status.TheVariants.{Done, NoItem, Refused, NotUtf8, BadZone, BadInstant, NotAnItem, Untold, More, NoMemory}
use Rattle.cron_c.proofs.Eras.{era_by_era, from_or_before, from_zone, in_zone, le_split, none_before}
use Rattle.cron_c.proofs.Arrays.{filled_says, front_none, front_on, front_size}
use Rattle.cron_c.proofs.HistoryLeads.{leads_alike, leads_hold, leads_next, leads_append, leads_wider, whole_leads, page_leads}

-- ---- the items of one era

from_ascends : (s : Seconds) (z : TimeZone) (b : Begin) (t : ℤ) → Ascends (fires_from s z b t)
from_ascends s z (After a) t =
    rises-filter is_earlier earlier-order (is_by t) (fires_after s z a.nanosecond) (rises-filter is_earlier earlier-order (is_after a.nanosecond) (fires s z) (fires-ascend s z))
from_ascends s z (Past m) t = rises-filter is_earlier earlier-order (is_by t) (fires_past s z m) (rises-filter is_earlier earlier-order (is_earlier m) (fires s z) (fires-ascend s z))

from_is : (s : Seconds) (z : TimeZone) (b : Begin) (t : ℤ) (r : Reading) → IsAmong (fires_from s z b t) r → IsOnTimeline s z r × IsBeyond b r × IsBy t r
from_is s z (After a) t r h =
    let (there, by) = among-filter (is_by t) (fires_after s z a.nanosecond) r h in
    let (fire, after) = among-filter (is_after a.nanosecond) (fires s z) r there in
    (item-of_fires s z r fire, int_lt-true a.nanosecond (instant r *ℤ pos 1_000_000_000) after, int_le-true (instant r *ℤ pos 1_000_000_000) t by)
from_is s z (Past m) t r h =
    let (there, by) = among-filter (is_by t) (fires_past s z m) r h in
    let (fire, past) = among-filter (is_earlier m) (fires s z) r there in
    (item-of_fires s z r fire, past, int_le-true (instant r *ℤ pos 1_000_000_000) t by)

is_from : (s : Seconds) (z : TimeZone) (b : Begin) (t : ℤ) (r : Reading) → IsOnTimeline s z r → IsBeyond b r → IsBy t r → IsAmong (fires_from s z b t) r
is_from s z (After a) t r item after by =
    filter-among (is_by t) (fires_after s z a.nanosecond) r
    (filter-among (is_after a.nanosecond) (fires s z) r (fires-of_item s z r item) (lt_yes a.nanosecond (instant r *ℤ pos 1_000_000_000) after))
    (le_yes (instant r *ℤ pos 1_000_000_000) t by)
is_from s z (Past m) t r item past by =
    filter-among (is_by t) (fires_past s z m) r (filter-among (is_earlier m) (fires s z) r (fires-of_item s z r item) past)
    (le_yes (instant r *ℤ pos 1_000_000_000) t by)

abbrev pub IsDueAt : Seconds → List CronEra → ℕ → Begin → ℤ → Reading → Type 0
IsDueAt s eras at b now r = IsItemAt s eras at r × IsBeyond b r × IsBy now r

-- what a run in the zone of the era at a place writes
module _ (s : Seconds) (eras : List CronEra) (at : ℕ) (e : CronEra) (z : TimeZone) (begin b : Begin) (now t : ℤ) (here : slice_get eras at ≡ Some e)
    (zone : IsZoneAt eras at z) (begins : BeginsIn e begin b) (ends : EndsIn eras at now t) where
  due_of : (r : Reading) → IsAmong (fires_from s z b t) r → IsDueAt s eras at begin now r
  due_of r h =
      let (item, there, until) = from_is s z b t r h in
      let (from, beyond) = (begins r).0 there in
      let (by, still) = (ends r).0 until in
      (from_zone s eras at e z r here zone item from still, beyond, by)

  of_due : (r : Reading) → IsDueAt s eras at begin now r → IsAmong (fires_from s z b t) r
  of_due r h =
      let (item, from, still) = in_zone s eras at e z r here zone h.0 in
      is_from s z b t r item ((begins r).1 (from, h.1)) ((ends r).1 (h.2, still))

  pub era_says : (old new : List CronItem) (count : ℕ) (status : Status) → Fills IsItem (fires_from s z b t) old new count status
      → FillsEra s eras at begin now old new count status
  era_says old new count status f =
      let all = fires_from s z b t in
      filled_says IsItem all old new count (FillsEra s eras at begin now old new count) status
      (λ whole. (all, leads_alike (IsAmong all) (IsDueAt s eras at begin now) all None due_of of_due (whole_leads all (from_ascends s z b t)), whole.0, whole.1))
      (λ page.
      let up : Ascends (page.written ++ page.next ∷ page.left) = subst Ascends page.cut (from_ascends s z b t) in
      let led : Leads (IsAmong all) page.written (Some page.next) =
      subst (λ (l : List Reading). Leads (IsAmong l) page.written (Some page.next)) (sym page.cut) (page_leads page.written page.next page.left up) in (
        page.next,
        (page.written, leads_alike (IsAmong all) (IsDueAt s eras at begin now) page.written (Some page.next) due_of of_due led, page.items, page.counted),
        page.full,
      )) f

-- an era without such an item
pub era_empty : (s : Seconds) (eras : List CronEra) (at : ℕ) (b : Begin) (now : ℤ) (old : List CronItem)
    → ((r : Reading) → IsItemAt s eras at r → IsBeyond b r → IsBy now r → ⊥) → FillsEra s eras at b now old old 0 Done
unfolding Leads
era_empty s eras at b now old none = ([], (λ r h. none r h.0 h.1 h.2), front_none IsItem old, refl)

-- it is neither listed nor empty, so it shows that the eras are no history
pub era_refused : (s : Seconds) (eras : List CronEra) (at : ℕ) (b : Begin) (now : ℤ) (old new : List CronItem) (count : ℕ) (status : Status)
    → FillsEra s eras at b now old new count status → (status ≡ Done → ⊥) → (status ≡ More → ⊥) → IsHistory eras → ⊥
era_refused s eras at b now old new count Done f done more = λ h. done refl
era_refused s eras at b now old new count More f done more = λ h. more refl
era_refused s eras at b now old new count BadZone f done more = f
era_refused s eras at b now old new count NoItem f done more = absurd f
era_refused s eras at b now old new count Refused f done more = absurd f
era_refused s eras at b now old new count NotUtf8 f done more = absurd f
era_refused s eras at b now old new count BadInstant f done more = absurd f
era_refused s eras at b now old new count NotAnItem f done more = absurd f
era_refused s eras at b now old new count Untold f done more = absurd f
era_refused s eras at b now old new count NoMemory f done more = absurd f

-- ---- the loop over eras

abbrev pub IsDue : Seconds → List CronEra → Begin → ℤ → Reading → Type 0
IsDue s eras b now r = IsHistoryItem s eras r × IsBeyond b r × IsBy now r

-- of the eras before a place
abbrev pub IsDueBelow : Seconds → List CronEra → Begin → ℤ → ℕ → Reading → Type 0
IsDueBelow s eras b now at r = (i : ℕ) × (i < at) × IsDueAt s eras i b now r

-- the items of the eras before a place are written
pub record IsFilling (s : Seconds) (eras : List CronEra) (b : Begin) (now : ℤ) (old items : List CronItem) (at written : ℕ) : Type 0 where
  pub list : List Reading
  pub due : (r : Reading) → IsAmong list r → IsDue s eras b now r
  pub leads : IsHistory eras → Leads (IsDueBelow s eras b now at) list None
  pub front : IsFront IsItem list old items
  pub counted : written ≡ length list

nothing_leads : (P : Reading → Type 0) → ((r : Reading) → P r → ⊥) → Leads P [] None
unfolding Leads
nothing_leads P none = none

pub filling_begins : (s : Seconds) (eras : List CronEra) (b : Begin) (now : ℤ) (old : List CronItem) (at : ℕ) (least : ℤ)
    → ((r : Reading) → IsBeyond b r → least ≤ℤ instant r) → (at ≡ 0) ⊎ (has_started eras at least ≡ true) → IsFilling s eras b now old old at 0
filling_begins s eras b now old at least low begun =
    record {
      list = [];
      due = λ r h. absurd (among-none r h);
      leads = λ h. nothing_leads (IsDueBelow s eras b now at) (λ r below.
          let (i, less, due) = below in
          let past : at ≤ i = none_before s eras b at least low begun h i r due.0 due.1 in
          absurd (omega arith));
      front = front_none IsItem old;
      counted = refl;
    }

-- the items of one era more
module _ (s : Seconds) (eras : List CronEra) (b : Begin) (now : ℤ) (old front back room : List CronItem) (at written more : ℕ)
    (f : IsFilling s eras b now old (front ++ back) at written) (size : length front ≡ written) where
  due_on : (l : List Reading) (next : Option Reading) → Leads (IsDueAt s eras at b now) l next → (r : Reading) → IsAmong (f.list ++ l) r → IsDue s eras b now r
  due_on l next leads r h = elim (among-join f.list l r h) [
    | inl before ↦ f.due r before
    | inr here ↦ let (item, beyond, by) = leads_hold (IsDueAt s eras at b now) l next leads r here in ((at, item), beyond, by)
  ]

  leads_on : (l : List Reading) (next : Option Reading) (end : ℕ) → IsHistory eras → at < end
      → ((i : ℕ) (r : Reading) → at < i → IsItemAt s eras i r → end ≤ i) → Leads (IsDueAt s eras at b now) l next
      → Leads (IsDueBelow s eras b now end) (f.list ++ l) next
  leads_on l next end h further passed leads =
      leads_append (IsDueBelow s eras b now at) (IsDueAt s eras at b now) (IsDueBelow s eras b now end) f.list l next (f.leads h) leads
      (λ r below. let (i, less, due) = below in (i, omega arith, due))
      (λ r due. (at, further, due))
      (λ r below.
      let (i, less, due) = below in
      elim (from_or_before at i) [
        | inr before ↦ inl (i, before, due)
        | inl from ↦ elim (le_split at i from) [
          | inl same ↦ inr (subst (λ (n : ℕ). IsDueAt s eras n b now r) (sym same) due)
          | inr past ↦ let beyond = passed i r (omega arith) due.0 in absurd (omega arith)
        ]
      ])
      (λ p q below due.
      let (i, less, due_p) = below in
      before-less (instant p) p.second (instant q) q.second (era_by_era s eras i at p q h less due_p.0 due.0))

  counted_on : (l : List Reading) → more ≡ length l → written + more ≡ length (f.list ++ l)
  counted_on l counted = omega (arith, f.counted, length-append f.list l)

  front_of : (l : List Reading) → IsFront IsItem l back room → IsFront IsItem (f.list ++ l) old (front ++ room)
  front_of l on = front_on IsItem f.list l old front back room f.front (size ∙ f.counted) on

  pub filling_goes_on : (next : ℕ) → FillsOf (IsDueAt s eras at b now) back room more Done → at < next
      → (IsHistory eras → (i : ℕ) (r : Reading) → at < i → IsItemAt s eras i r → next ≤ i) → IsFilling s eras b now old (front ++ room) next (written + more)
  filling_goes_on next (l, leads, on, counted) further passed =
      record {
        list = f.list ++ l;
        due = due_on l None leads;
        leads = λ h. leads_on l None next h further (passed h) leads;
        front = front_of l on;
        counted = counted_on l counted;
      }

  pub filling_is_full : FillsOf (IsDueAt s eras at b now) back room more More → FillsIn eras (IsDue s eras b now) old (front ++ room) (length old) More
  filling_is_full (next, (l, leads, on, counted), full) =
      let (item, beyond, by) = leads_next (IsDueAt s eras at b now) l next leads in
      let whole = front_size IsItem (f.list ++ l) old (front ++ room) (front_of l on) in
      let sizes = front_size IsItem l back room on in
      let all : written + more ≡ length old = omega (arith, whole, sizes, size, full, length-append front room) in (
        next,
        ((at, item), beyond, by),
        (
          f.list ++ l,
          due_on l (Some next) leads,
          λ h. leads_wider (IsDueBelow s eras b now (at + 1)) (IsDue s eras b now) (f.list ++ l) next
              (leads_on l (Some next) (at + 1) h (omega arith) (λ i r past due. omega arith) leads)
              (λ r below. let (i, less, due) = below in ((i, due.0), due.1, due.2))
              (λ r due.
              let (place, beyond_r, by_r) = due in
              elim (from_or_before (at + 1) place.0) [
                | inr before ↦ inl (place.0, before, (place.1, beyond_r, by_r))
                | inl past ↦ inr (λ p below.
                    let (i, less, due_p) = below in
                    before-less (instant p) p.second (instant r) r.second (era_by_era s eras i place.0 p r h (omega arith) due_p.0 place.1))
              ]),
          front_of l on,
          sym all ∙ counted_on l counted,
        ),
        refl,
      )

-- no era is left that may have an item by the instant
pub filling_ends : (s : Seconds) (eras : List CronEra) (b : Begin) (now : ℤ) (old items : List CronItem) (end at written : ℕ)
    → IsFilling s eras b now old items at written → (IsHistory eras → AllBelow s eras now end) → end ≤ at
    → FillsIn eras (IsDue s eras b now) old items written Done
filling_ends s eras b now old items end at written f below le = (
  f.list,
  f.due,
  λ h. leads_alike (IsDueBelow s eras b now at) (IsDue s eras b now) f.list None
      (λ r low. let (i, less, due) = low in ((i, due.0), due.1, due.2))
      (λ r due.
      let (place, beyond, by) = due in
      let less = below h place.0 r place.1 by in
      (place.0, omega arith, (place.1, beyond, by)))
      (f.leads h),
  f.front,
  f.counted,
)

-- what is written fits
pub filling_fits : (s : Seconds) (eras : List CronEra) (b : Begin) (now : ℤ) (old items : List CronItem) (at written : ℕ)
    → IsFilling s eras b now old items at written → (written ≤ length items) × (length items ≡ length old)
filling_fits s eras b now old items at written f =
    let (within, size) = front_size IsItem f.list old items f.front in
    let counted = f.counted in
    (omega arith, size)

pub era_fits : (P : Reading → Type 0) (back room : List CronItem) (more : ℕ) → FillsOf P back room more Done → more ≤ length back
era_fits P back room more (l, leads, on, counted) = let (within, size) = front_size IsItem l back room on in omega arith

-- ---- what a status says

filled_in_says : (eras : List CronEra) (P : Reading → Type 0) (old new : List CronItem) (count : ℕ) (Says : Status → Type 0) (status : Status)
    → (FillsIn eras P old new count Done → Says Done) → (FillsIn eras P old new count More → Says More)
    → (FillsIn eras P old new count BadZone → Says BadZone) → FillsIn eras P old new count status → Says status
filled_in_says eras P old new count Says Done whole page refused f = whole f
filled_in_says eras P old new count Says More whole page refused f = page f
filled_in_says eras P old new count Says BadZone whole page refused f = refused f
filled_in_says eras P old new count Says NoItem whole page refused f = absurd f
filled_in_says eras P old new count Says Refused whole page refused f = absurd f
filled_in_says eras P old new count Says NotUtf8 whole page refused f = absurd f
filled_in_says eras P old new count Says BadInstant whole page refused f = absurd f
filled_in_says eras P old new count Says NotAnItem whole page refused f = absurd f
filled_in_says eras P old new count Says Untold whole page refused f = absurd f
filled_in_says eras P old new count Says NoMemory whole page refused f = absurd f

module _ (s : Seconds) (eras : List CronEra) where
  pub in_between_says : (last now : ℤ) (old new : List CronItem) (count : ℕ) (status : Status) → IsInstant last → IsInstant now
      → FillsIn eras (λ r. IsHistoryItem s eras r × IsAfter (last *ℤ pos 1_000_000_000) r × IsBy (now *ℤ pos 1_000_000_000) r) old new count status
      → RunsInBetween s eras last now old new count status
  in_between_says last now old new count status from to f =
      filled_in_says eras (λ r. IsHistoryItem s eras r × IsAfter (last *ℤ pos 1_000_000_000) r × IsBy (now *ℤ pos 1_000_000_000) r) old new count
      (RunsInBetween s eras last now old new count) status (λ h. (from, to, h)) (λ h. (from, to, h)) (λ h. (from, to, h)) f

  pub in_past_says : (r : Reading) (item : CronItem) (now : ℤ) (old new : List CronItem) (count : ℕ) (status : Status)
      → IsItemInRange r item → IsInstant now
      → FillsIn eras (λ q. IsHistoryItem s eras q × (is_earlier r q ≡ true) × IsBy (now *ℤ pos 1_000_000_000) q) old new count status
      → RunsInPast s eras item now old new count status
  in_past_says r item now old new count status is to f =
      filled_in_says eras (λ q. IsHistoryItem s eras q × (is_earlier r q ≡ true) × IsBy (now *ℤ pos 1_000_000_000) q) old new count
      (RunsInPast s eras item now old new count) status (λ h. (r, is, to, h)) (λ h. (r, is, to, h)) (λ h. (r, is, to, h)) f

-- what was found of a history and is written
pub fires_in : (IsWanted : Seconds → List CronEra → ℤ → Option Reading → Type 0) (s : Seconds) (eras : List CronEra) (second : ℤ) (found : Option Reading)
    (old new : CronItem) (status : Status) → IsInstant second → IsWanted s eras (second *ℤ pos 1_000_000_000) found → Writes IsItem found old new status
    → FiresIn IsWanted s eras second old new status
fires_in IsWanted s eras second None old new status within wanted (is, kept) =
    subst (FiresIn IsWanted s eras second old new) (sym is) (within, wanted, kept)
fires_in IsWanted s eras second (Some r) old new status within wanted (is, item) =
    subst (FiresIn IsWanted s eras second old new) (sym is) (r, within, wanted, item)
