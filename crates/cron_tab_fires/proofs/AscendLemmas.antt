-- The fires of entries never go back in time.
use Rattle.std.proofs.Common.{◌≡◌, ◌≤◌, ◌<◌, ℕ, zero, suc, ℤ, ◌≤ℤ◌, Bool, true, false, cond, List, [], ◌∷◌, ◌++◌, Option, Some, None, inl, inr, map, length, get_or, arith}
use Rattle.std.specs.Prelude.{filter, slice_get}
use Rattle.std.proofs.lemmas.Int.{ints}
use Rattle.jiff_tz.specs.declared.timezone.TimeZone.{TimeZone}
use Rattle.cron_units.specs.Sets.{Sets}
use Rattle.cron_collisions.specs.Collisions.{Ascends}
use Rattle.cron_time.specs.Seconds.{Seconds}
use Rattle.cron_instants.specs.Fires.{fires_after, is_by}
use Rattle.cron_instants.specs.Order.{comes_before}
use Rattle.cron_instants.proofs.OrderLemmas.{before-true}
use Rattle.cron_dues.specs.Dues.{dues_after, is_due_by}
use Rattle.cron_unions.specs.Unions.{any_of}
use Rattle.cron_fires.specs.declared.changes.ClockChanges.{ClockChanges}
use Rattle.cron_fires.specs.declared.changes.ClockChanges.TheVariants as rule
use Rattle.cron_agenda.specs.Fires.{civil_second, instant}
use Rattle.cron_agenda.specs.Merged.{Ascend, IsEarlierThan}
use Rattle.cron_agenda.specs.declared.fire.EntryFire.{EntryFire}
use Rattle.cron_agenda.specs.declared.fire.EntryFire.TheVariants.{AsShown, Once}
use Rattle.cron_agenda.proofs.FireLemmas.{fires_ascend}
use Rattle.cron_tab_lines.specs.Files.{FileLine}
use Rattle.cron_tab_lines.specs.Zones.{zone_below}
use Rattle.cron_tab_agenda.specs.Tabs.{schedules_in}
use Rattle.cron_tab_fires.specs.Entries.{Given, TabFires, entries_in, entry_if, entry_in}
use Rattle.cron_tab_fires.specs.Fires.{fires_between}
use Rattle.cron_tab_fires.specs.Laws.{AllAscend}

-- none of these numbers is less than s
abbrev AllFrom : ℤ → List ℤ → Type 0
AllFrom s [] = Unit {0}
AllFrom s (t ∷ ts) = (s ≤ℤ t) × AllFrom s ts

from_at : (s : ℤ) (ts : List ℤ) (j : ℕ) (d : ℤ) → AllFrom s ts → j < length ts → s ≤ℤ get_or ts j d
from_at s [] j d all short = absurd (omega arith)
from_at s (t ∷ ts) zero d all short = all.0
from_at s (t ∷ ts) (suc j) d all short = from_at s ts j d all.1 (omega arith)

cons_at : (s : ℤ) (ts : List ℤ) (i j : ℕ) (d : ℤ) → AllFrom s ts → Ascends ts → i ≤ j → j < length (s ∷ ts) → get_or (s ∷ ts) i d ≤ℤ get_or (s ∷ ts) j d
cons_at s ts zero zero d all up le short = omega (arith, ints)
cons_at s ts zero (suc j) d all up le short = from_at s ts j d all (omega arith)
cons_at s ts (suc i) zero d all up le short = absurd (omega arith)
cons_at s ts (suc i) (suc j) d all up le short = up i j d (omega arith) (omega arith)

none_ascend : Ascends []
none_ascend = λ i j d le short. absurd (omega arith)

no_later : (f g : EntryFire) → comes_before (instant f) (civil_second f) (instant g) (civil_second g) ≡ true → instant f ≤ℤ instant g
no_later f g h = elim (before-true (instant f) (civil_second f) (instant g) (civil_second g) h) [
  | inl less ↦ omega (arith, ints)
  | inr same ↦ let equal = same.0 in omega (arith, ints)
]

-- those of some fires that pass a test are no earlier than one that is earlier than all
from_passing : {A : Type 0} (f : A → EntryFire) (p : A → Bool) (one : EntryFire) (xs : List A) → IsEarlierThan one (map f xs)
    → AllFrom (instant one) (map instant (map f (filter p xs)))
from_passing f p one [] h = tt
from_passing {A} f p one (x ∷ xs) h = by_test (p x) (no_later one (f x) h.0) (from_passing f p one xs h.1)
  where
    by_test : (b : Bool) → instant one ≤ℤ instant (f x) → AllFrom (instant one) (map instant (map f (filter p xs)))
        → AllFrom (instant one) (map instant (map f (cond b (x ∷ filter p xs) (filter p xs))))
    by_test true least rest = (least, rest)
    by_test false least rest = rest

-- and they ascend, where all do
passing_ascend : {A : Type 0} (f : A → EntryFire) (p : A → Bool) (xs : List A) → Ascend (map f xs) → Ascends (map instant (map f (filter p xs)))
passing_ascend f p [] up = none_ascend
passing_ascend {A} f p (x ∷ xs) up = by_test (p x) (from_passing f p (f x) xs up.0) (passing_ascend f p xs up.1)
  where
    by_test : (b : Bool) → AllFrom (instant (f x)) (map instant (map f (filter p xs))) → Ascends (map instant (map f (filter p xs)))
        → Ascends (map instant (map f (cond b (x ∷ filter p xs) (filter p xs))))
    by_test true least rest = λ i j d le short. cons_at (instant (f x)) (map instant (map f (filter p xs))) i j d least rest le short
    by_test false least rest = rest

pub fires_between-ascend : (s : Seconds) (z : TimeZone) (changes : ClockChanges) (t u : ℤ) → Ascends (map instant (fires_between s z changes t u))
fires_between-ascend s z rule.AsShown t u = passing_ascend AsShown (is_by u) (fires_after s z t) (fires_ascend.after s z rule.AsShown t)
fires_between-ascend s z rule.Once t u = passing_ascend Once (is_due_by u) (dues_after s z t) (fires_ascend.after s z rule.Once t)

-- ---- of all entries

pub all_ascend-append : (a b : List TabFires) → AllAscend a → AllAscend b → AllAscend (a ++ b)
all_ascend-append [] b one other = other
all_ascend-append (e ∷ a) b one other = (one.0, all_ascend-append a b one.1 other)

if_ascends : (g : Given) (file : Option (List ℕ)) (line : FileLine) (ss : Option (List Sets)) (z : Option TimeZone) → AllAscend (entry_if g file line ss z)
if_ascends g file line None z = tt
if_ascends g file line (Some ss) None = tt
if_ascends g file line (Some ss) (Some z) = (fires_between-ascend (any_of ss) z _ g.t g.u, tt)

in_ascends : (g : Given) (file : Option (List ℕ)) (line : FileLine) (here : Option ℕ) → AllAscend (entry_in g file line here)
in_ascends g file line None = tt
in_ascends g file line (Some number) = if_ascends g file line (schedules_in line.outcome) (slice_get g.zones number)

pub entries_ascend : (g : Given) (file : Option (List ℕ)) (here : Option ℕ) (lines : List FileLine) → AllAscend (entries_in g file here lines)
entries_ascend g file here [] = tt
entries_ascend g file here (line ∷ lines) =
    all_ascend-append (entry_in g file line here) (entries_in g file (zone_below g.names here line.outcome) lines) (in_ascends g file line here)
    (entries_ascend g file (zone_below g.names here line.outcome) lines)
