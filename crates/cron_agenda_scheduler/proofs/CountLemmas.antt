-- How many fires an entry has left at the most.
use Rattle.std.proofs.Common.{◌≡◌, ℕ, zero, suc, ◌*◌, ◌-◌, ◌^◌, ◌≤◌, Bool, true, false, cond, not, Option, Some, None, List, [], ◌∷◌, length, refl, ap, ◌∙◌, length-append, arith}
use Rattle.std.specs.Prelude.{filter, slice_get}
use Rattle.std.specs.List.{flat_map}
use Rattle.std.specs.Ordering.{int_eq}
use Rattle.std.proofs.lemmas.List.{length-map, take_all}
use Rattle.std.proofs.lemmas.List.Filters.{length-filter_both}
use Rattle.jiff_tz.specs.Zone.{ambiguous_at}
use Rattle.jiff_tz.specs.declared.timezone.TimeZone.{TimeZone}
use Rattle.jiff_tz.specs.declared.ambiguous.AmbiguousOffset.{AmbiguousOffset}
use Rattle.jiff_tz.specs.declared.ambiguous.AmbiguousOffset.TheVariants.{Unambiguous, Gap, Fold}
use Rattle.cron_time.specs.Seconds.{Seconds, items_below, matching_seconds, numbers_below, timeline}
use Rattle.cron_moments.specs.Civil.{civil, seconds_in_range}
use Rattle.cron_moments.specs.Readings.{Reading, reading, readings, readings_by}
use Rattle.cron_instants.specs.Fires.{earliest_first, insert}
use Rattle.cron_instants.specs.Order.{is_earlier}
use Rattle.cron_dues.specs.Due.{due}
use Rattle.cron_dues.specs.Dues.{is_past, dues}
use Rattle.cron_instants.specs.Fires as shown
use Rattle.cron_agenda.specs.declared.fire.EntryFire.{EntryFire}
use Rattle.cron_agenda.specs.declared.fire.EntryFire.TheVariants.{AsShown, Once}
use Rattle.cron_agenda.specs.Fires.{fires_past}
use Rattle.cron_agenda.specs.Merged.{left, rest_in}
use Rattle.cron_agenda_scheduler.specs.PlanLaws.{NoneIsCut}

-- ---- a civil second has two readings at most

few_if : (b : Bool) (x y : Reading) → length (cond b (x ∷ []) (x ∷ y ∷ [])) ≤ 2
few_if true x y = omega arith
few_if false x y = omega arith

few_by : (c : ℕ) (a : AmbiguousOffset) → length (readings_by c a) ≤ 2
few_by c (Unambiguous o) = omega arith
few_by c (Gap b a) = omega arith
few_by c (Fold b a) = few_if (int_eq b.seconds a.seconds) (reading c b) (reading c a)

readings-few : (z : TimeZone) (c : ℕ) → length (readings z c) ≤ 2
unfolding readings
readings-few z c = few_by c (ambiguous_at z (civil c))

-- ---- lists

filter-few : {A : Type 0} (p : A → Bool) (l : List A) → length (filter p l) ≤ length l
filter-few p l = let both = length-filter_both p (λ x. not (p x)) (λ x. refl) l in omega (arith, both)

twice : {A B : Type 0} (f : A → List B) (l : List A) → ((x : A) → length (f x) ≤ 2) → length (flat_map f l) ≤ 2 * length l
twice f [] few = omega arith
twice f (x ∷ l) few =
    let here = few x in
    let rest = twice f l few in
    let both = length-append (f x) (flat_map f l) in omega (arith, both)

numbers-length : (n : ℕ) → length (numbers_below n) ≡ n
unfolding numbers_below
numbers-length zero = refl
numbers-length (suc n) = let before = numbers-length n in let more = length-append (numbers_below n) (n ∷ []) in omega (arith, more)

put-length : (r q : Reading) (l m : List Reading) (b : Bool) → length m ≡ suc (length l) → length (cond b (r ∷ q ∷ l) (q ∷ m)) ≡ suc (length (q ∷ l))
put-length r q l m true one = refl
put-length r q l m false one = ap suc one

insert-length : (r : Reading) (l : List Reading) → length (insert r l) ≡ suc (length l)
unfolding insert
insert-length r [] = refl
insert-length r (q ∷ l) = put-length r q l (insert r l) (is_earlier r q) (insert-length r l)

first-length : (l : List Reading) → length (earliest_first l) ≡ length l
unfolding earliest_first
first-length [] = refl
first-length (r ∷ l) = insert-length r (earliest_first l) ∙ ap suc (first-length l)

-- ---- fires

seconds-few : (s : Seconds) → length (matching_seconds s) ≤ seconds_in_range
unfolding matching_seconds
seconds-few s =
    let few = filter-few s (numbers_below seconds_in_range) in
    let all = numbers-length seconds_in_range in omega (arith, few, all)

past-few : (s : Seconds) (z : TimeZone) (fire : EntryFire) → length (fires_past s z fire) ≤ 2 * seconds_in_range
unfolding timeline items_below matching_seconds
past-few s z (AsShown last) =
    let mapped = length-map (filter (is_earlier last) (shown.fires s z)) AsShown in
    let few = filter-few (is_earlier last) (shown.fires s z) in
    let same = first-length (timeline s z) in
    let two = twice (readings z) (matching_seconds s) (readings-few z) in
    let seconds = seconds-few s in omega (arith, mapped, few, same, two, seconds)
past-few s z (Once last) =
    let mapped = length-map (filter (is_past last) (dues s z)) Once in
    let few = filter-few (is_past last) (dues s z) in
    let same = length-map (matching_seconds s) (due z) in
    let seconds = seconds-few s in omega (arith, mapped, few, same, seconds)

rest-few : (s : Seconds) (zone : Option TimeZone) (fire : EntryFire) → length (fire ∷ rest_in s zone fire) ≤ 2 ^ 64 - 1
rest-few s None fire = omega arith
rest-few s (Some z) fire = let few = past-few s z fire in omega (arith, few)

pub none_is_cut : {T : Type 0} (has : T → Seconds) → NoneIsCut has
none_is_cut has zones e =
    take_all (2 ^ 64 - 1) (left has zones e) (rest-few (has e.table) (slice_get zones e.zone) e.fire)
