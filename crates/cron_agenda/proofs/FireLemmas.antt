-- The first of an entry's fires, and those past it, by either rule.
use Rattle.std.proofs.Common.{◌≡◌, ◌<◌, ℤ, ◌≤ℤ◌, Bool, true, List, [], ◌∷◌, map, Option, Some, None, ap, arith}
use Rattle.std.specs.Prelude.{filter}
use Rattle.std.specs.Option.{option_map}
use Rattle.jiff_tz.specs.declared.timezone.TimeZone.{TimeZone}
use Rattle.cron_time.specs.Seconds.{Seconds}
use Rattle.cron_moments.specs.Readings.{Reading}
use Rattle.cron_instants.specs.Fires.{is_after}
use Rattle.cron_instants.specs.Instants as items
use Rattle.cron_instants.specs.Order.{is_earlier}
use Rattle.cron_instants.proofs.OrderLemmas.{before-up_to}
use Rattle.cron_time.proofs.ListLemmas.{Among, among-filter, among-first, among-rest}
use Rattle.cron_dues.specs.Due.{Due}
use Rattle.cron_dues.specs.Due as dues
use Rattle.cron_dues.specs.Dues.{is_due_after, is_past, dues_after, dues_past}
use Rattle.cron_dues.specs.Dues.{dues as due_fires}
use Rattle.cron_seconds.specs.Rules.{IsFirstOf}
use Rattle.cron_seconds.specs.Rules.{AreInOrder}
use Rattle.cron_seconds.proofs.OrderLemmas as order
use Rattle.cron_instants.specs.Fires as shown
use Rattle.cron_instants.proofs.AscentLemmas.{earlier-order}
use Rattle.cron_instants.proofs.FireLemmas as laws
use Rattle.cron_instants.proofs.FireLemmas.{fires-ascend}
use Rattle.cron_dues.specs.Due.{clock_of}
use Rattle.cron_dues.proofs.MemberLemmas.{less-true}
use Rattle.cron_dues.proofs.RuleLemmas as due_rule
use Rattle.cron_instants.specs.Instants.{IsFirstAfter, IsFirstPast}
use Rattle.cron_dues.specs.FirstDues.{IsFirstDueAfter, IsFirstDuePast}
use Rattle.cron_agenda.specs.declared.fire.EntryFire.{EntryFire}
use Rattle.cron_agenda.specs.declared.fire.EntryFire.TheVariants.{AsShown, Once}
use Rattle.cron_fires.specs.declared.changes.ClockChanges.{ClockChanges}
use Rattle.cron_fires.specs.declared.changes.ClockChanges.TheVariants as rule
use Rattle.cron_agenda.specs.Fires.{fires_after, fires_past}
use Rattle.cron_agenda.specs.Laws.{FiresAscend}
use Rattle.cron_agenda.specs.Merged.{Ascend, IsEarlierThan}

-- ---- by the clock

shown_by : (s : Seconds) (z : TimeZone) (l : List Reading) (answer : Option Reading) → IsFirstOf l (shown.fires_past s z) answer
    → IsFirstOf (map AsShown l) (fires_past s z) (option_map AsShown answer)
shown_by s z l None first = ap (map AsShown) first
shown_by s z l (Some r) first = ap (map AsShown) first

pub shown-after : (s : Seconds) (z : TimeZone) (t : ℤ) (answer : Option Reading) → IsFirstAfter s z t answer
    → IsFirstOf (map AsShown (shown.fires_after s z t)) (fires_past s z) (option_map AsShown answer)
shown-after s z t answer first =
    shown_by s z (shown.fires_after s z t) answer (laws.first-after s z t answer first)

pub shown-past : (s : Seconds) (z : TimeZone) (item : Reading) (answer : Option Reading) → IsFirstPast s z item answer
    → IsFirstOf (map AsShown (shown.fires_past s z item)) (fires_past s z) (option_map AsShown answer)
shown-past s z item answer first =
    shown_by s z (shown.fires_past s z item) answer (laws.first-past s z item answer first)

-- ---- each match once

once_by : (s : Seconds) (z : TimeZone) (l : List Due) (answer : Option Due) → IsFirstOf l (dues_past s z) answer
    → IsFirstOf (map Once l) (fires_past s z) (option_map Once answer)
once_by s z l None first = ap (map Once) first
once_by s z l (Some d) first = ap (map Once) first

pub once-after : (s : Seconds) (z : TimeZone) (t : ℤ) (answer : Option Due) → IsFirstDueAfter s z t answer
    → IsFirstOf (map Once (dues_after s z t)) (fires_past s z) (option_map Once answer)
once-after s z t answer first = once_by s z (dues_after s z t) answer (due_rule.first-after s (clock_of z) t answer first)

pub once-past : (s : Seconds) (z : TimeZone) (fire : Due) (answer : Option Due) → IsFirstDuePast s z fire answer
    → IsFirstOf (map Once (dues_past s z fire)) (fires_past s z) (option_map Once answer)
once-past s z fire answer first = once_by s z (dues_past s z fire) answer (due_rule.first-past s (clock_of z) fire answer first)

-- ---- they ascend

shown_earlier : (r : Reading) (l : List Reading) → ((q : Reading) → Among l q → is_earlier r q ≡ true) → IsEarlierThan (AsShown r) (map AsShown l)
shown_earlier r [] h = tt
shown_earlier r (q ∷ l) h = (h q (among-first q l), shown_earlier r l (λ p there. h p (among-rest q p l there)))

shown_ascend : (l : List Reading) → items.Ascends l → Ascend (map AsShown l)
shown_ascend [] up = tt
shown_ascend (r ∷ l) up = (shown_earlier r l up.0, shown_ascend l up.1)

once_earlier : (d : Due) (l : List Due) → ((e : Due) → Among l e → (dues.instant d ≤ℤ dues.instant e) × (d.second < e.second))
    → IsEarlierThan (Once d) (map Once l)
once_earlier d [] h = tt
once_earlier d (e ∷ l) h =
    let one = h e (among-first e l) in
    (before-up_to (dues.instant d) d.second (dues.instant e) e.second one.0 one.1, once_earlier d l (λ x there. h x (among-rest e x l there)))

once_ascend : (l : List Due) → AreInOrder dues.instant is_past l → Ascend (map Once l)
once_ascend [] are = tt
once_ascend (d ∷ l) are = (
  once_earlier d l (λ e h. let past = are.rise.0 e h in
      (are.keep_up d e (among-first d l) (among-rest d e l h) past, less-true d.second e.second past)),
  once_ascend l (record { rise = are.rise.1; keep_up = λ x y one other. are.keep_up x y (among-rest d x l one) (among-rest d y l other) }),
)

shown_pass : (s : Seconds) (z : TimeZone) (p : Reading → Bool) → Ascend (map AsShown (filter p (shown.fires s z)))
shown_pass s z p = shown_ascend (filter p (shown.fires s z)) (order.rises-filter is_earlier earlier-order p (shown.fires s z) (fires-ascend s z))

once_pass : (s : Seconds) (z : TimeZone) (p : Due → Bool) → Ascend (map Once (filter p (due_fires s z)))
once_pass s z p =
    once_ascend (filter p (due_fires s z)) (order.part-in_order dues.instant is_past due_rule.due-order p (due_fires s z) (due_rule.dues-in_order s (clock_of z)))

after_ascend : (s : Seconds) (z : TimeZone) (changes : ClockChanges) (t : ℤ) → Ascend (fires_after s z changes t)
after_ascend s z rule.AsShown t = shown_pass s z (is_after t)
after_ascend s z rule.Once t = once_pass s z (is_due_after t)

past_ascend : (s : Seconds) (z : TimeZone) (last : EntryFire) → Ascend (fires_past s z last)
past_ascend s z (AsShown moment) = shown_pass s z (is_earlier moment)
past_ascend s z (Once due) = once_pass s z (is_past due)

pub fires_ascend : FiresAscend
fires_ascend = record { after = after_ascend; past = past_ascend }
