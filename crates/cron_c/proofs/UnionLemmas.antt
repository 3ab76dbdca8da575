-- Several schedules as one: of one schedule alone it is that one, and its items are those of each schedule.
use Rattle.std.proofs.Common.{◌≡◌, ℕ, Bool, true, false, ◌||◌, List, [], ◌∷◌, refl}
use Rattle.std.specs.Prelude.{Any}
use Rattle.std.proofs.lemmas.List.Folds.{Any-from_list_any, list_any-from_Any}
use Rattle.jiff_tz.specs.declared.timezone.TimeZone.{TimeZone}
use Rattle.cron_moments.specs.Readings.{Reading}
use Rattle.cron_time.specs.Seconds.{is_match}
use Rattle.cron_seconds.proofs.SetLemmas.{passes_in, passes_of, range_of}
use Rattle.cron_instants.specs.Instants.{IsItem}
use Rattle.cron_instants.proofs.ItemLemmas.{item_of, stands_of}
use Rattle.cron_unions.proofs.UnionLemmas.{same_sets}
use Rattle.cron_c.specs.Histories.{IsHistoryItem}
use Rattle.cron_c.specs.Structs.{seconds_of_struct}
use Rattle.cron_c.specs.UnionLaws.{ItemsAreOfTheSchedules, OneIsItsUnion}
use Rattle.cron_c.specs.Unions.{seconds_of_any}
use Rattle.cron_c.specs.declared.era.CronEra.{CronEra}
use Rattle.cron_c.specs.declared.schedule.CronSchedule.{CronSchedule}

-- ---- one schedule

or_nothing : (b : Bool) → (b || false) ≡ b
or_nothing true = refl
or_nothing false = refl

pub one_union : OneIsItsUnion
one_union c = same_sets (seconds_of_any (c ∷ [])) (seconds_of_struct c) (λ n. or_nothing (seconds_of_struct c n))

-- ---- matches

any_match : (cs : List CronSchedule) (n : ℕ) → is_match (seconds_of_any cs) n ≡ true → Any (λ c. is_match (seconds_of_struct c) n ≡ true) cs
any_match cs n h =
    let one = Any-from_list_any (λ (c : CronSchedule). seconds_of_struct c n) cs (passes_of n (seconds_of_any cs n) h) in
    (one.0, one.1, one.2, one.3, passes_in n (seconds_of_struct one.1 n) (range_of n (seconds_of_any cs n) h) one.4)

match_any : (cs : List CronSchedule) (n : ℕ) → Any (λ c. is_match (seconds_of_struct c) n ≡ true) cs → is_match (seconds_of_any cs) n ≡ true
match_any cs n one =
    passes_in n (seconds_of_any cs n) (range_of n (seconds_of_struct one.1 n) one.4)
    (list_any-from_Any (λ (c : CronSchedule). seconds_of_struct c n) cs (one.0, one.1, one.2, one.3, passes_of n (seconds_of_struct one.1 n) one.4))

-- ---- items

item_of_one : (cs : List CronSchedule) (z : TimeZone) (r : Reading) → IsItem (seconds_of_any cs) z r → Any (λ c. IsItem (seconds_of_struct c) z r) cs
item_of_one cs z r item =
    let at = stands_of (seconds_of_any cs) z r item in
    let one = any_match cs r.second at.matching in
    (one.0, one.1, one.2, one.3, item_of (seconds_of_struct one.1) z r (record { matching = one.4; place = at.place; here = at.here }))

item_of_any : (cs : List CronSchedule) (z : TimeZone) (r : Reading) → Any (λ c. IsItem (seconds_of_struct c) z r) cs → IsItem (seconds_of_any cs) z r
item_of_any cs z r one =
    let at = stands_of (seconds_of_struct one.1) z r one.4 in
    item_of (seconds_of_any cs) z r
    (record { matching = match_any cs r.second (one.0, one.1, one.2, one.3, at.matching); place = at.place; here = at.here })

history_of_one : (cs : List CronSchedule) (eras : List CronEra) (r : Reading) → IsHistoryItem (seconds_of_any cs) eras r
    → Any (λ c. IsHistoryItem (seconds_of_struct c) eras r) cs
history_of_one cs eras r (at, (e, here, ((z, of, item), from), still)) =
    let one = item_of_one cs z r item in
    (one.0, one.1, one.2, one.3, (at, (e, here, ((z, of, one.4), from), still)))

history_of_any : (cs : List CronSchedule) (eras : List CronEra) (r : Reading) → Any (λ c. IsHistoryItem (seconds_of_struct c) eras r) cs
    → IsHistoryItem (seconds_of_any cs) eras r
history_of_any cs eras r one =
    let (at, (e, here, ((z, of, item), from), still)) = one.4 in
    (at, (e, here, ((z, of, item_of_any cs z r (one.0, one.1, one.2, one.3, item)), from), still))

pub items_are_of : ItemsAreOfTheSchedules
items_are_of cs eras r = (history_of_one cs eras r, history_of_any cs eras r)
