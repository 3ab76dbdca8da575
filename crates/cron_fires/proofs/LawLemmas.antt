-- What holds of the fires of every set in every zone.
use Rattle.std.proofs.Common.{◌≡◌, ℤ, pos, ◌*ℤ◌, ◌≤ℤ◌, true, false, List, [], ◌∷◌, length, take, Some, suc, refl, sym, ap, ◌∙◌, arith}
use Rattle.std.specs.Prelude.{Any, filter}
use Rattle.std.proofs.lemmas.Int.{by_lt_z}
use Rattle.jiff_core.proofs.SignedLemmas.{signed_arith}
use Rattle.jiff_tz.specs.declared.timezone.TimeZone.{TimeZone}
use Rattle.cron_clocks.specs.Clocks.{shown_offset}
use Rattle.cron_clocks.proofs.Windows.{le_yes, lt_yes, lt_no}
use Rattle.cron_units.specs.Sets.{Sets}
use Rattle.cron_moments.specs.Readings.{Reading, instant}
use Rattle.cron_time.specs.Seconds.{Seconds, matching_seconds, timeline}
use Rattle.cron_time.specs.Seconds as sets
use Rattle.cron_time.specs.Timeline.{seconds_of}
use Rattle.cron_time.proofs.ListLemmas.{among-filter, filter-alike, filter-among}
use Rattle.cron_seconds.proofs.IntLemmas.{int_le-true, int_lt-true}
use Rattle.cron_instants.specs.Fires.{fires, fires_after, fires_between, fires_past, is_after, is_by}
use Rattle.cron_instants.specs.Instants.{IsItem}
use Rattle.cron_instants.specs.Order.{is_earlier}
use Rattle.cron_instants.proofs.AgreementLemmas.{same_offset, same_reading}
use Rattle.cron_instants.proofs.AscentLemmas.{earlier-not_itself}
use Rattle.cron_instants.proofs.FireLemmas.{first-after, fires-of_item, item-of_fires}
use Rattle.cron_instants.proofs.ItemLemmas.{item_of, item_read, stands_of}
use Rattle.cron_instants.proofs.OrderLemmas.{before-less, before-not_less}
use Rattle.cron_dues.specs.Due.{Due, clock_of}
use Rattle.cron_dues.specs.FirstDues.{IsDue}
use Rattle.cron_dues.proofs.MemberLemmas.{nearest-own, own-of, sets-match}
use Rattle.cron_unions.specs.Unions.{any_of}
use Rattle.cron_unions.proofs.UnionLemmas.{any_of-match, match-of_any}
use Rattle.cron_fires.specs.Laws.{AgreeingZonesTellApart, DuesAreOfTheSchedules, FiresAreTheItems, ItemsAreOfTheSchedules, LoopsAreRuns, NextIsPast, StretchesHaveTheirItems}

pub are_the_items : FiresAreTheItems
are_the_items s z r = (item-of_fires s z r, fires-of_item s z r)

pub have_their_items : StretchesHaveTheirItems
have_their_items s z last now r = (
  λ h. let by = among-filter (is_by now) (fires_after s z last) r h in
      let after = among-filter (is_after last) (fires s z) r by.0 in (
        item-of_fires s z r after.0,
        int_lt-true last (instant r *ℤ pos 1_000_000_000) after.1,
        int_le-true (instant r *ℤ pos 1_000_000_000) now by.1,
      ),
  λ h. filter-among (is_by now) (fires_after s z last) r
      (filter-among (is_after last) (fires s z) r (fires-of_item s z r h.0) (lt_yes last (instant r *ℤ pos 1_000_000_000) h.1))
      (le_yes (instant r *ℤ pos 1_000_000_000) now h.2),
)

-- ---- several schedules

one_of_any : (ss : List Sets) (z : TimeZone) (r : Reading) → IsItem (any_of ss) z r → Any (λ s. IsItem (seconds_of s) z r) ss
one_of_any ss z r item =
    let at = stands_of (any_of ss) z r item in
    let one = any_of-match ss r.second at.matching in
    (one.0, one.1, one.2, one.3, item_of (seconds_of one.1) z r (record { matching = one.4; place = at.place; here = at.here }))

any_of_one : (ss : List Sets) (z : TimeZone) (r : Reading) → Any (λ s. IsItem (seconds_of s) z r) ss → IsItem (any_of ss) z r
any_of_one ss z r one =
    let at = stands_of (seconds_of one.1) z r one.4 in
    item_of (any_of ss) z r
    (record { matching = match-of_any ss r.second (one.0, one.1, one.2, one.3, at.matching); place = at.place; here = at.here })

pub items_are_of : ItemsAreOfTheSchedules
items_are_of ss z r = (one_of_any ss z r, any_of_one ss z r)

due-of_one : (ss : List Sets) (z : TimeZone) (d : Due) → IsDue (any_of ss) z d → Any (λ s. IsDue (seconds_of s) z d) ss
due-of_one ss z d h =
    let own = own-of (matching_seconds (any_of ss)) (sets.is_match (any_of ss)) (clock_of z) (sets-match (any_of ss)) d h in
    let one = any_of-match ss d.second own.matching in (
      one.0,
      one.1,
      one.2,
      one.3,
      nearest-own (matching_seconds (seconds_of one.1)) (sets.is_match (seconds_of one.1)) (clock_of z) (sets-match (seconds_of one.1)) d one.4 own.own,
    )

one-of_due : (ss : List Sets) (z : TimeZone) (d : Due) → Any (λ s. IsDue (seconds_of s) z d) ss → IsDue (any_of ss) z d
one-of_due ss z d one =
    let own = own-of (matching_seconds (seconds_of one.1)) (sets.is_match (seconds_of one.1)) (clock_of z) (sets-match (seconds_of one.1)) d one.4 in
    nearest-own (matching_seconds (any_of ss)) (sets.is_match (any_of ss)) (clock_of z) (sets-match (any_of ss)) d
    (match-of_any ss d.second (one.0, one.1, one.2, one.3, own.matching)) own.own

pub dues_are_of : DuesAreOfTheSchedules
dues_are_of ss z d = (due-of_one ss z d, one-of_due ss z d)

-- ---- asking from the instant of each answer

pub tell_apart : AgreeingZonesTellApart
tell_apart s z agree r q here there same =
    let a = (item_read s z r here).0 in
    let b = (item_read s z q there).0 in
    let shown = agree.readings_shown r.second a.place r a.in_range a.here in
    let other = agree.readings_shown q.second b.place q b.in_range b.here in
    let offsets : r.offset.seconds ≡ q.offset.seconds = sym shown ∙ ap (shown_offset z) same ∙ other in
    same_reading r q (omega (arith, signed_arith)) (same_offset r.offset q.offset offsets)

not_earlier : (r q : Reading) → instant q ≤ℤ instant r → (instant r ≡ instant q → r ≡ q) → is_earlier r q ≡ false
not_earlier r q ge own = by_lt_z (instant q) (instant r)
    (λ less. before-not_less (instant r) r.second (instant q) q.second less)
    (λ le. let same : instant r ≡ instant q = omega (arith, signed_arith) in
    ap (is_earlier r) (sym (own same)) ∙ earlier-not_itself r)

later-is_after : (r q : Reading) → (instant r ≡ instant q → r ≡ q) → is_after (instant r *ℤ pos 1_000_000_000) q ≡ is_earlier r q
later-is_after r q own =
    by_lt_z (instant r) (instant q)
    (λ less.
    lt_yes (instant r *ℤ pos 1_000_000_000) (instant q *ℤ pos 1_000_000_000) (omega (arith, signed_arith))
    ∙ sym (before-less (instant r) r.second (instant q) q.second less))
    (λ ge.
    lt_no (instant r *ℤ pos 1_000_000_000) (instant q *ℤ pos 1_000_000_000) (omega (arith, signed_arith))
    ∙ sym (not_earlier r q ge own))

pub next_past : NextIsPast
next_past s z item own here =
    filter-alike (is_after (instant item *ℤ pos 1_000_000_000)) (is_earlier item) (fires s z)
    (λ q h. later-is_after item q (own item q here (item-of_fires s z q h)))

pub asked : LoopsAreRuns
asked s z t [] own turns = refl
asked s z t (r ∷ answers) own turns =
    let first : fires_after s z t ≡ r ∷ fires_past s z r = first-after s z t (Some r) turns.0 in
    let on = next_past s z r own turns.0.0.0 in
    ap (take (suc (length answers))) (first ∙ ap (λ m. r ∷ m) (sym on))
    ∙ ap (λ m. r ∷ m) (asked s z (instant r *ℤ pos 1_000_000_000) answers own turns.1)
