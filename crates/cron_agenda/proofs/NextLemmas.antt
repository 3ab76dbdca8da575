-- The answers of an entry's searches, and the next fire past one at a match: due, or while a clock keeps its offset.
use Rattle.std.proofs.Common.{◌≡◌, ℕ, ◌<◌, ℤ, pos, ◌≤ℤ◌, ◌<ℤ◌, true, List, Option, Some, None, inl, inr, refl, sym, ap, ◌∙◌, arith}
use Rattle.std.proofs.lemmas.Int.{by_lt_z}
use Rattle.std.specs.Option.{option_map}
use Rattle.jiff_core.proofs.SignedLemmas.{signed_arith}
use Rattle.jiff_core.specs.declared.Offset.{Offset}
use Rattle.jiff_tz.specs.declared.timezone.TimeZone.{TimeZone}
use Rattle.jiff_tz.specs.declared.timezone.TimeZone.TheVariants.{UTC, Unknown, Fixed}
use Rattle.jiff_tz.specs.Zone.{offset_at}
use Rattle.cron_time.specs.Seconds.{Seconds, is_match, matching_seconds}
use Rattle.cron_moments.specs.Readings.{Reading, instant}
use Rattle.cron_time.proofs.TimelineLemmas.{readings-second}
use Rattle.cron_clocks.specs.Clocks.{IsKeptUpTo, LookupsAgree, shown_offset}
use Rattle.cron_clocks.specs.declared.clock.Kept.{Kept}
use Rattle.cron_instants.specs.Order.{is_earlier}
use Rattle.cron_instants.proofs.AgreementLemmas.{same_offset, same_reading}
use Rattle.cron_instants.proofs.ItemLemmas.{item_of, stands_of}
use Rattle.cron_instants.proofs.OrderLemmas.{before-true, before-less, before-not_less, before-not_shared}
use Rattle.cron_dues.specs.Due.{Due, clock_of, due}
use Rattle.cron_dues.proofs.MemberLemmas.{due-of, less-true, own-of, sets-match, true-less}
use Rattle.cron_instants.specs.Instants.{IsFirstAfter, IsFirstPast, IsItem}
use Rattle.cron_dues.specs.FirstDues.{IsDue, IsFirstDueAfter, IsFirstDuePast}
use Rattle.cron_fires.specs.Matches.{IsNextMatch, Matches}
use Rattle.cron_fires.proofs.MatchLemmas.{is_match_of, matches_of}
use Rattle.cron_fires.specs.declared.changes.ClockChanges.TheVariants as rule
use Rattle.cron_agenda.specs.declared.fire.EntryFire.TheVariants.{AsShown, Once}
use Rattle.cron_agenda.specs.Fires.{fires_after}
use Rattle.cron_agenda.specs.Inner.Slots.{IsFirstFire, IsNextFire}
use Rattle.cron_agenda.proofs.FireLemmas.{once-after, once-past, shown-after, shown-past}

-- an item stands at a match
pub item_matches : (s : Seconds) (z : TimeZone) (r : Reading) → IsItem s z r → Matches s r.second
item_matches s z r item = matches_of s r.second (stands_of s z r item).matching

-- and so does a due fire
pub due_matches : (s : Seconds) (z : TimeZone) (d : Due) → IsDue s z d → Matches s d.second
due_matches s z d is = matches_of s d.second (own-of (matching_seconds s) (is_match s) (clock_of z) (sets-match s) d is).matching

-- ---- an answer by either rule

pub first_shown_after : (s : Seconds) (z : TimeZone) (t : ℤ) (answer : Option Reading) → IsFirstAfter s z t answer
    → IsFirstFire s z (fires_after s z rule.AsShown t) (option_map AsShown answer)
first_shown_after s z t None first = (shown-after s z t None first, tt)
first_shown_after s z t (Some r) first = (shown-after s z t (Some r) first, item_matches s z r first.0.0)

pub first_due_after : (s : Seconds) (z : TimeZone) (t : ℤ) (answer : Option Due) → IsFirstDueAfter s z t answer
    → IsFirstFire s z (fires_after s z rule.Once t) (option_map Once answer)
first_due_after s z t None first = (once-after s z t None first, tt)
first_due_after s z t (Some d) first = (once-after s z t (Some d) first, due_matches s z d first.0.0)

pub next_shown : (s : Seconds) (z : TimeZone) (fire : Reading) (answer : Option Reading) → IsFirstPast s z fire answer
    → IsNextFire s z (AsShown fire) (option_map AsShown answer)
next_shown s z fire None first = (shown-past s z fire None first, tt)
next_shown s z fire (Some r) first = (shown-past s z fire (Some r) first, item_matches s z r first.0.0)

pub next_due : (s : Seconds) (z : TimeZone) (fire : Due) (answer : Option Due) → IsFirstDuePast s z fire answer
    → IsNextFire s z (Once fire) (option_map Once answer)
next_due s z fire None first = (once-past s z fire None first, tt)
next_due s z fire (Some d) first = (once-past s z fire (Some d) first, due_matches s z d first.0.0)

-- ---- each match once

pub no_due_next : (s : Seconds) (z : TimeZone) (fire : Due) → IsNextMatch s fire.second None → IsFirstDuePast s z fire None
no_due_next s z fire none = λ d both.
    let past = less-true fire.second d.second both.1 in
    let last = none d.second (due_matches s z d both.0) in
    absurd (omega arith)

pub due_next : (s : Seconds) (z : TimeZone) (fire d : Due) (n : ℕ) → d ≡ due z n → IsNextMatch s fire.second (Some n) → IsFirstDuePast s z fire (Some d)
due_next s z fire d n is next =
    let second : d.second ≡ n = ap (λ (e : Due). e.second) is in
    let behind = next.1 in (
      (
        rw is (due-of (matching_seconds s) (is_match s) (clock_of z) (sets-match s) n (is_match_of s n next.0)),
        true-less fire.second d.second (omega arith),
      ),
      λ e both. let least = next.2 e.second (due_matches s z e both.0) (less-true fire.second e.second both.1) in omega arith,
    )

-- ---- by the clock

module _ (s : Seconds) (z : TimeZone) (agree : LookupsAgree z) where
  -- a match that a clock shows at an instant is an item
  item_shown : (r : Reading) → Matches s r.second → shown_offset z (instant r) ≡ r.offset.seconds → IsItem s z r
  item_shown r matching shown =
      let found = agree.shown_read r.second (instant r) matching.0 (omega (arith, signed_arith, shown)) in
      let q = found.at_place in
      let is = found.is in
      let second : q.second ≡ r.second = readings-second z r.second found.place q found.here in
      let offset : q.offset.seconds ≡ r.offset.seconds = omega (arith, signed_arith, is, second) in
      let same = same_reading q r second (same_offset q.offset r.offset offset) in
      item_of s z r (record { matching = is_match_of s r.second matching; place = found.place; here = found.here ∙ ap Some same })

  -- at the instant of an item the clock shows its offset
  shown_item : (q : Reading) → IsItem s z q → shown_offset z (instant q) ≡ q.offset.seconds
  shown_item q item =
      let st = stands_of s z q item in
      agree.readings_shown q.second st.place q (item_matches s z q item).0 st.here

  pub next_kept : (fire r : Reading) (kept : Kept) → IsKeptUpTo z (instant fire) kept.end kept.offset.seconds → kept.offset.seconds ≡ fire.offset.seconds
      → r.offset.seconds ≡ kept.offset.seconds → IsNextMatch s fire.second (Some r.second) → instant r <ℤ pos kept.end → IsFirstPast s z fire (Some r)
  next_kept fire r kept keeps own offset next before =
      let behind = next.1 in
      let later : instant fire <ℤ instant r = omega (arith, signed_arith, own, offset, behind) in
      let shown = keeps.shown (instant r) (omega (arith, signed_arith, later)) before in (
        (item_shown r next.0 (shown ∙ sym offset), before-less (instant fire) fire.second (instant r) r.second later),
        λ q m. by_lt_z (instant r) (instant q)
            (λ more. before-not_less (instant q) q.second (instant r) r.second more)
            (λ le. let there : q.offset.seconds ≡ kept.offset.seconds = sym (shown_item q m.0) ∙ keeps.shown (instant q) (not_before q m.1) (omega (arith, signed_arith, le, before)) in
            let past : fire.second < q.second = is_behind q m.1 there in
            let least = next.2 q.second (item_matches s z q m.0) past in
            let equal : instant q ≡ instant r = omega (arith, signed_arith, le, there, offset, least) in
            before-not_shared (instant q) q.second (instant r) r.second equal least),
      )
    where
      not_before : (q : Reading) → is_earlier fire q ≡ true → instant fire ≤ℤ instant q
      not_before q h =
          elim (before-true (instant fire) fire.second (instant q) q.second h) [
            | inl less ↦ omega (arith, signed_arith, less)
            | inr same ↦ let equal = same.0 in omega (arith, signed_arith, equal)
          ]

      is_behind : (q : Reading) → is_earlier fire q ≡ true → q.offset.seconds ≡ kept.offset.seconds → fire.second < q.second
      is_behind q h there =
          elim (before-true (instant fire) fire.second (instant q) q.second h) [
            | inl less ↦ omega (arith, signed_arith, less, there, own)
            | inr same ↦ same.1
          ]

-- ---- a zone with one offset keeps it

-- the whole second of an instant has one offset where each instant has it
pub kept_for_good : (z : TimeZone) (o : ℤ) (at : ℤ) → ((n : ℤ) → shown_offset z n ≡ o) → at ≤ℤ pos 4_294_967_294 → IsKeptUpTo z at 4_294_967_295 o
kept_for_good z o at always most = record { later = omega (arith, signed_arith, most); shown = λ k low high. always k }

pub utc_always : (n : ℤ) → shown_offset UTC n ≡ pos 0
unfolding offset_at
utc_always n = refl

pub unknown_always : (n : ℤ) → shown_offset Unknown n ≡ pos 0
unfolding offset_at
unknown_always n = refl

pub fixed_always : (o : Offset) (n : ℤ) → shown_offset (Fixed o) n ≡ o.seconds
unfolding offset_at
fixed_always o n = refl
