-- Where the look-ups of a zone agree, instants tell the items of a timeline apart, and are its matches.
use Rattle.std.proofs.Common.{◌≡◌, ℕ, ◌+◌, ◌<◌, ℤ, true, false, cond, [], Some, refl, sym, ap, ◌∙◌, arith}
use Rattle.std.specs.Prelude.{slice_get}
use Rattle.std.proofs.Props.{props}
use Rattle.std.proofs.lemmas.Option.{slice_get_within}
use mathlib.Core.HLevel.{is_prop→PathP}
use Rattle.jiff_core.proofs.SignedLemmas.{signed_arith}
use Rattle.jiff_core.specs.Timestamp.{IsOffsetSeconds}
use Rattle.jiff_core.specs.declared.Offset.{Offset}
use Rattle.jiff_tz.specs.declared.timezone.TimeZone.{TimeZone}
use Rattle.cron_time.specs.Seconds.{Seconds, items_of, timeline}
use Rattle.cron_moments.specs.Readings.{Reading, readings}
use Rattle.cron_time.proofs.TimelineLemmas.{before, item_in, item_of, items_of-matching}
use Rattle.cron_time.proofs.TimelineLaws.{stands_once}
use Rattle.cron_clocks.specs.Clocks.{LookupsAgree, HasInstant, shown_offset}
use Rattle.cron_instants.specs.ClockLaws.{InstantsAreApart, ItemsAreTheMatches, Shows}

pub same_offset : (a b : Offset) → a.seconds ≡ b.seconds → a ≡ b
same_offset a b e =
    λ i. record {
      seconds = e i;
      in_range = is_prop→PathP (λ j. IsOffsetSeconds (e j)) (λ j. hlevel props) a.in_range b.in_range i;
    }

pub same_reading : (r q : Reading) → r.second ≡ q.second → r.offset ≡ q.offset → r ≡ q
same_reading r q e o = λ i. record { second = e i; offset = o i }

pub instants_apart : InstantsAreApart
instants_apart s z i j r q agree here there same =
    let a = item_of s z i r here in
    let b = item_of s z j q there in
    let shown = agree.readings_shown r.second a.place r a.in_range a.here in
    let other = agree.readings_shown q.second b.place q b.in_range b.here in
    let offsets : r.offset.seconds ≡ q.offset.seconds = sym shown ∙ ap (shown_offset z) same ∙ other in
    let seconds : r.second ≡ q.second = omega (arith, signed_arith) in
    let equal = same_reading r q seconds (same_offset r.offset q.offset offsets) in
    stands_once s z i j r here (there ∙ ap Some (sym equal))

shown_item : (s : Seconds) (z : TimeZone) (n : ℤ) → LookupsAgree z → Shows s (shown_offset z n) n → HasInstant (timeline s z) n
shown_item s z n agree k =
    let r = agree.shown_read k.second n k.in_range k.is in
    let same = items_of-matching s z k.second k.matching in
    let here = ap (λ xs. slice_get xs r.place) same ∙ r.here in
    record {
      place = before s z k.second + r.place;
      at_place = r.at_place;
      here = item_in s z k.second r.place k.in_range (slice_get_within (items_of s z k.second) r.place r.at_place here) ∙ here;
      is = r.is;
    }

item_shown : (s : Seconds) (z : TimeZone) (n : ℤ) → LookupsAgree z → HasInstant (timeline s z) n → Shows s (shown_offset z n) n
item_shown s z n agree k =
    let r = k.at_place in
    let a = item_of s z k.place r k.here in
    let shown = agree.readings_shown r.second a.place r a.in_range a.here in
    let instant_is = k.is in
    let offset : shown_offset z n ≡ r.offset.seconds = ap (shown_offset z) (sym instant_is) ∙ shown in
    record {
      second = r.second;
      is = omega (arith, signed_arith);
      in_range = a.in_range;
      matching = a.matching;
    }

pub items_matches : ItemsAreTheMatches
items_matches s z n agree = (shown_item s z n agree, item_shown s z n agree)
