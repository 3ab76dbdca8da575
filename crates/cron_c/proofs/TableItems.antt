-- The items of the eras of a table are the readings that match and are shown.
use Rattle.std.proofs.Common.{◌≡◌, ℕ, ◌+◌, ◌<◌, Bool, true, ◌&&◌, List, Some, nat_lt, sym, ap, ◌∙◌, arith}
use Rattle.std.specs.Prelude.{slice_get, length}
use Rattle.std.proofs.lemmas.Bool.{and_parts}
use Rattle.jiff_core.proofs.SignedLemmas.{signed_arith}
use Rattle.jiff_core.specs.Timestamp.{nanos_of_seconds}
use Rattle.jiff_tz.specs.declared.timezone.TimeZone.{TimeZone}
use Rattle.jiff_tz.specs.declared.timezone.TimeZone.TheVariants.{Posix}
use Rattle.jiff_tz.specs.declared.tzif.Tzif.{Tzif}
use Rattle.jiff_tz.specs.Tzif.{count_at, rule_after}
use Rattle.cron_moments.specs.Civil.{seconds_in_range}
use Rattle.cron_moments.specs.Readings.{Reading, instant}
use Rattle.cron_clocks.specs.Clocks.{LookupsAgree, shown_offset}
use Rattle.cron_time.specs.Seconds.{Seconds}
use Rattle.cron_instants.specs.Instants.{IsItem}
use Rattle.cron_instants.proofs.AgreementLemmas.{same_offset, same_reading}
use Rattle.cron_instants.proofs.ItemLemmas.{item_of, stands_of}
use Rattle.cron_seconds.proofs.SetLemmas.{match_in_range}
use Rattle.cron_c.specs.Histories.{IsHistoryItem}
use Rattle.cron_c.specs.ZoneFiles.{HasDoubleTransition, IsEraOf, IsHistoryOf, IsShownItem, RuleLookupsAgree, transition_count}
use Rattle.cron_c.specs.declared.era.CronEra.{CronEra}
use Rattle.cron_c.proofs.TableEras.{begins_all, era_zone, floor_of, holder, in_order, place_is, shows_all}
use Rattle.cron_c.proofs.AnyZone.{item_in_any}

-- ---- where the look-ups of a zone agree, its items are the readings that are shown

item_shown : (s : Seconds) (z : TimeZone) (r : Reading) → LookupsAgree z → IsItem s z r
    → (r.second < seconds_in_range) × (s r.second ≡ true) × (shown_offset z (instant r) ≡ r.offset.seconds)
item_shown s z r agree item =
    let st = stands_of s z r item in
    let range = match_in_range s r.second st.matching in
    (range, (and_parts _ _ st.matching).1, agree.readings_shown r.second st.place r range st.here)

is_match_of : (c : ℕ) (m : Bool) → c < seconds_in_range → m ≡ true → (nat_lt c seconds_in_range && m) ≡ true
is_match_of c m range is = rw is (grind arith)

shown_item : (s : Seconds) (z : TimeZone) (r : Reading) → LookupsAgree z → r.second < seconds_in_range → s r.second ≡ true
    → shown_offset z (instant r) ≡ r.offset.seconds → IsItem s z r
shown_item s z r agree range matching shown =
    let there = agree.shown_read r.second (instant r) range (omega (arith, signed_arith)) in
    let own = agree.readings_shown r.second there.place there.at_place range there.here in
    let is = there.is in
    let offset : there.at_place.offset.seconds ≡ r.offset.seconds = sym own ∙ ap (shown_offset z) is ∙ shown in
    let second : there.at_place.second ≡ r.second = omega (arith, signed_arith) in
    let same = same_reading there.at_place r second (same_offset there.at_place.offset r.offset offset) in
    item_of s z r (record {
      matching = is_match_of r.second (s r.second) range matching;
      place = there.place;
      here = there.here ∙ ap Some same;
    })

-- ---- the eras of a table

module _ (t : Tzif) (eras : List CronEra) (size : length eras ≡ transition_count t + 1) (are : (i : ℕ) (e : CronEra) → slice_get eras i ≡ Some e → IsEraOf t i e)
    (agree : RuleLookupsAgree t) (s : Seconds) (r : Reading) where
  from_history : IsHistoryItem s eras r → IsShownItem s t r
  from_history (i, (e, get, ((z, of_zone, item), begun), lasts)) =
      let era = are i e get in
      let own = item_in_any s e.zone z (Posix era.rule) r of_zone era.said item in
      let (range, matching, shown) = item_shown s (Posix era.rule) r (era.past.agree agree) own in
      let place = place_is t eras size are (instant r) i e (record { here = get; begun = begun; lasts = lasts }) in
      let told = era.past.shown (nanos_of_seconds (instant r)) (ap (count_at t) (floor_of (instant r)) ∙ place) in
      (range, matching, sym told ∙ shown)

  to_history : IsShownItem s t r → IsHistoryItem s eras r
  to_history (range, matching, shown) =
      let (least, most) = r.offset.in_range in
      let (e, held) = holder t eras size are (instant r) (omega (arith, signed_arith)) in
      let era = are (count_at t (instant r)) e held.here in
      let told = era.past.shown (nanos_of_seconds (instant r)) (ap (count_at t) (floor_of (instant r))) in
      let item = shown_item s (Posix era.rule) r (era.past.agree agree) range matching (told ∙ shown) in
      (count_at t (instant r), (e, held.here, ((Posix era.rule, era.said, item), held.begun), held.lasts))

-- such a list means the zone of the table
pub means_table : (t : Tzif) (eras : List CronEra) → ¬ (HasDoubleTransition t) → length eras ≡ transition_count t + 1
    → ((i : ℕ) (e : CronEra) → slice_get eras i ≡ Some e → IsEraOf t i e) → IsHistoryOf t eras
means_table t eras apart size are = record {
  history = in_order t eras size are apart;
  counted = size;
  starts = λ i e get. (are i e get).start;
  zones = λ i e get. let era = are i e get in era_zone e.zone era.rule (rule_after t i) era.said era.bare era.past.behind;
  begins = begins_all t eras size are;
  clocks = shows_all t eras size are;
  items = λ agree s r. (from_history t eras size are agree s r, to_history t eras size are agree s r);
}
