-- Where a clock keeps its offset and shows what it hasn't shown before, both rules answer the same.
use Rattle.std.proofs.Common.{◌≡◌, ℕ, ◌<◌, ℤ, pos, ◌*ℤ◌, ◌-ℤ◌, ◌≤ℤ◌, ◌<ℤ◌, unsigned_abs, true, List, [], ◌∷◌, Some, inl, inr, refl, sym, ap, subst, ◌∙◌, arith}
use Rattle.std.specs.Prelude.{map, slice_get}
use Rattle.std.specs.Int.{int_div_euclid}
use Rattle.std.proofs.lemmas.Int.{by_lt_z}
use Rattle.jiff_core.proofs.SignedLemmas.{signed_arith}
use Rattle.jiff_core.specs.declared.Offset.{Offset}
use Rattle.jiff_tz.specs.declared.timezone.TimeZone.{TimeZone}
use Rattle.cron_time.specs.Seconds.{Seconds, is_match, matching_seconds}
use Rattle.cron_moments.specs.Readings.{Reading, instant, readings}
use Rattle.cron_clocks.specs.Clocks.{LookupsAgree, shown_offset}
use Rattle.cron_clocks.proofs.TableLemmas.{same_offset}
use Rattle.cron_clocks.proofs.Windows.{le_yes, lt_yes}
use Rattle.cron_instants.specs.Fires.{fires, fires_after, fires_between, is_after, is_by}
use Rattle.cron_instants.specs.Order.{is_earlier}
use Rattle.cron_instants.specs.Instants as items
use Rattle.cron_instants.specs.Instants.{IsItem}
use Rattle.cron_instants.proofs.AscentLemmas.{earlier-order}
use Rattle.cron_instants.proofs.FireLemmas.{fires-ascend, fires-of_item, item-of_fires}
use Rattle.cron_instants.proofs.ItemLemmas.{item_read, read_item}
use Rattle.cron_seconds.proofs.OrderLemmas.{rises-filter}
use Rattle.cron_seconds.proofs.SetLemmas.{match_in_range}
use Rattle.cron_seconds.proofs.IntLemmas.{int_le-true, int_lt-true}
use Rattle.cron_instants.proofs.OrderLemmas.{before-true}
use Rattle.cron_dues.specs.Due as due
use Rattle.cron_dues.specs.Due.{Due, IsDueAt, clock, clock_of, due_instant, parts}
use Rattle.cron_dues.specs.Dues.{dues, dues_after, dues_between, is_due_after, is_due_by}
use Rattle.cron_dues.proofs.DueLemmas.{due_is, due_once, fire_due}
use Rattle.cron_time.proofs.TimelineLemmas.{readings-second}
use Rattle.cron_time.proofs.ListLemmas.{Among, among-filter, among-first, among-map, among-rest, filter-among, map-among}
use Rattle.cron_dues.specs.Ascent.{Ascends}
use Rattle.cron_dues.proofs.ListLemmas.{ascends-filter, ascends-map, same_lists}
use Rattle.cron_dues.proofs.LawLemmas.{dues-ascend}
use Rattle.cron_dues.proofs.MemberLemmas.{due-of, own-of, sets-match}
use Rattle.cron_dues.proofs.WayLemmas.{back}
use Rattle.cron_fires.specs.Laws.{BothRulesAgree, IsFreshStretch, as_due}

abbrev second_of : ℤ → ℤ
second_of t = int_div_euclid t (pos 1_000_000_000)

-- ---- a civil second that is shown in such a stretch

due_when : (z : TimeZone) (n m : ℤ) (c : ℕ) (k : ℤ) → IsFreshStretch z n m → n <ℤ k → k ≤ℤ m → clock z k ≡ pos c → IsDueAt z c k
due_when z n m c k stretch later by shown = record {
  reached = omega (arith, signed_arith);
  first = λ j less. by_lt_z n j
      (λ more. let here = stretch.kept k (omega (arith, signed_arith)) by in
      let there = stretch.kept j (omega (arith, signed_arith)) (omega (arith, signed_arith)) in omega (arith, signed_arith))
      (λ le. let before = stretch.fresh j le in
      let here = stretch.kept k (omega (arith, signed_arith)) by in omega (arith, signed_arith));
}

-- is due then, with nothing passed over
due_plain : (z : TimeZone) (c : ℕ) (k : ℤ) (o : Offset) → IsDueAt z c k → clock z k ≡ pos c → shown_offset z k ≡ o.seconds → due.due z c ≡ parts c 0 o
due_plain z c k o at shown offset =
    let same : due_instant z c ≡ k = due_once (clock_of z) c (due_instant z c) k (due_is (clock_of z) c) at in
    let past_is : unsigned_abs (clock z k -ℤ pos c) ≡ 0 = back c 0 (clock z k) (omega (arith, signed_arith)) in
    rw (same, past_is, same_offset (clock_of z k) o offset) refl

-- ---- a fire, as a due fire

record IsFired (s : Seconds) (z : TimeZone) (last now : ℤ) (r : Reading) : Type 0 where
  item : IsItem s z r
  after : last <ℤ (instant r *ℤ pos 1_000_000_000)
  by : (instant r *ℤ pos 1_000_000_000) ≤ℤ now

fired : (s : Seconds) (z : TimeZone) (last now : ℤ) (r : Reading) → Among (fires_between s z last now) r → IsFired s z last now r
fired s z last now r h =
    let by = among-filter (is_by now) (fires_after s z last) r h in
    let after = among-filter (is_after last) (fires s z) r by.0 in
    record {
      item = item-of_fires s z r after.0;
      after = int_lt-true last (instant r *ℤ pos 1_000_000_000) after.1;
      by = int_le-true (instant r *ℤ pos 1_000_000_000) now by.1;
    }

offset_is : (s : Seconds) (z : TimeZone) (last now : ℤ) (r : Reading) → LookupsAgree z → IsFreshStretch z (second_of last) (second_of now)
    → IsFired s z last now r → shown_offset z (second_of last) ≡ r.offset.seconds
offset_is s z last now r agree stretch is =
    let st = item_read s z r is.item in
    let shown = agree.readings_shown r.second st.0.place r st.0.in_range st.0.here in
    let after = is.after in
    let by = is.by in
    sym (stretch.kept (instant r) (omega (arith, signed_arith)) (omega (arith, signed_arith))) ∙ shown

fired_due : (s : Seconds) (z : TimeZone) (last now : ℤ) (r : Reading) → LookupsAgree z → IsFreshStretch z (second_of last) (second_of now)
    → IsFired s z last now r → due.due z r.second ≡ as_due r
fired_due s z last now r agree stretch is =
    let st = item_read s z r is.item in
    let shown = agree.readings_shown r.second st.0.place r st.0.in_range st.0.here in
    let after = is.after in
    let by = is.by in
    let there : clock z (instant r) ≡ pos r.second = omega (arith, signed_arith) in
    let at = due_when z (second_of last) (second_of now) r.second (instant r) stretch (omega (arith, signed_arith)) (omega (arith, signed_arith)) there in
    due_plain z r.second (instant r) r.offset at there shown

between_of : (s : Seconds) (z : TimeZone) (last now : ℤ) (d : Due) → Among (dues s z) d → last <ℤ (due.instant d *ℤ pos 1_000_000_000)
    → (due.instant d *ℤ pos 1_000_000_000) ≤ℤ now → Among (dues_between s z last now) d
between_of s z last now d h after by =
    filter-among (is_due_by now) (dues_after s z last) d
    (filter-among (is_due_after last) (dues s z) d h (lt_yes last (due.instant d *ℤ pos 1_000_000_000) after))
    (le_yes (due.instant d *ℤ pos 1_000_000_000) now by)

fired-due : (s : Seconds) (z : TimeZone) (last now : ℤ) (d : Due) → LookupsAgree z → IsFreshStretch z (second_of last) (second_of now)
    → Among (map as_due (fires_between s z last now)) d → Among (dues_between s z last now) d
fired-due s z last now d agree stretch h =
    let source = among-map as_due (fires_between s z last now) d h in
    let r = source.of in
    let is = fired s z last now r source.there in
    let st = item_read s z r is.item in
    let same : due.due z r.second ≡ as_due r = fired_due s z last now r agree stretch is in
    let own : Among (dues s z) (as_due r) = rw (← same) (due-of (matching_seconds s) (is_match s) (clock_of z) (sets-match s) r.second st.1) in
    let after = is.after in
    let by = is.by in
    rw source.is (between_of s z last now (as_due r) own (omega (arith, signed_arith)) (omega (arith, signed_arith)))

-- ---- a due fire, as a fire

item_at : (s : Seconds) (z : TimeZone) (c place : ℕ) (r : Reading) → is_match s c ≡ true → r.second ≡ c → slice_get (readings z c) place ≡ Some r
    → IsItem s z r
item_at s z c place r match second here =
    let own : is_match s r.second ≡ true = subst (λ (n : ℕ). is_match s n ≡ true) (sym second) match in
    read_item s z r (record {
      in_range = match_in_range s r.second own;
      place = place;
      here = subst (λ (n : ℕ). slice_get (readings z n) place ≡ Some r) (sym second) here;
    }) own

due-fired : (s : Seconds) (z : TimeZone) (last now : ℤ) (d : Due) → LookupsAgree z → IsFreshStretch z (second_of last) (second_of now)
    → Among (dues_between s z last now) d → Among (map as_due (fires_between s z last now)) d
due-fired s z last now d agree stretch h =
    let c = d.second in
    let late = among-filter (is_due_by now) (dues_after s z last) d h in
    let early = among-filter (is_due_after last) (dues s z) d late.0 in
    let by = int_le-true (due.instant d *ℤ pos 1_000_000_000) now late.1 in
    let after = int_lt-true last (due.instant d *ℤ pos 1_000_000_000) early.1 in
    let own = own-of (matching_seconds s) (is_match s) (clock_of z) (sets-match s) d early.0 in
    let when : due.instant d ≡ due_instant z c = ap due.instant own.own ∙ fire_due (clock_of z) c in
    let k : ℤ = due_instant z c in
    let reached = (due_is (clock_of z) c).reached in
    let before = (due_is (clock_of z) c).first (k -ℤ pos 1) (omega (arith, signed_arith)) in
    let here = stretch.kept k (omega (arith, signed_arith)) (omega (arith, signed_arith)) in
    let there = stretch.kept (k -ℤ pos 1) (omega (arith, signed_arith)) (omega (arith, signed_arith)) in
    let shown : clock z k ≡ pos c = omega (arith, signed_arith) in
    let range = match_in_range s c own.matching in
    let read = agree.shown_read c k range shown in
    let r = read.at_place in
    let second : r.second ≡ c = readings-second z c read.place r read.here in
    let read_shown = agree.readings_shown c read.place r range read.here in
    let offset : shown_offset z k ≡ r.offset.seconds = ap (shown_offset z) (sym read.is) ∙ read_shown in
    let plain : due.due z c ≡ parts c 0 r.offset = due_plain z c k r.offset (due_is (clock_of z) c) shown offset in
    let item = item_at s z c read.place r own.matching second read.here in
    let fire : Among (fires_between s z last now) r =
    filter-among (is_by now) (fires_after s z last) r
    (filter-among (is_after last) (fires s z) r (fires-of_item s z r item)
    (let instant_is = read.is in lt_yes last (instant r *ℤ pos 1_000_000_000) (omega (arith, signed_arith))))
    (let instant_is = read.is in le_yes (instant r *ℤ pos 1_000_000_000) now (omega (arith, signed_arith))) in
    let is : d ≡ as_due r = own.own ∙ plain ∙ ap (λ n. parts n 0 r.offset) (sym second) in
    rw is (map-among as_due (fires_between s z last now) r fire)

-- ---- both lists

earlier_second : (r q : Reading) → r.offset.seconds ≡ q.offset.seconds → is_earlier r q ≡ true → r.second < q.second
earlier_second r q same h = elim (before-true (instant r) r.second (instant q) q.second h) [
  | inl less ↦ omega (arith, signed_arith)
  | inr equal ↦ equal.1
]

by_second : (o : ℤ) (l : List Reading) → ((r : Reading) → Among l r → o ≡ r.offset.seconds) → items.Ascends l → Ascends (λ r. r.second) l
by_second o [] own up = tt
by_second o (r ∷ l) own up = (
  λ q h. earlier_second r q (sym (own r (among-first r l)) ∙ own q (among-rest r q l h)) (up.0 q h),
  by_second o l (λ q h. own q (among-rest r q l h)) up.1,
)

pub both_agree : BothRulesAgree
both_agree s z last now agree stretch =
    let up = rises-filter is_earlier earlier-order (is_by now) (fires_after s z last) (rises-filter is_earlier earlier-order (is_after last) (fires s z) (fires-ascend s z)) in
    let offsets : (r : Reading) → Among (fires_between s z last now) r → shown_offset z (second_of last) ≡ r.offset.seconds =
    λ r h. offset_is s z last now r agree stretch (fired s z last now r h) in
    same_lists (λ (d : Due). d.second) (dues_between s z last now) (map as_due (fires_between s z last now))
    (ascends-filter (λ (d : Due). d.second) (is_due_by now) (dues_after s z last)
    (ascends-filter (λ (d : Due). d.second) (is_due_after last) (dues s z) (dues-ascend s (clock_of z))))
    (ascends-map (λ (d : Due). d.second) as_due (fires_between s z last now)
    (by_second (shown_offset z (second_of last)) (fires_between s z last now) offsets up))
    (λ d h. due-fired s z last now d agree stretch h)
    (λ d h. fired-due s z last now d agree stretch h)
