-- The first item while a clock keeps one offset.
use Rattle.std.proofs.Common.{◌≡◌, ℕ, zero, suc, ◌≤◌, [], ◌∷◌, ℤ, pos, ◌+ℤ◌, ◌-ℤ◌, ◌≤ℤ◌, ◌<ℤ◌, Option, Some, None, refl, sym, ap, subst, ◌∙◌, arith}
use Rattle.std.specs.Option.{IfSome}
use Rattle.std.specs.Prelude.{slice_get}
use Rattle.std.proofs.lemmas.Bool.{both_ways}
use Rattle.std.proofs.lemmas.Int.{by_lt_z}
use Rattle.jiff_core.proofs.SignedLemmas.{signed_arith}
use Rattle.jiff_core.specs.declared.Offset.{Offset}
use Rattle.jiff_tz.specs.declared.timezone.TimeZone.{TimeZone}
use Rattle.cron_units.specs.declared.way.Way.TheVariants.{Ahead}
use Rattle.cron_units.specs.Nearest.{IsNearest}
use Rattle.cron_time.specs.Seconds.{Seconds, is_match}
use Rattle.cron_moments.specs.Readings.{Reading, instant, reading, readings}
use Rattle.cron_time.proofs.PlaceLemmas.{nothing_in_nil}
use Rattle.cron_time.proofs.TimelineLemmas.{readings-second}
use Rattle.cron_clocks.specs.Clocks.{IsKeptUpTo, LookupsAgree}
use Rattle.cron_clocks.specs.declared.clock.Kept.{Kept}
use Rattle.cron_instants.specs.Beyond.{IsBest, Stands}
use Rattle.cron_instants.specs.Monotone.{IsInOrder}
use Rattle.cron_instants.specs.OffsetRange.{IsOnce, IsRead}
use Rattle.cron_instants.specs.Inner.Periods.{IsPeriod, IsReadFrom}
use Rattle.cron_instants.specs.Inner.Shown.{HasNone, IsFrom, IsItemIn}
use Rattle.cron_instants.proofs.AgreementLemmas.{same_offset, same_reading}
use Rattle.cron_seconds.proofs.SetLemmas.{match_in_range}
use Rattle.cron_instants.proofs.OrderLemmas.{before-not_less, before-not_shared}

is_read : (s : Seconds) (z : TimeZone) (r : Reading) → Stands s z r → IsRead z r
is_read s z r st = record { in_range = match_in_range s r.second st.matching; place = st.place; here = st.here }

-- where the look-ups agree, the time for which a clock keeps its offset is a period
pub period_kept : (z : TimeZone) (a : ℤ) (kept : Kept) → LookupsAgree z → IsKeptUpTo z a kept.end kept.offset.seconds → IsPeriod z a (pos kept.end) kept.offset
period_kept z a kept agree keeps = record {
  only = λ r h from to. sym (agree.readings_shown r.second h.place r h.in_range h.here) ∙ keeps.shown (instant r) from to;
  all = λ c range from to.
      let shown = keeps.shown (pos c -ℤ kept.offset.seconds) from to in
      let found = agree.shown_read c (pos c -ℤ kept.offset.seconds) range (omega (arith, signed_arith, shown)) in
      let q = found.at_place in
      let is = found.is in
      let second : q.second ≡ c = readings-second z c found.place q found.here in
      let offset : q.offset.seconds ≡ kept.offset.seconds = omega (arith, signed_arith, is, second) in
      let same = same_reading q (reading c kept.offset) second (same_offset q.offset kept.offset offset) in
      record { in_range = range; place = found.place; here = found.here ∙ ap Some same };
}

module _ (s : Seconds) (z : TimeZone) (a : ℤ) (kept : Kept) (period : IsPeriod z a (pos kept.end) kept.offset) (next : Option ℕ)
    (nearest : IsNearest Ahead (is_match s) (a +ℤ kept.offset.seconds) next) where
  offset_in : (q : Reading) → Stands s z q → a ≤ℤ instant q → instant q <ℤ pos kept.end → q.offset.seconds ≡ kept.offset.seconds
  offset_in q st from to = period.only q (is_read s z q st) from to

  -- no item of the period lies before the nearest match
  not_before : (n : ℕ) → next ≡ Some n → (q : Reading) → Stands s z q → a ≤ℤ instant q → instant q <ℤ pos kept.end → n ≤ q.second
  not_before n is q st from to =
      let found = rw is at nearest in
      let own = offset_in q st from to in
      by_lt_z (pos q.second) (pos n)
      (λ less. absurd (both_ways (is_match s q.second) (found.nearest q.second (omega (arith, signed_arith)) (omega (arith, signed_arith))) st.matching))
      (λ ge. omega (arith, signed_arith))

  pub best_in : (r : Reading) → IsItemIn kept next (Some r) → IsBest Ahead (IsFrom s z a) (Some r)
  best_in r item =
      let found = rw item.0 at nearest in
      let lies = found.lies in
      let offset : r.offset.seconds ≡ kept.offset.seconds = ap (λ (o : Offset). o.seconds) item.1 in
      let before = item.2 in
      let from : a ≤ℤ instant r = omega (arith, signed_arith) in
      let read = period.all r.second (match_in_range s r.second found.passes) (omega (arith, signed_arith)) (omega (arith, signed_arith)) in
      let own = subst (IsRead z) (same_reading (reading r.second kept.offset) r refl (sym item.1)) read in (
        (record { matching = found.passes; place = own.place; here = own.here }, from),
        λ p m. by_lt_z (instant r) (instant p)
            (λ more. before-not_less (instant p) p.second (instant r) r.second more)
            (λ le.
            let not_past = not_before r.second item.0 p m.0 m.1 (omega (arith, signed_arith)) in
            let other = offset_in p m.0 m.1 (omega (arith, signed_arith)) in
            before-not_shared (instant p) p.second (instant r) r.second (omega (arith, signed_arith)) not_past),
      )

  none_by : (o : Option ℕ) → next ≡ o → IfSome o (λ c. pos kept.end ≤ℤ (pos c -ℤ kept.offset.seconds)) → HasNone s z a (pos kept.end)
  none_by None is late = λ q st from to.
      let own = offset_in q st from to in
      let none = rw is at nearest in
      both_ways (is_match s q.second) (none q.second (omega (arith, signed_arith))) st.matching
  none_by (Some c) is late = λ q st from to.
      let own = offset_in q st from to in
      let not_past = not_before c is q st from to in
      omega (arith, signed_arith)

  pub none_in : IsItemIn kept next None → HasNone s z a (pos kept.end)
  none_in item = none_by next refl item

-- a civil second that is read once has no other reading
only_reading : (z : TimeZone) (n : ℕ) (o : Offset) (p : Reading) → IsOnce z (reading n o) → IsRead z p → p.second ≡ n → p ≡ reading n o
only_reading z n o p once h same =
    only h.place (ap (λ l. slice_get l h.place) (sym once) ∙ ap (λ c. slice_get (readings z c) h.place) (sym same) ∙ h.here)
  where
    only : (i : ℕ) → slice_get (reading n o ∷ []) i ≡ Some p → p ≡ reading n o
    only zero e = cc
    only (suc i) e = absurd (nothing_in_nil i p e)

-- from an instant on nothing is read before a civil second: the nearest match from that one on, if it is in order, is the first item
pub best_in_order : (s : Seconds) (z : TimeZone) (a from : ℤ) (n : ℕ) (o : Offset) → IsReadFrom z a from → IsNearest Ahead (is_match s) from (Some n) → IsInOrder z n o
    → a ≤ℤ (pos n -ℤ o.seconds) → IsBest Ahead (IsFrom s z a) (Some (reading n o))
best_in_order s z a from n o reads found order later = (
  (record { matching = found.passes; place = 0; here = ap (λ l. slice_get l 0) order.settled.once }, later),
  λ p m.
      let low = reads p (is_read s z p m.0) m.1 in
      by_lt_z (pos p.second) (pos n)
      (λ less. absurd (both_ways (is_match s p.second) (found.nearest p.second low (omega (arith, signed_arith))) m.0.matching))
      (λ ge. by_lt_z (pos n) (pos p.second)
      (λ more. before-not_less (instant p) p.second (pos n -ℤ o.seconds) n (order.ahead p (is_read s z p m.0) (omega (arith, signed_arith))))
      (λ le.
      let is = only_reading z n o p order.settled.once (is_read s z p m.0) (omega (arith, signed_arith)) in
      before-not_shared (instant p) p.second (pos n -ℤ o.seconds) n (ap instant is) (omega (arith, signed_arith)))),
)
