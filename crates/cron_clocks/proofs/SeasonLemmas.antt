-- The seasons of a year, and the year of a second.
use Rattle.std.proofs.Common.{◌≡◌, ℕ, suc, ◌+◌, ◌-◌, ◌*◌, ◌/◌, ◌<◌, ◌≤◌, min, inl, inr, ℤ, pos, ◌+ℤ◌, ◌-ℤ◌, ◌≤ℤ◌, ◌<ℤ◌, unsigned_abs, FitsSigned, w64, to_z, of_z, to_z-of_z, refl, sym, arith}
use Rattle.std.proofs.lemmas.Bool.{cases_lt}
use Rattle.std.proofs.lemmas.Int.{by_lt_z}
use Rattle.jiff_core.specs.Calendar.{days_in_year}
use Rattle.jiff_core.specs.March.{march_days}
use Rattle.jiff_core.specs.declared.Offset.{Offset}
use Rattle.jiff_core.proofs.CalendarLemmas.{days_from_civil-day_count, days_in_year_bounds}
use Rattle.jiff_core.proofs.MarchLemmas.{day_count-early}
use Rattle.jiff_core.proofs.SignedLemmas.{signed_arith}
use Rattle.jiff_tz.specs.declared.posix.TimeZone.{TimeZone}
use Rattle.jiff_tz.specs.PosixRule.{first_day}
use Rattle.cron_moments.specs.Civil.{days_in_range, seconds_in_range, years_in_range}
use Rattle.jiff_core.specs.Timestamp.{nanos_of_seconds}
use Rattle.jiff_tz.specs.declared.timezone.TimeZone.TheVariants.{Posix}
use Rattle.cron_clocks.specs.Clocks.{IsKeptUpTo}
use Rattle.cron_clocks.specs.Seasons.{AreOrdered, IsSeasonBounds, IsSeason, IsYearAt, IsYearOf, TellsOne}
use Rattle.cron_clocks.specs.Spans.{year_end}
use Rattle.cron_clocks.specs.Transitions.{common_year, week, year_start}
use Rattle.cron_clocks.proofs.RuleYears.{first_day-next}
use Rattle.cron_clocks.proofs.SpanLemmas.{as_number}

-- ---- seconds of a year, as numbers

pub kept_down : (z : ℤ) → week ≤ℤ z → z ≤ℤ common_year
    → pos (unsigned_abs (to_z w64 (of_z w64 (to_z w64 (of_z w64 z) -ℤ pos 187_200)))) ≡ z -ℤ pos 187_200
kept_down z low high =
    let fits : FitsSigned w64 z = omega (arith, signed_arith) in
    let fits_too : FitsSigned w64 (z -ℤ pos 187_200) = omega (arith, signed_arith) in
    rw (to_z-of_z fits, to_z-of_z fits_too) (sym (as_number (z -ℤ pos 187_200) (omega (arith, signed_arith))))

pub kept_up : (z : ℤ) → week ≤ℤ z → z ≤ℤ common_year
    → pos (unsigned_abs (to_z w64 (of_z w64 (to_z w64 (of_z w64 z) +ℤ pos 187_200)))) ≡ z +ℤ pos 187_200
kept_up z low high =
    let fits : FitsSigned w64 z = omega (arith, signed_arith) in
    let fits_too : FitsSigned w64 (z +ℤ pos 187_200) = omega (arith, signed_arith) in
    rw (to_z-of_z fits, to_z-of_z fits_too) (sym (as_number (z +ℤ pos 187_200) (omega (arith, signed_arith))))

-- ---- the year of a second

march_days_few : (k : ℕ) → k < years_in_range → march_days (11_969 + k) ≡ 4_371_587 + (1461 * k + 1) / 4
march_days_few k h = omega arith

pub first_of : (k : ℕ) → k < years_in_range → first_day (pos (1970 + k)) ≡ pos ((1461 * k + 1) / 4)
first_of k h =
    let e : pos (1970 + k) +ℤ pos 10000 ≡ pos (suc (11_969 + k)) = omega (arith, signed_arith) in
    omega (
      arith,
      signed_arith,
      march_days_few k h,
      days_from_civil-day_count (pos (1970 + k)) 1 1,
      day_count-early (pos (1970 + k)) (11_969 + k) 1 1 e (omega arith) (omega arith) (omega arith),
    )

-- a day of one of these years comes before the next
day_high : (day k : ℕ) → day < days_in_range → k ≡ (4 * day + 2) / 1461 → pos day <ℤ (first_day (pos (1970 + k)) +ℤ pos (days_in_year (pos (1970 + k))))
day_high day k h e =
    elim (cases_lt k 130) [
      | inl lt ↦ let next = first_day-next (pos (1970 + k)) (pos (1970 + (k + 1))) (omega (arith, signed_arith), omega (arith, signed_arith))
          (omega (arith, signed_arith)) in
          let later = first_of (k + 1) (omega arith) in
          omega (arith, signed_arith)
      | inr ge ↦ let first = first_of k (omega arith) in
          let length = days_in_year_bounds (pos (1970 + k)) in
          omega (arith, signed_arith)
    ]

pub year_has : (n k : ℕ) → n < seconds_in_range → k ≡ (4 * (n / 86_400) + 2) / 1461 → IsYearAt (pos (1970 + k)) n
year_has n k h e =
    let first = first_of k (omega arith) in
    let high = day_high (n / 86_400) k (omega arith) e in
    record {
      in_range = h;
      year = (omega (arith, signed_arith), omega (arith, signed_arith));
      low = omega (arith, signed_arith);
      high = omega (arith, signed_arith);
    }

pub year_at : (n k : ℕ) → n < seconds_in_range → k ≡ (4 * (n / 86_400) + 2) / 1461 → IsYearOf ((1461 * k + 1) / 4 * 86_400) n
year_at n k h e =
    let first = first_of k (omega arith) in
    record {
      number = pos (1970 + k);
      low_year = omega (arith, signed_arith);
      high_year = omega (arith, signed_arith);
      from = omega (arith, signed_arith);
      has = year_has n k h e;
      room = omega arith;
    }

-- ---- the seasons of a year

module _ (rule : TimeZone) (a b e f : ℕ) (outer inner : Offset) (season_bounds : IsSeasonBounds rule a b e f outer inner) (order : AreOrdered a b e f)
    (first n : ℕ) (of : IsYearOf first n) where
  abbrev y : ℤ
  y = of.number

  -- a second of the year before, and one of the next
  before_it : (k : ℕ) → k < seconds_in_range → k < first → first ≤ k + 31_536_000
      → IsYearAt (y -ℤ pos 1) k × ((year_start (y -ℤ pos 1) +ℤ pos 31_536_000) ≤ℤ pos first)
  before_it k h less near =
      let from = of.from in
      let low = of.low_year in
      let high = of.high_year in
      let length = days_in_year_bounds (y -ℤ pos 1) in
      let starts = first_day-next (y -ℤ pos 1) y (omega (arith, signed_arith), omega (arith, signed_arith)) (omega (arith, signed_arith)) in (
        record {
          in_range = h;
          year = (omega (arith, signed_arith), omega (arith, signed_arith));
          low = omega (arith, signed_arith);
          high = omega (arith, signed_arith);
        },
        omega (arith, signed_arith),
      )

  after_it : (k : ℕ) → k < seconds_in_range → year_end y ≤ℤ pos k → k < first + 63_072_000
      → IsYearAt (y +ℤ pos 1) k × (pos (first + 31_536_000) ≤ℤ year_start (y +ℤ pos 1))
  after_it k h more near =
      let from = of.from in
      let low = of.low_year in
      let high = of.high_year in
      let length = days_in_year_bounds y in
      let next = days_in_year_bounds (y +ℤ pos 1) in
      let starts = first_day-next y (y +ℤ pos 1) of.has.year refl in (
        record {
          in_range = h;
          year = (omega (arith, signed_arith), omega (arith, signed_arith));
          low = omega (arith, signed_arith);
          high = omega (arith, signed_arith);
        },
        omega (arith, signed_arith),
      )

  in_it : (k : ℕ) → k < seconds_in_range → first ≤ k → pos k <ℤ year_end y → IsYearAt y k
  in_it k h low high =
      let from = of.from in
      record { in_range = h; year = of.has.year; low = omega (arith, signed_arith); high = high }

  short : (k : ℕ) → k < first + 31_536_000 → pos k <ℤ year_end y
  short k h =
      let from = of.from in
      let length = days_in_year_bounds y in
      omega (arith, signed_arith)

  tells_early : (k : ℕ) → first + f - 31_536_000 ≤ k → k < first + a → TellsOne rule k outer
  tells_early k low high =
      let from = of.from in
      let room = of.room in
      let one = order.one in
      let apart = order.apart in
      let other = order.other in
      let end = order.high in
      elim (cases_lt k first) [
        | inl less ↦ let last = before_it k (omega arith) less (omega arith) in
            let starts = last.1 in
            season_bounds.after (y -ℤ pos 1) k last.0 (omega (arith, signed_arith))
        | inr more ↦ season_bounds.before y k (in_it k (omega arith) more (short k (omega arith))) (omega (arith, signed_arith))
      ]

  tells_between : (k : ℕ) → first + b ≤ k → k < first + e → TellsOne rule k inner
  tells_between k low high =
      let from = of.from in
      let room = of.room in
      let other = order.other in
      let end = order.high in
      season_bounds.between y k (in_it k (omega arith) (omega arith) (short k (omega arith))) (omega (arith, signed_arith)) (omega (arith, signed_arith))

  tells_late : (k : ℕ) → k < seconds_in_range → first + f ≤ k → k < first + a + 31_536_000 → TellsOne rule k outer
  tells_late k h low high =
      let from = of.from in
      let one = order.one in
      let apart = order.apart in
      let other = order.other in
      let end = order.high in
      by_lt_z (pos k) (year_end y)
      (λ less. season_bounds.after y k (in_it k h (omega arith) less) (omega (arith, signed_arith)))
      (λ more. let next = after_it k h more (omega arith) in
      let starts = next.1 in
      season_bounds.before (y +ℤ pos 1) k next.0 (omega (arith, signed_arith)))

  pub early : n < first + a → IsSeason rule n (first + f - 31_536_000) (first + a) outer
  early less =
      let room = of.room in
      let one = order.one in
      let apart = order.apart in
      let other = order.other in
      let end = order.high in
      let from = of.from in
      let low = of.has.low in
      record { low = omega (arith, signed_arith); high = less; range = omega arith; tells = tells_early }

  pub between : first + b ≤ n → n < first + e → IsSeason rule n (first + b) (first + e) inner
  between low high =
      let room = of.room in
      let other = order.other in
      let end = order.high in
      record { low = low; high = high; range = omega arith; tells = tells_between }

  pub late : first + f ≤ n → IsSeason rule n (first + f) (min (first + a + 31_536_000) 4_133_980_800) outer
  late low =
      let start = order.low in
      let in_range = of.has.in_range in
      let from = of.from in
      let high = of.has.high in
      let length = days_in_year_bounds y in
      record {
        low = low;
        high = omega (arith, signed_arith);
        range = omega arith;
        tells = λ k from to. tells_late k (omega arith) from (omega arith);
      }

-- ---- the clock of a season

pub kept_of : (rule : TimeZone) (n : ℤ) (m first end : ℕ) (o : Offset) → pos m ≡ n → IsSeason rule m first end o
    → IsKeptUpTo (Posix rule) n end o.seconds
kept_of rule n m first end o at season =
    let low = season.low in
    let high = season.high in
    record {
      later = omega (arith, signed_arith);
      shown = λ k from before.
          let number : k ≡ pos (unsigned_abs k) = as_number k (omega (arith, signed_arith)) in
          let told = season.tells (unsigned_abs k) (omega (arith, signed_arith)) (omega (arith, signed_arith)) in
          told.shown (nanos_of_seconds k) (omega (arith, signed_arith));
    }
