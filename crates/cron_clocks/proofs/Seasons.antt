-- What a clock of a rule shows in a year, and at the instants around it.
use Rattle.std.proofs.Common.{◌≡◌, ℤ, pos, ◌+ℤ◌, ◌-ℤ◌, ◌≤ℤ◌, ◌<ℤ◌, refl, arith}
use Rattle.std.proofs.lemmas.Int.{by_lt_z}
use Rattle.jiff_core.specs.Calendar.{IsYear, IsWithin}
use Rattle.jiff_core.specs.Timestamp.{IsOffsetSeconds, nanos_of_seconds}
use Rattle.jiff_core.proofs.CalendarLemmas.{days_in_year_bounds}
use Rattle.jiff_core.proofs.SignedLemmas.{signed_arith}
use Rattle.jiff_tz.specs.Year.{year_of_nanos}
use Rattle.cron_clocks.specs.Transitions.{year_start, week, common_year}
use Rattle.cron_clocks.proofs.RuleYears.{first_day-next, year_of_nanos-is}

-- in the year y a clock shows one offset from one transition to the next, and before and after them the other
pub record Season (shows : ℤ → ℤ) (outer inner y : ℤ) : Type 0 where
  pub first : ℤ
  pub second : ℤ
  pub low : (year_start y +ℤ week) ≤ℤ first
  pub apart : (first +ℤ week) ≤ℤ second
  pub high : (second +ℤ week) ≤ℤ (year_start y +ℤ common_year)
  pub before : (n : ℤ) → year_of_nanos (nanos_of_seconds n) ≡ y → n <ℤ (first -ℤ outer) → shows n ≡ outer
  pub between : (n : ℤ) → year_of_nanos (nanos_of_seconds n) ≡ y → (first -ℤ outer) ≤ℤ n → n <ℤ (second -ℤ inner) → shows n ≡ inner
  pub after : (n : ℤ) → year_of_nanos (nanos_of_seconds n) ≡ y → (second -ℤ inner) ≤ℤ n → shows n ≡ outer

-- the instants that a civil second can have
abbrev pub IsNear : ℤ → ℤ → Type 0
IsNear c n = ((c -ℤ pos 93_599) ≤ℤ n) × (n ≤ℤ (c +ℤ pos 93_599))

-- a civil second far from the first and the last one of jiff
abbrev pub IsFarInside : ℤ → Type 0
IsFarInside a = IsWithin 10_000_000_000 a

-- around the civil second c a clock shows one offset from one transition to the next, and before and after them the other
pub record IsAround (shows : ℤ → ℤ) (outer inner c first second : ℤ) : Type 0 where
  pub first_in : IsFarInside first
  pub second_in : IsFarInside second
  pub apart : (first +ℤ week) ≤ℤ second
  pub before : (n : ℤ) → IsNear c n → n <ℤ (first -ℤ outer) → shows n ≡ outer
  pub between : (n : ℤ) → (first -ℤ outer) ≤ℤ n → n <ℤ (second -ℤ inner) → shows n ≡ inner
  pub after : (n : ℤ) → IsNear c n → (second -ℤ inner) ≤ℤ n → shows n ≡ outer

module _ (shows : ℤ → ℤ) (outer inner : ℤ) (outer_in : IsOffsetSeconds outer) (inner_in : IsOffsetSeconds inner)
    (seasons : (y : ℤ) → IsYear y → Season shows outer inner y)
    (last y next : ℤ) (last_year : IsYear last) (year : IsYear y) (next_year : IsYear next)
    (e : y ≡ last +ℤ pos 1) (f : next ≡ y +ℤ pos 1)
    (c : ℤ) (c_in : IsWithin 5_000_000_000 c) (from : year_start y ≤ℤ c) (to : c <ℤ year_start next) where
  year_before : (n : ℤ) → IsNear c n → n <ℤ year_start y → shows n ≡ outer
  year_before n near early =
      let season = seasons last last_year in
      let length = days_in_year_bounds last in
      let starts = first_day-next last y last_year e in
      let high = season.high in
      season.after n (year_of_nanos-is last y n last_year e (omega (arith, signed_arith)) early) (omega (arith, signed_arith))

  year_after : (n : ℤ) → IsNear c n → year_start next ≤ℤ n → shows n ≡ outer
  year_after n near late =
      let season = seasons next next_year in
      let low = season.low in
      let length = days_in_year_bounds next in
      let starts = first_day-next next (next +ℤ pos 1) next_year refl in
      season.before n (year_of_nanos-is next (next +ℤ pos 1) n next_year refl late (omega (arith, signed_arith))) (omega (arith, signed_arith))

  shows_before : (n : ℤ) → IsNear c n → n <ℤ ((seasons y year).first -ℤ outer) → shows n ≡ outer
  shows_before n near early =
      let season = seasons y year in
      let apart = season.apart in
      let high = season.high in
      let length = days_in_year_bounds y in
      let starts = first_day-next y next year f in
      by_lt_z n (year_start y) (year_before n near) (λ low. season.before n (year_of_nanos-is y next n year f low (omega (arith, signed_arith))) early)

  shows_between : (n : ℤ) → ((seasons y year).first -ℤ outer) ≤ℤ n → n <ℤ ((seasons y year).second -ℤ inner) → shows n ≡ inner
  shows_between n low high =
      let season = seasons y year in
      let start = season.low in
      let end = season.high in
      let length = days_in_year_bounds y in
      let starts = first_day-next y next year f in
      season.between n (year_of_nanos-is y next n year f (omega (arith, signed_arith)) (omega (arith, signed_arith))) low high

  shows_after : (n : ℤ) → IsNear c n → ((seasons y year).second -ℤ inner) ≤ℤ n → shows n ≡ outer
  shows_after n near late =
      let season = seasons y year in
      let apart = season.apart in
      let low = season.low in
      by_lt_z n (year_start next) (λ high. season.after n (year_of_nanos-is y next n year f (omega (arith, signed_arith)) high) late) (year_after n near)

  pub around : IsAround shows outer inner c (seasons y year).first (seasons y year).second
  around =
      let season = seasons y year in
      let low = season.low in
      let apart = season.apart in
      let high = season.high in
      let length = days_in_year_bounds y in
      let starts = first_day-next y next year f in
      record {
        first_in = (omega (arith, signed_arith), omega (arith, signed_arith));
        second_in = (omega (arith, signed_arith), omega (arith, signed_arith));
        apart = apart;
        before = shows_before;
        between = shows_between;
        after = shows_after;
      }
