-- Laws of due fires.
use Rattle.std.proofs.Common.{◌≡◌, ℕ, ◌<◌, ◌≤◌, ℤ, pos, ◌-ℤ◌, ◌≤ℤ◌, [], ◌∷◌, ◌++◌, nat_lt, Some, inl, inr, refl, sym, ap, ◌∙◌, arith}
use Rattle.std.specs.Prelude.{slice_get}
use Rattle.std.proofs.lemmas.Bool.{cases_lt}
use Rattle.jiff_core.proofs.SignedLemmas.{signed_arith}
use Rattle.jiff_tz.specs.declared.timezone.TimeZone.{TimeZone}
use Rattle.cron_time.specs.Seconds.{Seconds, is_match, matching_seconds}
use Rattle.cron_moments.specs.Civil.{seconds_in_range}
use Rattle.cron_moments.specs.Readings.{Reading, readings}
use Rattle.cron_moments.specs.Readings as moments
use Rattle.cron_time.proofs.PlaceLemmas.{nothing_in_nil}
use Rattle.cron_time.proofs.TimelineLemmas.{readings-second}
use Rattle.cron_clocks.specs.Clocks.{HasInstant, LookupsAgree}
use Rattle.cron_dues.specs.Clock.Due.{Clock, Due, clock_of, due, due_instant, instant, shows}
use Rattle.cron_dues.specs.Clock.Dues.{dues}
use Rattle.cron_dues.specs.Clock.FirstDues.{IsDue}
use Rattle.cron_dues.specs.DueLaws.{IsFirstReading, FiresAreTheMatches, NominalSecondsAscend, DueInstantsNeverDecrease, FirstReadingsAreDue, GapsArePassedOver}
use Rattle.cron_dues.proofs.DueLemmas.{as_natural, due_ascends, due_by, due_is, fire_due}
use Rattle.cron_time.proofs.ListLemmas.{map-back}
use Rattle.cron_dues.specs.Ascent.{Ascends}
use Rattle.cron_dues.proofs.ListLemmas.{ascends-at}
use Rattle.cron_dues.proofs.MemberLemmas.{all-ascend, own-of, sets-match}
use Rattle.cron_dues.proofs.WayLemmas.{back}

pub fires_are_matches : FiresAreTheMatches
fires_are_matches s clock = map-back (due clock) (λ d. d.second) (matching_seconds s) (λ c. refl)

pub dues-ascend : (s : Seconds) (clock : Clock) → Ascends (λ (d : Due). d.second) (dues s clock)
dues-ascend s clock = all-ascend (matching_seconds s) (is_match s) clock (sets-match s)

pub nominal_ascend : NominalSecondsAscend
nominal_ascend s clock i j d e less here there = ascends-at (λ (x : Due). x.second) (dues s clock) i j d e (dues-ascend s clock) less here there

pub due_no_later : (s : Seconds) (clock : Clock) (d e : Due) → IsDue s clock d → IsDue s clock e → d.second ≤ e.second → instant d ≤ℤ instant e
due_no_later s clock d e here there le =
    let one = own-of (matching_seconds s) (is_match s) clock (sets-match s) d here in
    let other = own-of (matching_seconds s) (is_match s) clock (sets-match s) e there in
    let first : instant d ≡ due_instant clock d.second = ap instant one.own ∙ fire_due clock d.second in
    let second : instant e ≡ due_instant clock e.second = ap instant other.own ∙ fire_due clock e.second in
    let ascends = due_ascends clock d.second e.second (omega (arith, signed_arith)) in
    rw (first, second) ascends

pub never_decrease : DueInstantsNeverDecrease
never_decrease s clock i j d e le here there = elim (cases_lt i j) [
  | inl less ↦ let up = nominal_ascend s clock i j d e less here there in due_no_later s clock d e (i, here) (j, there) (omega arith)
  | inr ge ↦ let same : i ≡ j = omega arith in
      let equal : Some d ≡ Some e = sym here ∙ ap (slice_get (dues s clock)) same ∙ there in
      let one : d ≡ e = cc in due_no_later s clock d e (i, here) (j, there) (rw one (omega arith))
]

-- ---- readings

-- at the instant of a reading the clock shows its second
shown_at : (z : TimeZone) (c i : ℕ) (r : Reading) → LookupsAgree z → c < seconds_in_range → slice_get (readings z c) i ≡ Some r
    → shows (clock_of z) (moments.instant r) ≡ pos c
shown_at z c i r agree range e =
    let shown = agree.readings_shown c i r range e in
    let second = readings-second z c i r e in
    omega (arith, signed_arith)

no_later : (z : TimeZone) (c i : ℕ) (r : Reading) → LookupsAgree z → c < seconds_in_range → slice_get (readings z c) i ≡ Some r
    → due_instant (clock_of z) c ≤ℤ moments.instant r
no_later z c i r agree range e =
    let shown = shown_at z c i r agree range e in
    due_by (clock_of z) c (moments.instant r) (omega (arith, signed_arith))

-- where the clock isn't past the second at its due instant it shows it then
shown_then : (z : TimeZone) (c : ℕ) → (due (clock_of z) c).past ≡ 0 → shows (clock_of z) (due_instant (clock_of z) c) ≡ pos c
shown_then z c none =
    let there = (due_is (clock_of z) c).reached in
    let past = as_natural (shows (clock_of z) (due_instant (clock_of z) c) -ℤ pos c) (omega (arith, signed_arith)) in
    omega (arith, signed_arith)

first_read : (z : TimeZone) (c : ℕ) → LookupsAgree z → c < seconds_in_range → (due (clock_of z) c).past ≡ 0 → IsFirstReading z c (due_instant (clock_of z) c)
first_read z c agree range none = record {
  has = agree.shown_read c (due_instant (clock_of z) c) range (shown_then z c none);
  first = λ i r e. no_later z c i r agree range e;
}

read_first : (z : TimeZone) (c : ℕ) → LookupsAgree z → c < seconds_in_range → IsFirstReading z c (due_instant (clock_of z) c) → (due (clock_of z) c).past ≡ 0
read_first z c agree range first =
    let has = first.has in
    let there = shown_at z c has.place has.at_place agree range has.here in
    let shown : shows (clock_of z) (due_instant (clock_of z) c) ≡ pos c = ap (shows (clock_of z)) (sym has.is) ∙ there in
    back c 0 (shows (clock_of z) (due_instant (clock_of z) c)) (omega (arith, signed_arith))

pub first_readings : FirstReadingsAreDue
first_readings z c agree range = (first_read z c agree range, read_first z c agree range)

nothing_read : (z : TimeZone) (c : ℕ) (n : ℤ) → readings z c ≡ [] → HasInstant (readings z c) n → ⊥
nothing_read z c n none has = nothing_in_nil has.place has.at_place (rw none at has.here)

pub gaps_passed : GapsArePassedOver
gaps_passed z c agree range none = elim (cases_lt 0 (due (clock_of z) c).past) [
  | inl more ↦ more
  | inr le ↦ absurd (nothing_read z c (due_instant (clock_of z) c) none (agree.shown_read c (due_instant (clock_of z) c) range (shown_then z c (omega arith))))
]
