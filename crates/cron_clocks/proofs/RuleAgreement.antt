-- In a rule whose transitions lie apart the look-ups agree.
use Rattle.std.proofs.Common.{◌≡◌, ℕ, ◌/◌, ◌<◌, false, ◌⊎◌, inl, inr, ℤ, pos, ◌+ℤ◌, ◌-ℤ◌, ◌≤ℤ◌, ◌<ℤ◌, int_lt, Option, Some, None, refl, sym, ap, subst, ◌∙◌, arith, rules}
use Rattle.std.proofs.lemmas.Int.{by_lt_z}
use Rattle.jiff_core.specs.Calendar.{IsYear}
use Rattle.jiff_core.specs.Date.{epoch_day}
use Rattle.jiff_core.specs.DateTime.{civil_nanos}
use Rattle.jiff_core.specs.Timestamp.{IsOffsetSeconds, nanos_of_seconds}
use Rattle.jiff_core.specs.declared.civil.date.Date.{Date}
use Rattle.jiff_core.proofs.CalendarLemmas.{days_from_civil-day_count, day_count-end, day_of_year_bound, days_in_year_bounds}
use Rattle.jiff_core.proofs.DateLemmas.{civil as civil_date, epoch_day-ordinal}
use Rattle.jiff_core.proofs.SignedLemmas.{signed_arith}
use Rattle.jiff_tz.specs.declared.ambiguous.AmbiguousOffset.{AmbiguousOffset}
use Rattle.jiff_tz.specs.declared.posix.Dst.{Dst}
use Rattle.jiff_tz.specs.declared.posix.TimeZone.{TimeZone}
use Rattle.jiff_tz.specs.declared.timezone.TimeZone.TheVariants.{Posix}
use Rattle.jiff_tz.specs.PosixRule.{first_day, rule_nanos, ambiguous_by, ambiguous_at_by}
use Rattle.jiff_tz.specs.Zone.{ambiguous_at}
use Rattle.jiff_tz.proofs.PosixLemmas.{ambiguous_at-some}
use Rattle.cron_moments.specs.Civil.{civil, days_in_range, seconds_in_range}
use Rattle.cron_moments.proofs.CivilLemmas.{epoch_day-civil, civil_nanos-civil, date-civil}
use Rattle.cron_moments.proofs.DateLemmas.{low_at}
use Rattle.cron_clocks.specs.Clocks.{LookupsAgree, shown_offset}
use Rattle.cron_clocks.specs.Transitions.{TransitionsAreApart, AlwaysInOrder, TransitionsAt, year_start}
use Rattle.cron_clocks.proofs.RuleSeasons.{saving_within, saving_across, shown_plain, shows_either}
use Rattle.cron_clocks.proofs.RuleTold.{told_within, told_across}
use Rattle.cron_clocks.proofs.RuleYears.{first_day-next}
use Rattle.cron_clocks.proofs.Seasons.{Season, IsAround, around}
use Rattle.cron_clocks.proofs.Windows.{lt_no}
use Rattle.cron_clocks.proofs.ToldLemmas.{IsTold, Holds, agree_where_told}

-- ---- the year of a civil second

pub record InYear (c : ℕ) (y : ℤ) : Type 0 where
  pub low_year : pos 1970 ≤ℤ y
  pub high_year : y <ℤ pos 9999
  pub from : year_start y ≤ℤ pos c
  pub to : pos c <ℤ year_start (y +ℤ pos 1)

last_first_day : pos days_in_range ≤ℤ first_day (pos 9999)
last_first_day =
    let end = days_from_civil-day_count (pos 10000) 1 1 in
    let count = day_count-end in
    let length = days_in_year_bounds (pos 9999) in
    let next = first_day-next (pos 9999) (pos 10000) (search rules) refl in
    omega (arith, signed_arith)

not_last_year : (y : ℤ) → IsYear y → first_day y ≤ℤ pos 47_846 → y <ℤ pos 9999
not_last_year y year low =
    by_lt_z y (pos 9999) (λ lt. lt) (λ ge. let e : y ≡ pos 9999 = omega (arith, signed_arith) in
    let day = ap first_day e in
    let late = last_first_day in
    absurd (omega (arith, signed_arith)))

date_in_year : (c : ℕ) (d : Date) → c < seconds_in_range → epoch_day d ≡ pos (c / 86_400) → pos 1970 ≤ℤ d.year → InYear c d.year
date_in_year c d h day low =
    let place = epoch_day-ordinal d in
    let bound = day_of_year_bound d.year d.month d.day (civil_date d) in
    let first = d.day_in in
    let next = first_day-next d.year (d.year +ℤ pos 1) d.year_in refl in
    let one = first.0 in
    record {
      low_year = low;
      high_year = not_last_year d.year d.year_in (omega (arith, signed_arith));
      from = omega (arith, signed_arith);
      to = omega (arith, signed_arith);
    }

pub in_year : (c : ℕ) → c < seconds_in_range → InYear c (civil c).date.year
in_year c h =
    let low : pos 1970 ≤ℤ (civil c).date.year = rw (date-civil c) (low_at (c / 86_400) (omega arith)) in
    date_in_year c (civil c).date h (epoch_day-civil c (omega arith)) low

-- ---- what a rule tells of a civil second

no_offset : IsOffsetSeconds (pos 0)
no_offset = (search rules, search rules)

swap : {A B : Type 0} → A ⊎ B → B ⊎ A
swap (inl a) = inr a
swap (inr b) = inl b

one_of : (x a b : ℤ) → b ≡ a → (x ≡ a) ⊎ (x ≡ b) → x ≡ a
one_of x a b e (inl h) = h
one_of x a b e (inr h) = h ∙ e

module _ (rule : TimeZone) (d : Dst) (some : rule.dst ≡ Some d) (c : ℕ) (h : c < seconds_in_range) where
  abbrev y : ℤ
  y = (civil c).date.year

  abbrev passes : ℤ → Type 0
  passes = Holds (Posix rule) c

  abbrev told_by : ℤ → ℤ → AmbiguousOffset
  told_by start end = ambiguous_by rule.std_offset d.offset (nanos_of_seconds start, nanos_of_seconds end) (nanos_of_seconds (pos c))

  -- what jiff tells, by the transitions of the year
  told_is : (start end : ℤ) → TransitionsAt d.rule.start y start → TransitionsAt d.rule.end y end → ambiguous_at (Posix rule) (civil c) ≡ told_by start end
  unfolding ambiguous_at
  told_is start end first second =
      let at_start : rule_nanos y d.rule.start (pos 0) ≡ nanos_of_seconds start = first (pos 0) no_offset ∙ omega (arith, signed_arith) in
      let at_end : rule_nanos y d.rule.end (pos 0) ≡ nanos_of_seconds end = second (pos 0) no_offset ∙ omega (arith, signed_arith) in
      let at_civil : civil_nanos (civil c) ≡ nanos_of_seconds (pos c) = civil_nanos-civil c (omega arith) ∙ omega (arith, signed_arith) in
      ambiguous_at-some rule d (civil c) some
      ∙ ap (λ k. ambiguous_by rule.std_offset d.offset (k, rule_nanos y d.rule.end (pos 0)) (civil_nanos (civil c))) at_start
      ∙ ap (λ k. ambiguous_by rule.std_offset d.offset (nanos_of_seconds start, k) (civil_nanos (civil c))) at_end
      ∙ ap (λ k. ambiguous_by rule.std_offset d.offset (nanos_of_seconds start, nanos_of_seconds end) k) at_civil

  module _ (outer inner : ℤ) (outer_in : IsOffsetSeconds outer) (inner_in : IsOffsetSeconds inner)
      (seasons : (k : ℤ) → IsYear k → Season (shown_offset (Posix rule)) outer inner k) where
    around_second : IsAround (shown_offset (Posix rule)) outer inner (pos c) (seasons y (civil c).date.year_in).first (seasons y (civil c).date.year_in).second
    around_second =
        let place = in_year c h in
        let low_year = place.low_year in
        let high_year = place.high_year in
        let last_year : IsYear (y -ℤ pos 1) = (omega (arith, signed_arith), omega (arith, signed_arith)) in
        let next_year : IsYear (y +ℤ pos 1) = (omega (arith, signed_arith), omega (arith, signed_arith)) in
        around (shown_offset (Posix rule)) outer inner outer_in inner_in seasons (y -ℤ pos 1) y (y +ℤ pos 1) last_year (civil c).date.year_in next_year
        (omega (arith, signed_arith)) refl (pos c) (omega (arith, signed_arith), omega (arith, signed_arith)) place.from place.to

  within_told : ¬ (d.offset.seconds ≡ rule.std_offset.seconds) → AlwaysInOrder d.rule.start d.rule.end → IsTold passes (ambiguous_at (Posix rule) (civil c))
  unfolding saving_within
  within_told other transitions =
      let transition = transitions y (civil c).date.year_in in
      let here = around_second rule.std_offset.seconds d.offset.seconds rule.std_offset.in_range d.offset.in_range (saving_within rule d some transitions) in
      subst (IsTold passes) (sym (told_is transition.first transition.second transition.first_transitions transition.second_transitions))
      (told_within (shown_offset (Posix rule)) (pos c) transition.first transition.second rule.std_offset.seconds d.offset.seconds
      rule.std_offset.in_range d.offset.in_range here other (shows_either rule d some) rule.std_offset d.offset refl refl)

  across_told : ¬ (rule.std_offset.seconds ≡ d.offset.seconds) → AlwaysInOrder d.rule.end d.rule.start → IsTold passes (ambiguous_at (Posix rule) (civil c))
  unfolding saving_across
  across_told other transitions =
      let transition = transitions y (civil c).date.year_in in
      let here = around_second d.offset.seconds rule.std_offset.seconds d.offset.in_range rule.std_offset.in_range (saving_across rule d some transitions) in
      subst (IsTold passes) (sym (told_is transition.second transition.first transition.second_transitions transition.first_transitions))
      (told_across (shown_offset (Posix rule)) (pos c) transition.first transition.second d.offset.seconds rule.std_offset.seconds
      d.offset.in_range rule.std_offset.in_range here other (λ n. swap (shows_either rule d some n)) rule.std_offset d.offset refl refl)

  -- a saving that saves nothing
  same_told : d.offset.seconds ≡ rule.std_offset.seconds → IsTold passes (ambiguous_at (Posix rule) (civil c))
  unfolding ambiguous_at
  same_told same =
      let std : ℤ = rule.std_offset.seconds in
      let shown = λ (n : ℤ). one_of (shown_offset (Posix rule) n) std d.offset.seconds same (shows_either rule d some n) in
      let first : int_lt d.offset.seconds std ≡ false = rw same (lt_no std std (omega (arith, signed_arith))) in
      let second : int_lt std d.offset.seconds ≡ false = rw same (lt_no std std (omega (arith, signed_arith))) in
      subst (IsTold passes) (sym (ambiguous_at-some rule d (civil c) some))
      (rw (first, second) (shown (pos c -ℤ std), λ x k. sym k ∙ shown (pos c -ℤ x)))

  told : TransitionsAreApart d → IsTold passes (ambiguous_at (Posix rule) (civil c))
  told transitions =
      by_lt_z d.offset.seconds rule.std_offset.seconds
      (λ less. by_order transitions (λ same. omega (arith, signed_arith)))
      (λ least. by_lt_z rule.std_offset.seconds d.offset.seconds
      (λ more. by_order transitions (λ same. omega (arith, signed_arith)))
      (λ most. same_told (omega (arith, signed_arith))))
    where
      by_order : TransitionsAreApart d → ¬ (d.offset.seconds ≡ rule.std_offset.seconds) → IsTold passes (ambiguous_at (Posix rule) (civil c))
      by_order (inl order) other = within_told other order
      by_order (inr order) other = across_told (λ same. other (sym same)) order

pub apart_agree : (rule : TimeZone) (d : Dst) → rule.dst ≡ Some d → TransitionsAreApart d → LookupsAgree (Posix rule)
apart_agree rule d some transitions = agree_where_told (Posix rule) (λ c h. told rule d some c h transitions)

-- a rule with no saving
plain_told : (rule : TimeZone) (c : ℕ) → rule.dst ≡ None → IsTold (Holds (Posix rule) c) (ambiguous_at (Posix rule) (civil c))
unfolding ambiguous_at
plain_told rule c none =
    let shown = λ (n : ℤ). shown_plain rule (nanos_of_seconds n) none in
    subst (IsTold (Holds (Posix rule) c)) (sym (ap (λ (o : Option Dst). ambiguous_at_by rule.std_offset o (civil c)) none))
    (shown (pos c -ℤ rule.std_offset.seconds), λ x k. sym k ∙ shown (pos c -ℤ x))

pub plain_agree : (rule : TimeZone) → rule.dst ≡ None → LookupsAgree (Posix rule)
plain_agree rule none = agree_where_told (Posix rule) (λ c h. plain_told rule c none)
