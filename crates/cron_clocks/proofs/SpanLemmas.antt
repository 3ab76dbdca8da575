-- What a rule tells of the civil seconds between its transitions.
use Rattle.std.proofs.Common.{◌≡◌, ℕ, ◌<◌, inl, inr, ℤ, pos, negsuc, ◌+ℤ◌, ◌-ℤ◌, ◌*ℤ◌, ◌≤ℤ◌, ◌<ℤ◌, int_le, int_lt, Option, Some, None, refl, sym, ap, subst, ◌∙◌, arith, rules, unsigned_abs, FitsSigned, w64}
use Rattle.jiff_core.specs.Calendar.{IsYear, IsWithin}
use Rattle.jiff_core.specs.DateTime.{civil_nanos}
use Rattle.jiff_core.specs.Timestamp.{nanos_of_seconds}
use Rattle.jiff_core.specs.declared.Offset.{Offset}
use Rattle.jiff_core.proofs.CalendarLemmas.{days_in_year_bounds}
use Rattle.jiff_core.proofs.SignedLemmas.{signed_arith}
use Rattle.jiff_tz.specs.declared.ambiguous.AmbiguousOffset.{AmbiguousOffset}
use Rattle.jiff_tz.specs.declared.posix.Dst.{Dst}
use Rattle.jiff_tz.specs.declared.posix.TimeZone.{TimeZone}
use Rattle.jiff_tz.specs.declared.posix.DayTime.{DayTime}
use Rattle.jiff_tz.specs.PosixRule.{in_span, in_window, first_day, first_nanosecond, last_nanosecond, nanos_per_day, clamp_to, match_some, rule_day, rule_nanos, civil_min, civil_max, saturating_add, saturating_sub, shift_between, ambiguous_by, ambiguous_at, ambiguous_at_by}
use Rattle.jiff_tz.proofs.PosixLemmas.{ambiguous_at-some}
use Rattle.cron_moments.specs.Civil.{civil, seconds_in_range}
use Rattle.cron_moments.proofs.CivilLemmas.{civil_nanos-civil}
use Rattle.cron_clocks.proofs.RuleAgreement.{InYear, in_year}
use Rattle.cron_clocks.proofs.RuleTransitions.{clamp_inside}
use Rattle.cron_clocks.proofs.RuleYears.{first_day-next, year_of_nanos-is}
use Rattle.cron_clocks.proofs.Windows.{le_yes, le_no, lt_yes, lt_no}
use Rattle.cron_clocks.specs.Spans.{IsAtSecond, IsFirstFrom, IsNarrowed, IsToldAlike, IsUnparted, PartsAlike, year_end}
use Rattle.cron_clocks.specs.Steady.{IsToldBy}
use Rattle.std.proofs.lemmas.Int.{by_lt_z}

-- ---- moments on one side of each transition are told alike

abbrev OnOneSide : ℤ → ℤ → ℤ → Type 0
OnOneSide transition n m = (int_le transition n ≡ int_le transition m) × (int_lt n transition ≡ int_lt m transition)

told_alike : (std dst : Offset) (start end n m : ℤ) → OnOneSide start n m → OnOneSide end n m
    → OnOneSide (saturating_add start (shift_between std dst)) n m → OnOneSide (saturating_sub end (shift_between std dst)) n m
    → ambiguous_by std dst (start, end) n ≡ ambiguous_by std dst (start, end) m
told_alike std dst start end n m a b e f = rw (a.0, a.1, b.0, b.1, e.0, e.1, f.0, f.1) refl

-- ---- civil seconds with no transition between them are on one side of it

on_one_side : (moment transition first end k c : ℤ) → IsFirstFrom moment transition → IsUnparted first end transition
    → first ≤ℤ k → k <ℤ end → first ≤ℤ c → c <ℤ end → OnOneSide moment (nanos_of_seconds k) (nanos_of_seconds c)
on_one_side moment transition first end k c (after, by) (inl before) k_low k_high c_low c_high =
    let k_past : moment ≤ℤ nanos_of_seconds k = omega (arith, signed_arith) in
    let c_past : moment ≤ℤ nanos_of_seconds c = omega (arith, signed_arith) in
    (le_yes _ _ k_past ∙ sym (le_yes _ _ c_past), lt_no _ _ k_past ∙ sym (lt_no _ _ c_past))
on_one_side moment transition first end k c (after, by) (inr late) k_low k_high c_low c_high =
    let k_short : nanos_of_seconds k <ℤ moment = omega (arith, signed_arith) in
    let c_short : nanos_of_seconds c <ℤ moment = omega (arith, signed_arith) in
    (le_no _ _ k_short ∙ sym (le_no _ _ c_short), lt_yes _ _ k_short ∙ sym (lt_yes _ _ c_short))

-- ---- moments are in the order of their seconds

pub first_from : (last moment second : ℤ) → IsAtSecond last moment second → IsFirstFrom moment second
first_from last moment second (inl there) = let at = there.0 in (omega (arith, signed_arith), omega (arith, signed_arith))
first_from last moment second (inr before) = let at = before.0 in (omega (arith, signed_arith), omega (arith, signed_arith))

le_first : (moment second n : ℤ) → IsFirstFrom moment second → int_le moment (nanos_of_seconds n) ≡ int_le second n
le_first moment second n (after, by) =
    by_lt_z n second
    (λ less. le_no moment (nanos_of_seconds n) (omega (arith, signed_arith)) ∙ sym (le_no second n less))
    (λ more. le_yes moment (nanos_of_seconds n) (omega (arith, signed_arith)) ∙ sym (le_yes second n more))

lt_first : (moment second n : ℤ) → IsFirstFrom moment second → int_lt (nanos_of_seconds n) moment ≡ int_lt n second
lt_first moment second n (after, by) =
    by_lt_z n second
    (λ less. lt_yes (nanos_of_seconds n) moment (omega (arith, signed_arith)) ∙ sym (lt_yes n second less))
    (λ more. lt_no (nanos_of_seconds n) moment (omega (arith, signed_arith)) ∙ sym (lt_no n second more))

before_in_time : (last a b s t : ℤ) → IsAtSecond last a s → IsAtSecond last b t → t <ℤ s → b <ℤ a
before_in_time last a b s t (inl (e, h)) (inl (f, k)) less = omega (arith, signed_arith)
before_in_time last a b s t (inl (e, h)) (inr (f, k)) less = absurd (omega (arith, signed_arith))
before_in_time last a b s t (inr (e, h)) (inl (f, k)) less = omega (arith, signed_arith)
before_in_time last a b s t (inr (e, h)) (inr (f, k)) less = absurd (omega (arith, signed_arith))

by_in_time : (last a b s t : ℤ) → IsAtSecond last a s → IsAtSecond last b t → s ≤ℤ t → a ≤ℤ b
by_in_time last a b s t (inl (e, h)) (inl (f, k)) more = omega (arith, signed_arith)
by_in_time last a b s t (inl (e, h)) (inr (f, k)) more = omega (arith, signed_arith)
by_in_time last a b s t (inr (e, h)) (inl (f, k)) more = absurd (omega (arith, signed_arith))
by_in_time last a b s t (inr (e, h)) (inr (f, k)) more = omega (arith, signed_arith)

same_order : (last a b s t : ℤ) → IsAtSecond last a s → IsAtSecond last b t → int_le a b ≡ int_le s t
same_order last a b s t one other =
    by_lt_z t s
    (λ less. le_no _ _ (before_in_time last a b s t one other less) ∙ sym (le_no _ _ less))
    (λ more. le_yes _ _ (by_in_time last a b s t one other more) ∙ sym (le_yes _ _ more))

-- ---- the other end of a gap or a fold

abbrev InHand : ℤ → Type 0
InHand transition = ((pos 0 -ℤ pos 100_000_000) ≤ℤ transition) × (transition ≤ℤ pos 5_000_000_000)

moved_on : (std dst : Offset) (moment transition : ℤ) → InHand transition → IsFirstFrom moment transition
    → IsFirstFrom (saturating_add moment (shift_between std dst)) (transition +ℤ (dst.seconds -ℤ std.seconds))
moved_on std dst moment transition near (after, by) =
    let std_in = std.in_range in
    let dst_in = dst.in_range in
    let stays = clamp_inside civil_min civil_max (moment +ℤ shift_between std dst) (omega (arith, signed_arith)) (omega (arith, signed_arith)) in
    rw stays (omega (arith, signed_arith), omega (arith, signed_arith))

moved_back : (std dst : Offset) (moment transition : ℤ) → InHand transition → IsFirstFrom moment transition
    → IsFirstFrom (saturating_sub moment (shift_between std dst)) (transition -ℤ (dst.seconds -ℤ std.seconds))
moved_back std dst moment transition near (after, by) =
    let std_in = std.in_range in
    let dst_in = dst.in_range in
    let stays = clamp_inside civil_min civil_max (moment -ℤ shift_between std dst) (omega (arith, signed_arith)) (omega (arith, signed_arith)) in
    rw stays (omega (arith, signed_arith), omega (arith, signed_arith))

-- ---- moments part the civil seconds as their seconds do

span_alike : (from to first end n : ℤ) → IsFirstFrom from first → IsFirstFrom to end → in_span from to (nanos_of_seconds n) ≡ in_span first end n
span_alike from to first end n one other = rw (le_first from first n one, lt_first to end n other) refl

window_alike : (last from to start end n : ℤ) → IsAtSecond last from start → IsAtSecond last to end
    → in_window (from, to) (nanos_of_seconds n) ≡ in_window (start, end) n
window_alike last from to start end n one other =
    let first = first_from last from start one in
    let second = first_from last to end other in
    rw (
      same_order last from to start end one other,
      le_first from start n first,
      lt_first to end n second,
      le_first to end n second,
      lt_first from start n first,
    ) refl

parts_alike : (std dst : Offset) (last from to start end n : ℤ) → InHand start → InHand end → IsAtSecond last from start → IsAtSecond last to end
    → PartsAlike std dst (from, to) start end (dst.seconds -ℤ std.seconds) n
parts_alike std dst last from to start end n near near_end one other =
    let first = first_from last from start one in
    let second = first_from last to end other in
    let on = moved_on std dst from start near first in
    let back = moved_back std dst to end near_end second in
    record {
      window = window_alike last from to start end n one other;
      starts_ahead = span_alike _ _ _ _ n first on;
      starts_behind = span_alike _ _ _ _ n on first;
      ends_ahead = span_alike _ _ _ _ n back second;
      ends_behind = span_alike _ _ _ _ n second back;
    }

-- ---- the year of a civil second

pub same_year : (k : ℕ) (y : ℤ) → k < seconds_in_range → IsYear y → (first_day y *ℤ pos 86_400) ≤ℤ pos k → pos k <ℤ year_end y → (civil k).date.year ≡ y
same_year k y h year low high =
    let place = in_year k h in
    let next = first_day-next y (y +ℤ pos 1) year refl in
    sym (year_of_nanos-is (civil k).date.year ((civil k).date.year +ℤ pos 1) (pos k) (civil k).date.year_in refl place.from place.to)
    ∙ year_of_nanos-is y (y +ℤ pos 1) (pos k) year refl low (omega (arith, signed_arith))

-- ---- where the transition of a year lies

row_at : (y : ℤ) (transition : DayTime) (day first end second : ℤ) → rule_day y transition.date ≡ Some day
    → first ≡ first_day y *ℤ pos 86_400 → end ≡ year_end y → second ≡ day *ℤ pos 86_400 +ℤ transition.time
    → clamp_to (nanos_of_seconds first) (nanos_of_seconds end -ℤ pos 1) (nanos_of_seconds second) ≡ rule_nanos y transition (pos 0)
unfolding rule_nanos
row_at y transition day first end second is e f g =
    let a : nanos_of_seconds first ≡ first_nanosecond y = omega (arith, signed_arith) in
    let b : nanos_of_seconds end -ℤ pos 1 ≡ last_nanosecond y = omega (arith, signed_arith) in
    let m : nanos_of_seconds second ≡ day *ℤ nanos_per_day +ℤ nanos_of_seconds (transition.time -ℤ pos 0) = omega (arith, signed_arith) in
    ap (λ (v : ℤ). clamp_to v (nanos_of_seconds end -ℤ pos 1) (nanos_of_seconds second)) a
    ∙ ap (λ (v : ℤ). clamp_to (first_nanosecond y) v (nanos_of_seconds second)) b
    ∙ ap (λ (v : ℤ). clamp_to (first_nanosecond y) (last_nanosecond y) v) m
    ∙ sym (ap (λ (o : Option ℤ). match_some o (last_nanosecond y) (λ (k : ℤ). clamp_to (first_nanosecond y) (last_nanosecond y)
    (k *ℤ nanos_per_day +ℤ nanos_of_seconds (transition.time -ℤ pos 0)))) is)

pub transition_found : (y : ℤ) (transition : DayTime) (day first end second kept : ℤ) → rule_day y transition.date ≡ Some day
    → first ≡ first_day y *ℤ pos 86_400 → end ≡ year_end y
    → IsAtSecond end (clamp_to (nanos_of_seconds first) (nanos_of_seconds end -ℤ pos 1) (nanos_of_seconds second)) kept
    → second ≡ day *ℤ pos 86_400 +ℤ transition.time → IsAtSecond (year_end y) (rule_nanos y transition (pos 0)) kept
transition_found y transition day first end second kept is e f found g =
    subst (λ (v : ℤ). IsAtSecond v (rule_nanos y transition (pos 0)) kept) f
    (subst (λ (v : ℤ). IsAtSecond end v kept) (row_at y transition day first end second is e f g) found)

last_there : (y end : ℤ) → end ≡ year_end y → IsAtSecond (year_end y) (last_nanosecond y) end
last_there y end e = inr (omega (arith, signed_arith), e)

-- a day that the year lacks is its end
pub transition_lacking : (y : ℤ) (transition : DayTime) (end : ℤ) → rule_day y transition.date ≡ None → end ≡ year_end y → IsAtSecond (year_end y) (rule_nanos y transition (pos 0)) end
unfolding rule_nanos
transition_lacking y transition end none e =
    subst (λ (o : Option ℤ). IsAtSecond (year_end y) (match_some o (last_nanosecond y) (λ (k : ℤ). clamp_to (first_nanosecond y) (last_nanosecond y)
    (k *ℤ nanos_per_day +ℤ nanos_of_seconds (transition.time -ℤ pos 0)))) end) (sym none) (last_there y end e)

-- ---- a span that no transition parts

pub fits_back : (transition saving : ℤ) → IsWithin 400_000_000_000 transition → IsWithin 200_000 saving → FitsSigned w64 (transition -ℤ saving)
fits_back transition saving a b = search rules

-- a number that isn't negative
pub as_number : (z : ℤ) → pos 0 ≤ℤ z → z ≡ pos (unsigned_abs z)
as_number (pos n) h = refl
as_number (negsuc n) h = absurd (omega (arith, signed_arith))

pub narrowed : (first end from to transition same : ℤ) → IsUnparted first end transition → IsNarrowed first end from to → transition ≡ same → IsUnparted from to same
narrowed first end from to transition same (inl before) within e = inl (omega (arith, signed_arith))
narrowed first end from to transition same (inr late) within e = inr (omega (arith, signed_arith))

module _ (rule : TimeZone) (d : Dst) (some : rule.dst ≡ Some d) (c : ℕ) (h : c < seconds_in_range) (y : ℤ) (here : (civil c).date.year ≡ y) where
  abbrev at_start : ℤ
  at_start = rule_nanos y d.rule.start (pos 0)

  abbrev at_end : ℤ
  at_end = rule_nanos y d.rule.end (pos 0)

  abbrev saving : ℤ
  saving = d.offset.seconds -ℤ rule.std_offset.seconds

  -- the civil second lies in its year
  year_in : IsYear y
  year_in = subst IsYear here (civil c).date.year_in

  place : InYear c y
  place = subst (InYear c) here (in_year c h)

  year_low : (first_day y *ℤ pos 86_400) ≤ℤ pos c
  year_low = place.from

  year_high : pos c <ℤ year_end y
  year_high =
      let to = place.to in
      let next = first_day-next y (y +ℤ pos 1) year_in refl in
      omega (arith, signed_arith)

  in_hand : (transition : ℤ) → (first_day y *ℤ pos 86_400) ≤ℤ transition → transition ≤ℤ year_end y → InHand transition
  in_hand transition low high =
      let from = year_low in
      let to = year_high in
      let length = days_in_year_bounds y in
      (omega (arith, signed_arith), omega (arith, signed_arith))

  -- what the rule tells of a civil second of the year
  told_in : (k : ℕ) → k < seconds_in_range → (civil k).date.year ≡ y
      → ambiguous_at rule (civil k) ≡ ambiguous_by rule.std_offset d.offset (at_start, at_end) (nanos_of_seconds (pos k))
  told_in k low same =
      let moment : civil_nanos (civil k) ≡ nanos_of_seconds (pos k) = civil_nanos-civil k (omega arith) ∙ omega (arith, signed_arith) in
      ambiguous_at-some rule d (civil k) some
      ∙ ap (λ v. ambiguous_by rule.std_offset d.offset (rule_nanos v d.rule.start (pos 0), rule_nanos v d.rule.end (pos 0)) (civil_nanos (civil k))) same
      ∙ ap (λ n. ambiguous_by rule.std_offset d.offset (at_start, at_end) n) moment

  -- where the transitions lie tells the offsets of the civil second
  pub told_among : (start end : ℤ) (a b : Option Offset)
      → IsAtSecond (year_end y) at_start start → (first_day y *ℤ pos 86_400) ≤ℤ start → start ≤ℤ year_end y
      → IsAtSecond (year_end y) at_end end → (first_day y *ℤ pos 86_400) ≤ℤ end → end ≤ℤ year_end y
      → ((w : ℤ × ℤ) → PartsAlike rule.std_offset d.offset w start end saving (pos c)
      → IsToldBy (ambiguous_by rule.std_offset d.offset w (nanos_of_seconds (pos c))) a b)
      → IsToldBy (ambiguous_at rule (civil c)) a b
  told_among start end a b starts start_low start_high ends end_low end_high told =
      let alike = parts_alike rule.std_offset d.offset (year_end y) at_start at_end start end (pos c)
      (in_hand start start_low start_high) (in_hand end end_low end_high) starts ends in
      rw (told_in c h here) (told (at_start, at_end) alike)

  -- and what it tells of it
  pub told_as : (start end : ℤ) (a : AmbiguousOffset)
      → IsAtSecond (year_end y) at_start start → (first_day y *ℤ pos 86_400) ≤ℤ start → start ≤ℤ year_end y
      → IsAtSecond (year_end y) at_end end → (first_day y *ℤ pos 86_400) ≤ℤ end → end ≤ℤ year_end y
      → ((w : ℤ × ℤ) → PartsAlike rule.std_offset d.offset w start end saving (pos c)
      → ambiguous_by rule.std_offset d.offset w (nanos_of_seconds (pos c)) ≡ a)
      → ambiguous_at rule (civil c) ≡ a
  told_as start end a starts start_low start_high ends end_low end_high told =
      let alike = parts_alike rule.std_offset d.offset (year_end y) at_start at_end start end (pos c)
      (in_hand start start_low start_high) (in_hand end end_low end_high) starts ends in
      told_in c h here ∙ told (at_start, at_end) alike

  module _ (first last start end : ℤ) (range : IsNarrowed (pos 0) (pos seconds_in_range) first last) (low : first ≤ℤ pos c) (high : pos c <ℤ last)
      (from_year : IsUnparted first last (first_day y *ℤ pos 86_400)) (to_year : IsUnparted first last (year_end y)) where
    after_new_year : (k : ℤ) → first ≤ℤ k → (first_day y *ℤ pos 86_400) ≤ℤ k
    after_new_year k above = elim from_year [
      | inl before ↦ omega (arith, signed_arith)
      | inr late ↦ let from = year_low in absurd (omega (arith, signed_arith))
    ]

    before_year_end : (k : ℤ) → k <ℤ last → k <ℤ year_end y
    before_year_end k below = elim to_year [
      | inl before ↦ let to = year_high in absurd (omega (arith, signed_arith))
      | inr late ↦ omega (arith, signed_arith)
    ]

    in_range : (k : ℕ) → pos k <ℤ last → k < seconds_in_range
    in_range k below = let end = range.1 in omega (arith, signed_arith)

    in_same_year : (k : ℕ) → first ≤ℤ pos k → pos k <ℤ last → (civil k).date.year ≡ y
    in_same_year k above below = same_year k y (in_range k below) year_in (after_new_year (pos k) above) (before_year_end (pos k) below)

    pub unparted_alike : IsFirstFrom at_start start → (first_day y *ℤ pos 86_400) ≤ℤ start → start ≤ℤ year_end y
        → IsFirstFrom at_end end → (first_day y *ℤ pos 86_400) ≤ℤ end → end ≤ℤ year_end y
        → IsUnparted first last start → IsUnparted first last (start +ℤ saving) → IsUnparted first last end → IsUnparted first last (end -ℤ saving)
        → IsToldAlike rule c first last
    unparted_alike starts start_low start_high ends end_low end_high one two three four k above below =
        let near = in_hand start start_low start_high in
        let near_end = in_hand end end_low end_high in
        told_in k (in_range k below) (in_same_year k above below)
        ∙ told_alike rule.std_offset d.offset at_start at_end (nanos_of_seconds (pos k)) (nanos_of_seconds (pos c))
        (on_one_side at_start start first last (pos k) (pos c) starts one above below low high)
        (on_one_side at_end end first last (pos k) (pos c) ends three above below low high)
        (on_one_side _ (start +ℤ saving) first last (pos k) (pos c) (moved_on rule.std_offset d.offset at_start start near starts) two above below low high)
        (on_one_side _ (end -ℤ saving) first last (pos k) (pos c) (moved_back rule.std_offset d.offset at_end end near_end ends) four above below low high)
        ∙ sym (told_in c h here)

-- a rule with no saving tells the same of each
pub plain_alike : (rule : TimeZone) (c : ℕ) (first last : ℤ) → rule.dst ≡ None → IsToldAlike rule c first last
plain_alike rule c first last none k above below =
    ap (λ (o : Option Dst). ambiguous_at_by rule.std_offset o (civil k)) none ∙ sym (ap (λ (o : Option Dst). ambiguous_at_by rule.std_offset o (civil c)) none)
