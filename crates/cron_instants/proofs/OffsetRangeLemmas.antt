-- The offsets of zones without a table, and those of a rule.
use Rattle.std.proofs.Common.{◌≡◌, ℕ, zero, suc, ℤ, pos, ◌≤ℤ◌, Bool, true, false, not, int_lt, cond, [], ◌∷◌, Option, Some, None, ◌⊎◌, inl, inr, refl, sym, ap, subst, ◌∙◌, arith}
use Rattle.std.specs.Prelude.{slice_get}
use Rattle.std.specs.Ordering.{int_eq}
use Rattle.jiff_core.proofs.SignedLemmas.{signed_arith}
use Rattle.jiff_core.specs.declared.Offset.{Offset}
use Rattle.jiff_core.specs.DateTime.{civil_nanos}
use Rattle.jiff_tz.specs.declared.ambiguous.AmbiguousOffset.{AmbiguousOffset}
use Rattle.jiff_tz.specs.declared.ambiguous.AmbiguousOffset.TheVariants.{Unambiguous, Gap, Fold}
use Rattle.jiff_tz.specs.declared.posix.Dst.{Dst}
use Rattle.jiff_tz.specs.declared.posix.TimeZone.{TimeZone as Rule}
use Rattle.jiff_tz.specs.declared.timezone.TimeZone.{TimeZone}
use Rattle.jiff_tz.specs.declared.timezone.TimeZone.TheVariants.{UTC, Unknown, Fixed, Posix}
use Rattle.jiff_tz.specs.PosixRule.{in_window, in_span, saturating_add, saturating_sub, shift_between, rule_nanos, ambiguous_ahead, ambiguous_behind, ambiguous_by, ambiguous_at_by}
use Rattle.jiff_tz.specs.Zone.{ambiguous_at, utc_offset}
use Rattle.jiff_tz.proofs.PosixLemmas.{ambiguous_at-some}
use Rattle.cron_moments.specs.Civil.{civil}
use Rattle.cron_moments.specs.Readings.{Reading, reading, readings, readings_by}
use Rattle.cron_moments.proofs.ReadingLemmas.{utc_once, fixed_once}
use Rattle.cron_time.proofs.PlaceLemmas.{nothing_in_nil}
use Rattle.cron_instants.specs.OffsetRange.{HasOffsets, IsAmongOffsets, IsRead, IsOffsetRange}
use Rattle.cron_instants.specs.declared.offset_range.OffsetRange.{OffsetRange}

-- each reading that this tells is at one offset or the other
abbrev IsEither : Offset → Offset → AmbiguousOffset → Type 0
IsEither s d a = (c i : ℕ) (r : Reading) → slice_get (readings_by c a) i ≡ Some r → (r.offset ≡ s) ⊎ (r.offset ≡ d)

one_of : (s d : Offset) (q : Reading) (i : ℕ) (r : Reading) → (q.offset ≡ s) ⊎ (q.offset ≡ d) → slice_get (q ∷ []) i ≡ Some r
    → (r.offset ≡ s) ⊎ (r.offset ≡ d)
one_of s d q zero r h e =
    let same : r ≡ q = cc in
    let offsets : r.offset ≡ q.offset = ap (λ (v : Reading). v.offset) same in
    elim h [ inl first ↦ inl (offsets ∙ first) | inr second ↦ inr (offsets ∙ second) ]
one_of s d q (suc i) r h e = absurd (nothing_in_nil i r e)

two_of : (s d : Offset) (p q : Reading) (i : ℕ) (r : Reading) → (p.offset ≡ s) ⊎ (p.offset ≡ d) → (q.offset ≡ s) ⊎ (q.offset ≡ d)
    → slice_get (p ∷ q ∷ []) i ≡ Some r → (r.offset ≡ s) ⊎ (r.offset ≡ d)
two_of s d p q zero r h g e = one_of s d p zero r h e
two_of s d p q (suc i) r h g e = one_of s d q i r g e

either_one : (s d o : Offset) → (o ≡ s) ⊎ (o ≡ d) → IsEither s d (Unambiguous o)
either_one s d o h c i r e = one_of s d (reading c o) i r h e

either_gap : (s d b a : Offset) → IsEither s d (Gap b a)
either_gap s d b a c i r e = absurd (nothing_in_nil i r e)

either_fold : (s d b a : Offset) → (b ≡ s) ⊎ (b ≡ d) → (a ≡ s) ⊎ (a ≡ d) → IsEither s d (Fold b a)
either_fold s d b a h g c i r e = by_test (int_eq b.seconds a.seconds) e
  where
    by_test : (t : Bool) → slice_get (cond t (reading c b ∷ []) (reading c b ∷ reading c a ∷ [])) i ≡ Some r → (r.offset ≡ s) ⊎ (r.offset ≡ d)
    by_test true k = one_of s d (reading c b) i r h k
    by_test false k = two_of s d (reading c b) (reading c a) i r h g k

-- where the saving is behind
either_behind : (s d : Offset) (saved folded skipped : Bool)
    → IsEither s d (cond saved (Unambiguous d) (cond folded (Fold s d) (cond skipped (Gap d s) (Unambiguous s))))
either_behind s d true folded skipped = either_one s d d (inr refl)
either_behind s d false true skipped = either_fold s d s d (inl refl) (inr refl)
either_behind s d false false true = either_gap s d d s
either_behind s d false false false = either_one s d s (inl refl)

-- where it is ahead
either_ahead : (s d : Offset) (plain skipped folded : Bool)
    → IsEither s d (cond plain (Unambiguous s) (cond skipped (Gap s d) (cond folded (Fold d s) (Unambiguous d))))
either_ahead s d true skipped folded = either_one s d s (inl refl)
either_ahead s d false true folded = either_gap s d s d
either_ahead s d false false true = either_fold s d d s (inr refl) (inl refl)
either_ahead s d false false false = either_one s d d (inr refl)

either_way : (s d : Offset) (behind ahead : Bool) (x y : AmbiguousOffset) → IsEither s d x → IsEither s d y
    → IsEither s d (cond behind x (cond ahead y (Unambiguous s)))
either_way s d true ahead x y h g = h
either_way s d false true x y h g = g
either_way s d false false x y h g = either_one s d s (inl refl)

either_by : (s d : Offset) (w : ℤ × ℤ) (at : ℤ) → IsEither s d (ambiguous_by s d w at)
either_by s d w at =
    either_way s d (int_lt d.seconds s.seconds) (int_lt s.seconds d.seconds) (ambiguous_behind s d w at) (ambiguous_ahead s d w at)
    (either_behind s d (in_window w at) (in_span (saturating_add w.0 (shift_between s d)) w.0 at)
    (in_span w.1 (saturating_sub w.1 (shift_between s d)) at))
    (either_ahead s d (not (in_window w at)) (in_span w.0 (saturating_add w.0 (shift_between s d)) at)
    (in_span (saturating_sub w.1 (shift_between s d)) w.1 at))

-- from the start of the range on all offsets lie from the least to the greatest
pub offset_range_by : (z : TimeZone) (p : OffsetRange) → p.edge ≡ pos 0 → p.least ≤ℤ p.greatest → ((r : Reading) → IsRead z r → IsAmongOffsets p r.offset.seconds)
    → IsOffsetRange z p
offset_range_by z p start some all = record {
  some = some;
  ordered = λ q r h g less short. absurd (omega (arith, signed_arith));
  upto = λ q r h g short past. absurd (omega (arith, signed_arith));
  past = λ q r h g short past. absurd (omega (arith, signed_arith));
  among = λ r h past. all r h;
}

either_among : (p : OffsetRange) (s d o : Offset) → IsAmongOffsets p s.seconds → IsAmongOffsets p d.seconds → (o ≡ s) ⊎ (o ≡ d) → IsAmongOffsets p o.seconds
either_among p s d o one other (inl e) = subst (λ (x : Offset). IsAmongOffsets p x.seconds) (sym e) one
either_among p s d o one other (inr e) = subst (λ (x : Offset). IsAmongOffsets p x.seconds) (sym e) other

offset_range_either : (z : TimeZone) (p : OffsetRange) (s d : Offset) → p.edge ≡ pos 0 → IsAmongOffsets p s.seconds → IsAmongOffsets p d.seconds
    → ((k : ℕ) → IsEither s d (ambiguous_at z (civil k))) → IsOffsetRange z p
unfolding readings
offset_range_either z p s d start one other either =
    offset_range_by z p start (omega (arith, signed_arith, one.0, one.1))
    (λ r h. either_among p s d r.offset one other (either r.second r.second h.place r h.here))

offset_range_one : (z : TimeZone) (p : OffsetRange) (o : Offset) → p.edge ≡ pos 0 → p.least ≡ o.seconds → p.greatest ≡ o.seconds
    → ((k : ℕ) → ambiguous_at z (civil k) ≡ Unambiguous o) → IsOffsetRange z p
offset_range_one z p o start low high once =
    let here : IsAmongOffsets p o.seconds = (omega (arith, signed_arith), omega (arith, signed_arith)) in
    offset_range_either z p o o start here here (λ k. subst (IsEither o o) (sym (once k)) (either_one o o o (inl refl)))

pub offset_range_utc : (plain z : TimeZone) (p : OffsetRange) → plain ≡ z → (plain ≡ UTC) ⊎ (plain ≡ Unknown) → p.edge ≡ pos 0 → p.least ≡ pos 0
    → p.greatest ≡ pos 0 → IsOffsetRange z p
offset_range_utc plain z p e is start low high = offset_range_one z p utc_offset start low high (λ k. utc_once plain z (civil k) e is)

pub offset_range_fixed : (plain z : TimeZone) (p : OffsetRange) (o : Offset) → plain ≡ z → plain ≡ Fixed o → p.edge ≡ pos 0 → p.least ≡ o.seconds
    → p.greatest ≡ o.seconds
    → IsOffsetRange z p
offset_range_fixed plain z p o e is start low high = offset_range_one z p o start low high (λ k. fixed_once plain z o (civil k) e is)

rule_some : (r : Rule) (d : Dst) (k : ℕ) → r.dst ≡ Some d → IsEither r.std_offset d.offset (ambiguous_at (Posix r) (civil k))
unfolding ambiguous_at
rule_some r d k some = subst (IsEither r.std_offset d.offset) (sym (ambiguous_at-some r d (civil k) some))
    (either_by r.std_offset d.offset (rule_nanos (civil k).date.year d.rule.start (pos 0), rule_nanos (civil k).date.year d.rule.end (pos 0))
    (civil_nanos (civil k)))

rule_none : (r : Rule) (k : ℕ) → r.dst ≡ None → ambiguous_at (Posix r) (civil k) ≡ Unambiguous r.std_offset
unfolding ambiguous_at
rule_none r k none = ap (λ (o : Option Dst). ambiguous_at_by r.std_offset o (civil k)) none

-- what a rule tells is at one of its offsets
pub rule_among : (r : Rule) (p : OffsetRange) (o : Option Dst) → r.dst ≡ o → HasOffsets r p → (c i : ℕ) (q : Reading)
    → slice_get (readings (Posix r) c) i ≡ Some q → IsAmongOffsets p q.offset.seconds
unfolding readings
rule_among r p None is has c i q e = either_among p r.std_offset r.std_offset q.offset has.standard has.standard
    (subst (IsEither r.std_offset r.std_offset) (sym (rule_none r c is)) (either_one r.std_offset r.std_offset r.std_offset (inl refl)) c i q e)
rule_among r p (Some d) is has c i q e =
    either_among p r.std_offset d.offset q.offset has.standard (rw is at has.saving) (rule_some r d c is c i q e)

offset_range_rule_by : (r : Rule) (p : OffsetRange) → p.edge ≡ pos 0 → HasOffsets r p → IsOffsetRange (Posix r) p
offset_range_rule_by r p start has =
    offset_range_by (Posix r) p start (omega (arith, signed_arith, has.standard.0, has.standard.1)) (λ q h. rule_among r p r.dst refl has q.second h.place q h.here)

pub offset_range_rule : (plain z : TimeZone) (r : Rule) (p : OffsetRange) → plain ≡ z → plain ≡ Posix r → p.edge ≡ pos 0 → HasOffsets r p → IsOffsetRange z p
offset_range_rule plain z r p e is start has = subst (λ v. IsOffsetRange v p) (sym is ∙ e) (offset_range_rule_by r p start has)
