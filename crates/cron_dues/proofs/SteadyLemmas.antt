-- Up to the next transition, and to the end of its year, a clock keeps its offset.
use Rattle.std.proofs.Common.{◌≡◌, Bool, true, false, ◌&&◌, ◌⊎◌, inl, inr, ℤ, pos, neg_ℤ, ◌≤ℤ◌, ◌<ℤ◌, int_le, int_lt, Option, Some, None, refl, sym, ap, ◌∙◌, arith, cond}
use Rattle.std.specs.Prelude.{IfSome}
use Rattle.std.proofs.lemmas.Int.{by_lt_z}
use Rattle.jiff_core.proofs.SignedLemmas.{signed_arith}
use Rattle.jiff_tz.specs.declared.posix.Dst.{Dst}
use Rattle.jiff_tz.specs.declared.posix.TimeZone.{TimeZone as Rule}
use Rattle.jiff_tz.specs.PosixRule.{dst_at_by, in_window, match_some, next_at, next_by, offset_at, ordered, transition_of, utc_window}
use Rattle.jiff_tz.specs.Year.{year_of_nanos}
use Rattle.cron_clocks.proofs.Windows.{le_yes, le_no, lt_yes, lt_no}

-- ---- windows

-- the moment a doesn't come after n and up to k
abbrev IsApart : ℤ → ℤ → ℤ → Type 0
IsApart n k a = (a ≤ℤ n) ⊎ (k <ℤ a)

le_same : (a n k : ℤ) → n ≤ℤ k → IsApart n k a → int_le a k ≡ int_le a n
le_same a n k le (inl past) = le_yes a k (omega (arith, signed_arith)) ∙ sym (le_yes a n past)
le_same a n k le (inr ahead) = le_no a k ahead ∙ sym (le_no a n (omega (arith, signed_arith)))

lt_same : (a n k : ℤ) → n ≤ℤ k → IsApart n k a → int_lt k a ≡ int_lt n a
lt_same a n k le (inl past) = lt_no k a (omega (arith, signed_arith)) ∙ sym (lt_no n a past)
lt_same a n k le (inr ahead) = lt_yes k a ahead ∙ sym (lt_yes n a (omega (arith, signed_arith)))

window_same : (a b n k : ℤ) → n ≤ℤ k → IsApart n k a → IsApart n k b → in_window (a, b) k ≡ in_window (a, b) n
window_same a b n k le one other = rw (le_same a n k le one, lt_same b n k le other, le_same b n k le other, lt_same a n k le one) refl

-- the ends of a window are its earlier and its later end
apart_ordered : (a b n k : ℤ) → IsApart n k (ordered (a, b)).0 → IsApart n k (ordered (a, b)).1 → IsApart n k a × IsApart n k b
apart_ordered a b n k one other =
    by_lt_z b a
    (λ turned. let e : ordered (a, b) ≡ (b, a) = rw (le_no a b turned) refl in (rw e at other, rw e at one))
    (λ straight. let e : ordered (a, b) ≡ (a, b) = rw (le_yes a b straight) refl in (rw e at one, rw e at other))

ordered_le : (a b : ℤ) → (ordered (a, b)).0 ≤ℤ (ordered (a, b)).1
ordered_le a b =
    by_lt_z b a
    (λ turned. let e : ordered (a, b) ≡ (b, a) = rw (le_no a b turned) refl in rw e (omega (arith, signed_arith)))
    (λ straight. let e : ordered (a, b) ≡ (a, b) = rw (le_yes a b straight) refl in rw e straight)

-- ---- the next transition of a rule

abbrev pub lowest : ℤ
lowest = neg_ℤ (pos 377_705_023_201_000_000_000)

abbrev pub highest : ℤ
highest = pos 253_402_207_200_999_999_999

past_highest : (m n : ℤ) → lowest ≤ℤ n → n <ℤ m → (int_le lowest m && int_le m highest) ≡ false → highest <ℤ m
past_highest m n low less e =
    by_lt_z highest m (λ h. h)
    (λ le. absurd (clash (rw (le_yes lowest m (omega (arith, signed_arith)), le_yes m highest le) at e)))
  where
    clash : true ≡ false → ⊥
    clash e = cc

-- an instant before the transition at a moment, if that is an instant, comes before the moment
before_moment : (tz : Rule) (d : Dst) (w : ℤ × ℤ) (m n k : ℤ) → lowest ≤ℤ n → k ≤ℤ highest → n <ℤ m
    → IfSome (transition_of tz d w m) (λ t. k <ℤ t.0) → k <ℤ m
before_moment tz d w m n k low high less h = by (int_le lowest m && int_le m highest) refl
  where
    by : (b : Bool) → (int_le lowest m && int_le m highest) ≡ b → k <ℤ m
    by true e = rw e at h
    by false e = let past = past_highest m n low less e in omega (arith, signed_arith)

window_kept : (tz : Rule) (d : Dst) (y n k : ℤ) → n ≤ℤ k → lowest ≤ℤ n → k ≤ℤ highest → IfSome (next_by tz d y n) (λ t. k <ℤ t.0)
    → in_window (utc_window d y tz.std_offset) k ≡ in_window (utc_window d y tz.std_offset) n
window_kept tz d y n k le low high h =
    let w : ℤ × ℤ = utc_window d y tz.std_offset in
    let order = ordered_le w.0 w.1 in
    by_lt_z n (ordered w).0
    (λ early.
    let h1 = rw (lt_yes n (ordered w).0 early) at h in
    let first = before_moment tz d w (ordered w).0 n k low high early h1 in
    let both = apart_ordered w.0 w.1 n k (inr first) (inr (omega (arith, signed_arith))) in
    window_same w.0 w.1 n k le both.0 both.1)
    (λ from. by_lt_z n (ordered w).1
    (λ inside.
    let h1 = rw (lt_no n (ordered w).0 from, lt_yes n (ordered w).1 inside) at h in
    let last = before_moment tz d w (ordered w).1 n k low high inside h1 in
    let both = apart_ordered w.0 w.1 n k (inl from) (inr last) in
    window_same w.0 w.1 n k le both.0 both.1)
    (λ past.
    let both = apart_ordered w.0 w.1 n k (inl from) (inl past) in
    window_same w.0 w.1 n k le both.0 both.1))

dst_kept : (tz : Rule) (o : Option Dst) (n k : ℤ) → n ≤ℤ k → lowest ≤ℤ n → k ≤ℤ highest → year_of_nanos k ≡ year_of_nanos n
    → IfSome (match_some o None (λ d. next_by tz d (year_of_nanos n) n)) (λ t. k <ℤ t.0)
    → dst_at_by tz.std_offset o k ≡ dst_at_by tz.std_offset o n
dst_kept tz None n k le low high year h = refl
dst_kept tz (Some d) n k le low high year h =
    ap (λ y. cond (in_window (utc_window d y tz.std_offset) k) (Some d) None) year
    ∙ ap (λ b. cond b (Some d) None) (window_kept tz d (year_of_nanos n) n k le low high h)

pub rule_kept : (tz : Rule) (n k : ℤ) → n ≤ℤ k → lowest ≤ℤ n → k ≤ℤ highest → year_of_nanos k ≡ year_of_nanos n
    → IfSome (next_at tz n) (λ t. k <ℤ t.0) → offset_at tz k ≡ offset_at tz n
rule_kept tz n k le low high year h = ap (λ o. match_some o tz.std_offset (λ d. d.offset)) (dst_kept tz tz.dst n k le low high year h)
