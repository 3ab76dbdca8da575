-- Up to the next transition of a zone, and to the end of the year, a clock keeps its offset.
use Rattle.std.proofs.Common.{◌≡◌, ◌⊎◌, inl, inr, ℕ, ◌<◌, ◌==◌, Bool, true, false, ℤ, pos, ◌≤ℤ◌, ◌<ℤ◌, int_le, length, get_or, Option, Some, None, refl, ap, ◌∙◌, arith, cond, vec_len}
use Rattle.std.proofs.lemmas.List.Sums.{prefix_len_is, prefix_len_passes, prefix_len-le-length}
use Rattle.jiff_core.proofs.SignedLemmas.{signed_arith}
use Rattle.jiff_core.specs.Timestamp.{nanos_of_seconds}
use Rattle.jiff_core.specs.declared.Offset.{Offset}
use Rattle.jiff_tz.specs.declared.posix.TimeZone.{TimeZone as Rule}
use Rattle.jiff_tz.specs.declared.tzif.Tzif.{Tzif as Table}
use Rattle.jiff_tz.specs.declared.tzif.transition.Transition.{Transition}
use Rattle.jiff_tz.specs.declared.timezone.TimeZone.{TimeZone}
use Rattle.jiff_tz.specs.declared.timezone.TimeZone.TheVariants.{UTC, Unknown, Fixed, Posix, Tzif}
use Rattle.jiff_tz.specs.PosixRule.{match_some}
use Rattle.jiff_tz.specs.PosixRule as PosixRule
use Rattle.jiff_tz.specs.Tzif.{count_at, floor_second, no_transition, rule_after, transition_at, transition_view, type_after}
use Rattle.jiff_tz.specs.Tzif as Tables
use Rattle.jiff_tz.specs.Zone.{offset_at, next_at}
use Rattle.jiff_tz.specs.Year.{year_of_nanos}
use Rattle.cron_clocks.proofs.Windows.{le_yes, le_no}
use Rattle.cron_seconds.proofs.IntLemmas.{int_le-true}
use Rattle.cron_dues.specs.Clock.Due.{clock_of}
use Rattle.cron_dues.specs.Steady.{IsKept, IsShortOf}
use Rattle.cron_dues.proofs.SteadyLemmas.{lowest, highest, rule_kept}

-- ---- tables

-- the offset of a table past so many transitions
abbrev offset_past : Table → ℕ → ℤ → Offset
offset_past z count n = match_some (rule_after z count) (type_after z count).offset (λ tz. PosixRule.offset_at tz n)

-- what comes next past so many transitions
abbrev IsShortPast : Table → Bool → ℕ → ℤ → ℤ → Type 0
IsShortPast z whole count n k =
    IsShortOf (cond whole (match_some z.posix_tz None (λ tz. PosixRule.next_at tz n)) (Some (transition_view (transition_at z count)))) k

rule_past : (o : Option Rule) (other : Offset) (n k : ℤ) → n ≤ℤ k → lowest ≤ℤ n → k ≤ℤ highest → year_of_nanos k ≡ year_of_nanos n
    → IsShortOf (match_some o None (λ tz. PosixRule.next_at tz n)) k
    → match_some o other (λ tz. PosixRule.offset_at tz k) ≡ match_some o other (λ tz. PosixRule.offset_at tz n)
rule_past None other n k le low high year h = refl
rule_past (Some tz) other n k le low high year h = rule_kept tz n k le low high year h

past_kept : (z : Table) (whole : Bool) (count : ℕ) (n k : ℤ) → n ≤ℤ k → lowest ≤ℤ n → k ≤ℤ highest → year_of_nanos k ≡ year_of_nanos n
    → (count == vec_len z.transitions) ≡ whole → IsShortPast z whole count n k → offset_past z count k ≡ offset_past z count n
past_kept z true count n k le low high year e h =
    rw e (rule_past z.posix_tz (type_after z count).offset n k le low high year h)
past_kept z false count n k le low high year e h = rw e refl

-- no further row lies at or before the instant
same_count : (z : Table) (n k : ℤ) → n ≤ℤ k
    → (count_at z (floor_second n) < length z.transitions.items → k <ℤ nanos_of_seconds (transition_at z (count_at z (floor_second n))).second)
    → count_at z (floor_second k) ≡ count_at z (floor_second n)
same_count z n k le next =
    let p : Transition → Bool = λ t. int_le t.second (floor_second n) in
    let q : Transition → Bool = λ t. int_le t.second (floor_second k) in
    let c : ℕ = count_at z (floor_second n) in
    let d : Transition = no_transition z in
    prefix_len_is q z.transitions.items c d (prefix_len-le-length p z.transitions.items)
    (λ i less.
    let past = int_le-true (get_or z.transitions.items i d).second (floor_second n) (prefix_len_passes p z.transitions.items i d less) in
    le_yes (get_or z.transitions.items i d).second (floor_second k) (omega (arith, signed_arith)))
    (λ more.
    let ahead = next more in
    le_no (get_or z.transitions.items c d).second (floor_second k) (omega (arith, signed_arith)))

short_past : (z : Table) (whole : Bool) (count : ℕ) (n k : ℤ) → (count == vec_len z.transitions) ≡ whole → count < length z.transitions.items
    → IsShortPast z whole count n k → k <ℤ nanos_of_seconds (transition_at z count).second
short_past z true count n k e less h = grind arith
short_past z false count n k e less h = h

table_kept : (z : Table) (n k : ℤ) → n ≤ℤ k → lowest ≤ℤ n → k ≤ℤ highest → year_of_nanos k ≡ year_of_nanos n
    → IsShortOf (Tables.next_at z n) k → Tables.offset_at z k ≡ Tables.offset_at z n
table_kept z n k le low high year h =
    let count : ℕ = count_at z (floor_second n) in
    let same = same_count z n k le (λ less. short_past z (count == vec_len z.transitions) count n k refl less h) in
    ap (λ c. offset_past z c k) same ∙ past_kept z (count == vec_len z.transitions) count n k le low high year refl h

-- ---- zones

pub zone_kept : (z : TimeZone) (n k : ℤ) → n ≤ℤ k → lowest ≤ℤ n → k ≤ℤ highest → year_of_nanos k ≡ year_of_nanos n
    → IsShortOf (next_at z n) k → offset_at z k ≡ offset_at z n
unfolding offset_at next_at
zone_kept UTC n k le low high year h = refl
zone_kept Unknown n k le low high year h = refl
zone_kept (Fixed offset) n k le low high year h = refl
zone_kept (Posix tz) n k le low high year h = ap (λ o. o.seconds) (rule_kept tz n k le low high year h)
zone_kept (Tzif z) n k le low high year h = ap (λ o. o.seconds) (table_kept z.now n k le low high year h)

-- ---- zones with one offset

pub utc_kept : (z : TimeZone) → (z ≡ UTC) ⊎ (z ≡ Unknown) → (n end : ℤ) → IsKept (clock_of z) n end (pos 0)
unfolding offset_at
utc_kept z (inl e) n end k low high = rw e refl
utc_kept z (inr e) n end k low high = rw e refl

pub fixed_kept : (z : TimeZone) (o : Offset) → z ≡ Fixed o → (n end : ℤ) → IsKept (clock_of z) n end o.seconds
unfolding offset_at
fixed_kept z o e n end k low high = rw e refl
