-- A datetime of the range without a part of a second is a civil second.
use Rattle.std.proofs.Common.{◌≡◌, ℕ, ◌<◌, ◌^◌, ◌*◌, ℤ, pos, negsuc, nat_abs, ◌<ℤ◌, ◌≤ℤ◌, arith, ◌∙◌, sym, ap, refl}
use Rattle.jiff_core.specs.declared.Offset.{Offset}
use Rattle.cron_moments.specs.Readings.{Reading, reading}
use Rattle.cron_moments.specs.Parts.{HasParts}
use Rattle.jiff_core.specs.declared.civil.datetime.DateTime.{DateTime}
use Rattle.jiff_core.specs.DateTime.{civil_nanos, civil_seconds}
use Rattle.jiff_core.proofs.SignedLemmas.{signed_arith}
use Rattle.jiff.proofs.Family.{civil_nanos-civil_seconds}
use Rattle.cron_moments.specs.Civil.{civil, seconds_in_range}
use Rattle.cron_moments.proofs.CivilLemmas.{civil_seconds-civil, is_civil, no_fraction-civil}

pub is_numbered : (dt : DateTime) (c : ℕ) → civil_seconds dt ≡ pos c → c < 2 ^ 32 → dt.time.subsec_nanosecond ≡ 0 → civil c ≡ dt
is_numbered dt c e h w =
    let nanos : civil_nanos dt ≡ pos (c * 1_000_000_000) = omega (arith, signed_arith, civil_nanos-civil_seconds dt) in
    sym (is_civil dt c h nanos)

has_no_fraction : (dt : DateTime) (c : ℕ) → civil c ≡ dt → dt.time.subsec_nanosecond ≡ 0
has_no_fraction dt c e = ap (λ (d : DateTime). d.time.subsec_nanosecond) (sym e) ∙ no_fraction-civil c

number_is : (dt : DateTime) (c : ℕ) → c < seconds_in_range → civil c ≡ dt → civil_seconds dt ≡ pos c
number_is dt c h e = ap civil_seconds (sym e) ∙ civil_seconds-civil c (omega arith)

-- no reading has parts with a part of a second, or from outside the range
pub no_fraction_parts : (dt : DateTime) (o : Offset) (r : Reading) → HasParts dt o r → ¬ (dt.time.subsec_nanosecond ≡ 0) → ⊥
no_fraction_parts dt o r parts some = some (has_no_fraction dt r.second parts.shown_is)

pub parts_number : (dt : DateTime) (o : Offset) (r : Reading) → HasParts dt o r → civil_seconds dt ≡ pos r.second
parts_number dt o r parts = number_is dt r.second parts.in_range parts.shown_is

-- the reading of a number in range is the one that has its parts
pub parts_are : (r : Reading) (n : ℤ) (o : Offset) (dt : DateTime) → r ≡ reading (nat_abs n) o → pos 0 ≤ℤ n → n <ℤ pos seconds_in_range
    → n ≡ civil_seconds dt → dt.time.subsec_nanosecond ≡ 0 → HasParts dt o r
parts_are r (pos k) o dt e low high is whole =
    let below : k < seconds_in_range = omega (arith, signed_arith, high) in
    rw e (record { in_range = below; shown_is = is_numbered dt k (sym is) (omega arith) whole; offset_is = refl })
parts_are r (negsuc k) o dt e low high is whole = absurd (omega (arith, signed_arith, low))

pub parts_once : (m r : Reading) (n : ℤ) (o : Offset) (dt : DateTime) → r ≡ reading (nat_abs n) o → n ≡ civil_seconds dt → HasParts dt o m → r ≡ m
parts_once m r n o dt e is parts =
    let number : nat_abs n ≡ m.second = ap nat_abs (is ∙ parts_number dt o m parts) in
    e ∙ (ap (λ (k : ℕ). reading k o) number ∙ ap (λ (p : Offset). reading m.second p) (sym parts.offset_is))
