-- Eras of a table written one after the other.
use Rattle.std.proofs.Common.{◌≡◌, ℕ, ◌+◌, ◌<◌, ◌≤◌, List, ◌++◌, drop, take, Some, inl, inr, refl, sym, ap, subst, ◌∙◌, arith, slice_set}
use Rattle.std.specs.Prelude.{slice_get, length}
use Rattle.std.proofs.lemmas.List.{drop-drop, drop-set-lt, get_or-set_other, get_or-set_same, length-set, take-append-drop}
use Rattle.std.proofs.lemmas.Grind.{common_steps}
use Rattle.std.proofs.lemmas.Option.{get_or_from_slice_get, slice_get-get_or, slice_get_within}
use Rattle.cron_time.proofs.PlaceLemmas.{slice_get-left}
use Rattle.jiff_tz.specs.declared.tzif.Tzif.{Tzif}
use Rattle.cron_c.specs.ZoneFiles.{AreErasIn, AreInFront, HasDoubleTransition, IsEraOf, IsHistoryOf, transition_count}
use Rattle.cron_c.specs.declared.era.CronEra.{CronEra}
use Rattle.cron_c.proofs.Eras.{last_or_before}
use Rattle.cron_c.proofs.TableItems.{means_table}

pub none_in : (t : Tzif) (old : List CronEra) → AreErasIn t 0 old old
none_in t old = record { size = refl; eras = λ i e l get. absurd (omega arith); rest = refl }

era_is : (t : Tzif) (n i : ℕ) (now : List CronEra) (x e : CronEra) → n < length now → i ≡ n → IsEraOf t n x → slice_get (slice_set now n x) i ≡ Some e
    → IsEraOf t i e
era_is t n i now x e room same era get =
    let here : slice_get (slice_set now n x) n ≡ Some e = subst (λ (k : ℕ). slice_get (slice_set now n x) k ≡ Some e) same get in
    let is = sym (get_or-set_same now n x e room) ∙ get_or_from_slice_get (slice_set now n x) n e e here in
    subst (λ (k : ℕ). IsEraOf t k e) (sym same) (subst (IsEraOf t n) is era)

era_was : (t : Tzif) (n i : ℕ) (now : List CronEra) (x e : CronEra) → i < n → n < length now → slice_get (slice_set now n x) i ≡ Some e
    → slice_get now i ≡ Some e
era_was t n i now x e before room get =
    let is = get_or_from_slice_get (slice_set now n x) i e e get in
    let was = get_or-set_other now n i x e (λ same. omega arith) in
    slice_get-get_or now i e (omega arith) ∙ ap Some (sym was ∙ is)

pub one_more : (t : Tzif) (n : ℕ) (old now : List CronEra) (x : CronEra) → AreErasIn t n old now → n < length old → IsEraOf t n x
    → AreErasIn t (n + 1) old (slice_set now n x)
one_more t n old now x so_far l era =
    let size = so_far.size in
    let room : n < length now = omega arith in
    record {
      size = length-set now n x ∙ size;
      eras = λ i e below get.
          elim (last_or_before i n below) [
            | inl same ↦ era_is t n i now x e room same era get
            | inr before ↦ so_far.eras i e before (era_was t n i now x e before room get)
          ];
      rest = drop-set-lt (n + 1) now n x (omega arith) ∙ (sym (drop-drop 1 n now) ∙ ap (drop 1) so_far.rest ∙ drop-drop 1 n old);
    }

-- once all of them are written
pub all_in : (t : Tzif) (n : ℕ) (old new : List CronEra) → ¬ (HasDoubleTransition t) → n ≡ transition_count t + 1 → n ≤ length old → AreErasIn t n old new
    → (written : List CronEra) × IsHistoryOf t written × AreInFront written old new × (n ≡ length written)
all_in t n old new apart count room done =
    let size = done.size in
    let counted : length (take n new) ≡ n = grind (arith, common_steps) in
    let whole : take n new ++ drop n new ≡ new = take-append-drop n new in
    let front : new ≡ take n new ++ drop (length (take n new)) old =
    sym whole ∙ ap (λ (l : List CronEra). take n new ++ l) (done.rest ∙ ap (λ (k : ℕ). drop k old) (sym counted)) in
    let eras = λ (i : ℕ) (e : CronEra) (get : slice_get (take n new) i ≡ Some e).
    let within = slice_get_within (take n new) i e get in
    let there = slice_get-left (take n new) (drop n new) i within ∙ get in
    done.eras i e (omega arith) (ap (λ (l : List CronEra). slice_get l i) (sym whole) ∙ there) in
    (take n new, means_table t (take n new) apart (counted ∙ count) eras, front, sym counted)
