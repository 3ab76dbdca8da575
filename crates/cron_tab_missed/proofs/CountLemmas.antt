-- Fires that are counted one after another.
use Rattle.std.proofs.Common.{◌≡◌, ◌≤◌, ◌+◌, ℕ, List, [], ◌∷◌, Option, Some, length, min, refl, ap, ◌∙◌, arith}
use Rattle.cron_agenda.specs.declared.fire.EntryFire.{EntryFire}
use Rattle.cron_tab_missed.specs.Inner.Counting.{first_of, with_fire, with_fires}
use Rattle.cron_tab_missed.specs.Missed.{last_of, missed_of}
use Rattle.cron_tab_missed.specs.declared.counting.Ends.{Ends}
use Rattle.cron_tab_missed.specs.declared.counting.Missed.{Missed}

abbrev most : ℕ
most = 18_446_744_073_709_551_615

counted : (m : Missed) (fs : List EntryFire) → m.count ≤ most → (with_fires m fs).count ≡ min (m.count + length fs) most
counted m [] small = omega arith
counted m (f ∷ fs) small =
    let rest = counted (with_fire m f) fs (omega arith) in
    omega arith

ended : (m : Missed) (e : Ends) (fs : List EntryFire) → m.ends ≡ Some e → (with_fires m fs).ends ≡ Some (record { first = e.first; last = last_of e.last fs })
ended m e [] is = is
ended m e (f ∷ fs) is =
    ended (with_fire m f) (record { first = e.first; last = f }) fs (ap (λ (o : Option Ends). Some (record { first = first_of o f; last = f })) is)

abbrev with_both : ℕ → Option Ends → Missed
with_both n o = record { count = n; ends = o }

alike : (a b : Missed) → a.count ≡ b.count → a.ends ≡ b.ends → a ≡ b
alike a b counts ends = ap (λ (n : ℕ). with_both n a.ends) counts ∙ ap (λ (o : Option Ends). with_both b.count o) ends

-- all fires are counted
pub counted_all : (fs : List EntryFire) → with_fires (missed_of []) fs ≡ missed_of fs
counted_all [] = refl
counted_all (f ∷ fs) =
    let one = with_fire (missed_of []) f in
    let count = counted one fs (omega arith) in
    alike (with_fires one fs) (missed_of (f ∷ fs)) (omega arith) (ended one (record { first = f; last = f }) fs refl)
