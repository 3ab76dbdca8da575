-- The members with the first missed fire and the last.
use Rattle.std.proofs.Common.{◌≡◌, ◌<◌, List, [], ◌∷◌, length, get_or, codes, refl, sym, subst, arith}
use Rattle.json.specs.Written.{Written}
use Rattle.cron_agenda.specs.declared.fire.EntryFire.{EntryFire}
use Rattle.cron_tab_rows.proofs.ObjectLemmas.{written_on}
use Rattle.cron_tab_rows.specs.Members.{fire_members}
use Rattle.cron_tab_rows.specs.Writing.{Writes}
use Rattle.cron_tab_missed.specs.Entries.{ends_in}
use Rattle.cron_tab_missed.specs.Rows.{ends_members}

two_of : (es : List EntryFire) (f g : EntryFire) → 1 < length es → length es < 3 → f ≡ get_or es 0 f → g ≡ get_or es 1 g → es ≡ f ∷ g ∷ []
two_of [] f g some few first second = absurd (omega arith)
two_of (a ∷ []) f g some few first second = absurd (omega arith)
two_of (a ∷ b ∷ []) f g some few first second = rw (first, second) refl
two_of (a ∷ b ∷ c ∷ es) f g some few first second = absurd (omega arith)

pub ends_written : (es : List EntryFire) (f g : EntryFire) (old mid new : Written) → 1 < length es → length es < 3 → f ≡ get_or es 0 f → g ≡ get_or es 1 g
    → Writes (fire_members (codes "first") (codes "first_epoch") f) old mid → Writes (fire_members (codes "last") (codes "last_epoch") g) mid new
    → Writes (ends_members (ends_in es)) old new
ends_written es f g old mid new some few first second one two =
    subst (λ (l : List EntryFire). Writes (ends_members (ends_in l)) old new) (sym (two_of es f g some few first second))
    (written_on (fire_members (codes "first") (codes "first_epoch") f) (fire_members (codes "last") (codes "last_epoch") g) old mid new one two)
