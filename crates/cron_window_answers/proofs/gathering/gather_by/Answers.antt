use Rattle.std.proofs.Common.{◌≡◌, Option, Some, subst}
use Rattle.std.specs.Prelude.{MatchOption}
use Rattle.cron_window_answers.proofs.gathering.gather_by.Goals as goal

-- what was made is what it is said to be
made : {X : Type 0} (NoneCase : Type 0) (less : Type 0) (found : Option X) (w v : X) → found ≡ Some w → MatchOption found NoneCase (λ x. less × (x ≡ v)) → w ≡ v
made {X} none less found w v is h = (subst (λ (f : Option X). MatchOption f none (λ x. less × (x ≡ v))) is h).1

pub returns-in-At : goal.returns-in-At
returns-in-At g c = rw c.in-At.is (rw (c.closed_by-windows.ensures, c.as_slice.ensures.list) at c.gather.ensures)

pub returns-in-After : goal.returns-in-After
returns-in-After g c =
    let windows = made _ _ c.lasting.result c.unwrap-windows.result _ c.unwrap-windows.ensures c.lasting.ensures in
    rw c.in-After.is (rw (windows, c.get.ensures.value) at c.gather-in-After.ensures)
