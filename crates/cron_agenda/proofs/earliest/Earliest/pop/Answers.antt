use Rattle.std.proofs.Common.{◌≡◌, ◌-◌, length, map, drop, sym, subst, arith}
use Rattle.std.specs.Prelude.{Some, None, slice_get}
use Rattle.cron_agenda.specs.Inner.Words.{instant_in}
use Rattle.cron_agenda.specs.Inner.Tree.{Places}
use Rattle.cron_agenda.proofs.TreeLemmas.{kept_shrunk}
use Rattle.cron_agenda.proofs.earliest.Earliest.pop.Goals as goal

pub invariant_of-self : goal.invariant_of-self
invariant_of-self c =
    let words = c.self.inside.words.ok.0 in
    let own = drop c.self.inside.inner c.self.inside.words.items in
    let last : slice_get (map instant_in own) (length (map instant_in own) - 1) ≡ Some None =
    subst (λ (v : Places). slice_get v.instants (length v.instants - 1) ≡ Some None) (sym c.self.view_is) c.requires in
    rw c.pop.ensures.rest (kept_shrunk c.self.inside.words.items c.self.inside.inner _ c.self.invariant last (omega arith))
