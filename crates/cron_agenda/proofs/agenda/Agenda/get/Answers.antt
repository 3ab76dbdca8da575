use Rattle.std.proofs.Common.{◌≡◌, ℕ, Some, length, refl, sym, ap, subst, arith, rules}
use Rattle.std.specs.Prelude.{slice_get}
use Rattle.std.proofs.lemmas.Option.{slice_get_read, slice_get_within}
use Rattle.cron_agenda.specs.Inner.Slots.{AreInParts, HasEntry}
use Rattle.cron_agenda.proofs.IdLemmas.{entry_there, without-none}
use Rattle.cron_agenda.proofs.PartLemmas.{in_order}
use Rattle.cron_agenda.proofs.agenda.Agenda.get.Goals as goal

pub place_in_parts-requires-clause-packed : goal.place_in_parts-requires-clause-packed
place_in_parts-requires-clause-packed g c = (in_order c.self.invariant.0.parts).0

pub place_in_parts-requires-clause-scanned : goal.place_in_parts-requires-clause-scanned
place_in_parts-requires-clause-scanned g c =
    let order = in_order c.self.invariant.0.parts in
    let high = order.1 in
    let size = ap length c.deref.ensures.value in
    omega arith

pub returns-in_err-place : goal.returns-in_err-place
returns-in_err-place g c =
    let none = subst (λ l. (p : ℕ) → HasEntry l c.args.id p → ⊥) c.deref.ensures.value (c.in_err-place.ensures c.self.inside.added (subst (λ l. AreInParts l c.self.inside.packed c.self.inside.scanned c.self.inside.added) (sym c.deref.ensures.value) c.self.invariant.0.parts)) in
    rw (c.from_residual.ensures, ← c.self.view_is) (without-none c.self.inside.slots.items c.args.id none).1

pub index-requires : goal.index-requires
index-requires g c =
    let found = subst (λ l. HasEntry l c.args.id c.in_ok-place.place) c.deref.ensures.value c.in_ok-place.ensures in
    let less = slice_get_within c.self.inside.slots.items c.in_ok-place.place found.slot found.here in
    search rules

pub returns : goal.returns
returns g c =
    let found = subst (λ l. HasEntry l c.args.id c.in_ok-place.place) c.deref.ensures.value c.in_ok-place.ensures in
    let less = slice_get_within c.self.inside.slots.items c.in_ok-place.place found.slot found.here in
    let here : slice_get c.self.inside.slots.items c.in_ok-place.place ≡ Some c.index.result.now =
    slice_get_read c.self.inside.slots.items (length c.self.inside.slots.items) c.in_ok-place.place c.index.result.now refl less c.index.ensures in
    rw (← c.self.view_is) (entry_there c.self.invariant.0 found c.index.result.now here c.entry.result c.entry.ensures)
