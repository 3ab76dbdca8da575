use Rattle.std.proofs.Common.{◌≡◌, ℕ, None, length, refl, sym, ap, subst, ◌∙◌, arith}
use Rattle.std.proofs.lemmas.Option.{get_or_from_slice_get, slice_get_within}
use Rattle.std.proofs.lemmas.List.{length-map}
use Rattle.cron_agenda.specs.declared.slots.Slot.{Slot}
use Rattle.cron_agenda.specs.Entries.{listed}
use Rattle.cron_agenda.specs.Inner.Slots.{AreInParts, HasEntry, instant_of}
use Rattle.cron_agenda.proofs.SlotLemmas.{with_head}
use Rattle.cron_agenda.proofs.IdLemmas.{is_without, kept-less, live_there, was_there, without-none}
use Rattle.cron_agenda.proofs.MatchLemmas.{match_emptied}
use Rattle.cron_agenda.proofs.PartLemmas.{in_order}
use Rattle.cron_agenda.proofs.agenda.Agenda.empty_slot.Goals as goal

pub place_in_parts-requires-clause-packed : goal.place_in_parts-requires-clause-packed
place_in_parts-requires-clause-packed g c = (in_order c.self.invariant.0.parts).0

pub place_in_parts-requires-clause-scanned : goal.place_in_parts-requires-clause-scanned
place_in_parts-requires-clause-scanned g c =
    let order = in_order c.self.invariant.0.parts in
    let high = order.1 in
    let size = ap length c.deref.ensures.value in
    omega arith

pub returns-in_default-clause-found : goal.returns-in_default-clause-found
returns-in_default-clause-found g c =
    let none = subst (λ l. (p : ℕ) → HasEntry l c.args.id p → ⊥) c.deref.ensures.value (c.in_default.ensures c.self.inside.added (subst (λ l. AreInParts l c.self.inside.packed c.self.inside.scanned c.self.inside.added) (sym c.deref.ensures.value) c.self.invariant.0.parts)) in
    rw (← c.self.view_is) (sym (without-none c.self.inside.slots.items c.args.id none).1)

pub returns-in_default-clause-rest : goal.returns-in_default-clause-rest
returns-in_default-clause-rest g c =
    let none = subst (λ l. (p : ℕ) → HasEntry l c.args.id p → ⊥) c.deref.ensures.value (c.in_default.ensures c.self.inside.added (subst (λ l. AreInParts l c.self.inside.packed c.self.inside.scanned c.self.inside.added) (sym c.deref.ensures.value) c.self.invariant.0.parts)) in
    rw (← c.self.view_is) (ap (λ es. listed es c.self.inside.added c.self.inside.room) (sym (without-none c.self.inside.slots.items c.args.id none).0))

pub index_mut-slot-requires : goal.index_mut-slot-requires
index_mut-slot-requires g c =
    let less = slice_get_within c.deref.result.now c.in-Some.place c.in-Some.ensures.slot c.in-Some.ensures.here in
    let len = c.deref.ensures.len in
    omega arith

pub set-requires-clause-place : goal.set-requires-clause-place
set-requires-clause-place g c =
    let found = subst (λ l. HasEntry l c.args.id c.in-Some.place) c.deref.ensures.value c.in-Some.ensures in
    let less = slice_get_within c.self.inside.slots.items c.in-Some.place found.slot found.here in
    let size = ap length c.self.invariant.0.keys ∙ length-map c.self.inside.slots.items instant_of in
    omega arith

pub overflow_sub-self : goal.overflow_sub-self
overflow_sub-self g c =
    let found = subst (λ l. HasEntry l c.args.id c.in-Some.place) c.deref.ensures.value c.in-Some.ensures in
    live_there c.self.invariant.0 found

pub invariant_of-self : goal.invariant_of-self
invariant_of-self g c =
    let found = subst (λ l. HasEntry l c.args.id c.in-Some.place) c.deref.ensures.value c.in-Some.ensures in
    let same : c.index_mut-slot.result.now.id ≡ found.slot.id = ap (λ (v : Slot _). v.id) (c.index_mut-slot.ensures.value ∙ get_or_from_slice_get c.self.inside.slots.items c.in-Some.place found.slot c.index_mut-slot.result.now found.here) in (
      rw c.set.ensures.instants (kept-less c.self.invariant.0 found (with_head None c.index_mut-slot.result.now) same refl),
      (omega (arith, c.self.invariant.1.0), omega (arith, c.self.invariant.1.1, c.set.ensures.room)),
      match_emptied g.T.CivilSeconds.has c.self.inside.slots.items c.in-Some.place c.index_mut-slot.result.now c.self.invariant.2,
    )

pub returns-clause-found : goal.returns-clause-found
returns-clause-found g c =
    let found = subst (λ l. HasEntry l c.args.id c.in-Some.place) c.deref.ensures.value c.in-Some.ensures in
    rw (← c.self.view_is) (sym (was_there c.self.invariant.0 found))

pub returns-clause-rest : goal.returns-clause-rest
returns-clause-rest g c =
    let found = subst (λ l. HasEntry l c.args.id c.in-Some.place) c.deref.ensures.value c.in-Some.ensures in
    let same : c.index_mut-slot.result.now.id ≡ found.slot.id = ap (λ (v : Slot _). v.id) (c.index_mut-slot.ensures.value ∙ get_or_from_slice_get c.self.inside.slots.items c.in-Some.place found.slot c.index_mut-slot.result.now found.here) in
    rw (← c.self.view_is) (ap (λ es. listed es c.self.inside.added c.self.inside.room) (is_without c.self.invariant.0 found (with_head None c.index_mut-slot.result.now) same refl))
