use Rattle.std.proofs.Common.{◌≡◌, ℕ, ◌+◌, ◌-◌, length, refl, sym, ap, subst, ◌∙◌, arith, rules}
use Rattle.std.specs.Prelude.{Some, slice_get}
use Rattle.std.proofs.lemmas.List.{take_rest}
use Rattle.std.proofs.lemmas.Option.{slice_get_read, slice_get_within}
use Rattle.cron_agenda.specs.declared.slots.Slot.{Slot}
use Rattle.cron_agenda.specs.Inner.Slots.{HasEntry, IdsAscend}
use Rattle.cron_agenda.proofs.ListLemmas.{some_same}
use Rattle.cron_agenda.proofs.LookLemmas.{found_rest, none_at_rest, place_front}
use Rattle.cron_agenda.proofs.agenda.place_in_parts.Goals as goal
use Rattle.cron_agenda.proofs.agenda.place_in_parts.Goals.{else-packed-gt0-via-then-packed-gt0+else-id-slots, else-packed-gt0-via-else-packed-gt0}

pub returns-then-id-slots : goal.returns-then-id-slots
returns-then-id-slots g c =
    let order = c.requires.packed in
    let high = c.requires.scanned in
    let some = c.if-packed-gt0.true in
    let there : slice_get c.args.slots.now (c.args.packed - 1) ≡ Some c.index-slots-packed.result =
    slice_get_read c.args.slots.now (length c.args.slots.now) (c.args.packed - 1) c.index-slots-packed.result refl (omega arith) c.index-slots-packed.is in
    let at = ap (λ (v : Slot _). v.id) c.index-slots-packed.is in
    place_front c.args.slots.now c.args.packed c.args.scanned c.args.id c.place_of.result c.index-slots-packed.result (omega arith) there (omega (arith, c.if-id-slots.true)) c.place_of.ensures

pub returns-in_err-place : goal.returns-in_err-place
returns-in_err-place g c =
    let order = c.requires.packed in
    let high = c.requires.scanned in
    rw c.from_residual.ensures (λ added parts p h. none_at_rest parts h (λ last some there.
    elim c.else-packed-gt0.branch [
      | else-packed-gt0-via-then-packed-gt0+else-id-slots w ↦
          let here : slice_get c.args.slots.now (c.args.packed - 1) ≡ Some w.index-slots-packed.result =
          slice_get_read c.args.slots.now (length c.args.slots.now) (c.args.packed - 1) w.index-slots-packed.result refl (omega arith) w.index-slots-packed.is in
          let same = ap (λ (v : Slot _). v.id) (some_same (sym there ∙ here)) in
          let at = ap (λ (v : Slot _). v.id) w.index-slots-packed.is in
          omega (arith, w.if-id-slots.false)
      | else-packed-gt0-via-else-packed-gt0 w ↦ absurd (omega (arith, w.if-packed-gt0.false))
    ]) (subst (λ l. (high : ℕ) → IdsAscend 0 l high → (i : ℕ) → HasEntry l c.args.id i → ⊥) (take_rest c.args.slots.now c.args.scanned) c.in_err-place.ensures))

pub overflow_add-result : goal.overflow_add-result
overflow_add-result g c =
    let found = found_rest c.args.slots.now c.args.scanned c.args.id c.in_ok-place.place c.requires.scanned (subst (λ l. HasEntry l c.args.id c.in_ok-place.place) (take_rest c.args.slots.now c.args.scanned) c.in_ok-place.ensures) in
    let less = slice_get_within c.args.slots.now (c.args.scanned + c.in_ok-place.place) found.slot found.here in
    search rules

pub returns : goal.returns
returns g c = found_rest c.args.slots.now c.args.scanned c.args.id c.in_ok-place.place c.requires.scanned (subst (λ l. HasEntry l c.args.id c.in_ok-place.place) (take_rest c.args.slots.now c.args.scanned) c.in_ok-place.ensures)
