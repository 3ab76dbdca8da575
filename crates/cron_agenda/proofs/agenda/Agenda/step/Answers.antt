use Rattle.std.proofs.Common.{◌≡◌, ◌-◌, ◌<◌, true, length, take, refl, sym, ap, subst, ◌∙◌, arith}
use Rattle.std.specs.Prelude.{Some, None, slice_get}
use Rattle.std.specs.Option.{is_none}
use Rattle.std.proofs.lemmas.List.{length-map}
use Rattle.std.proofs.lemmas.Option.{slice_get_read}
use Rattle.cron_agenda.specs.Entries.{listed}
use Rattle.cron_agenda.specs.Inner.Slots.{instant_of}
use Rattle.cron_agenda.proofs.ListLemmas.{none_told}
use Rattle.cron_agenda.proofs.MatchLemmas.{match_fewer, match_swapped}
use Rattle.cron_agenda.proofs.PartLemmas.{in_order}
use Rattle.cron_agenda.proofs.SweepLemmas.{kept_moved, kept_passed, kept_shorter, last_dead, moved_entries, no_head, shorter_entries}
use Rattle.cron_agenda.proofs.agenda.Agenda.step.Goals as goal

pub pop-requires-then-to-at : goal.pop-requires-then-to-at
pop-requires-then-to-at g c =
    let high = (in_order c.self.invariant.0.parts).1 in
    let len = c.self.inside.slots.ok.0 in
    let all : length c.self.inside.slots.items ≡ c.self.inside.scanned = omega (arith, c.len.ensures, c.if-at-len.true) in
    subst (λ l. slice_get l (length l - 1) ≡ Some None) (sym c.self.invariant.0.keys) (last_dead c.self.invariant.0.parts all c.if-to-at.true)

pub invariant_of-self : goal.invariant_of-self
invariant_of-self g c =
    let high = (in_order c.self.invariant.0.parts).1 in
    let len = c.self.inside.slots.ok.0 in
    let size = ap length c.self.invariant.0.keys ∙ length-map c.self.inside.slots.items instant_of in
    let all : length c.self.inside.slots.items ≡ c.self.inside.scanned = omega (arith, c.len.ensures, c.if-at-len.true) in
    let last : c.self.inside.slots.len - 1 ≡ c.self.inside.scanned - 1 = omega arith in
    let place : length c.self.inside.firsts.instants - 1 ≡ c.self.inside.scanned - 1 = omega arith in
    let items : c.pop.new.self.items ≡ take (c.self.inside.scanned - 1) c.self.inside.slots.items =
    c.pop.ensures.rest ∙ ap (λ n. take n c.self.inside.slots.items) last in
    let firsts : c.pop-then-to-at.new.self.instants ≡ take (c.self.inside.scanned - 1) c.self.inside.firsts.instants =
    c.pop-then-to-at.ensures.instants ∙ ap (λ n. take n c.self.inside.firsts.instants) place in (
      rw (items, firsts) (kept_shorter c.self.invariant.0 all c.if-to-at.true),
      (
        omega (arith, c.self.invariant.1.0, c.pop.ensures.len, c.pop.ensures.capacity),
        omega (arith, c.self.invariant.1.1, c.pop-then-to-at.ensures.room),
      ),
      rw items (match_fewer g.T.CivilSeconds.has (c.self.inside.scanned - 1) c.self.inside.slots.items c.self.invariant.2),
    )

pub returns-then-to-at : goal.returns-then-to-at
returns-then-to-at g c =
    let high = (in_order c.self.invariant.0.parts).1 in
    let len = c.self.inside.slots.ok.0 in
    let all : length c.self.inside.slots.items ≡ c.self.inside.scanned = omega (arith, c.len.ensures, c.if-at-len.true) in
    let last : c.self.inside.slots.len - 1 ≡ c.self.inside.scanned - 1 = omega arith in
    let items : c.pop.new.self.items ≡ take (c.self.inside.scanned - 1) c.self.inside.slots.items =
    c.pop.ensures.rest ∙ ap (λ n. take n c.self.inside.slots.items) last in
    rw (← c.self.view_is, items) (ap (λ es. listed es c.self.inside.added c.self.inside.room) (shorter_entries c.self.invariant.0.parts all c.if-to-at.true))

pub invariant_of-self-then-is_none : goal.invariant_of-self-then-is_none
invariant_of-self-then-is_none g c =
    let len = c.self.inside.slots.ok.0 in
    let less : c.self.inside.scanned < length c.self.inside.slots.items = omega (arith, c.len.ensures, c.if-at-len.false) in
    let here : slice_get c.self.inside.slots.items c.self.inside.scanned ≡ Some c.index.result.now =
    slice_get_read c.self.inside.slots.items (length c.self.inside.slots.items) c.self.inside.scanned c.index.result.now refl less c.index.ensures in
    let none : is_none c.instant-instant.result ≡ true = none_told c.instant-instant.result c.is_none.result c.is_none.ensures ∙ c.if-is_none.true in
    let dead = no_head c.index.result.now.head (sym (ap is_none c.instant-instant.ensures.value) ∙ none) in
    (kept_passed c.self.invariant.0 c.index.result.now here dead, c.self.invariant.1, c.self.invariant.2)

pub invariant_of-self-2 : goal.invariant_of-self-2
invariant_of-self-2 g c =
    let len = c.self.inside.slots.ok.0 in
    let order = (in_order c.self.invariant.0.parts).0 in
    let less : c.self.inside.scanned < length c.self.inside.slots.items = omega (arith, c.len.ensures, c.if-at-len.false) in
    let here : slice_get c.self.inside.slots.items c.self.inside.scanned ≡ Some c.index.result.now =
    slice_get_read c.self.inside.slots.items (length c.self.inside.slots.items) c.self.inside.scanned c.index.result.now refl less c.index.ensures in
    let there : slice_get c.self.inside.slots.items c.self.inside.packed ≡ Some c.index-2.result.now =
    slice_get_read c.self.inside.slots.items (length c.self.inside.slots.items) c.self.inside.packed c.index-2.result.now refl (omega arith) c.index-2.ensures in (
      rw (c.swap.ensures.items, c.set-2.ensures.instants, c.set.ensures.instants, c.instant-instant.ensures.value, c.instant-left.ensures.value)
          (kept_moved c.self.invariant.0 c.index.result.now c.index-2.result.now here there),
      (
        omega (arith, c.self.invariant.1.0, c.swap.ensures.len, c.swap.ensures.capacity),
        omega (arith, c.self.invariant.1.1, c.set.ensures.room, c.set-2.ensures.room),
      ),
      rw c.swap.ensures.items
          (match_swapped g.T.CivilSeconds.has c.self.inside.slots.items c.self.inside.packed c.self.inside.scanned c.index-2.result.now c.index.result.now
          there here c.self.invariant.2),
    )

pub returns : goal.returns
returns g c =
    let len = c.self.inside.slots.ok.0 in
    let less : c.self.inside.scanned < length c.self.inside.slots.items = omega (arith, c.len.ensures, c.if-at-len.false) in
    let here : slice_get c.self.inside.slots.items c.self.inside.scanned ≡ Some c.index.result.now =
    slice_get_read c.self.inside.slots.items (length c.self.inside.slots.items) c.self.inside.scanned c.index.result.now refl less c.index.ensures in
    rw (← c.self.view_is, c.swap.ensures.items) (ap (λ es. listed es c.self.inside.added c.self.inside.room) (moved_entries c.self.invariant.0.parts c.index.result.now here))
