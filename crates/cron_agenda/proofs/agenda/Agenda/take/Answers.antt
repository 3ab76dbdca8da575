use Rattle.std.proofs.Common.{arith, refl, ap, ◌∙◌, map, rules}
use Rattle.std.proofs.lemmas.Option.{slice_get_within, slice_get-map}
use Rattle.std.specs.Prelude.{Some}
use Rattle.std.specs.Option.{option_map}
use Rattle.jiff.specs.Words.{plain_zone}
use Rattle.cron_agenda.specs.Entries.{entry}
use Rattle.cron_agenda.proofs.ListLemmas.{get_past, get_there, none_told}
use Rattle.cron_agenda.proofs.FirstLemmas.{first_has, first_within, is_first, kept_last, kept_more, nothing_left, some_live, taken, there}
use Rattle.cron_agenda.proofs.MatchLemmas.{match_taken}
use Rattle.cron_agenda.proofs.agenda.Agenda.take.Goals as goal
use Rattle.cron_agenda.proofs.agenda.Agenda.take.Goals.{then-is_last, else-is_last}

pub returns-in_default : goal.returns-in_default
returns-in_default g c = (rw (← c.self.view_is) (nothing_left c.self.invariant.0 c.in_default.ensures), refl)

pub index-slot-requires : goal.index-slot-requires
index-slot-requires g c = let less = first_within c.self.invariant.0 c.in-Some.ensures in search rules

pub returns-in_default-head : goal.returns-in_default-head
returns-in_default-head g c = absurd (first_has c.self.invariant.0 c.in-Some.ensures c.index-slot.result.now c.index-slot.ensures c.in_default-head.is)

pub returns-in_default-get : goal.returns-in_default-get
returns-in_default-get g c =
    rw (← c.self.view_is) (
      record {
        entry = entry c.index-slot.result.now.id c.index-slot.result.now.table c.index-slot.result.now.zone c.in-Some-head.fire;
        first = is_first c.self.invariant.0 c.in-Some.ensures c.index-slot.result.now c.index-slot.ensures c.in-Some-head.fire c.in-Some-head.is;
        id = refl;
        missing = slice_get-map plain_zone c.args.zones.now c.index-slot.result.now.zone ∙ ap (option_map plain_zone) (get_past c.args.zones.now c.index-slot.result.now.zone c.in_default-get.ensures.lookup.3);
      },
      refl,
    )

pub next_past-next-requires : goal.next_past-next-requires
next_past-next-requires g c =
    c.self.invariant.2 c.in-Some.place c.index-slot.result.now c.in-Some-head.fire
    (there c.self.invariant.0 c.in-Some.ensures c.index-slot.result.now c.index-slot.ensures) c.in-Some-head.is

pub index_mut-changed-requires : goal.index_mut-changed-requires
index_mut-changed-requires g c = let less = first_within c.self.invariant.0 c.in-Some.ensures in search rules

pub set-requires-clause-place : goal.set-requires-clause-place
set-requires-clause-place g c = slice_get_within c.self.inside.firsts.instants c.in-Some.place (Some c.in-Some.ensures.instant) c.in-Some.ensures.here

pub overflow_sub-self : goal.overflow_sub-self
overflow_sub-self g c = some_live c.self.invariant.0 c.in-Some.ensures c.index-slot.result.now c.index-slot.ensures c.in-Some-head.fire c.in-Some-head.is

pub invariant_of-self : goal.invariant_of-self
invariant_of-self g c = (
  rw (c.set.ensures.instants, c.instant-instant.ensures.value) (kept_last c.self.invariant.0 c.in-Some.ensures c.index-slot.result.now c.index-slot.ensures
      c.in-Some-head.fire c.in-Some-head.is c.index_mut-changed.result.now c.index_mut-changed.ensures.value c.next_past-next.result
      (none_told c.next_past-next.result c.is_none-is_last.result c.is_none-is_last.ensures ∙ c.if-is_last.true)),
  (omega (arith, c.self.invariant.1.0), omega (arith, c.self.invariant.1.1, c.set.ensures.room)),
  match_taken g.T.CivilSeconds.has c.self.inside.slots.items c.in-Some.place c.index-slot.result.now c.index_mut-changed.result.now c.next_past-next.result
      (there c.self.invariant.0 c.in-Some.ensures c.index-slot.result.now c.index-slot.ensures)
      (there c.self.invariant.0 c.in-Some.ensures c.index_mut-changed.result.now c.index_mut-changed.ensures.value)
      c.next_past-next.ensures.1 c.self.invariant.2,
)

pub invariant_of-self-else-is_last : goal.invariant_of-self-else-is_last
invariant_of-self-else-is_last g c = (
  rw (c.set.ensures.instants, c.instant-instant.ensures.value) (kept_more c.self.invariant.0 c.in-Some.ensures c.index-slot.result.now c.index-slot.ensures
      c.in-Some-head.fire c.in-Some-head.is c.index_mut-changed.result.now c.index_mut-changed.ensures.value c.next_past-next.result
      (none_told c.next_past-next.result c.is_none-is_last.result c.is_none-is_last.ensures ∙ c.if-is_last.false)),
  (omega (arith, c.self.invariant.1.0), omega (arith, c.self.invariant.1.1, c.set.ensures.room)),
  match_taken g.T.CivilSeconds.has c.self.inside.slots.items c.in-Some.place c.index-slot.result.now c.index_mut-changed.result.now c.next_past-next.result
      (there c.self.invariant.0 c.in-Some.ensures c.index-slot.result.now c.index-slot.ensures)
      (there c.self.invariant.0 c.in-Some.ensures c.index_mut-changed.result.now c.index_mut-changed.ensures.value)
      c.next_past-next.ensures.1 c.self.invariant.2,
)

pub returns : goal.returns
returns g c =
    let lent = slice_get-map plain_zone c.args.zones.now c.index-slot.result.now.zone ∙ ap (option_map plain_zone) (get_there c.args.zones.now c.index-slot.result.now.zone c.in-Some-get.zone.now c.in-Some-get.ensures.lookup.3.0 c.in-Some-get.ensures.lookup.3.1) in
    let is = taken c.self.invariant.0 c.in-Some.ensures c.index-slot.result.now c.index-slot.ensures c.in-Some-head.fire c.in-Some-head.is
    c.index_mut-changed.result.now c.index_mut-changed.ensures.value c.next_past-next.result g.T.CivilSeconds.has (map plain_zone c.args.zones.now) (plain_zone c.in-Some-get.zone.now) lent c.next_past-next.ensures.0 c.is_none-is_last.result (none_told c.next_past-next.result c.is_none-is_last.result c.is_none-is_last.ensures) in
    elim c.if-is_last.branch [
      | then-is_last w ↦ rw (← c.self.view_is, w.self-is) (is, refl, refl)
      | else-is_last w ↦ rw (← c.self.view_is, w.self-is) (is, refl, refl)
    ]
