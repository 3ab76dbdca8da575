use Rattle.std.proofs.Common.{◌+◌, ◌-◌, ◌/◌, length, refl, sym, ◌∙◌, arith}
use Rattle.std.proofs.lemmas.Option.{slice_get_read}
use Rattle.cron_agenda.proofs.ListLemmas.{has_fire}
use Rattle.cron_agenda.proofs.IdLemmas.{before_id, behind_id, dead_id}
use Rattle.cron_agenda.proofs.agenda.place_of.Goals as goal

pub returns-then-is_some : goal.returns-then-is_some
returns-then-is_some g c =
    let here = slice_get_read c.args.slots.now (length c.args.slots.now) (c.loop-low.low + (c.loop-low.high - c.loop-low.low) / 2) c.index-slots-middle.result refl (omega (arith, c.loop-low.invariant.0, c.loop-low.invariant.1)) c.index-slots-middle.is in
    let fire = has_fire c.index-slots-middle.result.head (sym c.is_some.ensures ∙ c.if-is_some.true) in
    record {
      slot = c.index-slots-middle.result;
      fire = fire.0;
      here = here;
      same = c.if-slot-id.true;
      live = fire.1;
    }

pub returns-else-is_some : goal.returns-else-is_some
returns-else-is_some g c =
    let here = slice_get_read c.args.slots.now (length c.args.slots.now) (c.loop-low.low + (c.loop-low.high - c.loop-low.low) / 2) c.index-slots-middle.result refl (omega (arith, c.loop-low.invariant.0, c.loop-low.invariant.1)) c.index-slots-middle.is in
    λ high ids p h. dead_id c.args.slots.now high c.args.id (c.loop-low.low + (c.loop-low.high - c.loop-low.low) / 2) p c.index-slots-middle.result ids here c.if-slot-id.true (sym c.is_some.ensures ∙ c.if-is_some.false) h

pub loop-low-preserved-then-slot-id-2 : goal.loop-low-preserved-then-slot-id-2
loop-low-preserved-then-slot-id-2 g c =
    let here = slice_get_read c.args.slots.now (length c.args.slots.now) (c.loop-low.low + (c.loop-low.high - c.loop-low.low) / 2) c.index-slots-middle.result refl (omega (arith, c.loop-low.invariant.0, c.loop-low.invariant.1)) c.index-slots-middle.is in (
      omega (arith, c.loop-low.invariant.0),
      c.loop-low.invariant.1,
      λ top ids p h.
          let was = c.loop-low.invariant.2 top ids p h in
          let behind = behind_id c.args.slots.now top c.args.id (c.loop-low.low + (c.loop-low.high - c.loop-low.low) / 2) p c.index-slots-middle.result ids here c.if-slot-id-2.true h in (
            omega arith,
            was.1,
          ),
    )

pub loop-low-preserved : goal.loop-low-preserved
loop-low-preserved g c =
    let here = slice_get_read c.args.slots.now (length c.args.slots.now) (c.loop-low.low + (c.loop-low.high - c.loop-low.low) / 2) c.index-slots-middle.result refl (omega (arith, c.loop-low.invariant.0, c.loop-low.invariant.1)) c.index-slots-middle.is in (
      omega (arith, c.loop-low.invariant.0),
      omega (arith, c.loop-low.invariant.0, c.loop-low.invariant.1),
      λ top ids p h.
          let was = c.loop-low.invariant.2 top ids p h in (
            was.0,
            before_id c.args.slots.now top c.args.id (c.loop-low.low + (c.loop-low.high - c.loop-low.low) / 2) p c.index-slots-middle.result ids here (omega (arith, c.if-slot-id.false)) h,
          ),
    )

pub returns : goal.returns
returns g c = λ high ids p h. let at = c.loop-low.invariant.2 high ids p h in absurd (omega arith)
