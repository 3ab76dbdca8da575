use Rattle.std.proofs.Common.{arith, ◌≡◌, ◌+◌, ◌-◌, true, cond, Some, [], ◌∷◌, ◌++◌, refl, sym, ap, ◌∙◌, rules}
use Rattle.std.specs.Prelude.{not}
use Rattle.std.specs.Result.{is_ok}
use Rattle.cron_agenda.specs.declared.slots.Slot.{Slot}
use Rattle.cron_agenda.specs.Entries.{listed}
use Rattle.cron_agenda.specs.Fires.{instant}
use Rattle.cron_agenda.specs.Inner.Slots.{entries_of}
use Rattle.cron_agenda.proofs.ListLemmas.{on_err, on_ok}
use Rattle.cron_agenda.proofs.SlotLemmas.{entries-fewer, entries-more}
use Rattle.cron_agenda.proofs.MatchLemmas.{match_added}
use Rattle.cron_agenda.proofs.PartLemmas.{kept-more}
use Rattle.cron_agenda.proofs.agenda.Agenda.insert.Goals as goal

pub overflow_add-self-2 : goal.overflow_add-self-2
overflow_add-self-2 g c =
    let fewer = entries-fewer c.self.inside.slots.items in
    let count = c.self.invariant.0.count in
    let reserved = c.try_reserve.ensures.len in
    search rules

pub invariant_of-self : goal.invariant_of-self
invariant_of-self g c =
    rw c.try_reserve.ensures.items (
      c.self.invariant.0,
      (omega (arith, c.self.invariant.1.0, c.try_reserve.ensures.len, c.try_reserve.ensures.capacity), c.self.invariant.1.1),
      c.self.invariant.2,
    )

pub invariant_of-self-then-is_err-2 : goal.invariant_of-self-then-is_err-2
invariant_of-self-then-is_err-2 g c =
    let firsts = on_err c.push.result (sym c.is_err-2.ensures.value ∙ c.if-is_err-2.true) c.push.ensures.err in
    let full = on_err c.push.result (sym c.is_err-2.ensures.value ∙ c.if-is_err-2.true) c.push.ensures.full in
    rw (c.try_reserve.ensures.items, firsts) (
      c.self.invariant.0,
      (
        omega (arith, c.self.invariant.1.0, c.try_reserve.ensures.len, c.try_reserve.ensures.capacity),
        omega (arith, c.self.invariant.1.1, full),
      ),
      c.self.invariant.2,
    )

pub invariant_of-self-2 : goal.invariant_of-self-2
invariant_of-self-2 g c =
    let slot : Slot _ = record { id = c.self.inside.added; table = c.args.table; zone = c.args.zone; head = Some c.args.fire } in
    let went : is_ok c.push-2.result ≡ true = c.is_err-3.ensures.negation ∙ ap not c.if-is_err-3.false in
    let items : c.push-2.new.self.items ≡ c.self.inside.slots.items ++ slot ∷ [] =
    c.push-2.ensures.items ∙ ap (λ b. cond b (c.try_reserve.new.self.items ++ slot ∷ []) c.try_reserve.new.self.items) went
    ∙ ap (λ l. l ++ slot ∷ []) c.try_reserve.ensures.items in
    let firsts : c.push.new.self.instants ≡ c.self.inside.firsts.instants ++ Some (instant c.args.fire) ∷ [] =
    on_ok c.push.result (sym c.is_err-2.ensures.value ∙ c.if-is_err-2.false) c.push.ensures.ok ∙ ap (λ o. c.self.inside.firsts.instants ++ o ∷ []) c.instant.ensures.value in
    let reserved = on_ok c.try_reserve.result (sym c.is_err.ensures.value ∙ c.if-is_err.false) c.try_reserve.ensures.ok in (
      rw (items, firsts) (kept-more c.self.inside.slots.items c.self.inside.firsts.instants c.self.inside.live c.self.inside.added c.self.inside.packed c.self.inside.scanned c.args.table c.args.zone c.args.fire c.self.invariant.0),
      (
        omega (arith, c.self.invariant.1.0, c.try_reserve.ensures.len, c.try_reserve.ensures.capacity, c.push-2.ensures.upper_bound, c.push-2.ensures.capacity),
        omega (arith, c.self.invariant.1.1, c.push.ensures.room),
      ),
      rw items (match_added g.T.CivilSeconds.has c.self.inside.slots.items c.self.inside.added c.args.zone c.args.table c.args.fire c.requires c.self.invariant.2),
    )

pub returns : goal.returns
returns g c =
    let slot : Slot _ = record { id = c.self.inside.added; table = c.args.table; zone = c.args.zone; head = Some c.args.fire } in
    let went : is_ok c.push-2.result ≡ true = c.is_err-3.ensures.negation ∙ ap not c.if-is_err-3.false in
    let items : c.push-2.new.self.items ≡ c.self.inside.slots.items ++ slot ∷ [] =
    c.push-2.ensures.items ∙ ap (λ b. cond b (c.try_reserve.new.self.items ++ slot ∷ []) c.try_reserve.new.self.items) went
    ∙ ap (λ l. l ++ slot ∷ []) c.try_reserve.ensures.items in
    rw (← c.self.view_is, c.skip_added.ensures, c.saturating_sub-self-inside.ensures) (refl, ap (λ es. listed es (c.self.inside.added + 1) (c.self.inside.room - 1)) (ap entries_of items ∙ entries-more c.self.inside.slots.items c.self.inside.added c.args.table c.args.zone c.args.fire), omega (arith, c.if-self.false))
