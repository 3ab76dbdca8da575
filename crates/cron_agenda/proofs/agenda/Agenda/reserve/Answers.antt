use Rattle.std.proofs.Common.{arith}
use Rattle.cron_agenda.proofs.agenda.Agenda.reserve.Goals as goal

pub invariant_of-self : goal.invariant_of-self
invariant_of-self g c =
    rw c.try_reserve.ensures.items (
      c.self.invariant.0,
      (omega (arith, c.self.invariant.1.0, c.try_reserve.ensures.len, c.try_reserve.ensures.capacity), c.self.invariant.1.1),
      c.self.invariant.2,
    )

pub invariant_of-self-in_err-reserve : goal.invariant_of-self-in_err-reserve
invariant_of-self-in_err-reserve g c =
    rw (c.try_reserve.ensures.items, c.reserve.ensures.instants) (
      c.self.invariant.0,
      (
        omega (arith, c.self.invariant.1.0, c.try_reserve.ensures.len, c.try_reserve.ensures.capacity),
        omega (arith, c.self.invariant.1.1, c.reserve.ensures.room),
      ),
      c.self.invariant.2,
    )

pub invariant_of-self-2 : goal.invariant_of-self-2
invariant_of-self-2 g c =
    rw (c.try_reserve.ensures.items, c.reserve.ensures.instants) (
      c.self.invariant.0,
      (
        omega (arith, c.self.invariant.1.0, c.try_reserve.ensures.len, c.try_reserve.ensures.capacity, c.in_ok-try_reserve.ensures.ok, c.max-self-inside.ensures),
        omega (arith, c.self.invariant.1.1, c.reserve.ensures.room, c.in_ok-reserve.ensures.ok, c.max-self-inside.ensures),
      ),
      c.self.invariant.2,
    )
