use Rattle.std.proofs.Common.{rules}
use Rattle.cron_agenda.proofs.FirstLemmas.{first_entry, first_within, nothing_left}
use Rattle.cron_agenda.proofs.agenda.Agenda.first.Goals as goal

pub returns-in_err-place : goal.returns-in_err-place
returns-in_err-place g c = rw (c.from_residual.ensures, ← c.self.view_is) (nothing_left c.self.invariant.0 c.in_err-place.ensures)

pub index-requires : goal.index-requires
index-requires g c = let less = first_within c.self.invariant.0 c.in_ok-place.ensures in search rules

pub returns : goal.returns
returns g c =
    rw (← c.self.view_is) (first_entry c.self.invariant.0 c.in_ok-place.ensures c.index.result.now c.index.ensures c.entry.result c.entry.ensures)
