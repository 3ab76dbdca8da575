use Rattle.std.proofs.Common.{inl, inr, arith}
use Rattle.cron_time.proofs.Searches.BlockLemmas.{enters_first, enters_later, first_or_later}
use Rattle.cron_time.proofs.search.ways.entry.Goals as goal

pub returns-else-block-first-clause-enters : goal.returns-else-block-first-clause-enters
returns-else-block-first-clause-enters c =
    elim (first_or_later c.args.way c.args.first c.args.block c.requires.lies) [
      | inl e ↦ absurd (c.if-block-first.false e)
      | inr later ↦ enters_later _ _ _ _ _ _ (omega (arith, c.requires.rest_in)) c.requires.rest_in later c.extreme.ensures.extreme
    ]

pub returns-then-block-first-clause-enters : goal.returns-then-block-first-clause-enters
returns-then-block-first-clause-enters c =
    rw c.if-block-first.true (enters_first c.args.way c.args.width c.args.first c.args.rest c.requires.rest_in)
