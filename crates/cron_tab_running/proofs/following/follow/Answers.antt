use Rattle.std.proofs.Common.{◌∷◌, ◌∙◌, ap, inl, inr, not, refl, sym, arith}
use Rattle.cron_tab_running.specs.Following.{Round}
use Rattle.cron_tab_running.specs.Noted.{noted_view}
use Rattle.cron_tab_running.proofs.FollowLemmas.{first_is, goes-on}
use Rattle.cron_tab_running.proofs.following.follow.Goals as goal

pub returns-in-Ok-None : goal.returns-in-Ok-None
returns-in-Ok-None g c =
    let (rounds, are, many, same, some, last) = c.loop-rounds.invariant in
    let round = rw c.in-Ok-None.field-0-is at c.in-Ok-None.ensures in
    (rounds, (c.loop-rounds.clock, c.loop-rounds.writer, c.loop-rounds.complaints), are, inl (rw (sym (first_is rounds c.loop-rounds.rounds many), sym same, sym last) round, refl))

pub returns-in-Err : goal.returns-in-Err
returns-in-Err g c =
    let (rounds, are, many, same, some, last) = c.loop-rounds.invariant in
    (rounds, (c.loop-rounds.clock, c.loop-rounds.writer, c.loop-rounds.complaints), are, inr (inl (c.in-Err.why, rw (sym (first_is rounds c.loop-rounds.rounds many), sym same, sym last) c.in-Err.ensures, refl)))

pub loop-rounds-preserved : goal.loop-rounds-preserved
loop-rounds-preserved g c =
    let (rounds, are, many, same, some, last) = c.loop-rounds.invariant in
    let left = c.in-Ok-Some.left in
    let r : Round = record { noted = noted_view left.noted; stayed = left.stayed; seen = c.run_round-round.new.clock.seen } in
    let round = rw c.in-Ok-Some.field-0-is at c.in-Ok-Some.ensures in (
      r ∷ rounds,
      ((c.loop-rounds.clock, c.loop-rounds.writer, c.loop-rounds.complaints), left, are, rw (sym (first_is rounds c.loop-rounds.rounds many), sym same, sym last) round, refl, refl, refl),
      omega (arith, many),
      c.going_on-on.ensures ∙ goes-on (noted_view c.args.noted) rounds r (noted_view c.loop-rounds.on) c.loop-rounds.before same some,
      ap not c.has_none-some.ensures,
      refl,
    )

pub returns : goal.returns
returns g c =
    let (rounds, are, many, same, some, last) = c.loop-rounds.invariant in
    (rounds, (c.loop-rounds.clock, c.loop-rounds.writer, c.loop-rounds.complaints), are, inr (inr (omega (arith, many, c.loop-rounds-test.false, c.loop-rounds.auto.rounds-end), refl, refl, refl, refl)))
