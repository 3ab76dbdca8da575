use Rattle.std.proofs.Common.{◌≡◌, ◌+◌, ◌++◌, ◌∷◌, [], take, get_or, arith}
use Rattle.std.proofs.lemmas.List.{take_more}
use Rattle.cron_time.specs.Walk.Cursor.{Steps}
use Rattle.cron.specs.Turns.{way_of}
use Rattle.cron.specs.declared.schedule.play.Turn.TheVariants.{Next}
use Rattle.cron.proofs.RunLemmas.{played_more}
use Rattle.cron.proofs.schedule.play.Walker+Borrowed.play.Goals as goal
use Rattle.cron.proofs.schedule.play.Walker+Borrowed.play.Goals.{in-Next, in-NextBack}

pub loop-turn-preserved : goal.loop-turn-preserved
loop-turn-preserved c =
    let turn = get_or c.args.turns.now c.loop-turn.turn-index Next in
    let more : take (c.loop-turn.turn-index + 1) c.args.turns.now ≡ take c.loop-turn.turn-index c.args.turns.now
    ++ turn ∷ [] = take_more c.args.turns.now c.loop-turn.turn-index Next (omega arith) in
    let steps : Steps (way_of turn) c.loop-turn.self c.match-turn.answer c.match-turn.self =
    elim c.match-turn.branch [
      | in-Next w ↦ rw (w.in-Next.is, w.answer-is, w.self-is) w.next-answer.ensures.steps.cursor
      | in-NextBack w ↦ rw (w.in-NextBack.is, w.answer-is, w.self-is) w.next_back-answer.ensures.cursor
    ] in (
      rw (more, c.in_ok-push.ensures.items) (played_more c.args.self.now c.loop-turn.self c.match-turn.self (take c.loop-turn.turn-index c.args.turns.now)
          turn c.loop-turn.answers.items c.match-turn.answer c.loop-turn.invariant.0 steps),
      omega (arith, c.in_ok-push.ensures.len),
      omega (arith, c.in_ok-push.ensures.capacity),
    )
